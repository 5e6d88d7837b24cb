use Rattle.std.proofs.Common.{ℕ, List, ◌≤◌, length, sym, ap, subst, ◌∙◌}
use Rattle.flat_net.specs.Net.{IsDesign}
use Rattle.blif_text.specs.Reading.{reading}
use Rattle.blif_writer.specs.NetOf.{IsFreeNetOf}
use Rattle.blif_writer.proofs.Lengths.{text_long, text_sum}
use Rattle.blif_writer.proofs.Again.{text_again, free_of_text, only_free}
use Rattle.blif_writer.proofs.text.write_free.Goals as goal

pub returns-clause-length : goal.returns-clause-length
returns-clause-length c =
    let design : IsDesign c.args.net.now.design = subst IsDesign c.net.ensures.net c.input_count.ensures.design in
    ap length c.in_ok-bytes.ensures ∙ text_sum c.args.net.now.design.net c.args.net.now.free design.valid

pub returns-clause-model : goal.returns-clause-model
returns-clause-model c =
    let design : IsDesign c.args.net.now.design = subst IsDesign c.net.ensures.net c.input_count.ensures.design in
    ap reading c.in_ok-bytes.ensures ∙ text_again c.args.net.now.design.net c.args.net.now.free design.valid

pub returns-clause-again : goal.returns-clause-again
returns-clause-again c = λ limit within.
    let n = c.args.net.now.design.net in
    let free = c.args.net.now.free in
    let design : IsDesign c.args.net.now.design = subst IsDesign c.net.ensures.net c.input_count.ensures.design in
    let long = ap length c.in_ok-bytes.ensures ∙ text_long n free design.valid in
    let fits = subst (λ (k : ℕ). k ≤ limit) long within in
    subst (λ (bytes : List ℕ). IsFreeNetOf bytes limit n free) (sym c.in_ok-bytes.ensures) (free_of_text n free limit design.valid c.net.ensures.marks fits)

pub returns-clause-only : goal.returns-clause-only
returns-clause-only c = λ limit other marks f.
    let design : IsDesign c.args.net.now.design = subst IsDesign c.net.ensures.net c.input_count.ensures.design in
    only_free c.args.net.now.design.net other c.args.net.now.free marks limit design.valid c.net.ensures.marks (subst (λ (bytes : List ℕ). IsFreeNetOf bytes limit other marks) c.in_ok-bytes.ensures f)
