use Rattle.std.proofs.Common.{ℕ, List, [], ◌≤◌, length, sym, ap, subst, ◌∙◌}
use Rattle.blif_text.specs.Reading.{reading}
use Rattle.blif_writer.specs.NetOf.{IsNetOf}
use Rattle.blif_writer.proofs.Lengths.{text_long, model_long, text_sum}
use Rattle.blif_writer.proofs.Again.{text_again, net_of_text, only_net}
use Rattle.blif_writer.proofs.text.write_flat.Goals as goal

pub returns-in_err-bytes-clause-model_length : goal.returns-in_err-bytes-clause-model_length
returns-in_err-bytes-clause-model_length c = model_long c.args.net.now.net []

pub returns-clause-length : goal.returns-clause-length
returns-clause-length c = ap length c.in_ok-bytes.ensures ∙ text_sum c.args.net.now.net [] c.input_count.ensures.design.valid

pub returns-clause-model : goal.returns-clause-model
returns-clause-model c = ap reading c.in_ok-bytes.ensures ∙ text_again c.args.net.now.net [] c.input_count.ensures.design.valid

pub returns-clause-model_length : goal.returns-clause-model_length
returns-clause-model_length c = model_long c.args.net.now.net []

pub returns-clause-again : goal.returns-clause-again
returns-clause-again c = λ limit within.
    let n = c.args.net.now.net in
    let valid = c.input_count.ensures.design.valid in
    let long = ap length c.in_ok-bytes.ensures ∙ text_long n [] valid in
    let fits = subst (λ (k : ℕ). k ≤ limit) long within in
    subst (λ (bytes : List ℕ). IsNetOf bytes limit n 0) (sym c.in_ok-bytes.ensures) (net_of_text n limit valid fits)

pub returns-clause-only : goal.returns-clause-only
returns-clause-only c = λ limit count other f.
    only_net c.args.net.now.net other limit count c.input_count.ensures.design.valid (subst (λ (bytes : List ℕ). IsNetOf bytes limit other count) c.in_ok-bytes.ensures f)
