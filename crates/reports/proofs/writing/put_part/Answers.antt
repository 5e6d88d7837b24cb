use Rattle.std.proofs.Common.{◌++◌, ℕ, List, map, ap, ◌∙◌}
use Rattle.std.specs.Prelude.{codes, slice_index}
use Rattle.tmr_base.specs.declared.ids.NetId.{NetId}
use Rattle.flat_net.specs.Net.{name_of}
use Rattle.flat_net.specs.Nodes.{number_of}
use Rattle.reports.specs.Report.{part_words, chain_words}
use Rattle.reports.specs.Private.Left.{spaced}
use Rattle.reports.proofs.WordLaws.{long_line_put}
use Rattle.reports.proofs.LineLaws.{words_are}
use Rattle.reports.proofs.writing.put_part.Goals as goal

pub returns : goal.returns
returns c =
    let words = words_are c.args.n.now.net c.args.c.now c.args.counts.now c.args.p c.count_at-nodes.result c.count_at-registers.result c.count_at-loops.result c.depth-depth.result c.args.deep.now c.requires.counts c.requires.part
    (c.count_at-nodes.ensures ∙ ap (λ (xs : List ℕ). slice_index xs c.args.p) c.deref.ensures.value)
    (c.count_at-registers.ensures ∙ ap (λ (xs : List ℕ). slice_index xs c.args.p) c.deref-2.ensures.value)
    (c.count_at-loops.ensures ∙ ap (λ (xs : List ℕ). slice_index xs c.args.p) c.deref-3.ensures.value)
    c.depth-depth.ensures in
    long_line_put c.args.out.now.items (codes "part") (part_words c.args.n.now.net c.args.c.now c.args.counts.now.groups c.args.p c.args.deep.now) (chain_words c.args.n.now.net c.args.deep.now) c.put_first.new.out.items c.put_numbers.new.out.items c.put_names.new.out.items c.put_end.new.out.items
    c.in_ok-put_first.ensures
    (c.in_ok-put_numbers.ensures ∙ ap (λ (ws : List (List ℕ)). c.put_first.new.out.items ++ spaced ws) words)
    (c.in_ok-put_names.ensures ∙ ap (λ (xs : List NetId). c.put_numbers.new.out.items ++ spaced (map (name_of c.args.n.now.net) (map number_of xs))) c.deref-4.ensures.value)
    c.in_ok-put_end.ensures
