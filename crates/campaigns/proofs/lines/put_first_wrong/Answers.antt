use Rattle.std.proofs.Common.{◌++◌, ◌∷◌, List, ℕ, ap, ◌∙◌}
use Rattle.std.specs.Prelude.{codes, slice_index}
use Rattle.std.specs.Fmt.{decimal}
use Rattle.flat_net.specs.Net.{name_of}
use Rattle.campaigns.proofs.RunLaws.{three_words}
use Rattle.campaigns.proofs.lines.put_first_wrong.Goals as goal

pub returns : goal.returns
returns c =
    let n = c.args.n.now.net in
    let w = c.args.w in
    three_words c.args.out.now.items c.extend_from_slice.new.self.items c.put_number.new.out.items c.put_word.new.out.items c.put_number-2.new.out.items c.push.new.self.items (codes "first wrong") (decimal w.cycle) (name_of n (slice_index n.outputs w.output)) (decimal w.run)
    c.in_ok-extend_from_slice.ensures.items c.in_ok-put_number.ensures (c.in_ok-put_word.ensures ∙ ap (λ (word : List ℕ). c.put_number.new.out.items ++ (32 ∷ word)) (c.bytes.ensures.bytes ∙ c.output_name-name.ensures))
    c.in_ok-put_number-2.ensures c.in_ok-push.ensures.items
