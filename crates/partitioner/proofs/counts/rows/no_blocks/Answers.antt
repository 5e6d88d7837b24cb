use Rattle.std.proofs.Common.{List, ◌∷◌, [], ◌++◌, ℕ, ◌*◌, ◌%◌, ◌^◌, ap, ◌∙◌}
use Rattle.partitioner.proofs.MarkLaws.{bits_past}
use Rattle.partitioner.proofs.counts.rows.no_blocks.Goals as goal

pub returns : goal.returns
returns c = λ w from.
    let last = 18446744073709551615 * 2 ^ (c.args.words % 64) % 18446744073709551616 in
    bits_past c.args.words w c.push.new.self.items (c.in_ok-push.ensures.items ∙ ap (λ (xs : List ℕ). xs ++ last ∷ []) (c.in_ok-blocks.ensures.items_if_clones_equal (λ y e. e))) from
