use Rattle.std.proofs.Common.{◌≡◌, ◌+◌, ◌-◌, ◌++◌, [], ◌∷◌, ℕ, suc, List, map, sym, ap, ◌∙◌, arith, append_assoc}
use Rattle.std.specs.List.{range_with_len}
use Rattle.std.proofs.lemmas.List.{map-append}
use Rattle.node_reads.proofs.Numbers.{range_more}
use Rattle.flat_net.specs.Nodes.{number_of}
use Rattle.hardened_pair.proofs.ordering.push_range.Goals as goal

pub loop-g-preserved : goal.loop-g-preserved
loop-g-preserved c =
    let k = c.loop-g.g - c.args.start in
    let more : (c.loop-g.g + 1) - c.args.start ≡ suc k = omega arith in
    let last : c.args.start + k ≡ c.loop-g.g = omega arith in
    ap (map number_of) c.in_ok-push.ensures.items ∙ (map-append number_of c.loop-g.order.items _ ∙ (ap (λ (xs : List ℕ). xs ++ c.loop-g.g ∷ []) c.loop-g.invariant
    ∙ (append_assoc (map number_of c.args.order.now.items) (range_with_len c.args.start k) (c.loop-g.g ∷ [])
    ∙ ap (λ (xs : List ℕ). map number_of c.args.order.now.items ++ xs) (sym (ap (range_with_len c.args.start) more ∙ (range_more c.args.start k ∙ ap (λ j. range_with_len c.args.start k ++ j ∷ []) last))))))
