use Rattle.std.proofs.Common.{ℕ, ◌+◌, ◌<◌, ◌≤◌, List, length, get_or, ap, sym, subst, arith}
use Rattle.certifying.proofs.DepthLaws.{below_set}
use Rattle.certifying.proofs.labels.label_node.Goals as goal

pub returns-in-Copy-clause-below : goal.returns-in-Copy-clause-below
returns-in-Copy-clause-below c =
    below_set c.args.h.now.net c.args.k.now c.args.labels.now.items c.args.i c.wanted-label.result c.requires.below
    (λ l reached.
    let own = reached (c.input_count.result + c.args.i) c.in-Copy.node.0 c.in-Copy.copy c.in-Copy.ensures.role in
    let same = ap (λ (z : ℕ). l (z + c.args.i)) c.input_count.ensures.count in
    let below = subst (λ (xs : List ℕ). (i : ℕ) → i < length xs → get_or xs i 0 ≤ l (length c.args.h.now.net.inputs + i)) (sym c.deref.ensures.value) (c.requires.below l reached) in
    omega (arith, c.wanted-label.ensures l (l (c.input_count.result + c.args.i)) below own, same))
