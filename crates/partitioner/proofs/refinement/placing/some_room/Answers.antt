use Rattle.std.proofs.Common.{◌≡◌, ℕ, ◌<◌, false, List, length, get_or, ap, ◌∙◌, subst, arith}
use Rattle.std.specs.Prelude.{nat_lt}
use Rattle.partitioner.specs.Sizes.{capacity}
use Rattle.partitioner.proofs.refinement.placing.some_room.Goals as goal

pub returns : goal.returns
returns c = λ e q l.
    let same : c.as_slice.result.now ≡ c.args.p.now.held.items = c.as_slice.ensures.value in
    let within : q < length c.as_slice.result.now = omega (arith, ap length same, c.requires.held_long, l) in
    subst (λ (k : ℕ). nat_lt k (capacity c.args.size) ≡ false) (ap (λ (xs : List ℕ). get_or xs q 0) same ∙ c.requires.held_right q l) (c.any_room.ensures e q within)
