use Rattle.std.proofs.Common.{◌≡◌, ℕ, ◌<◌, false, inl, List, length, get_or, ap, ◌∙◌, subst, arith}
use Rattle.std.specs.Prelude.{nat_lt}
use Rattle.partitioner.specs.Sizes.{capacity}
use Rattle.partitioner.specs.Private.Leading.{HasNoRoom}
use Rattle.partitioner.specs.Private.Tracking.{placed_parts}
use Rattle.partitioner.proofs.refinement.placing.may_move.Goals as goal

pub returns-then-p-gt1 : goal.returns-then-p-gt1
returns-then-p-gt1 c = λ e. inl (full e)
  where
    full : c.any_room.result ≡ false → HasNoRoom c.args.size (placed_parts c.args.p.now)
    full e q l =
        let same : c.as_slice.result.now ≡ c.args.p.now.held.items = c.as_slice.ensures.value in
        let within : q < length c.as_slice.result.now = omega (arith, ap length same, c.requires.held_long, l) in
        subst (λ (k : ℕ). nat_lt k (capacity c.args.size) ≡ false) (ap (λ (xs : List ℕ). get_or xs q 0) same ∙ c.requires.held_right q l) (c.any_room.ensures e q within)
