use Rattle.std.proofs.Common.{◌∙◌, sym, refl, arith}
use Rattle.std.proofs.lemmas.Bool.{false≢true, true≢false}
use Rattle.partitioner.specs.Private.Tracking.{held_parts}
use Rattle.partitioner.proofs.MinimalLaws.{all_stay_minimal, mover_not_minimal}
use Rattle.partitioner.proofs.refinement.minimal.all_stay.Goals as goal

pub returns-then-place_of-part_of : goal.returns-then-place_of-part_of
returns-then-place_of-part_of c = (
  λ h. absurd (false≢true h),
  λ minimal. absurd (mover_not_minimal c.args.n.now.net c.args.size (held_parts c.args.p.now) c.loop-i.i (omega (arith, c.nodes_of-i-end.ensures.count, c.loop-i-test.true))
      (λ e. c.if-place_of-part_of.true (c.place_of.ensures.place ∙ (e ∙ sym c.part_of.ensures.value))) minimal),
)

pub returns : goal.returns
returns c = (
  λ h. all_stay_minimal c.args.n.now.net c.args.size (held_parts c.args.p.now) (λ i l. c.loop-i.invariant.1 i (omega (arith, l, c.nodes_of-i-end.ensures.count, c.loop-i-test.false))),
  λ minimal. refl,
)

pub returns-then-not-some_room : goal.returns-then-not-some_room
returns-then-not-some_room c =
    (λ h i p l within apart room. absurd (true≢false (sym room ∙ c.some_room.ensures c.if-not-some_room.true p within)), λ minimal. refl)
