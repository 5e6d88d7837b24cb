use Rattle.std.proofs.Common.{length, ap}
use Rattle.partitioner.proofs.PlacedLaws.{none_placed, row_none}
use Rattle.partitioner.proofs.counts.marks.Marks.empty.Goals as goal

pub returns-clause-empty : goal.returns-clause-empty
returns-clause-empty c = λ x.
    let placed = none_placed c.in_ok-places.places.items c.in_ok-rows.rows.items c.in_ok-places.ensures.none c.in_ok-rows.ensures in
    ap length (row_none c.in_ok-places.places.items c.in_ok-rows.rows.items x placed (c.in_ok-places.ensures.none x))
