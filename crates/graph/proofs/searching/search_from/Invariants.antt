use Rattle.std.proofs.Common.{◌≡◌, length, map}
use Rattle.graph.proofs.Walking.{IsWalk, work}
use Rattle.graph.proofs.Noting.{IsNoted}
use Rattle.graph.proofs.searching.search_from.Given as goal

abbrev pub invariant-moves : goal.invariant-moves
invariant-moves l = record {
  walk : IsWalk l.graph l.roots l.root l.walk.marks.items l.walk.cut.rows l.walk.path.items l.walk.order.items;
  room : l.walk.cut.room ≡ map length l.graph;
  noted : IsNoted l.graph l.roots l.walk.cut.rows l.cycle.items;
}

abbrev pub decreases-moves : goal.decreases-moves
decreases-moves l = work l.graph l.roots l.root l.walk.marks.items l.walk.cut.rows
