use Rattle.std.proofs.Common.{◌≡◌}
use Rattle.hierarchy.specs.Private.Walk.{coming, moves, IsWalking, library_of}
use Rattle.hierarchy.proofs.walking.walk.next_element.Given as goal

abbrev pub invariant-moves : goal.invariant-moves
invariant-moves l = record {
  same : coming (library_of l.ready) l.walk ≡ coming (library_of l.ready) l.fn.walk;
  walking : IsWalking (library_of l.ready) l.walk;
}

abbrev pub decreases-moves : goal.decreases-moves
decreases-moves l = moves (library_of l.ready) l.walk
