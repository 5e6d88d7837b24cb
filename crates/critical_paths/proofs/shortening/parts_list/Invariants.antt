use Rattle.std.proofs.Common.{◌≡◌, ◌<◌, take}
use Rattle.std.specs.List.{All}
use Rattle.critical_paths.proofs.shortening.parts_list.Given as goal

abbrev pub invariant-loop-i : goal.invariant-loop-i
invariant-loop-i l = (l.of.items ≡ take l.i l.parts.of) × All (λ q. q < l.parts.count) l.of.items
