use Rattle.std.proofs.Common.{◌≡◌, map, take}
use Rattle.feedback_cut.specs.Inner.{node_pins, inner}
use Rattle.feedback_cut.proofs.inner.inner_pins.Given as goal

abbrev pub invariant-loop-j : goal.invariant-loop-j
invariant-loop-j l = l.row.items ≡ map (inner l.n.net l.parts l.y) (take l.j (node_pins l.n.net l.y))
