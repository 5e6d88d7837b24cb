use Rattle.std.proofs.Common.{◌≡◌, map, take}
use Rattle.flat_net.specs.Net.{pins_at}
use Rattle.recovery_depth.specs.Hardened.{node_at}
use Rattle.recovery_depth.specs.Private.Copied.{copied}
use Rattle.recovery_depth.proofs.copies.copied_pins.Given as goal

abbrev pub invariant-loop-j : goal.invariant-loop-j
invariant-loop-j l = l.row.items ≡ map (copied l.h.net l.c) (take l.j (pins_at (node_at l.h.net l.g)))
