use Rattle.std.proofs.Common.{◌≡◌, ◌+◌, map, take}
use Rattle.flat_net.specs.Nodes.{number_of}
use Rattle.hardened_pair.proofs.tripling.shift.Given as goal

abbrev pub invariant-loop-pin : goal.invariant-loop-pin
invariant-loop-pin l = map number_of l.room.items ≡ map (λ p. p + l.behind) (take l.pin-index l.pins)
