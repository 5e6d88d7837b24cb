use Rattle.std.proofs.Common.{◌≡◌}
use Rattle.triplicate.specs.Pins.{pin_is_voted}
use Rattle.triplicate.specs.Numbers.{block_start}
use Rattle.triplicate.proofs.blocks.hardened_nets.Given as goal

abbrev pub invariant-loop-x : goal.invariant-loop-x
invariant-loop-x l = l.next ≡ block_start l.n.net l.parts (pin_is_voted l.n.net l.parts l.votes) l.x
