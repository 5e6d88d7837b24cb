use Rattle.std.proofs.Common.{false}
use Rattle.std.proofs.lemmas.List.Elements.{All-get_or}
use Rattle.net_simulator.specs.Registers.{Holds}
use Rattle.net_simulator.specs.declared.registers.Held.{Held}
use Rattle.net_simulator.proofs.Lanes.{held_within}
use Rattle.net_simulator.proofs.registers.held_at.Goals as goal

pub returns-clause-high : goal.returns-clause-high
returns-clause-high c =
    let none : Held = record { net = record { 0 = 0 }; pin = record { 0 = 0 }; init = false } in
    (held_within c.args.net.now.net _ _ _ (All-get_or (λ (r : Held). Holds c.args.net.now.net r) c.args.registers.now c.args.i none c.requires.i c.requires.registers.held)).1
