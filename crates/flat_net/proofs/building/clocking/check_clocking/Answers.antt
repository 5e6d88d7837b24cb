use Rattle.std.proofs.Common.{◌≡◌, None, rules}
use Rattle.flat_net.specs.Faults.{first_control}
use Rattle.flat_net.proofs.Clocks.{no_latch}
use Rattle.flat_net.proofs.building.clocking.check_clocking.Goals as goal

pub returns-in_default-clause-ok : goal.returns-in_default-clause-ok
returns-in_default-clause-ok c =
    let none : first_control c.args.draft.now.elements ≡ None = search rules in
    no_latch c.args.draft.now.elements none
