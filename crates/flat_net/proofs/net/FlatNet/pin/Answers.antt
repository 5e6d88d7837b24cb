use Rattle.std.proofs.Common.{arith, subst}
use Rattle.std.proofs.lemmas.Grind.{common_steps}
use Rattle.flat_net.specs.Net.{Design, IsDesign}
use Rattle.flat_net.proofs.Ranges.{pin_in_range}
use Rattle.flat_net.proofs.net.FlatNet.pin.Goals as goal

pub returns-clause-range : goal.returns-clause-range
returns-clause-range c =
    pin_in_range c.args.self.now.net c.args.x.0 c.args.j _ (subst (λ (d : Design). IsDesign d) c.self.view_is c.self.invariant).valid c.requires.pin (grind (arith, common_steps))
