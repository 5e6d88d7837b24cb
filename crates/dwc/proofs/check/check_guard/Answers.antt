use Rattle.std.proofs.Common.{subst}
use Rattle.flat_net.specs.Net.{Net}
use Rattle.dwc.specs.Tells.{Guards}
use Rattle.dwc.proofs.SameDesign.{answered}
use Rattle.dwc.proofs.check.check_guard.Goals as goal

pub returns-clause-guards : goal.returns-clause-guards
returns-clause-guards c = λ e. subst (λ (g : Net). Guards c.args.n.now.net g) (answered c.in_ok-wanted.wanted.net c.args.g.now.net c.compared.result c.compared.ensures e) c.in_ok-wanted.ensures.guards
