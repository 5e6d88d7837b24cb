use Rattle.std.proofs.Common.{subst}
use Rattle.flat_net.specs.Net.{Design, IsValid}
use Rattle.certifying.proofs.Proposed.{proposed_finest, proposed_least}
use Rattle.certifying.proofs.certified.certify.Goals as goal

pub returns-in-Ok-clause-finest : goal.returns-in-Ok-clause-finest
returns-in-Ok-clause-finest c =
    proposed_finest c.args.n.now.design.net c.args.h.now.design.net c.args.n.now.free c.args.h.now.free c.args.version c.in_ok-found.found
    (subst (λ (d : Design). IsValid d.net) c.net.ensures.net c.input_count.ensures.design.valid) (subst (λ (d : Design). IsValid d.net) c.net-2.ensures.net c.input_count-2.ensures.design.valid) c.in_ok-found.ensures.proposed

pub returns-in-Ok-clause-least : goal.returns-in-Ok-clause-least
returns-in-Ok-clause-least c = proposed_least c.args.n.now.design.net c.args.h.now.design.net c.args.version c.in_ok-found.found c.in_ok-found.ensures.proposed
