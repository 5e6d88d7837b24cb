use Rattle.std.proofs.Common.{subst}
use Rattle.flat_net.specs.Net.{Design}
use Rattle.certifying.specs.Private.Bare.{IsBare}
use Rattle.certifying.specs.Private.Refined.{IsRefined}
use Rattle.certifying.proofs.certified.proposed.Goals as goal

pub returns-in-Ok-clause-proposed : goal.returns-in-Ok-clause-proposed
returns-in-Ok-clause-proposed c = record {
  base = c.in_ok-bare.bare;
  bare = c.in_ok-bare.ensures.bare;
  refines = subst (λ (d : Design). IsRefined d.net c.args.h.now.design.net c.in_ok-bare.bare c.in-Ok.found) c.net-5.ensures.net (subst (λ (d : Design). IsRefined c.net-5.result.now.net d.net c.in_ok-bare.bare c.in-Ok.found) c.net-6.ensures.net c.in-Ok.ensures.refined);
  own = subst (λ (d : Design). IsBare d.net c.args.h.now.design.net c.args.version c.in-Ok.found) c.net-5.ensures.net (subst (λ (d : Design). IsBare c.net-5.result.now.net d.net c.args.version c.in-Ok.found) c.net-6.ensures.net c.in-Ok.ensures.cert);
}
