use Rattle.std.proofs.Common.{subst}
use Rattle.flat_net.specs.Net.{Design, IsValid}
use Rattle.validator.proofs.verdict.check_free.Goals as goal

pub returns-in-Ok-clause-free_masks : goal.returns-in-Ok-clause-free_masks
returns-in-Ok-clause-free_masks c =
    let original : IsValid c.args.n.now.design.net = subst (λ (d : Design). IsValid d.net) c.net.ensures.net c.input_count.ensures.design.valid in
    let hardened : IsValid c.args.h.now.design.net = subst (λ (d : Design). IsValid d.net) c.net-2.ensures.net c.input_count-2.ensures.design.valid in
    c.free_rules_are_enough.ensures.free c.args.n.now.design.net c.args.n.now.free c.args.h.now.design.net c.args.h.now.free c.args.c.now original hardened c.requires c.parts.ensures.cert c.in-Ok.ensures.exact
