use Rattle.std.proofs.Common.{◌*◌, length, sym, ap, ◌∙◌, subst}
use Rattle.flat_net.specs.Net.{Design, IsValid}
use Rattle.validator.specs.Masking.{Masks}
use Rattle.campaigns.specs.Campaign.{IsCampaign}
use Rattle.campaigns.proofs.RunLaws.{three_inputs, three_of_each, pair_masks}
use Rattle.campaigns.proofs.campaigning.campaign.Goals as goal

pub masked_campaign-requires-clause-inputs : goal.masked_campaign-requires-clause-inputs
masked_campaign-requires-clause-inputs c =
    ap (λ (d : Design). length d.net.inputs) c.net-hardened.ensures.net
    ∙ (three_inputs c.args.n.now.design.net c.args.n.now.free c.args.h.now.design.net c.args.h.now.free c.args.c.now c.requires.corresponds ∙ ap (λ (d : Design). 3 * length d.net.inputs) (sym c.net-original.ensures.net))

pub masked_campaign-requires-clause-outputs : goal.masked_campaign-requires-clause-outputs
masked_campaign-requires-clause-outputs c =
    ap (λ (d : Design). length d.net.outputs) c.net-hardened.ensures.net
    ∙ (three_of_each c.args.n.now.design.net c.args.n.now.free c.args.h.now.design.net c.args.h.now.free c.args.c.now c.requires.corresponds ∙ ap (λ (d : Design). 3 * length d.net.outputs) (sym c.net-original.ensures.net))

pub masked_campaign-requires-clause-masks : goal.masked_campaign-requires-clause-masks
masked_campaign-requires-clause-masks c =
    let k = c.args.c.now in
    let valid_n : IsValid c.args.n.now.design.net = subst (λ (d : Design). IsValid d.net) c.net-original.ensures.net c.input_count.ensures.design.valid in
    let valid_h : IsValid c.args.h.now.design.net = subst (λ (d : Design). IsValid d.net) c.net-hardened.ensures.net c.input_count-2.ensures.design.valid in
    let masks = pair_masks c.args.n.now.design.net c.args.n.now.free c.args.h.now.design.net c.args.h.now.free c.args.c.now valid_n valid_h c.net-original.ensures.marks c.net-hardened.ensures.marks c.requires.fits c.parts.ensures.cert c.requires.corresponds in
    subst (λ (d : Design). Masks c.net-original.result.now.net d.net k) (sym c.net-hardened.ensures.net)
    (subst (λ (d : Design). Masks d.net c.args.h.now.design.net k) (sym c.net-original.ensures.net) masks)

pub returns : goal.returns
returns c =
    subst (λ (d : Design). IsCampaign c.args.number c.args.cycles c.args.n.now.design.net d.net c.args.c.now c.in_ok-sums.sums) c.net-hardened.ensures.net
    (subst (λ (d : Design). IsCampaign c.args.number c.args.cycles d.net c.net-hardened.result.now.net c.args.c.now c.in_ok-sums.sums) c.net-original.ensures.net c.in_ok-sums.ensures)
