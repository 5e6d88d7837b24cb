use Rattle.std.proofs.Common.{refl, subst}
use Rattle.flat_net.specs.Net.{Design}
use Rattle.partition_graph.specs.Picture.{IsPicture}
use Rattle.tmr_top.proofs.RoomLaws.{if_ok, done_over, denied_over}
use Rattle.tmr_top.proofs.commands.picture.tell.Goals as goal

pub returns-in_ok-text-in-Ok : goal.returns-in_ok-text-in-Ok
returns-in_ok-text-in-Ok c = if_ok c.saving.result _ _ (λ w is. done_over _ _ _ _ _ w is refl (λ t e. cc)
    (λ held holds. record {
      pair = _;
      holds = holds;
      accepts = c.in-Ok.ensures.accepts;
      picture = _;
      draws = subst (λ (d : Design). IsPicture d.net c.args.pair.now.certificate c.in_ok-drawn-in-Ok.drawn.items) c.net.ensures.net c.in_ok-drawn-in-Ok.ensures;
      saves = refl;
      says = c.in_ok-text-in-Ok.ensures;
    })
    (λ held holds p e. absurd cc)) c.saving.ensures

pub returns-in-Err : goal.returns-in-Err
returns-in-Err c = if_ok c.deny.result _ _ (λ w is. denied_over _ _ _ w is refl (λ t e. cc)
    (λ held holds saved. record { pair = _; holds = holds; rule = _; place = _; first = c.in-Err.ensures.denies; says = refl })) c.deny.ensures
