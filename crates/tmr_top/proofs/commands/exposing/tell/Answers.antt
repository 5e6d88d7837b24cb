use Rattle.std.proofs.Common.{refl}
use Rattle.tmr_top.proofs.RoomLaws.{if_ok, done_over, denied_over}
use Rattle.tmr_top.proofs.commands.exposing.tell.Goals as goal

pub returns-in_ok-text-in-Ok : goal.returns-in_ok-text-in-Ok
returns-in_ok-text-in-Ok c = done_over _ _ _ _ _ _ c.telling.ensures refl (λ t e. cc)
    (λ held holds. (record { pair = _; holds = holds; accepts = c.in-Ok.ensures.accepts; says = c.in_ok-text-in-Ok.ensures }, refl))
    (λ held holds p e. absurd cc)

pub returns-in-Err : goal.returns-in-Err
returns-in-Err c = if_ok c.deny.result _ _ (λ w is. denied_over _ _ _ w is refl (λ t e. cc)
    (λ held holds saved. record { pair = _; holds = holds; rule = _; place = _; first = c.in-Err.ensures.denies; says = refl })) c.deny.ensures
