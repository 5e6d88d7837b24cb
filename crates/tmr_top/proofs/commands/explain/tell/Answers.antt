use Rattle.std.proofs.Common.{refl}
use Rattle.tmr_top.proofs.RoomLaws.{done_over, denied_over}
use Rattle.tmr_top.proofs.commands.explain.tell.Goals as goal

pub returns-in_ok-text-in-Ok : goal.returns-in_ok-text-in-Ok
returns-in_ok-text-in-Ok c = done_over _ _ _ _ _ _ c.telling.ensures refl (λ t e. cc)
    (λ held holds. (record { pair = _; holds = holds; accepts = c.in-Ok.ensures.accepts; says = c.in_ok-text-in-Ok.ensures }, refl))
    (λ held holds p e. absurd cc)

pub returns-in_ok-text-in-Err : goal.returns-in_ok-text-in-Err
returns-in_ok-text-in-Err c = denied_over _ _ _ _ c.denying.ensures refl (λ t e. cc)
    (λ held holds saved. record {
      pair = _;
      holds = holds;
      fails = λ accepts. c.in-Err.ensures.denies.fails (accepts _ _);
      says = c.in_ok-text-in-Err.ensures.explained;
    })
