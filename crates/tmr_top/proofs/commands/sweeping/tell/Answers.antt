use Rattle.std.proofs.Common.{refl}
use Rattle.tmr_top.proofs.RoomLaws.{done_over}
use Rattle.tmr_top.proofs.commands.sweeping.tell.Goals as goal

pub returns : goal.returns
returns c = done_over _ _ _ _ _ _ c.telling.ensures refl (λ t e. cc)
    (λ held holds. (record { design = _; holds = holds; says = c.in_ok-text.ensures }, refl))
    (λ held holds p e. absurd cc)
