use Rattle.std.proofs.Common.{IfOk, subst}
use Rattle.flat_net.specs.Free.{FreeDesign}
use Rattle.tmr_words.specs.Line.{Harden}
use Rattle.tmr_words.specs.FileWords.{hardening_in}
use Rattle.tmr_top.specs.Designs.{HoldsDesign}
use Rattle.tmr_top.specs.Loads.{original_file}
use Rattle.tmr_top.specs.Private.Works.{IsWorkOver}
use Rattle.tmr_top.proofs.RoomLaws.{opened_room, stopped_room}
use Rattle.tmr_top.proofs.commands.harden.perform.Goals as goal

pub returns-in-Ok : goal.returns-in-Ok
returns-in-Ok g c = opened_room _ _ _ _ _ _ _ _ _ _ _ _ c.in-Ok.ensures.opens
    (subst (λ (x : FreeDesign). IfOk c.tell.result (IsWorkOver (Harden (hardening_in c.args.words.now)) (λ held. HoldsDesign held (original_file c.args.words.now.limits c.args.words.now.original.now) x.design.net x.free))) c.make-made.ensures.design c.tell.ensures)
    c.conclude.ensures

pub returns-in-Err : goal.returns-in-Err
returns-in-Err g c = stopped_room _ _ _ _ _ _ _ _ _ (λ line held unread. record { reason = unread.reason; unread = unread.unread; says = unread.says }) c.in-Err.ensures.opens c.stopped.ensures
