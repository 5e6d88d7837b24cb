use Rattle.tmr_top.proofs.RoomLaws.{opened_room, stopped_room}
use Rattle.tmr_top.proofs.commands.sweeping.perform.Goals as goal

pub returns-in-Ok : goal.returns-in-Ok
returns-in-Ok g c = opened_room _ _ _ _ _ _ _ _ _ _ _ _ c.in-Ok.ensures.opens c.tell.ensures c.conclude.ensures

pub returns-in-Err : goal.returns-in-Err
returns-in-Err g c = stopped_room _ _ _ _ _ _ _ _ _ (λ line held unread. record { reason = unread.reason; unread = unread.unread; says = unread.says }) c.in-Err.ensures.opens c.stopped.ensures
