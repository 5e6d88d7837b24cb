use Rattle.std.proofs.Common.{refl}
use Rattle.tmr_top.proofs.RoomLaws.{unopened_room}
use Rattle.tmr_top.proofs.commands.help.perform_version.Goals as goal

pub returns : goal.returns
returns g c = unopened_room _ _ _ _ _ _ _ refl c.tell_version.ensures c.conclude.ensures
