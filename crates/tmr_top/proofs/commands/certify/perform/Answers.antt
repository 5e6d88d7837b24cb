use Rattle.std.proofs.Common.{IfOk, subst}
use Rattle.tmr_words.specs.Line.{Certify}
use Rattle.tmr_words.specs.FileWords.{certifying_in}
use Rattle.tmr_top.specs.declared.pair_files.Designs.{Designs}
use Rattle.tmr_top.specs.Private.PairFiles.{AreDesigns}
use Rattle.tmr_top.specs.Private.Works.{IsWorkOver}
use Rattle.tmr_top.proofs.CertifyLaws.{none_read}
use Rattle.tmr_top.proofs.RoomLaws.{opened_room, stopped_room}
use Rattle.tmr_top.proofs.commands.certify.perform.Goals as goal

pub returns-in-Ok : goal.returns-in-Ok
returns-in-Ok g c = opened_room _ _ _ _ _ _ _ _ _ _ _ _ c.in-Ok.ensures.opens
    (subst (λ (x : Designs). IfOk c.tell.result (IsWorkOver (Certify (certifying_in c.args.words.now)) (AreDesigns c.args.words.now.limits c.args.words.now.original.now c.args.words.now.hardened.now x))) c.seek-sought.ensures.designs c.tell.ensures)
    c.conclude.ensures

pub returns-in-Err : goal.returns-in-Err
returns-in-Err g c = stopped_room _ _ _ _ _ _ _ _ _ (none_read (certifying_in c.args.words.now)) c.in-Err.ensures.opens c.stopped.ensures
