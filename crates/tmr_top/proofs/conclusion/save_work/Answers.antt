use Rattle.std.proofs.Common.{refl}
use Rattle.tmr_top.proofs.PerformLaws.{done_concludes, failed_concludes, wants_concludes}
use Rattle.tmr_top.proofs.conclusion.save_work.Goals as goal

pub returns-in-Ok : goal.returns-in-Ok
returns-in-Ok g c = λ k names.
    let done = c.in-Ok in
    done_concludes k _ _ _ _ c.args.work c.args.work.saves.items refl c.requires names done.ensures.steady done.ensures.changes done.ensures.saves

pub returns-in-Ok-save_fault : goal.returns-in-Ok-save_fault
returns-in-Ok-save_fault g c = λ k names.
    let failed = c.in-Err-Failed in
    failed_concludes k _ _ _ _ c.args.work c.args.work.saves.items refl c.requires names failed.ensures.steady failed.ensures.changes failed.field-0 failed.name _ failed.field-0-is failed.ensures.stop c.in-Ok-save_fault.ensures failed.ensures.steady_stop

pub returns-in-Err-Failed : goal.returns-in-Err-Failed
returns-in-Err-Failed g c = λ k names.
    let failed = c.in-Err-Failed in
    wants_concludes k _ _ _ _ c.args.work c.args.work.saves.items refl c.requires names failed.ensures.steady failed.ensures.changes failed.field-0 _ failed.ensures.stop

pub returns : goal.returns
returns g c = λ k names.
    let wants = c.in-Err-Memory in
    wants_concludes k _ _ _ _ c.args.work c.args.work.saves.items refl c.requires names wants.ensures.steady wants.ensures.changes wants.field-0 _ wants.ensures.stop
