use Rattle.tmr_top.proofs.LoadLaws.{opens_read, still_stops}
use Rattle.tmr_top.proofs.designs.open_original.Goals as goal

pub returns-in-Ok-clause-opens : goal.returns-in-Ok-clause-opens
returns-in-Ok-clause-opens g c = opens_read _ _ _ _ _ _ _ _ _ _ c.in-Ok.ensures c.read_original.ensures.gives

pub returns-in-Err-clause-opens : goal.returns-in-Err-clause-opens
returns-in-Err-clause-opens g c = still_stops _ _ _ _ _ _ _ _ _ c.in-Err.ensures
