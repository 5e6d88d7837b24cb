use Rattle.tmr_top.proofs.LoadLaws.{opens_told, still_stops}
use Rattle.tmr_top.proofs.pairs.open_designs.Goals as goal

pub returns-in-Ok-clause-opens : goal.returns-in-Ok-clause-opens
returns-in-Ok-clause-opens g c = opens_told _ _ _ _ _ _ _ c.in-Ok.kept c.tell.result c.tell.ensures c.in-Ok.ensures.opens

pub returns-in-Err-clause-opens : goal.returns-in-Err-clause-opens
returns-in-Err-clause-opens g c = still_stops _ _ _ _ _ _ _ _ _ c.in-Err.ensures.opens
