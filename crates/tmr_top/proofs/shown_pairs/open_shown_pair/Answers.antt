use Rattle.tmr_top.proofs.LoadLaws.{opens_read, still_stops}
use Rattle.tmr_top.proofs.shown_pairs.open_shown_pair.Goals as goal

pub returns-in-Ok-clause-opens : goal.returns-in-Ok-clause-opens
returns-in-Ok-clause-opens g c = opens_read _ _ _ _ _ _ _ _ _ _ c.in-Ok.ensures.opens c.read_pair.ensures.gives

pub returns-in-Err-clause-opens : goal.returns-in-Err-clause-opens
returns-in-Err-clause-opens g c = still_stops _ _ _ _ _ _ _ _ _ c.in-Err.ensures.opens
