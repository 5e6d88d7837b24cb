use Rattle.tmr_top.proofs.LimitLaws.{bytes_opened}
use Rattle.tmr_top.proofs.loads.keep_hardened.Goals as goal

pub returns-clause-opens : goal.returns-clause-opens
returns-clause-opens g c = bytes_opened _ _ _ _ _ _ _ _ c.hardened.ensures.is c.load_bytes.ensures.opens
