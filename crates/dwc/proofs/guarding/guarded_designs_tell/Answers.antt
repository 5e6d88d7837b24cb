use Rattle.dwc.proofs.Telling.{tells}
use Rattle.dwc.proofs.guarding.guarded_designs_tell.Goals as goal

pub returns : goal.returns
returns c = tells
