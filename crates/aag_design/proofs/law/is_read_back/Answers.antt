use Rattle.aag_design.proofs.WrittenFiles.{read_back}
use Rattle.aag_design.proofs.law.is_read_back.Goals as goal

pub returns : goal.returns
returns c = λ n bytes file limit. read_back n bytes file limit
