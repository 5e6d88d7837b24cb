use Rattle.certifying.proofs.Allows.{allows_more}
use Rattle.certifying.proofs.laws.certify_allows_more.Goals as goal

pub returns : goal.returns
returns c = allows_more
