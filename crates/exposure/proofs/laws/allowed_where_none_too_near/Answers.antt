use Rattle.exposure.proofs.NearLaws.{none_where_allowed, allowed_where_none}
use Rattle.exposure.proofs.laws.allowed_where_none_too_near.Goals as goal

pub returns : goal.returns
returns c = λ s k. (none_where_allowed s k, allowed_where_none s k)
