use Rattle.exposure.proofs.NearCounts.{near_counted}
use Rattle.exposure.proofs.laws.near_counts_strikes.Goals as goal

pub returns : goal.returns
returns c = λ k is three. near_counted k is three
