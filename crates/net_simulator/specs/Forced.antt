-- What a net has in a cycle, where it may be forced.
use Rattle.std.specs.Prelude.{ℕ, Bool, List, Option, None}
use Rattle.std.specs.Option.{unwrap_or}
use Rattle.flat_net.specs.Net.{Node}
use Rattle.net_meaning.specs.Meaning.{net_value}

-- the value that is forced on net x, or else what its equation gives
abbrev pub forced_value : Option Node → Option Bool → ℕ → List Bool → List Bool → List Bool → ℕ → Bool
forced_value o forced t ins before v x = unwrap_or forced (net_value o None t ins before v x)
