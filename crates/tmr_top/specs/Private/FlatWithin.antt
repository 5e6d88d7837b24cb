-- Designs that some library is flattened to.
use Rattle.std.specs.Prelude.{ℕ, Bool, List}
use Rattle.blif_text.specs.Models.{PlainModel}
use Rattle.flat_net.specs.Net.{Net}
use Rattle.hierarchy.specs.Flatten.{IsFreeFlat}

-- some library is flattened to this design within the limit
pub record IsFlatWithin (limit : ℕ) (n : Net) (free : List Bool) : Type 0 where
  pub library : List PlainModel
  pub flat : IsFreeFlat library limit n free
