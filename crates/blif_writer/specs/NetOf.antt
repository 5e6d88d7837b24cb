-- The flat design of a text.
use Rattle.std.specs.Prelude.{◌≡◌, ℕ, Bool, List, Ok}
use Rattle.blif_text.specs.Models.{PlainModel}
use Rattle.blif_text.specs.Reading.{reading}
use Rattle.flat_net.specs.Net.{Net}
use Rattle.hierarchy.specs.Flatten.{IsFlat, IsFreeFlat}

-- the text is read as a library, and flattened within the limit that is this design, with that many assumed initial values
pub record IsNetOf (bytes : List ℕ) (limit : ℕ) (design : Net) (open_values : ℕ) : Type 0 where
  pub library : List PlainModel
  pub reads : reading bytes ≡ Ok library
  pub flat : IsFlat library limit design open_values

-- the same, where the registers whose initial values are assumed are marked
pub record IsFreeNetOf (bytes : List ℕ) (limit : ℕ) (design : Net) (free : List Bool) : Type 0 where
  pub library : List PlainModel
  pub reads : reading bytes ≡ Ok library
  pub flat : IsFreeFlat library limit design free
