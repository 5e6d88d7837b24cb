-- What a model offers to those that place it.
use Rattle.std.specs.Prelude.{ℕ, List}
use Rattle.blif_text.specs.Models.{PlainModel}

-- the names of a model's inputs and outputs
pub record PlainPorts : Type 0 where
  pub inputs : List (List ℕ)
  pub outputs : List (List ℕ)

abbrev pub ports_of : PlainModel → PlainPorts
ports_of m = record { inputs = m.inputs; outputs = m.outputs }
