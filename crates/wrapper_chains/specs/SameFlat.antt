-- Libraries of the same flat elements.
use Rattle.std.specs.Prelude.{◌≡◌, List, length}
use Rattle.blif_text.specs.Models.{PlainModel}
use Rattle.library_faults.specs.Graph.{names_of}
use Rattle.library_faults.specs.Flat.{main_of, flat_elements}

-- the models have the same names, the main model has the same ports, and the same flat elements come of them
pub record IsSameFlat (library models : List PlainModel) : Type 0 where
  pub names : names_of models ≡ names_of library
  pub long : length models ≡ length library
  pub name : (main_of models).name ≡ (main_of library).name
  pub inputs : (main_of models).inputs ≡ (main_of library).inputs
  pub outputs : (main_of models).outputs ≡ (main_of library).outputs
  pub elements : flat_elements models ≡ flat_elements library
