-- What is kept of statements none of which is bad makes a library.
use Rattle.std.specs.Prelude.{◌≡◌, map, All}
use Rattle.blif_text.specs.Library.{Differ, IsModel, name_of}
use Rattle.blif_text.specs.Private.Progress.{Progress, all_models}

pub record IsSound (p : Progress) : Type 0 where
  pub names : Differ p.names
  pub listed : map name_of (all_models p) ≡ p.names
  pub each : All IsModel (all_models p)
