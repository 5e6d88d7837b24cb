-- What a look at a library finds.
use Rattle.std.specs.Prelude.{◌≡◌, List}
use Rattle.blif_text.specs.Models.{PlainModel}
use Rattle.library_faults.specs.declared.looked.Looked.{Looked}
use Rattle.library_faults.specs.Graph.{graph, names_of}
use Rattle.library_faults.specs.Library.{IsPlaceable}
use Rattle.library_faults.specs.Found.{IsOrder}
use Rattle.library_faults.specs.Private.Counts.{ArePlaces, AreCounts}

-- the library has no fault, and these are its names, an order of its models, and their counts
pub record IsLooked (library : List PlainModel) (looked : Looked) : Type 0 where
  pub names : looked.names.keys ≡ names_of library
  pub placeable : IsPlaceable library
  pub ordered : IsOrder (graph library) looked.order.items
  pub places : ArePlaces looked.order.items looked.positions.items
  pub counts : AreCounts library looked.order.items looked.counts.items
