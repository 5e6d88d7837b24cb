-- Faults of the order and of the length, in the words of the whole.
use Rattle.std.proofs.Common.{ℕ, List}
use Rattle.blif_text.specs.Models.{PlainModel}
use Rattle.library_faults.specs.declared.fault.LibraryFault.{LibraryFault}
use Rattle.library_faults.specs.declared.fault.LibraryFault.TheVariants.{Misplaced, Recursive, TooLarge, Memory}
use Rattle.library_faults.specs.Graph.{graph}
use Rattle.library_faults.specs.Library.{IsPlaceable}
use Rattle.library_faults.specs.Found.{IsOrder}
use Rattle.library_faults.specs.Sound.{IsLibraryFault}
use Rattle.library_faults.specs.Private.Survey.{IsOrderFault, IsLengthFault}

pub order_fault : (library : List PlainModel) (limit : ℕ) (fault : LibraryFault) → IsOrderFault library fault → IsLibraryFault library limit fault
order_fault library limit (Misplaced placing) f = f
order_fault library limit (Recursive names) f = f
order_fault library limit TooLarge f = absurd f
order_fault library limit Memory f = tt

pub length_fault : (library : List PlainModel) (limit : ℕ) (order : List ℕ) (fault : LibraryFault) → IsPlaceable library → IsOrder (graph library) order → IsLengthFault library limit fault → IsLibraryFault library limit fault
length_fault library limit order (Misplaced placing) placeable ordered f = absurd f
length_fault library limit order (Recursive names) placeable ordered f = absurd f
length_fault library limit order TooLarge placeable ordered f = (record { placeable = placeable; order = order; ordered = ordered }, f)
length_fault library limit order Memory placeable ordered f = tt

pub ruleset looked_laws = (order_fault, length_fault)
