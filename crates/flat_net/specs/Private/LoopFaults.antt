-- What the search for an order of a design's nodes answers where there is none.
use Rattle.std.specs.Prelude.{◌≡◌, ℕ, List, map}
use Rattle.flat_net.specs.Net.{Net, name_of}
use Rattle.flat_net.specs.Loop.{IsLoop}
use Rattle.flat_net.specs.declared.fault.NetFault.{NetFault}
use Rattle.flat_net.specs.declared.fault.NetFault.TheVariants.{DoubleDriven, MixedClock, ClockUse, Undriven, CombLoop, Memory}

-- a loop of tables of this design
abbrev pub IsLoopFault : Net → NetFault → Type 0
IsLoopFault n (DoubleDriven name) = ⊥
IsLoopFault n (MixedClock name) = ⊥
IsLoopFault n (ClockUse name) = ⊥
IsLoopFault n (Undriven name) = ⊥
IsLoopFault n (CombLoop names) = (tables : List ℕ) × IsLoop n tables × (names.items ≡ map (name_of n) tables)
IsLoopFault n Memory = Unit {0}
