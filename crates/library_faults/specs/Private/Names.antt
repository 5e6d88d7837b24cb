-- Names that are walked or kept as a set.
use Rattle.std.specs.Prelude.{ℕ, List}
use Rattle.library_faults.specs.declared.statements.names.Names.{Names}
use Rattle.library_faults.specs.declared.statements.names.Names.TheVariants.{Few, Many}

abbrev pub names_in : Names → List (List ℕ)
names_in (Few names) = names.items
names_in (Many names) = names.keys
