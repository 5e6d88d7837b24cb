-- Where a misfit stands.
use Rattle.std.specs.Prelude.{◌<◌, length}
use Rattle.flat_net.specs.Net.{Net, IsNode, node_of, pins_at}
use Rattle.role_search.specs.declared.misfits.Misfit.{Misfit}
use Rattle.role_search.specs.declared.misfits.Misfit.TheVariants.{Pin, TwoRoles}

-- what a misfit names is a node of h, and a pin of it
abbrev pub IsThere : Net → Misfit → Type 0
IsThere h (Pin g j) = IsNode h g.0 × (j < length (pins_at (node_of h g.0)))
IsThere h (TwoRoles g) = IsNode h g.0
