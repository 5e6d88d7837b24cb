-- One of the two designs, and the marks of it that count. Private functions alone cite it.
use Rattle.std.specs.Prelude.{Bool, List, []}
use Rattle.flat_net.specs.Net.{Net}
use Rattle.validator.specs.declared.side.Side.{Side}
use Rattle.validator.specs.declared.side.Side.TheVariants.{Plain, Free}

abbrev pub net_in : Side → Net
net_in (Plain n) = n.now.net
net_in (Free n) = n.now.design.net

-- of a plain design none
abbrev pub marks_in : Side → List Bool
marks_in (Plain n) = []
marks_in (Free n) = n.now.free
