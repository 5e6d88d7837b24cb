-- Only private functions cite this: a design with marks, or one of which no register is marked.
use Rattle.std.specs.Prelude.{Bool, List, []}
use Rattle.flat_net.specs.Net.{Net}
use Rattle.blif_writer.specs.declared.marked.Marked.{Marked}
use Rattle.blif_writer.specs.declared.marked.Marked.TheVariants.{Plain, Free}

abbrev pub net_in : Marked → Net
net_in (Plain n) = n.now.net
net_in (Free n) = n.now.design.net

-- of a plain design none
abbrev pub marks_in : Marked → List Bool
marks_in (Plain n) = []
marks_in (Free n) = n.now.free
