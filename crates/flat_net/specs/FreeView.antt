-- What a design with marks shows of its fields.
use Rattle.flat_net.specs.declared.free.FreeNet.TheInside.{Inside}
use Rattle.flat_net.specs.Free.{FreeDesign}

abbrev pub free_design_of : Inside → FreeDesign
free_design_of n = record { design = n.net; free = n.free.items }
