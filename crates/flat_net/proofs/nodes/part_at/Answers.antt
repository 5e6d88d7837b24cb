use Rattle.std.proofs.lemmas.List.{take-map, drop-map}
use Rattle.flat_net.specs.Nodes.{number_of}
use Rattle.flat_net.proofs.nodes.part_at.Goals as goal

pub returns : goal.returns
returns c = rw (c.start_at.ensures, ← take-map number_of, ← drop-map number_of)
