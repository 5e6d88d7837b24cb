use Rattle.std.proofs.Common.{arith}
use Rattle.std.proofs.lemmas.List.{length-map, get_or-map}
use Rattle.flat_net.specs.Nodes.{number_of}
use Rattle.reports.proofs.words.put_names.Goals as goal

pub name-requires : goal.name-requires
name-requires c =
    omega (arith, c.requires c.loop-x.x-index 0 (omega (arith, c.loop-x-test.true, length-map c.args.nets.now number_of)), get_or-map number_of c.args.nets.now c.loop-x.x-index (record { 0 = 0 }) 0 c.loop-x-test.true)
