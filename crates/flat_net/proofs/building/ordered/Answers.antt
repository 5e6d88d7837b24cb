use Rattle.std.proofs.Common.{map, rules}
use Rattle.std.proofs.lemmas.List.{length-map}
use Rattle.flat_net.specs.Nodes.{number_of}
use Rattle.flat_net.specs.Loop.{IsLoop}
use Rattle.flat_net.proofs.Causes.{loop_within}
use Rattle.flat_net.proofs.building.ordered.Goals as goal

pub names_of-requires : goal.names_of-requires
names_of-requires c =
    let loop : IsLoop c.args.wiring (map number_of c.deref.result.now) = search rules in
    λ k h. loop_within c.args.wiring (map number_of c.deref.result.now) loop k (rw (length-map c.deref.result.now number_of) h)
