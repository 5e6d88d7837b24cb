use Rattle.std.proofs.Common.{ap}
use Rattle.std.specs.List.{list_any}
use Rattle.partition_graph.specs.Private.Meeting.{same_pair}
use Rattle.partition_graph.proofs.EdgeLaws.{none_counted}
use Rattle.partition_graph.proofs.edges.no_edges.Goals as goal

pub returns-clause-counted : goal.returns-clause-counted
returns-clause-counted c = λ homes.
    none_counted homes (record { met = c.new.result; counts = c.new-2.result }) c.new-2.ensures.ordered c.new-2.ensures.empty (λ x b. ap (list_any (same_pair (x, b))) c.new.ensures.empty)
