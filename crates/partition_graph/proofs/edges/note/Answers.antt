use Rattle.std.proofs.Common.{◌≡◌, ◌&&◌, ◌∙◌, Bool, true, false, slice_index, sym, ap, arith}
use Rattle.std.specs.Prelude.{◌==◌, not}
use Rattle.partition_graph.specs.declared.edges.Edges.{Edges}
use Rattle.partition_graph.specs.Private.Meeting.{is_met}
use Rattle.partition_graph.proofs.EdgeLaws.{or_from_cond, met_first, few_counted}
use Rattle.partition_graph.proofs.edges.note.Goals as goal

from_not : (b f : Bool) → f ≡ not b → b ≡ not f
from_not true f e = sym (ap not e)
from_not false f e = sym (ap not e)

pub overflow_add-number : goal.overflow_add-number
overflow_add-number c =
    omega (arith, c.number_of_edge-number.ensures, c.requires.counted.numbers (slice_index c.args.homes.now c.args.x) c.args.b, few_counted c.args.homes.now (is_met c.args.edges.now) (slice_index c.args.homes.now c.args.x) c.args.b, c.requires.few)

pub returns-clause-met : goal.returns-clause-met
returns-clause-met c = λ y a. c.in_ok-fresh.ensures.updates.0 (y, a) ∙ or_from_cond (c.args.x == y && c.args.b == a) (is_met c.args.edges.now y a)

pub returns-clause-counted : goal.returns-clause-counted
returns-clause-counted c =
    let new : Edges = record { met = c.insert.new.self; counts = c.insert-2.new.self } in
    met_first c.args.homes.now c.args.edges.now new c.args.x c.args.b c.number_of_edge-number.result c.requires.net c.requires.counted c.in_ok-insert.ensures.ordered
    c.in_ok-insert.ensures.updates.0 c.in_ok-insert.ensures.entries c.number_of_edge-number.ensures
    (λ y a. c.in_ok-fresh.ensures.updates.0 (y, a) ∙ or_from_cond (c.args.x == y && c.args.b == a) (is_met c.args.edges.now y a))
    (from_not (is_met c.args.edges.now c.args.x c.args.b) c.in_ok-fresh.fresh c.in_ok-fresh.ensures.added ∙ ap not c.if-not-fresh.false)
