use Rattle.std.proofs.Common.{ℕ, subst}
use Rattle.aag_design.specs.Read.{IsFaultOf, IsReadCounted}
use Rattle.tmr_top.specs.Loads.{graph_file}
use Rattle.tmr_top.proofs.GraphReadLaws.{holds_counted, graph_refusal}
use Rattle.tmr_top.proofs.commands.from_aag.read_graph.Goals as goal

pub returns-in-Ok : goal.returns-in-Ok
returns-in-Ok c = λ held holds.
    holds_counted held (graph_file c.args.limits c.args.name.now) c.args.bytes.now _ holds (subst (λ (most : ℕ). IsReadCounted c.args.bytes.now most c.in-Ok.read) c.original.ensures.is c.in-Ok.ensures.design)

pub returns-in-Err : goal.returns-in-Err
returns-in-Err c =
    graph_refusal c.args.limits c.args.name.now c.args.bytes.now c.in-Err.fault _
    (subst (λ (most : ℕ). IsFaultOf c.args.bytes.now most c.in-Err.fault) c.original.ensures.is c.in-Err.ensures.fault) c.refuse_graph.ensures
