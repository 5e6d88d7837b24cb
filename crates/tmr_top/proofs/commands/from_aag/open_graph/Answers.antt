use Rattle.std.proofs.Common.{ℕ, List, subst}
use Rattle.tmr_top.specs.Loads.{graph_file}
use Rattle.tmr_top.specs.Private.GraphCounted.{HoldsCounted, IsRefusedGraph}
use Rattle.tmr_top.specs.Private.Opened.{HoldsBytes, Gives}
use Rattle.tmr_top.proofs.LoadLaws.{opens_read, still_stops}
use Rattle.tmr_top.proofs.commands.from_aag.open_graph.Goals as goal

pub returns-in-Ok : goal.returns-in-Ok
returns-in-Ok g c = opens_read _ _ _ _ _ _ _ _ _ _ c.in-Ok.ensures.opens
    (subst (λ (b : List ℕ). Gives (λ held. HoldsBytes held (graph_file c.args.limits c.args.name.now) b) (λ read held. HoldsCounted held (graph_file c.args.limits c.args.name.now) read) (IsRefusedGraph c.args.limits c.args.name.now) c.read_graph.result) c.deref.ensures.value c.read_graph.ensures)

pub returns-in-Err : goal.returns-in-Err
returns-in-Err g c = still_stops _ _ _ _ _ _ _ _ _ c.in-Err.ensures.opens
