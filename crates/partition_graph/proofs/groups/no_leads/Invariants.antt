use Rattle.std.proofs.Common.{◌≡◌, ◌<◌, ℕ, length}
use Rattle.partition_graph.specs.Private.Leading.{lead_at}
use Rattle.partition_graph.proofs.groups.no_leads.Given as goal

abbrev pub invariant-loop-p : goal.invariant-loop-p
invariant-loop-p l = record {
  long : length l.leads.items ≡ l.p;
  each : (q : ℕ) → q < l.p → lead_at l.leads.items q ≡ record { node = 0; by = 0 };
}
