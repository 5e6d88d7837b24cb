use Rattle.std.proofs.Common.{◌≡◌, ◌++◌}
use Rattle.node_reads.specs.Private.Logged.{rows_of, start_in}
use Rattle.node_reads.proofs.notes.cut_rows.Given as goal

abbrev pub invariant-loop-x : goal.invariant-loop-x
invariant-loop-x l = record {
  rows : l.rows ≡ l.fn.rows ++ rows_of l.x l.log;
  from : l.from ≡ start_in l.log l.x;
}
