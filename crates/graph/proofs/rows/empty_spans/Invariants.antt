use Rattle.std.proofs.Common.{◌≡◌, take}
use Rattle.graph.specs.Private.Packed.{emptied_from, start_of}
use Rattle.graph.proofs.rows.empty_spans.Given as goal

abbrev pub invariant-loop-x : goal.invariant-loop-x
invariant-loop-x l = record {
  empty : l.empty ≡ emptied_from 0 (take l.x l.ends);
  from : l.from ≡ start_of 0 l.ends l.x;
}
