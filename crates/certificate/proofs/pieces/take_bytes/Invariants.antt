use Rattle.std.proofs.Common.{◌≡◌, ◌≤◌, ◌+◌, ◌-◌, ◌++◌, ℕ, List, length, drop}
use Rattle.certificate.specs.Carrying.{to_come}
use Rattle.certificate.specs.Reader.{IsReady}
use Rattle.certificate.proofs.pieces.take_bytes.Given as goal

abbrev pub invariant-loop-taken : goal.invariant-loop-taken
invariant-loop-taken l = record {
  within : l.taken ≤ length l.piece;
  passes : (more : List ℕ) → to_come l.n.net l.h.net l.fn.line l.fn.progress (l.piece ++ more) ≡ to_come l.n.net l.h.net l.line l.progress (drop l.taken l.piece ++ more);
  ready : IsReady l.h.net l.line l.progress;
  number : l.line.number ≤ l.fn.line.number + l.taken;
}

abbrev pub decreases-loop-taken : goal.decreases-loop-taken
decreases-loop-taken l = length l.piece - l.taken
