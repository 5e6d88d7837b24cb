use Rattle.std.proofs.Common.{◌≤◌, ◌+◌, ◌-◌, ◌++◌, ℕ, List, length, take}
use Rattle.blif_text.specs.Private.Stands.{Stands}
use Rattle.blif_text.specs.Private.Sound.{IsSound}
use Rattle.blif_text.proofs.reader.text.take_bytes.Given as goal

abbrev pub invariant-loop-taken : goal.invariant-loop-taken
invariant-loop-taken l = record {
  within : l.taken ≤ length l.piece;
  stands : (given : List ℕ) → Stands l.fn.lines l.fn.progress given → Stands l.lines l.progress (given ++ take l.taken l.piece);
  sound : IsSound l.fn.progress → IsSound l.progress;
  number : l.lines.number ≤ l.fn.lines.number + l.taken;
}

abbrev pub decreases-loop-taken : goal.decreases-loop-taken
decreases-loop-taken l = length l.piece - l.taken
