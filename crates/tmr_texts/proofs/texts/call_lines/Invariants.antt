use Rattle.std.proofs.Common.{◌≡◌, ◌++◌, drop}
use Rattle.tmr_texts.specs.Texts.{calls, usage_lines}
use Rattle.tmr_texts.proofs.texts.call_lines.Given as goal

abbrev pub invariant-loop-i : goal.invariant-loop-i
invariant-loop-i l = l.text.items ++ usage_lines l.head (drop l.i l.all) ≡ calls
