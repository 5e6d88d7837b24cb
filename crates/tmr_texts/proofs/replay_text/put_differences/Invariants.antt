use Rattle.std.proofs.Common.{◌≡◌, ◌++◌, drop}
use Rattle.tmr_texts.specs.ReplayText.{difference_lines}
use Rattle.tmr_texts.proofs.replay_text.put_differences.Given as goal

abbrev pub invariant-loop-difference : goal.invariant-loop-difference
invariant-loop-difference l = l.text.items ++ difference_lines l.n.net (drop l.difference-index l.first) ≡ l.fn.text.items ++ difference_lines l.n.net l.first
