use Rattle.std.proofs.Common.{◌≡◌, ◌++◌}
use Rattle.sweep.specs.Private.Written.{lines_left}
use Rattle.sweep.proofs.lines.put_swept.Given as goal

abbrev pub invariant-loop-i : goal.invariant-loop-i
invariant-loop-i l = l.out.items ++ lines_left l.n.net l.lines l.i ≡ l.fn.out.items ++ lines_left l.n.net l.lines 0
