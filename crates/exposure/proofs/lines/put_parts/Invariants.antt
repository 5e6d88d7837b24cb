use Rattle.std.proofs.Common.{◌≡◌, ◌++◌}
use Rattle.exposure.specs.Private.Left.{lines_left}
use Rattle.exposure.proofs.lines.put_parts.Given as goal

abbrev pub invariant-loop-p : goal.invariant-loop-p
invariant-loop-p l = l.out.items ++ lines_left l.c l.p ≡ l.fn.out.items ++ lines_left l.c 0
