use Rattle.std.proofs.Common.{◌≡◌, ◌++◌}
use Rattle.reports.specs.Private.Left.{parts_left}
use Rattle.reports.proofs.writing.put_parts.Given as goal

abbrev pub invariant-loop-p : goal.invariant-loop-p
invariant-loop-p l = l.out.items ++ parts_left l.n.net l.c l.counts.groups l.deeps l.p ≡ l.fn.out.items ++ parts_left l.n.net l.c l.counts.groups l.deeps 0
