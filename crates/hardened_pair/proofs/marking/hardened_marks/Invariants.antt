use Rattle.std.proofs.Common.{◌≡◌, map, take}
use Rattle.certificate.specs.Starts.{counted, role_start}
use Rattle.hardened_pair.proofs.marking.hardened_marks.Given as goal

abbrev pub invariant-loop-i : goal.invariant-loop-i
invariant-loop-i l = l.marks.items ≡ map (role_start l.c (counted l.c l.n.free)) (take l.i l.c.roles)
