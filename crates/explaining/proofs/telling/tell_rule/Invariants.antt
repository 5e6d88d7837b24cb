use Rattle.certificate.specs.Starts.{counted}
use Rattle.explaining.specs.Reasons.{number}
use Rattle.explaining.specs.Private.Found.{IsToldBefore}
use Rattle.explaining.proofs.telling.tell_rule.Given as goal

abbrev pub invariant-loop-place : goal.invariant-loop-place
invariant-loop-place l = IsToldBefore l.n.design.net (counted l.c l.n.free) l.h.design.net (counted l.c l.h.free) l.c (number l.rule) l.place l.told
