use Rattle.std.proofs.Common.{◌≡◌, max, drop}
use Rattle.tmr_texts.specs.Texts.{greatest}
use Rattle.tmr_texts.proofs.texts.greatest_depth.Given as goal

abbrev pub invariant-loop-p : goal.invariant-loop-p
invariant-loop-p l = max l.most (greatest (drop l.p l.c.depth)) ≡ greatest l.c.depth
