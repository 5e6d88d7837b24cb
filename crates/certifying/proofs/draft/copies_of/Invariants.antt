use Rattle.std.proofs.Common.{◌≡◌, map, take}
use Rattle.certificate.specs.Threes.{three_ids}
use Rattle.certifying.proofs.draft.copies_of.Given as goal

abbrev pub invariant-loop-i : goal.invariant-loop-i
invariant-loop-i l = map three_ids l.copies.items ≡ take l.i l.k.copies
