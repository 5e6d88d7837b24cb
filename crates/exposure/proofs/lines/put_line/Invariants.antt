use Rattle.std.proofs.Common.{◌≡◌, ◌++◌, drop}
use Rattle.certificate.specs.Plain.{texts}
use Rattle.certificate.proofs.Puts.{after}
use Rattle.exposure.proofs.lines.put_line.Given as goal

abbrev pub invariant-loop-word : goal.invariant-loop-word
invariant-loop-word l = l.out.items ++ after (texts (drop l.word-index l.rest)) ≡ l.fn.out.items ++ (l.first ++ after (texts l.rest))
