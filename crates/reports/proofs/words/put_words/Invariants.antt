use Rattle.std.proofs.Common.{◌≡◌, ◌++◌, drop}
use Rattle.certificate.specs.Plain.{texts}
use Rattle.reports.specs.Private.Left.{spaced}
use Rattle.reports.proofs.words.put_words.Given as goal

abbrev pub invariant-loop-word : goal.invariant-loop-word
invariant-loop-word l = l.out.items ++ spaced (texts (drop l.word-index l.words)) ≡ l.fn.out.items ++ spaced (texts l.words)
