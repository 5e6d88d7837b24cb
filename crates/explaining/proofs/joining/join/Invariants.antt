use Rattle.std.proofs.Common.{◌≡◌, ◌++◌, drop}
use Rattle.std.specs.List.{concat}
use Rattle.certificate.specs.Plain.{texts}
use Rattle.explaining.proofs.joining.join.Given as goal

abbrev pub invariant-loop-piece : goal.invariant-loop-piece
invariant-loop-piece l = l.text.items ++ concat (texts (drop l.piece-index l.pieces)) ≡ concat (texts l.pieces)
