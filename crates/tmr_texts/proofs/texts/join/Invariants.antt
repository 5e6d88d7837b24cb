use Rattle.std.proofs.Common.{◌≡◌, ◌++◌, drop}
use Rattle.tmr_words.specs.FileWords.{read_words}
use Rattle.tmr_texts.specs.Texts.{joined}
use Rattle.tmr_texts.proofs.texts.join.Given as goal

abbrev pub invariant-loop-piece : goal.invariant-loop-piece
invariant-loop-piece l = l.text.items ++ joined (read_words (drop l.piece-index l.pieces)) ≡ joined (read_words l.pieces)
