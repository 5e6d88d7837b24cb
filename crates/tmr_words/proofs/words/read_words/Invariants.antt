use Rattle.std.proofs.Common.{◌≡◌, drop}
use Rattle.tmr_words.specs.Words.{texts, words_of}
use Rattle.tmr_words.specs.Private.WordByWord.{words_from}
use Rattle.tmr_words.specs.Private.WordsRead.{words_in}
use Rattle.tmr_words.proofs.WordLaws.{behind}
use Rattle.tmr_words.proofs.words.read_words.Given as goal

abbrev pub invariant-loop-word : goal.invariant-loop-word
invariant-loop-word l = behind (words_in l.read) (words_from l.mode (texts (drop l.word-index l.words))) ≡ words_of (texts l.words)
