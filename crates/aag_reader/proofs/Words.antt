-- Words as they are kept.
use Rattle.std.proofs.Common.{◌≡◌, ℕ, List, drop, sym}
use Rattle.std.specs.Borrow.{Bor}
use Rattle.std.proofs.lemmas.List.{drop-map}
use Rattle.aag_reader.specs.Private.Words.{text, texts}

pub texts_dropped : (n : ℕ) (words : List (Bor (List ℕ))) → texts (drop n words) ≡ drop n (texts words)
texts_dropped n words = sym (drop-map text n words)
