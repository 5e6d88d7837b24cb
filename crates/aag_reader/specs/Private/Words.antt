-- Words as they are kept.
use Rattle.std.specs.Prelude.{ℕ, List, map}
use Rattle.std.specs.Borrow.{Bor}

abbrev pub text : Bor (List ℕ) → List ℕ
text w = w.now

-- the bytes of each word
abbrev pub texts : List (Bor (List ℕ)) → List (List ℕ)
texts words = map text words
