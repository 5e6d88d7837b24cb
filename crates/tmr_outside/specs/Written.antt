-- What went out.
use Rattle.std.specs.Prelude.{◌≡◌, ℕ, List, ◌++◌, take, Option, Some, None}

-- the new text is the old one and then a prefix of the piece
pub record Grows (piece old new : List ℕ) : Type 0 where
  pub kept : ℕ
  pub text : new ≡ old ++ take kept piece

-- what went out is told as before, and a prefix of the piece stands behind it
abbrev pub AppendsPrefix : List ℕ → Option (List ℕ) → Option (List ℕ) → Type 0
AppendsPrefix piece (Some old) (Some new) = Grows piece old new
AppendsPrefix piece None None = Unit {0}
AppendsPrefix piece (Some old) None = ⊥
AppendsPrefix piece None (Some new) = ⊥
