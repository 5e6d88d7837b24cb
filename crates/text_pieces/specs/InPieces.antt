-- A text that is given in pieces.
use Rattle.std.specs.Prelude.{ℕ, List}

-- what is still to come of it, the piece at hand, and in how many steps what is to come is made
pub record TextInPieces : Type 0 where
  pub rest : List ℕ
  pub piece : List ℕ
  pub left : ℕ

-- a piece with so many bytes gets no more
abbrev pub long_piece : ℕ
long_piece = 65536
