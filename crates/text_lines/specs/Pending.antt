-- What is in hand of a text that comes in pieces: how lines are read is said here, what they are in Lines and Joined.
use Rattle.std.specs.Prelude.{◌≡◌, ℕ, ◌+◌, false, List, [], ◌++◌, All}
use Rattle.text_lines.specs.Lines.{is_line_feed}
use Rattle.text_lines.specs.Joined.{part}

-- the joined line so far and its number, and the line so far and its number
pub record Pending : Type 0 where
  pub first : ℕ
  pub text : List ℕ
  pub number : ℕ
  pub line : List ℕ

abbrev pub IsOneLine : List ℕ → Type 0
IsOneLine line = All (λ b. is_line_feed b ≡ false) line

-- line n begins, and nothing is in hand
abbrev pub begun : ℕ → Pending
begun n = record { first = n; text = []; number = n; line = [] }

abbrev pub start : Pending
start = begun 1

abbrev pub with_bytes : Pending → List ℕ → Pending
with_bytes p bytes = record { first = p.first; text = p.text; number = p.number; line = p.line ++ bytes }

-- the line in hand has come to its end, and is joined to those before it
abbrev pub with_joined : Pending → Pending
with_joined p = record { first = p.first; text = p.text ++ part p.line; number = p.number + 1; line = [] }
