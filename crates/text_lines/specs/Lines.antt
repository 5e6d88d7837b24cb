-- The lines of a text.
use Rattle.std.specs.Prelude.{ℕ, ◌+◌, ◌==◌, Bool, List, is_some}
use Rattle.std.specs.List.{slice_split, position, after_first}

abbrev pub is_line_feed : ℕ → Bool
is_line_feed b = b == 10

-- A text cut at its line feeds: what stands before the first, between two, and behind the last.
abbrev pub lines_of : List ℕ → List (List ℕ)
lines_of bytes = slice_split is_line_feed bytes

-- a line feed stands among these bytes
abbrev pub has_line_feed : List ℕ → Bool
has_line_feed bytes = is_some (position is_line_feed bytes)

-- what is still to be read of a text, and the number of its next line
pub record Rest : Type 0 where
  pub line : ℕ
  pub bytes : List ℕ

-- what is left behind the next line: what stands behind its line feed, or nothing
abbrev pub behind_line : Rest → Rest
behind_line r = record { line = r.line + 1; bytes = after_first is_line_feed r.bytes }
