-- A text of the Berkeley Logic Interchange Format as statements: bytes, lines, joined lines, tokens.
--
-- The format is the one of "Berkeley Logic Interchange Format (BLIF)", University of California, Berkeley, 1992.
-- What stands here reads the whole text at once. How a text that comes in pieces is read is nowhere part of it. What lines,
-- joined lines and their tokens are, text_lines says: the bytes are cut at each LF, and a line that ends in a backslash is
-- joined with the next.
use Rattle.std.specs.Prelude.{ℕ, List, [], ◌∷◌, ◌++◌}
use Rattle.std.specs.List.{flat_map}
pub use Rattle.text_lines.specs.Lines.{is_line_feed, lines_of}
pub use Rattle.text_lines.specs.Joined.{last_byte, all_but_last, is_hash, without_cr, is_blank, Joined}
unfoldable pub use Rattle.text_lines.specs.Joined.{content, trimmed, joins_next, part, in_front, joined_from, tokens}
use Rattle.blif_text.specs.declared.statements.word.Word.{Word}
use Rattle.blif_text.specs.Word.{word_of}

-- Statements. A statement is the tokens of a joined line, of which there is at least one; the first says what it is.

-- the line is the number of the first line that was joined
pub record Statement : Type 0 where
  pub line : ℕ
  pub word : Word
  pub first : List ℕ
  pub arguments : List (List ℕ)

abbrev pub statement_by : ℕ → Word → List ℕ → List (List ℕ) → Statement
statement_by line word first arguments = record { line = line; word = word; first = first; arguments = arguments }

abbrev pub statement : ℕ → List ℕ → List (List ℕ) → Statement
statement line first arguments = statement_by line (word_of first) first arguments

-- the statement of these tokens, where there are any
unfoldable pub spoken : ℕ → List (List ℕ) → List Statement
spoken line [] = []
spoken line (first ∷ arguments) = statement line first arguments ∷ []

unfoldable pub statement_of : Joined → List Statement
statement_of line = spoken line.number (tokens line.text)

-- the statements of joined lines; a joined line without tokens has none
abbrev pub statements_of : List Joined → List Statement
statements_of joined = flat_map statement_of joined

-- The statements of the whole text. At its end a backslash joins nothing: an empty line behind the last one ends
-- what the backslash leaves open.
unfoldable pub statements : List ℕ → List Statement
statements bytes = statements_of (joined_from 1 (lines_of bytes ++ [] ∷ []))

-- those whose last line was ended by LF and joins no next line, whatever follows the bytes
unfoldable pub ended_statements : List ℕ → List Statement
ended_statements bytes = statements_of (joined_from 1 (all_but_last (lines_of bytes)))
