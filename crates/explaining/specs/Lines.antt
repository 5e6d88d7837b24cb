-- A line of a text.
use Rattle.std.specs.Prelude.{ℕ, List, [], ◌∷◌, take, slice_index_or}
use Rattle.text_lines.specs.Lines.{lines_of}

-- the line with this number, counted from 1, or its first 200 bytes; nothing at number 0 and past the last line
abbrev pub shown_line : List ℕ → ℕ → List ℕ
shown_line bytes number = take 200 (slice_index_or ([] ∷ lines_of bytes) number [])
