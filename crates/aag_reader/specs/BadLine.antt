-- The first line of a file that is not what it must be.
use Rattle.std.specs.Prelude.{◌≡◌, ℕ, suc, ◌+◌, ◌<◌, ◌≤◌, nat_lt, Bool, true, false, List, [], ◌∷◌, ◌++◌, length, Some, None, is_some, if◌then◌else◌}
use Rattle.aag_text.specs.declared.aig.Header.{Header}
use Rattle.aag_text.specs.Lines.{lines_of, words_of, header_of, input_of, latch_of, output_of, gate_of, is_symbol, is_comment}

-- how many lines the definitions behind the header are
abbrev pub due : Header → ℕ
due h = h.inputs + h.latches + h.outputs + h.gates

-- line k behind the header, counted from 0, is of the form that is due there
unfoldable pub is_formed : Header → ℕ → List ℕ → Bool
is_formed h k line =
    if nat_lt k h.inputs then is_some (input_of h.most (words_of line))
    else if nat_lt k (h.inputs + h.latches) then is_some (latch_of h.most (words_of line))
    else if nat_lt k (h.inputs + h.latches + h.outputs) then is_some (output_of h.most (words_of line))
    else if nat_lt k (due h) then is_some (gate_of h.most (words_of line))
    else is_symbol h (words_of line)

-- each line is of its form, where the first of them is line k behind the header
abbrev pub AreFormed : Header → ℕ → List (List ℕ) → Type 0
AreFormed h k [] = Unit {0}
AreFormed h k (line ∷ lines) = (is_formed h k line ≡ true) × AreFormed h (suc k) lines

-- line k behind the header is due and missing, or it is not of its form; a line `c` behind the definitions is no bad line
abbrev pub IsBad : Header → ℕ → List (List ℕ) → Type 0
IsBad h k [] = k < due h
IsBad h k (line ∷ lines) = (is_formed h k line ≡ false) × (due h ≤ k → is_comment line ≡ false)

-- this is the number, counted from 1, of the first line that is not of its form, or that is due and missing
pub data IsFirstBadLine (bytes : List ℕ) (number : ℕ) : Type 0 where
  NoLine : lines_of bytes ≡ [] → number ≡ 1 → IsFirstBadLine bytes number
  NoHeader : (line : List ℕ) (rest : List (List ℕ)) → lines_of bytes ≡ line ∷ rest → header_of (words_of line) ≡ None
      → number ≡ 1 → IsFirstBadLine bytes number
  BadLine : (h : Header) (line : List ℕ) (before rest : List (List ℕ))
      → lines_of bytes ≡ line ∷ (before ++ rest) → header_of (words_of line) ≡ Some h
      → AreFormed h 0 before → IsBad h (length before) rest → number ≡ length before + 2 → IsFirstBadLine bytes number
