-- Joined lines, and their tokens: a line may have a comment, and one that ends in a backslash goes on in the next.
--
-- This is the form of lines of "Berkeley Logic Interchange Format (BLIF)", University of California, Berkeley, 1992.
use Rattle.std.specs.Prelude.{ℕ, ◌+◌, ◌-◌, ◌==◌, Bool, ◌||◌, not, List, [], ◌∷◌, ◌++◌, length, take, filter, if◌then◌else◌}
use Rattle.std.specs.List.{slice_index, slice_split, before_first, suffix_len}

-- Within a line: first a CR that is its last byte is dropped, then `#` and all behind it.

abbrev pub last_byte : List ℕ → ℕ
last_byte text = slice_index text (length text - 1)

abbrev pub all_but_last : {X : Type 0} → List X → List X
all_but_last xs = take (length xs - 1) xs

abbrev pub is_hash : ℕ → Bool
is_hash b = b == 35

-- the line without a CR that is its last byte
abbrev pub without_cr : List ℕ → List ℕ
without_cr line = if last_byte line == 13 then all_but_last line else line

-- the line without a CR at its end, and then without its comment
unfoldable pub content : List ℕ → List ℕ
content line = before_first is_hash (without_cr line)

-- Joined lines. A line whose content ends in a backslash, blanks aside, is joined with the next.

-- a space or a tab
abbrev pub is_blank : ℕ → Bool
is_blank b = (b == 32) || (b == 9)

-- the text without the blanks at its end
unfoldable pub trimmed : List ℕ → List ℕ
trimmed text = take (length text - suffix_len is_blank text) text

-- blanks aside, its content ends in a backslash
unfoldable pub joins_next : List ℕ → Bool
joins_next line = last_byte (trimmed (content line)) == 92

-- what the line gives to the joined line: a backslash that ends it and the blanks behind it are one blank
unfoldable pub part : List ℕ → List ℕ
part line = if joins_next line then all_but_last (trimmed (content line)) ++ 32 ∷ [] else content line

-- a joined line, with the number of the first of its lines
pub record Joined : Type 0 where
  pub number : ℕ
  pub text : List ℕ

-- the text in front of the first joined line; where there is none, the text still waits for its end, and is left out
unfoldable pub in_front : ℕ → List ℕ → List Joined → List Joined
in_front number text [] = []
in_front number text (next ∷ rest) = record { number = number; text = text ++ next.text } ∷ rest

-- the joined lines of these lines, of which the first has that number
unfoldable pub joined_from : ℕ → List (List ℕ) → List Joined
joined_from number [] = []
joined_from number (line ∷ rest) =
    if joins_next line
    then in_front number (part line) (joined_from (number + 1) rest)
    else record { number = number; text = part line } ∷ joined_from (number + 1) rest

-- the tokens: what stands between blanks
unfoldable pub tokens : List ℕ → List (List ℕ)
tokens text = filter (λ token. not (length token == 0)) (slice_split is_blank text)
