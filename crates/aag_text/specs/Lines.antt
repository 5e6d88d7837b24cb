-- What a file must be, line by line.
use Rattle.std.specs.Prelude.{◌≡◌, ℕ, ◌+◌, ◌*◌, ◌/◌, ◌%◌, ◌==◌, nat_lt, Bool, true, false, not, ◌&&◌, ◌||◌, List, [], ◌∷◌, ◌++◌, map, length, drop, codes, Option, Some, None, if◌then◌else◌, slice_index_or}
use Rattle.std.specs.List.{slice_split}
use Rattle.std.specs.Str.{bytes_eq}
use Rattle.tmr_base.specs.Numbers.{number_of}
pub use Rattle.text_lines.specs.Lines.{is_line_feed}
use Rattle.aag_text.specs.declared.aig.Header.{Header}
use Rattle.aag_text.specs.declared.aig.Literal.{Literal}
use Rattle.aag_text.specs.declared.aig.Latch.{Latch}
use Rattle.aag_text.specs.declared.aig.Gate.{Gate}
use Rattle.aag_text.specs.declared.aig.Start.{Start}
use Rattle.aag_text.specs.declared.aig.Start.TheVariants.{Zero, One, Free}
use Rattle.aag_text.specs.Aig.{PlainAig}

-- ---- lines and words

abbrev pub is_blank : ℕ → Bool
is_blank b = b == 32

-- a line without the carriage return at its end, if there is one
abbrev pub without_return : List ℕ → List ℕ
without_return [] = []
without_return (b ∷ []) = if b == 13 then [] else b ∷ []
without_return (b ∷ c ∷ line) = b ∷ without_return (c ∷ line)

-- of the pieces between line feeds, each but the last is a line, and the last is one where it is not empty
abbrev pub lines_from : List (List ℕ) → List (List ℕ)
lines_from [] = []
lines_from ([] ∷ []) = []
lines_from ((b ∷ piece) ∷ []) = (b ∷ piece) ∷ []
lines_from (piece ∷ next ∷ pieces) = without_return piece ∷ lines_from (next ∷ pieces)

-- the lines of a file, each ended by a line feed or by the end
abbrev pub lines_of : List ℕ → List (List ℕ)
lines_of bytes = lines_from (slice_split is_line_feed bytes)

-- what stands between the blanks of a line
abbrev pub words_of : List ℕ → List (List ℕ)
words_of line = slice_split is_blank line

abbrev pub word : List (List ℕ) → ℕ → List ℕ
word words i = slice_index_or words i []

-- ---- the parts of lines, or None

-- one after the other, up to the first None
infixl 10 ◌>>=◌
abbrev pub ◌>>=◌ : {A B : Type 0} → Option A → (A → Option B) → Option B
None >>= f = None
(Some x) >>= f = f x

abbrev pub hold : Bool → Option (Unit {0})
hold b = if b then Some tt else None

-- literal 2 v + s is variable v, negated where s is 1
abbrev pub literal_of : ℕ → Literal
literal_of number = record { variable = number / 2; negated = number % 2 == 1 }

-- a literal of at most 2 m + 1
unfoldable pub literal_in : ℕ → List ℕ → Option Literal
literal_in m text = do
  number ← number_of 32 text
  _ ← hold (not (nat_lt (2 * m + 1) number))
  Some (literal_of number)

-- the variable of an even literal of at least 2
unfoldable pub variable_in : ℕ → List ℕ → Option ℕ
variable_in m text = do
  l ← literal_in m text
  _ ← hold (not l.negated && nat_lt 0 l.variable)
  Some l.variable

-- ---- the forms of lines

-- `aag M I L O A`
unfoldable pub header_of : List (List ℕ) → Option Header
header_of words = do
  _ ← hold (length words == 6 && bytes_eq (word words 0) (codes "aag"))
  most ← number_of 32 (word words 1)
  inputs ← number_of 32 (word words 2)
  latches ← number_of 32 (word words 3)
  outputs ← number_of 32 (word words 4)
  gates ← number_of 32 (word words 5)
  Some (record { most = most; inputs = inputs; latches = latches; outputs = outputs; gates = gates })

-- an input: its literal, here its variable
unfoldable pub input_of : ℕ → List (List ℕ) → Option ℕ
input_of m words = do
  _ ← hold (length words == 1)
  variable_in m (word words 0)

-- 0, 1, or the latch's own literal
abbrev pub start_named : ℕ → Option ℕ → Option Start
start_named v None = None
start_named v (Some n) =
    if n == 0 then Some Zero
    else if n == 1 then Some One
    else if n == 2 * v then Some Free
    else None

-- no third word is 0
abbrev pub start_of : ℕ → List (List ℕ) → Option Start
start_of v [] = Some Zero
start_of v (w ∷ ws) = start_named v (number_of 32 w)

-- a latch: `lhs next` or `lhs next init`
unfoldable pub latch_of : ℕ → List (List ℕ) → Option Latch
latch_of m words = do
  _ ← hold (length words == 2 || length words == 3)
  v ← variable_in m (word words 0)
  next ← literal_in m (word words 1)
  start ← start_of v (drop 2 words)
  Some (record { variable = v; next = next; start = start })

-- an output: its literal
unfoldable pub output_of : ℕ → List (List ℕ) → Option Literal
output_of m words = do
  _ ← hold (length words == 1)
  literal_in m (word words 0)

-- a gate: `lhs rhs0 rhs1`
unfoldable pub gate_of : ℕ → List (List ℕ) → Option Gate
gate_of m words = do
  _ ← hold (length words == 3)
  v ← variable_in m (word words 0)
  left ← literal_in m (word words 1)
  right ← literal_in m (word words 2)
  Some (record { variable = v; left = left; right = right })

-- how many places a letter has: `i` those of the inputs, `l` those of the latches, `o` those of the outputs
abbrev pub symbol_count : Header → ℕ → ℕ
symbol_count h letter =
    if letter == 105 then h.inputs
    else if letter == 108 then h.latches
    else if letter == 111 then h.outputs
    else 0

abbrev pub is_below : Option ℕ → ℕ → Bool
is_below None count = false
is_below (Some k) count = nat_lt k count

abbrev pub is_symbol_word : Header → List ℕ → Bool
is_symbol_word h [] = false
is_symbol_word h (letter ∷ digits) = is_below (number_of 32 digits) (symbol_count h letter)

-- a symbol: `i`, `l` or `o` with a number below its count, a blank, and any text
unfoldable pub is_symbol : Header → List (List ℕ) → Bool
is_symbol h words = nat_lt 1 (length words) && is_symbol_word h (word words 0)

-- ---- the whole file

-- each line is of this form, and these are what they say, in order
abbrev pub AreOf : {A : Type 0} → (List (List ℕ) → Option A) → List (List ℕ) → List A → Type 0
AreOf form lines items = map (λ line. form (words_of line)) lines ≡ map Some items

abbrev pub AreSymbols : Header → List (List ℕ) → Type 0
AreSymbols h [] = Unit {0}
AreSymbols h (line ∷ lines) = (is_symbol h (words_of line) ≡ true) × AreSymbols h lines

abbrev pub is_comment : List ℕ → Bool
is_comment line = bytes_eq line (codes "c")

-- nothing, or a line `c` and anything after it
abbrev pub IsEnd : List (List ℕ) → Type 0
IsEnd [] = Unit {0}
IsEnd (line ∷ lines) = is_comment line ≡ true

-- so many of each as the header says
pub record HasCounts (h : Header) (a : PlainAig) : Type 0 where
  pub inputs : length a.inputs ≡ h.inputs
  pub latches : length a.latches ≡ h.latches
  pub outputs : length a.outputs ≡ h.outputs
  pub gates : length a.gates ≡ h.gates

-- the lines are those of a header, of the graph's inputs, latches, outputs and gates, of symbols, and of a comment
pub record IsFile (bytes : List ℕ) (a : PlainAig) : Type 0 where
  pub header : Header
  pub first : List ℕ
  pub inputs : List (List ℕ)
  pub latches : List (List ℕ)
  pub outputs : List (List ℕ)
  pub gates : List (List ℕ)
  pub symbols : List (List ℕ)
  pub comment : List (List ℕ)
  pub lines : lines_of bytes ≡ first ∷ (inputs ++ (latches ++ (outputs ++ (gates ++ (symbols ++ comment)))))
  pub is_header : header_of (words_of first) ≡ Some header
  pub counts : HasCounts header a
  pub are_inputs : AreOf (input_of header.most) inputs a.inputs
  pub are_latches : AreOf (latch_of header.most) latches a.latches
  pub are_outputs : AreOf (output_of header.most) outputs a.outputs
  pub are_gates : AreOf (gate_of header.most) gates a.gates
  pub are_symbols : AreSymbols header symbols
  pub ends : IsEnd comment
