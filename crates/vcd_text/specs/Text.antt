-- The text of waves: the lines that declare the names, and then the lines of their changes.
use Rattle.std.specs.Prelude.{ℕ, zero, suc, ◌+◌, ◌-◌, ◌*◌, ◌/◌, ◌%◌, ◌==◌, ◌||◌, nat_lt, not, Bool, true, false, List, [], ◌∷◌, ◌++◌, length, codes, slice_index_or, if◌then◌else◌}
use Rattle.std.specs.List.{flat_map}
use Rattle.std.specs.Fmt.{decimal}

-- the lowest digits of k in base 94, as the bytes 33 to 126, the least first; at most so many
unfoldable pub digits : ℕ → ℕ → List ℕ
digits zero k = []
digits (suc most) k = (33 + k % 94) ∷ (if nat_lt k 94 then [] else digits most (k / 94))

-- CODE of number k: all its digits, of which there are no more than k + 1
abbrev pub code_text : ℕ → List ℕ
code_text k = digits (suc k) k

-- the value of name k in cycle t, where the values of `count` names stand cycle by cycle
abbrev pub value_at : List Bool → ℕ → ℕ → ℕ → Bool
value_at values count t k = slice_index_or values (t * count + k) false

-- is one of two values true alone
abbrev pub differ : Bool → Bool → Bool
differ true b = not b
differ false b = b

-- has name k another value in cycle t than in the cycle before; in cycle 0 each has
abbrev pub is_changed : List Bool → ℕ → ℕ → ℕ → Bool
is_changed values count t k = (t == 0) || differ (value_at values count t k) (value_at values count (t - 1) k)

-- `$var wire 1 CODE NAME $end`
abbrev pub var_line : ℕ → List ℕ → List ℕ
var_line k name = codes "$var wire 1 " ++ (code_text k ++ (32 ∷ (name ++ codes " $end")))

-- one such line for each name, from number k on
abbrev pub var_lines : ℕ → List (List ℕ) → List (List ℕ)
var_lines k [] = []
var_lines k (name ∷ names) = var_line k name ∷ var_lines (k + 1) names

-- `#T`
abbrev pub time_line : ℕ → List ℕ
time_line t = 35 ∷ decimal t

-- `1` or `0`
abbrev pub bit : Bool → ℕ
bit true = 49
bit false = 48

-- the value and the code
abbrev pub change_line : Bool → List ℕ → List ℕ
change_line value code = bit value ∷ code

-- the line of name k in cycle t, where its value is another
abbrev pub change_lines : List Bool → ℕ → ℕ → ℕ → List (List ℕ)
change_lines values count t k = if is_changed values count t k then change_line (value_at values count t k) (code_text k) ∷ [] else []

-- the lines of cycle t for so many names, from number k on
unfoldable pub changes_from : List Bool → ℕ → ℕ → ℕ → ℕ → List (List ℕ)
changes_from values count t k zero = []
changes_from values count t k (suc more) = change_lines values count t k ++ changes_from values count t (k + 1) more

-- are there lines
abbrev pub has_lines : List (List ℕ) → Bool
has_lines [] = false
has_lines (line ∷ lines) = true

-- `#t` and these lines, where there are lines
abbrev pub timed : ℕ → List (List ℕ) → List (List ℕ)
timed t [] = []
timed t (line ∷ lines) = time_line t ∷ line ∷ lines

-- the lines of cycle t
abbrev pub cycle_lines : List Bool → ℕ → ℕ → List (List ℕ)
cycle_lines values count t = timed t (changes_from values count t 0 count)

-- the lines of so many cycles, from cycle t on
unfoldable pub cycles_from : List Bool → ℕ → ℕ → ℕ → List (List ℕ)
cycles_from values count t zero = []
cycles_from values count t (suc more) = cycle_lines values count t ++ cycles_from values count (t + 1) more

-- `#T` with the number of cycles, where there are cycles
abbrev pub end_lines : ℕ → List (List ℕ)
end_lines zero = []
end_lines (suc t) = time_line (suc t) ∷ []

-- the lines before the first cycle
abbrev pub head_lines : List (List ℕ) → List (List ℕ)
head_lines names =
    codes "$timescale 1 ns $end" ∷
    codes "$scope module tmr $end" ∷
    (var_lines 0 names ++ (codes "$upscope $end" ∷ codes "$enddefinitions $end" ∷ []))

-- all lines
unfoldable pub vcd_lines : List (List ℕ) → ℕ → List Bool → List (List ℕ)
vcd_lines names cycles values = head_lines names ++ (cycles_from values (length names) 0 cycles ++ end_lines cycles)

-- a line and its line feed
abbrev pub line_text : List ℕ → List ℕ
line_text line = line ++ 10 ∷ []

abbrev pub lines_text : List (List ℕ) → List ℕ
lines_text lines = flat_map line_text lines

-- the text
abbrev pub vcd_text : List (List ℕ) → ℕ → List Bool → List ℕ
vcd_text names cycles values = lines_text (vcd_lines names cycles values)
