-- The values that a text of waves tells.
use Rattle.std.specs.Prelude.{◌≡◌, ◌≢◌, ℕ, ◌==◌, nat_lt, not, Bool, true, false, List, [], ◌∷◌, ◌++◌, reverse, Option, Some, None, if◌then◌else◌}
use Rattle.std.specs.List.{slice_split}
use Rattle.std.specs.Str.{bytes_eq}
use Rattle.tmr_base.specs.Numbers.{number_of}
use Rattle.vcd_text.specs.Text.{change_line}

abbrev pub is_line_feed : ℕ → Bool
is_line_feed b = b == 10

-- the lines of a text, the last first
abbrev pub latest_lines : List ℕ → List (List ℕ)
latest_lines bytes = reverse (slice_split is_line_feed bytes)

-- u, where the line is `#u`
abbrev pub time_of : List ℕ → Option ℕ
time_of [] = None
time_of (b ∷ bytes) = if b == 35 then number_of 64 bytes else None

-- the value, where the line is a value and this code
abbrev pub change_of : List ℕ → List ℕ → Option Bool
change_of code line =
    if bytes_eq line (change_line true code) then Some true
    else (if bytes_eq line (change_line false code) then Some false else None)

-- the first, or else the second
abbrev pub or_else : {A : Type 0} → Option A → Option A → Option A
or_else None other = other
or_else (Some x) other = Some x

abbrev pub is_by : Option ℕ → ℕ → Bool
is_by None t = false
is_by (Some u) t = not (nat_lt t u)

-- of these lines, the last first: the time of the nearest `#u`
unfoldable pub nearest_time : List (List ℕ) → Option ℕ
nearest_time [] = None
nearest_time (line ∷ earlier) = or_else (time_of line) (nearest_time earlier)

-- of these lines, the last first: the value of the last change line with this code among those for which the nearest time before is within bounds
unfoldable pub last_change : (Option ℕ → Bool) → List ℕ → List (List ℕ) → Option Bool
last_change within code [] = None
last_change within code (line ∷ earlier) =
    if within (nearest_time earlier) then or_else (change_of code line) (last_change within code earlier) else last_change within code earlier

-- what a text tells of this code in cycle t: the value of its last change line for which the nearest `#u` before it has u at most t
abbrev pub vcd_at : List ℕ → List ℕ → ℕ → Option Bool
vcd_at bytes code t = last_change (λ u. is_by u t) code (latest_lines bytes)

-- no bound: any time, and none
abbrev pub ever : Option ℕ → Bool
ever u = true

-- no change line repeats the value that stands before it, which is that of the last change line with its code
abbrev pub RepeatsNothing : List ℕ → Type 0
RepeatsNothing bytes =
    (later earlier : List (List ℕ)) (code : List ℕ) (value : Bool) → latest_lines bytes ≡ later ++ change_line value code ∷ earlier
    → last_change ever code earlier ≢ Some value
