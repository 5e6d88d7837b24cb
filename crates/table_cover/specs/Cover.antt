-- A table's cover and its value, as the Berkeley Logic Interchange Format has them.
use Rattle.std.specs.Prelude.{◌≡◌, ℕ, ◌<◌, ◌^◌, Bool, true, not, ◌&&◌, ◌||◌, nat_eq, List, [], ◌∷◌, length, All, if◌then◌else◌, zip}
use Rattle.std.specs.List.{list_all, list_any}

-- how many marks a row has, whether the rows tell where the value is true, and the rows
pub record PlainCover : Type 0 where
  pub width : ℕ
  pub is_on : Bool
  pub rows : List (List ℕ)

-- the mark `0` wants the bit off, `1` wants it on, and `-` takes both
abbrev pub mark_fits : ℕ → Bool → Bool
mark_fits mark b = if nat_eq mark 48 then not b else if nat_eq mark 49 then b else true

-- a row matches where each mark fits the bit at its place
abbrev pub row_matches : List ℕ → List Bool → Bool
row_matches row bits = list_all (λ p. mark_fits p.0 p.1) (zip row bits)

abbrev pub some_row_matches : List (List ℕ) → List Bool → Bool
some_row_matches rows bits = list_any (λ row. row_matches row bits) rows

-- on these bits: with polarity on, true exactly where some row matches; with polarity off, exactly where none does
unfoldable pub cover_value : PlainCover → List Bool → Bool
cover_value k bits = if k.is_on then some_row_matches k.rows bits else not (some_row_matches k.rows bits)

-- the value of two or more of three bits
abbrev pub majority_of : Bool → Bool → Bool → Bool
majority_of a b c = if a then b || c else b && c

-- three wide, and the majority on all eight rows of bits
pub record IsMajority (k : PlainCover) : Type 0 where
  pub three : k.width ≡ 3
  pub votes : (a b c : Bool) → cover_value k (a ∷ b ∷ c ∷ []) ≡ majority_of a b c

-- `0`, `1` or `-`
abbrev pub is_mark : ℕ → Bool
is_mark b = nat_eq b 48 || nat_eq b 49 || nat_eq b 45

-- as many marks as the cover is wide
abbrev pub IsRow : ℕ → List ℕ → Type 0
IsRow width row = (length row ≡ width) × (list_all is_mark row ≡ true)

-- what each cover keeps
pub record IsCover (k : PlainCover) : Type 0 where
  pub rows : All (λ row. IsRow k.width row) k.rows
  pub few : length k.rows < 2 ^ 32
  pub empty_is_on : k.rows ≡ [] → k.is_on ≡ true
