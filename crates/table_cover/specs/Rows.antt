-- Rows of one width that stand one after the other in one list.
use Rattle.std.specs.Prelude.{ℕ, zero, suc, List, [], ◌∷◌, take, drop}

-- so many rows of this width
abbrev pub cut_rows : {A : Type 0} → ℕ → ℕ → List A → List (List A)
cut_rows width zero marks = []
cut_rows width (suc count) marks = take width marks ∷ cut_rows width count (drop width marks)
