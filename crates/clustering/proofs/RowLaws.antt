-- Rows in which numbers are noted, and the first of a list.
use Rattle.std.proofs.Common.{◌≡◌, ◌≤◌, ℕ, Bool, true, false, List, [], ◌∷◌, ◌++◌, length, take, refl, ap, ◌∙◌, set, get_or, if◌then◌else◌}
use Rattle.std.proofs.lemmas.List.{length-set, length-take-le}
use Rattle.node_reads.specs.Noting.{ends_in, noted}

-- there are as many rows as before
pub noted_length : (rows : List (List ℕ)) (x k : ℕ) → length (noted rows x k) ≡ length rows
noted_length rows x k = go (ends_in (get_or rows x []) k)
  where
    go : (b : Bool) → length (if b then rows else set rows x (get_or rows x [] ++ k ∷ [])) ≡ length rows
    go true = refl
    go false = length-set rows x (get_or rows x [] ++ k ∷ [])

-- the first k of a list are k, if it has so many
pub taken_long : {A : Type 0} (k : ℕ) (old new : List A) → k ≤ length old → new ≡ take k old → length new ≡ k
taken_long k old new le is = ap length is ∙ length-take-le k old le
