-- Rows kept in vectors.
use Rattle.std.proofs.Common.{◌≡◌, ℕ, ◌+◌, ◌<◌, List, [], ◌∷◌, ◌++◌, length, map, set, get_or, replicate, sym, ◌∙◌, ap}
use Rattle.std.proofs.lemmas.List.{map-set, map-append, replicate_more, get_or-map}

-- one entry put behind a row
pub row_pushed : {V A : Type 0} (f : V → List A) (rows : List V) (i : ℕ) (v w : V) (y : A) → i < length rows → v ≡ get_or rows i v → f w ≡ f v ++ y ∷ [] → map f (set rows i w) ≡ set (map f rows) i (get_or (map f rows) i [] ++ y ∷ [])
row_pushed f rows i v w y l at e =
    let was : get_or (map f rows) i [] ≡ f v = get_or-map f rows i v [] l ∙ ap f (sym at) in
    map-set f rows i w ∙ ap (λ r. set (map f rows) i r) (e ∙ ap (λ r. r ++ y ∷ []) (sym was))

pub row_added : {V A : Type 0} (f : V → List A) (rows rows' : List V) (v : V) (k : ℕ) → map f rows ≡ replicate k [] → f v ≡ [] → rows' ≡ rows ++ v ∷ [] → map f rows' ≡ replicate (k + 1) []
row_added f rows rows' v k e empty more =
    ap (map f) more ∙ (map-append f rows (v ∷ []) ∙ (ap (λ r. map f rows ++ r ∷ []) empty ∙ (ap (λ r. r ++ [] ∷ []) e ∙ replicate_more k [])))
