-- Names that differ.
use Rattle.std.proofs.Common.{◌≢◌, ℕ, zero, suc, ◌<◌, List, [], ◌∷◌, ◌++◌, length, get_or, sym, arith}
use Rattle.blif_text.specs.Library.{Differ}

-- none of the names is this one
abbrev pub IsOther : List ℕ → List (List ℕ) → Type 0
IsOther name [] = Unit {0}
IsOther name (w ∷ ws) = (name ≢ w) × IsOther name ws

-- no name is one of those behind it
abbrev pub AreApart : List (List ℕ) → Type 0
AreApart [] = Unit {0}
AreApart (w ∷ ws) = IsOther w ws × AreApart ws

other_at : (name : List ℕ) (ws : List (List ℕ)) (k : ℕ) (d : List ℕ) → IsOther name ws → k < length ws → name ≢ get_or ws k d
other_at name [] k d o lt = absurd (omega arith)
other_at name (w ∷ ws) zero d o lt = o.0
other_at name (w ∷ ws) (suc k) d o lt = other_at name ws k d o.1 (omega arith)

pub other_from : (name : List ℕ) (ws : List (List ℕ)) → ((k : ℕ) → k < length ws → get_or ws k [] ≢ name) → IsOther name ws
other_from name [] none = tt
other_from name (w ∷ ws) none = (λ e. none 0 (omega arith) (sym e), other_from name ws (λ k lt. none (suc k) (omega arith)))

pub apart_from : (ws : List (List ℕ)) → ((i j : ℕ) → i < j → j < length ws → get_or ws i [] ≢ get_or ws j []) → AreApart ws
apart_from [] differ = tt
apart_from (w ∷ ws) differ = (other_from w ws (λ k lt e. differ 0 (suc k) (omega arith) (omega arith) (sym e)), apart_from ws (λ i j less lt. differ (suc i) (suc j) (omega arith) (omega arith)))

pub differ_from : (ws : List (List ℕ)) → AreApart ws → Differ ws
differ_from [] a i j d less lt = absurd (omega arith)
differ_from (w ∷ ws) a zero zero d less lt = absurd (omega arith)
differ_from (w ∷ ws) a zero (suc j) d less lt = other_at w ws j d a.0 (omega arith)
differ_from (w ∷ ws) a (suc i) zero d less lt = absurd (omega arith)
differ_from (w ∷ ws) a (suc i) (suc j) d less lt = differ_from ws a.1 i j d (omega arith) (omega arith)

other_put : (name c : List ℕ) (xs ys : List (List ℕ)) → name ≢ c → IsOther name (xs ++ ys) → IsOther name ((xs ++ c ∷ []) ++ ys)
other_put name c [] ys ne o = (ne, o)
other_put name c (x ∷ xs) ys ne o = (o.0, other_put name c xs ys ne o.1)

-- one name more among names that differ
pub apart_put : (c : List ℕ) (xs ys : List (List ℕ)) → AreApart (xs ++ ys) → IsOther c (xs ++ ys) → AreApart ((xs ++ c ∷ []) ++ ys)
apart_put c [] ys a o = (o, a)
apart_put c (x ∷ xs) ys a o = (other_put x c xs ys (λ e. o.0 (sym e)) a.0, apart_put c xs ys a.1 o.1)

other_left : (name : List ℕ) (xs ys : List (List ℕ)) → IsOther name (xs ++ ys) → IsOther name xs
other_left name [] ys o = tt
other_left name (x ∷ xs) ys o = (o.0, other_left name xs ys o.1)

pub apart_left : (xs ys : List (List ℕ)) → AreApart (xs ++ ys) → AreApart xs
apart_left [] ys a = tt
apart_left (x ∷ xs) ys a = (other_left x xs ys a.0, apart_left xs ys a.1)
