-- The names of the guarded design never meet.
use Rattle.std.proofs.Common.{◌≡◌, ◌≢◌, ℕ, zero, suc, ◌+◌, ◌<◌, true, List, [], ◌∷◌, ◌++◌, refl, sym, ◌∙◌, arith, append_assoc}
use Rattle.std.specs.Prelude.{codes}
use Rattle.tmr_base.specs.Names.{is_name, clock_text}
use Rattle.tmr_base.proofs.NameLaws.{name_append}
use Rattle.dwc.specs.Guard.{twin_text}

-- equal lists end alike
ends_alike : (xs ys : List ℕ) (a b : ℕ) → xs ++ a ∷ [] ≡ ys ++ b ∷ [] → (xs ≡ ys) × (a ≡ b)
ends_alike [] [] a b e = (refl, cc)
ends_alike [] (y ∷ []) a b e = absurd (cc)
ends_alike [] (y ∷ z ∷ ys) a b e = absurd (cc)
ends_alike (x ∷ []) [] a b e = absurd (cc)
ends_alike (x ∷ z ∷ xs) [] a b e = absurd (cc)
ends_alike (x ∷ xs) (y ∷ ys) a b e =
    let tails : xs ++ a ∷ [] ≡ ys ++ b ∷ [] = cc in
    let heads : x ≡ y = cc in
    let rest = ends_alike xs ys a b tails in
    let same : xs ≡ ys = rest.0 in
    (cc, rest.1)

-- a tilde and one byte more
pub tailed : List ℕ → ℕ → List ℕ
tailed x b = x ++ 126 ∷ b ∷ []

-- two names with such tails
pub tails_alike : (xs ys : List ℕ) (a b : ℕ) → tailed xs a ≡ tailed ys b → (xs ≡ ys) × (a ≡ b)
unfolding tailed
tails_alike xs ys a b e =
    let both = ends_alike (xs ++ 126 ∷ []) (ys ++ 126 ∷ []) a b (append_assoc xs (126 ∷ []) (a ∷ []) ∙ (e ∙ sym (append_assoc ys (126 ∷ []) (b ∷ [])))) in
    ((ends_alike xs ys 126 126 both.0).0, both.1)

pub tailed_is_name : (x : List ℕ) (b : ℕ) → is_name x ≡ true → is_name (126 ∷ b ∷ []) ≡ true → is_name (tailed x b) ≡ true
unfolding tailed
tailed_is_name x b h g = name_append x (126 ∷ b ∷ []) h g

pub twin_is_name : (x : List ℕ) (c : ℕ) → c < 2 → is_name x ≡ true → is_name (tailed x (48 + c)) ≡ true
twin_is_name x zero l h = tailed_is_name x 48 h refl
twin_is_name x (suc zero) l h = tailed_is_name x 49 h refl
twin_is_name x (suc (suc c)) l h = absurd (omega arith)

pub twin_tailed : (x : List ℕ) (c : ℕ) → twin_text x c ≡ tailed x (48 + c)
unfolding tailed
twin_tailed x c = refl

pub comparator_tailed : (x : List ℕ) → x ++ codes "~e" ≡ tailed x 101
unfolding tailed
comparator_tailed x = refl

pub alarm_tailed : codes "alarm~z" ≡ tailed (codes "alarm") 122
unfolding tailed
alarm_tailed = refl

pub clock_tailed : (x : List ℕ) → clock_text x ≡ tailed x 107
unfolding tailed
clock_tailed x = refl

pub clock_is_not_nil : (x : List ℕ) → clock_text x ≢ codes "NIL"
clock_is_not_nil x e =
    let parts = ends_alike (x ++ 126 ∷ []) (78 ∷ 73 ∷ []) 107 76 (append_assoc x (126 ∷ []) (107 ∷ []) ∙ e) in
    omega (arith, parts.1)

pub clock_is_name : (x : List ℕ) → is_name x ≡ true → is_name (clock_text x) ≡ true
clock_is_name x h = name_append x (126 ∷ 107 ∷ []) h refl
