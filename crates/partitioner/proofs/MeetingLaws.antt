-- One more node of a row met.
use Rattle.std.proofs.Common.{◌≡◌, ℕ, zero, suc, ◌+◌, ◌<◌, ◌≤◌, ◌⊎◌, inl, inr, Bool, true, false, eqb, not, ◌&&◌, ◌||◌, List, length, refl, sym, ◌∙◌, ap, arith, get_or, take, replicate}
use Rattle.std.proofs.lemmas.List.{length-replicate, get_or-replicate, get_or_past}
use Rattle.std.specs.List.{list_any}
use Rattle.std.proofs.lemmas.Bool.{cases_lt, cases_eq, eq-eqb, ne_eqb}
use Rattle.std.proofs.lemmas.List.Folds.{list_any_more}
use Rattle.partitioner.specs.Below.{one_if, count_below}
use Rattle.partitioner.specs.Private.Meeting.{is_met}
use Rattle.partitioner.proofs.BelowLaws.{count_changed, count_same}

spread : (b c d : Bool) → (b && (c || d)) ≡ ((b && c) || (b && d))
spread true c d = refl
spread false c d = refl

at_place : (own p q : ℕ) → (not (eqb own q) && eqb p q) ≡ (not (eqb own p) && eqb p q)
at_place own p q = go (cases_eq p q)
  where
    no : (b c d : Bool) → d ≡ false → (b && d) ≡ (c && d)
    no b c d e = ap (λ (d : Bool). b && d) e ∙ (both b c ∙ sym (ap (λ (d : Bool). c && d) e))
      where
        both : (b c : Bool) → (b && false) ≡ (c && false)
        both true true = refl
        both true false = refl
        both false true = refl
        both false false = refl

    go : (p ≡ q) ⊎ (p ≡ q → ⊥) → (not (eqb own q) && eqb p q) ≡ (not (eqb own p) && eqb p q)
    go (inl e) = ap (λ (x : ℕ). not (eqb own x) && eqb p q) (sym e)
    go (inr ne) = no (not (eqb own q)) (not (eqb own p)) (eqb p q) (ne_eqb p q ne)

pub met_step : (own : ℕ) (of row : List ℕ) (j p q : ℕ) → j < length row → get_or of (get_or row j 0) 0 ≡ p → is_met own of row (j + 1) q ≡ (is_met own of row j q || (not (eqb own p) && eqb p q))
met_step own of row j p q l at =
    ap (λ (b : Bool). not (eqb own q) && b) (list_any_more (λ y. eqb (get_or of y 0) q) row j 0 l)
    ∙ (spread (not (eqb own q)) (list_any (λ y. eqb (get_or of y 0) q) (take j row)) (eqb (get_or of (get_or row j 0) 0) q)
    ∙ ap (λ (b : Bool). is_met own of row j q || b) (ap (λ (k : ℕ). not (eqb own q) && eqb k q) at ∙ at_place own p q))

counted : (o any : Bool) → one_if ((not o && any) || (not o && true)) ≡ one_if (not o && any) + one_if (not o && not (not o && any))
counted true true = refl
counted true false = refl
counted false true = refl
counted false false = refl

pub met_more : (own : ℕ) (of row : List ℕ) (j p bound : ℕ) (new : Bool) → j < length row → get_or of (get_or row j 0) 0 ≡ p → p < bound → new ≡ (not (eqb own p) && not (is_met own of row j p)) → count_below bound (is_met own of row (j + 1)) ≡ count_below bound (is_met own of row j) + one_if new
met_more own of row j p bound new l at below e =
    let balance = count_changed bound p (is_met own of row j) (is_met own of row (j + 1)) below (λ q h ne. sym (elsewhere q ne)) in
    let here : one_if (is_met own of row (j + 1) p) ≡ one_if (is_met own of row j p) + one_if new =
    ap one_if (met_step own of row j p p l at ∙ ap (λ (b : Bool). is_met own of row j p || (not (eqb own p) && b)) (eq-eqb p p refl))
    ∙ (counted (eqb own p) (list_any (λ y. eqb (get_or of y 0) p) (take j row)) ∙ ap (λ (b : Bool). one_if (is_met own of row j p) + one_if b) (sym e)) in
    omega (arith, balance, here)
  where
    or_no : (b c : Bool) → (b || (c && false)) ≡ b
    or_no true true = refl
    or_no true false = refl
    or_no false true = refl
    or_no false false = refl

    elsewhere : (q : ℕ) → (q ≡ p → ⊥) → is_met own of row (j + 1) q ≡ is_met own of row j q
    elsewhere q ne = met_step own of row j p q l at ∙ (ap (λ (b : Bool). is_met own of row j q || (not (eqb own p) && b)) (ne_eqb p q (λ h. ne (sym h))) ∙ or_no (is_met own of row j q) (not (eqb own p)))

pub met_none : (own : ℕ) (of row : List ℕ) (q : ℕ) → is_met own of row 0 q ≡ false
met_none own of row q = no (not (eqb own q))
  where
    no : (b : Bool) → (b && false) ≡ false
    no true = refl
    no false = refl

zeros : (bound : ℕ) → count_below bound (λ q. false) ≡ 0
unfolding count_below
zeros zero = refl
zeros (suc k) = omega (arith, zeros k)

pub met_none_counted : (own : ℕ) (of row : List ℕ) (bound : ℕ) → count_below bound (is_met own of row 0) ≡ 0
met_none_counted own of row bound = count_same bound (is_met own of row 0) (λ q. false) (λ q l. met_none own of row q) ∙ zeros bound

-- in turn 0 nothing is met
pub none_past : (n q : ℕ) → get_or (replicate n 0) q 0 ≤ 0
none_past n q = go (cases_lt q n)
  where
    go : (q < n) ⊎ (n ≤ q) → get_or (replicate n 0) q 0 ≤ 0
    go (inl l) = omega (arith, get_or-replicate {A = ℕ} n q 0 0 l)
    go (inr l) = omega (arith, get_or_past {X = ℕ} (replicate n 0) q 0 (omega (arith, length-replicate {A = ℕ} n 0, l)))
