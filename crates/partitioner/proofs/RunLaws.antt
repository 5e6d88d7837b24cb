-- Nodes of a row that stand next to one another in one partition are counted together.
use Rattle.std.proofs.Common.{◌≡◌, ℕ, zero, suc, ◌+◌, ◌-◌, ◌<◌, ◌≤◌, ◌⊎◌, inl, inr, Bool, true, false, cond, eqb, ◌&&◌, List, length, refl, sym, ◌∙◌, ap, subst, arith, get_or, take}
use Rattle.std.specs.List.{count_by}
use Rattle.std.proofs.lemmas.Bool.{cases_eq, eq-eqb, ne_eqb}
use Rattle.std.proofs.lemmas.List.Sums.{sum_by_more}
use Rattle.partitioner.specs.Below.{one_if}

-- how many of the first nodes of a row stand in a partition
abbrev pub standing : List ℕ → List ℕ → ℕ → ℕ → ℕ
standing of row q j = count_by (λ y. eqb (get_or of y 0) q) (take j row)

one_more : (b : Bool) (more : ℕ) → cond b more 0 + cond b 1 0 ≡ cond b (more + 1) 0
one_more true more = refl
one_more false more = refl

no_more : (b : Bool) (none : ℕ) → none ≡ 0 → cond b none 0 ≡ 0
no_more true none e = e
no_more false none e = refl

-- so many nodes more, which all stand in partition q
run_of : (of row : List ℕ) (q r first more : ℕ) → first + more ≤ length row → ((k : ℕ) → first ≤ k → k < first + more → get_or of (get_or row k 0) 0 ≡ q) → standing of row r (first + more) ≡ standing of row r first + cond (eqb q r) more 0
run_of of row q r first zero l stand =
    let e : first + 0 ≡ first = omega arith in
    let same : standing of row r (first + 0) ≡ standing of row r first = ap (standing of row r) e in
    omega (arith, same, no_more (eqb q r) 0 refl)
run_of of row q r first (suc more) l stand =
    let before : standing of row r (first + more) ≡ standing of row r first + cond (eqb q r) more 0 = run_of of row q r first more (omega (arith, l)) (λ k h g. stand k h (omega (arith, g))) in
    let step : standing of row r ((first + more) + 1) ≡ standing of row r (first + more) + one_if (eqb (get_or of (get_or row (first + more) 0) 0) r) = sum_by_more (λ y. one_if (eqb (get_or of y 0) r)) row (first + more) 0 (omega (arith, l)) in
    let here : get_or of (get_or row (first + more) 0) 0 ≡ q = stand (first + more) (omega arith) (omega arith) in
    let one : one_if (eqb (get_or of (get_or row (first + more) 0) 0) r) ≡ cond (eqb q r) 1 0 = ap (λ (p : ℕ). one_if (eqb p r)) here in
    let e : (first + more) + 1 ≡ first + suc more = omega arith in
    let same : standing of row r ((first + more) + 1) ≡ standing of row r (first + suc more) = ap (standing of row r) e in
    let sum : cond (eqb q r) more 0 + cond (eqb q r) 1 0 ≡ cond (eqb q r) (suc more) 0 = one_more (eqb q r) more ∙ ap (λ (k : ℕ). cond (eqb q r) k 0) (omega arith) in
    omega (arith, before, step, one, same, sum)

-- the nodes of a run
run_counted : (of row : List ℕ) (q r first end : ℕ) → first ≤ end → end ≤ length row → ((k : ℕ) → first ≤ k → k < end → get_or of (get_or row k 0) 0 ≡ q) → standing of row r end ≡ standing of row r first + cond (eqb q r) (end - first) 0
run_counted of row q r first end l m stand =
    let e : first + (end - first) ≡ end = omega (arith, l) in
    subst (λ (k : ℕ). standing of row r k ≡ standing of row r first + cond (eqb q r) (end - first) 0) e
    (run_of of row q r first (end - first) (omega (arith, e, m)) (λ k h g. stand k h (omega (arith, g, e))))

-- the nodes of a run, the first of them looked up apart
pub run_from : (of row : List ℕ) (p first end : ℕ) → get_or of (get_or row first 0) 0 ≡ p → ((k : ℕ) → first + 1 ≤ k → k < end → get_or of (get_or row k 0) 0 ≡ p) → (k : ℕ) → first ≤ k → k < end → get_or of (get_or row k 0) 0 ≡ p
run_from of row p first end here later k l m = go (cases_eq k first)
  where
    go : (k ≡ first) ⊎ (k ≡ first → ⊥) → get_or of (get_or row k 0) 0 ≡ p
    go (inl e) = ap (λ (j : ℕ). get_or of (get_or row j 0) 0) e ∙ here
    go (inr ne) = later k (omega (arith, l, ne)) m

-- the counts of node x are right once a run in partition p is counted
pub row_counted : (of row : List ℕ) (x p first end : ℕ) (initial old new : ℕ → ℕ → ℕ) → first ≤ end → end ≤ length row → ((k : ℕ) → first ≤ k → k < end → get_or of (get_or row k 0) 0 ≡ p) → ((z q : ℕ) → old z q ≡ cond (eqb x z) (standing of row q first) (initial z q)) → ((z q : ℕ) → new z q ≡ cond (eqb x z && eqb p q) (old x p + (end - first)) (old z q)) → (z q : ℕ) → new z q ≡ cond (eqb x z) (standing of row q end) (initial z q)
row_counted of row x p first end initial old new l m stand before after z q = go (cases_eq x z) (cases_eq p q)
  where
    run : standing of row q end ≡ standing of row q first + cond (eqb p q) (end - first) 0
    run = run_counted of row p q first end l m stand

    mine : (r : ℕ) → old x r ≡ standing of row r first
    mine r = before x r ∙ ap (λ (b : Bool). cond b (standing of row r first) (initial x r)) (eq-eqb x x refl)

    go : (x ≡ z) ⊎ (x ≡ z → ⊥) → (p ≡ q) ⊎ (p ≡ q → ⊥) → new z q ≡ cond (eqb x z) (standing of row q end) (initial z q)
    go (inl e) (inl f) =
        let both : (eqb x z && eqb p q) ≡ true = ap (λ (b : Bool). b && eqb p q) (eq-eqb x z e) ∙ eq-eqb p q f in
        let now : new z q ≡ old x p + (end - first) = after z q ∙ ap (λ (b : Bool). cond b (old x p + (end - first)) (old z q)) both in
        let was : old x p ≡ standing of row q first = ap (old x) f ∙ mine q in
        let more : cond (eqb p q) (end - first) 0 ≡ end - first = ap (λ (b : Bool). cond b (end - first) 0) (eq-eqb p q f) in
        let here : cond (eqb x z) (standing of row q end) (initial z q) ≡ standing of row q end = ap (λ (b : Bool). cond b (standing of row q end) (initial z q)) (eq-eqb x z e) in
        omega (arith, now, was, more, here, run)
    go (inl e) (inr nf) =
        let not_both : (eqb x z && eqb p q) ≡ false = ap (λ (b : Bool). b && eqb p q) (eq-eqb x z e) ∙ ne_eqb p q nf in
        let now : new z q ≡ old z q = after z q ∙ ap (λ (b : Bool). cond b (old x p + (end - first)) (old z q)) not_both in
        let was : old z q ≡ standing of row q first = ap (λ (k : ℕ). old k q) (sym e) ∙ mine q in
        let none : cond (eqb p q) (end - first) 0 ≡ 0 = ap (λ (b : Bool). cond b (end - first) 0) (ne_eqb p q nf) in
        let here : cond (eqb x z) (standing of row q end) (initial z q) ≡ standing of row q end = ap (λ (b : Bool). cond b (standing of row q end) (initial z q)) (eq-eqb x z e) in
        omega (arith, now, was, none, here, run)
    go (inr ne) same =
        let now : new z q ≡ old z q = after z q ∙ ap (λ (b : Bool). cond (b && eqb p q) (old x p + (end - first)) (old z q)) (ne_eqb x z ne) in
        let was : old z q ≡ initial z q = before z q ∙ ap (λ (b : Bool). cond b (standing of row q first) (initial z q)) (ne_eqb x z ne) in
        let here : cond (eqb x z) (standing of row q end) (initial z q) ≡ initial z q = ap (λ (b : Bool). cond b (standing of row q end) (initial z q)) (ne_eqb x z ne) in
        now ∙ (was ∙ sym here)
