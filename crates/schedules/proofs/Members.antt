-- Lists of upsets that strike alike have the same members.
use Rattle.std.proofs.Common.{◌≡◌, ℕ, zero, suc, ◌<◌, ◌⊎◌, inl, inr, Bool, true, false, cond, ◌&&◌, List, [], ◌∷◌, ◌++◌, slice_get, Option, Some, None, refl, sym, ◌∙◌, ap, subst, arith}
use Rattle.std.specs.Prelude.{nat_eq, Contains, ◌↔◌}
use Rattle.std.proofs.lemmas.Bool.{eq-eqb, ne_eqb, eqb-true}
use Rattle.std.proofs.lemmas.Option.{slice_get-get_or}
use Rattle.std.proofs.lemmas.List.Elements.{Contains-append_cases}
use Rattle.tmr_base.specs.declared.ids.Upset.{Upset}
use Rattle.net_meaning.specs.Meaning.{upset_at}
use Rattle.schedules.specs.Schedule.{IsBefore}
use Rattle.schedules.specs.Private.Reading.{AreDistinct}
use Rattle.schedules.proofs.Places.{upset_at_more}

cond_ways : (b : Bool) (v : Bool) (o : Option Bool) (w : Bool) → cond b (Some v) o ≡ Some w → ((b ≡ true) × (v ≡ w)) ⊎ (o ≡ Some w)
cond_ways true v o w e = inl (refl, cc)
cond_ways false v o w e = inr e

both : (a b : Bool) → (a && b) ≡ true → (a ≡ true) × (b ≡ true)
both true true e = (refl, refl)
both true false e = absurd (cc)
both false b e = absurd (cc)

later : (us : List Upset) (v u : Upset) → Contains us u → Contains (v ∷ us) u
later us v u (i, within, at) = (suc i, omega arith, at)

one_upset : (u v : Upset) → u.cycle ≡ v.cycle → u.net.0 ≡ v.net.0 → u.value ≡ v.value → u ≡ v
one_upset u v a b c =
    ap (λ (x : ℕ). let w : Upset = record { cycle = x; net = u.net; value = u.value } in w) a
    ∙ (ap (λ (x : ℕ). let w : Upset = record { cycle = v.cycle; net = record { 0 = x }; value = u.value } in w) b
    ∙ ap (λ (x : Bool). let w : Upset = record { cycle = v.cycle; net = v.net; value = x } in w) c)

-- an upset that is found is there
found : (us : List Upset) (u : Upset) → upset_at us u.cycle u.net.0 ≡ Some u.value → Contains us u
found [] u e = absurd (cc)
found (v ∷ us) u e = go (cond_ways (nat_eq v.cycle u.cycle && nat_eq v.net.0 u.net.0) v.value (upset_at us u.cycle u.net.0) u.value e) (found us u)
  where
    go : (((nat_eq v.cycle u.cycle && nat_eq v.net.0 u.net.0) ≡ true) × (v.value ≡ u.value)) ⊎ (upset_at us u.cycle u.net.0 ≡ Some u.value) → (upset_at us u.cycle u.net.0 ≡ Some u.value → Contains us u) → Contains (v ∷ us) u
    go (inl (here, value)) more =
        let at = both (nat_eq v.cycle u.cycle) (nat_eq v.net.0 u.net.0) here in
        (0, omega arith, one_upset v u (eqb-true v.cycle u.cycle at.0) (eqb-true v.net.0 u.net.0 at.1) value)
    go (inr e) more = later us v u (more e)

pub same_members : (us vs : List Upset) → AreDistinct us → AreDistinct vs → ((cycle net : ℕ) → upset_at us cycle net ≡ upset_at vs cycle net) → (u : Upset) → Contains us u ↔ Contains vs u
same_members us vs is_us is_vs alike u =
    (λ there. found vs u (sym (alike u.cycle u.net.0) ∙ is_us u there), λ there. found us u (alike u.cycle u.net.0 ∙ is_vs u there))

-- an upset more, at a place that had none
pub distinct_more : (us : List Upset) (u : Upset) → AreDistinct us → upset_at us u.cycle u.net.0 ≡ None → AreDistinct (us ++ u ∷ [])
distinct_more us u is none v there = go (Contains-append_cases us (u ∷ []) v there)
  where
    cases : (b : Bool) → (nat_eq u.cycle v.cycle && nat_eq u.net.0 v.net.0) ≡ b → Contains us v → upset_at (us ++ u ∷ []) v.cycle v.net.0 ≡ Some v.value
    cases true e within =
        let at = both (nat_eq u.cycle v.cycle) (nat_eq u.net.0 v.net.0) e in
        let c : u.cycle ≡ v.cycle = eqb-true u.cycle v.cycle at.0 in
        let x : u.net.0 ≡ v.net.0 = eqb-true u.net.0 v.net.0 at.1 in
        absurd (let s = is v within in let o : upset_at us v.cycle v.net.0 ≡ None = subst (λ (a : ℕ). upset_at us a v.net.0 ≡ None) c (subst (λ (b : ℕ). upset_at us u.cycle b ≡ None) x none) in cc)
    cases false e within = upset_at_more us u v.cycle v.net.0 none ∙ (ap (λ (b : Bool). cond b (Some u.value) (upset_at us v.cycle v.net.0)) e ∙ is v within)

    itself : Contains (u ∷ []) v → u ≡ v
    itself (zero, within, at) = at
    itself (suc i, within, at) = absurd (omega arith)

    go : Contains us v ⊎ Contains (u ∷ []) v → upset_at (us ++ u ∷ []) v.cycle v.net.0 ≡ Some v.value
    go (inl within) = cases (nat_eq u.cycle v.cycle && nat_eq u.net.0 v.net.0) refl within
    go (inr last) = subst (λ (w : Upset). upset_at (us ++ u ∷ []) w.cycle w.net.0 ≡ Some w.value) (itself last)
        (upset_at_more us u u.cycle u.net.0 none ∙ (ap (λ (b : Bool). cond (b && nat_eq u.net.0 u.net.0) (Some u.value) (upset_at us u.cycle u.net.0)) (eq-eqb u.cycle u.cycle refl) ∙ ap (λ (b : Bool). cond b (Some u.value) (upset_at us u.cycle u.net.0)) (eq-eqb u.net.0 u.net.0 refl)))

pub none_distinct : AreDistinct []
none_distinct u (i, within, at) = absurd (omega arith)

-- in ascending order none stands twice
pub ascending_distinct : (us : List Upset) → ((j k : ℕ) (u v : Upset) → j < k → slice_get us j ≡ Some u → slice_get us k ≡ Some v → IsBefore u v) → AreDistinct us
ascending_distinct [] asc u there = none_distinct u there
ascending_distinct (v ∷ us) asc u (zero, within, at) = subst (λ (w : Upset). upset_at (v ∷ us) w.cycle w.net.0 ≡ Some w.value) at
    (ap (λ (b : Bool). cond (b && nat_eq v.net.0 v.net.0) (Some v.value) (upset_at us v.cycle v.net.0)) (eq-eqb v.cycle v.cycle refl) ∙ ap (λ (b : Bool). cond b (Some v.value) (upset_at us v.cycle v.net.0)) (eq-eqb v.net.0 v.net.0 refl))
ascending_distinct (v ∷ us) asc u (suc i, within, at) =
    let there : slice_get us i ≡ Some u = slice_get-get_or us i u (omega arith) ∙ ap Some at in
    let before = asc 0 (suc i) v u (omega arith) refl there in
    let more = ascending_distinct us (λ j k a b l e f. asc (suc j) (suc k) a b (omega arith) e f) u (i, omega arith, at) in
    ap (λ (b : Bool). cond b (Some v.value) (upset_at us u.cycle u.net.0)) (apart before) ∙ more
  where
    none : (b : Bool) → (b && false) ≡ false
    none true = refl
    none false = refl

    apart : IsBefore v u → (nat_eq v.cycle u.cycle && nat_eq v.net.0 u.net.0) ≡ false
    apart (inl l) = ap (λ (b : Bool). b && nat_eq v.net.0 u.net.0) (ne_eqb v.cycle u.cycle (λ e. absurd (omega arith)))
    apart (inr (e, l)) = ap (λ (b : Bool). nat_eq v.cycle u.cycle && b) (ne_eqb v.net.0 u.net.0 (λ e. absurd (omega arith))) ∙ none (nat_eq v.cycle u.cycle)
