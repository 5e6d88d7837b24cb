-- The last upset of each partition decides whether a schedule stays allowed with one more.
use Rattle.std.proofs.Common.{◌≡◌, ◌≢◌, ℕ, zero, suc, ◌+◌, ◌<◌, ◌≤◌, ◌⊎◌, inl, inr, true, false, ◌&&◌, not, List, [], ◌∷◌, ◌++◌, length, get_or, slice_set, Option, Some, None, refl, sym, ◌∙◌, ap, subst, arith, All}
use Rattle.std.specs.Prelude.{nat_lt, nat_eq, replicate, Contains}
use Rattle.std.proofs.lemmas.Bool.{cases_lt, cases_eq}
use Rattle.std.proofs.lemmas.Bool.Decides.{nat_tests}
use Rattle.std.proofs.lemmas.List.{get_or-set_same, get_or-set_other, get_or-replicate, get_or_past, length-set, length-replicate}
use Rattle.std.proofs.lemmas.List.Elements.{All-contains, Contains-append_left, Contains-append_right, Contains-append_cases}
use Rattle.tmr_base.specs.declared.copies.CopyNo.{CopyNo}
use Rattle.tmr_base.specs.declared.ids.Upset.{Upset}
use Rattle.tmr_base.specs.Copies.{copy_number}
use Rattle.certificate.specs.Cert.{PlainCert, depth_of, part_depth}
use Rattle.certificate.specs.Schedules.{IsIn, Allowed}
use Rattle.certificate.proofs.Domains.{one_domain, same_copy}
use Rattle.tmr_trial.specs.declared.strikes.Strike.{Strike}
use Rattle.tmr_trial.specs.Schedules.{IsAdded}
use Rattle.tmr_trial.specs.Strikes.{strike_at, is_near, IsStrike, IsNoLater, AreStrikes}

near_differs : (a b x t : ℕ) → (not (nat_eq a b) && not (nat_lt x t)) ≡ true → a ≢ b
near_differs a b x t e = grind (arith, nat_tests)

near_soon : (a b x t : ℕ) → (not (nat_eq a b) && not (nat_lt x t)) ≡ true → t ≤ x
near_soon a b x t e = grind (arith, nat_tests)

far_cases : (a b x t : ℕ) → (not (nat_eq a b) && not (nat_lt x t)) ≡ false → (a ≡ b) ⊎ (x < t)
far_cases a b x t e = go (cases_eq a b) (cases_lt x t)
  where
    go : (a ≡ b) ⊎ (a ≢ b) → (x < t) ⊎ (t ≤ x) → (a ≡ b) ⊎ (x < t)
    go (inl same) late = inl same
    go (inr apart) (inl late) = inr late
    go (inr apart) (inr soon) = absurd (grind (arith, nat_tests))

some_same : {A : Type 0} (a b : A) → Some a ≡ Some b → a ≡ b
some_same a b e = cc

in_one : (us : List Upset) (v : Upset) → Contains (us ++ v ∷ []) v
in_one us v = Contains-append_right us (v ∷ []) v (0, omega arith, refl)

one_of_one : (u v : Upset) → Contains (v ∷ []) u → u ≡ v
one_of_one u v (zero, within, at) = sym at
one_of_one u v (suc i, within, at) = absurd (omega arith)

-- before the first upset
pub none_yet : (k : PlainCert) (strikes : List (Option Strike)) → strikes ≡ replicate (length k.depth) None → AreStrikes k [] strikes
none_yet k strikes e = record {
  long = ap length e ∙ length-replicate (length k.depth) None;
  some = λ p strike at. absurd (let no : None ≡ Some strike = sym (none p) ∙ at in cc);
  last = λ u p c there. absurd (let l = there.1 in omega arith);
}
  where
    none : (p : ℕ) → strike_at strikes p ≡ None
    none p = go (cases_lt p (length k.depth))
      where
        go : (p < length k.depth) ⊎ (length k.depth ≤ p) → strike_at strikes p ≡ None
        go (inl l) = ap (λ (xs : List (Option Strike)). get_or xs p None) e ∙ get_or-replicate (length k.depth) p None None l
        go (inr l) = get_or_past strikes p None (omega (arith, ap length e, length-replicate {A = Option Strike} (length k.depth) None, l))

module _ (k : PlainCert) (us : List Upset) (strikes : List (Option Strike)) (is : AreStrikes k us strikes) (v : Upset) (q : ℕ) (d : CopyNo) (is_in : IsIn k v.net.0 (Some q) d) (earlier : All (λ u. u.cycle < v.cycle) us) where
  before : (u : Upset) → Contains us u → u.cycle < v.cycle
  before u there = All-contains (λ w. w.cycle < v.cycle) us u earlier there

  -- an upset that is near one of another copy
  pub near_refutes : is_near (strike_at strikes q) d v.cycle (depth_of k q) ≡ true → Allowed (us ++ v ∷ []) k → ⊥
  near_refutes near allowed = go (strike_at strikes q) refl near
    where
      go : (o : Option Strike) → strike_at strikes q ≡ o → is_near o d v.cycle (depth_of k q) ≡ true → ⊥
      go None at e = absurd (cc)
      go (Some strike) at e =
          let struck = is.some q strike at in
          let apart = near_differs (copy_number strike.copy) (copy_number d) (strike.cycle + depth_of k q) v.cycle e in
          let soon = near_soon (copy_number strike.copy) (copy_number d) (strike.cycle + depth_of k q) v.cycle e in
          let less = before struck.upset struck.there in
          let same = struck.cycle in
          far struck.upset less same soon (allowed struck.upset v (Some q) strike.copy d (Contains-append_left us (v ∷ []) struck.upset struck.there) (in_one us v) struck.is_in is_in (λ c. apart (ap copy_number c)))
        where
          far : (w : Upset) → w.cycle < v.cycle → w.cycle ≡ strike.cycle → v.cycle ≤ strike.cycle + depth_of k q → (w.cycle + depth_of k q < v.cycle) ⊎ (v.cycle + depth_of k q < w.cycle) → ⊥
          far w less same soon (inl l) = omega arith
          far w less same soon (inr l) = omega arith

  -- an upset that is far from those of other copies
  pub far_allowed : Allowed us k → is_near (strike_at strikes q) d v.cycle (depth_of k q) ≡ false → Allowed (us ++ v ∷ []) k
  far_allowed allowed far a b p c e a_there b_there a_in b_in differ = go (Contains-append_cases us (v ∷ []) a a_there) (Contains-append_cases us (v ∷ []) b b_there)
    where
      behind : (u : Upset) (c : CopyNo) → Contains us u → IsIn k u.net.0 (Some q) c → c ≢ d → u.cycle + depth_of k q < v.cycle
      behind u c there u_in apart = by (last.strike) (is.some q last.strike last.last) last.no_later (far_cases (copy_number last.strike.copy) (copy_number d) (last.strike.cycle + depth_of k q) v.cycle (ap (λ (o : Option Strike). is_near o d v.cycle (depth_of k q)) (sym last.last) ∙ far))
        where
          last : IsNoLater strikes q u
          last = is.last u q c there u_in

          by : (strike : Strike) → IsStrike k us q strike → u.cycle ≤ strike.cycle → (copy_number strike.copy ≡ copy_number d) ⊎ (strike.cycle + depth_of k q < v.cycle) → u.cycle + depth_of k q < v.cycle
          by strike w later (inr l) = omega arith
          by strike w later (inl same) = at (allowed u w.upset (Some q) c strike.copy there w.there u_in w.is_in (λ one. apart (one ∙ same_copy strike.copy d same))) w.cycle (before w.upset w.there)
            where
              at : (u.cycle + depth_of k q < w.upset.cycle) ⊎ (w.upset.cycle + depth_of k q < u.cycle) → w.upset.cycle ≡ strike.cycle → w.upset.cycle < v.cycle → u.cycle + depth_of k q < v.cycle
              at (inl l) same_cycle less = omega arith
              at (inr l) same_cycle less = absurd (omega arith)

      -- u is among the first, and w is the new one
      pair : (u w : Upset) (c e : CopyNo) → Contains us u → w ≡ v → IsIn k u.net.0 p c → IsIn k w.net.0 p e → c ≢ e → u.cycle + part_depth k p < w.cycle
      pair u w c e there same u_in w_in apart =
          let one = one_domain k v.net.0 p (Some q) e d (subst (λ (x : Upset). IsIn k x.net.0 p e) same w_in) is_in in
          let far_enough = behind u c there (subst (λ (x : Option ℕ). IsIn k u.net.0 x c) one.0 u_in) (λ f. apart (f ∙ sym one.1)) in
          let depth : part_depth k p ≡ depth_of k q = ap (part_depth k) one.0 in
          let cycle : w.cycle ≡ v.cycle = ap (λ (x : Upset). x.cycle) same in
          omega (arith, far_enough, depth, cycle)

      go : Contains us a ⊎ Contains (v ∷ []) a → Contains us b ⊎ Contains (v ∷ []) b → (a.cycle + part_depth k p < b.cycle) ⊎ (b.cycle + part_depth k p < a.cycle)
      go (inl x) (inl y) = allowed a b p c e x y a_in b_in differ
      go (inl x) (inr y) = inl (pair a b c e x (one_of_one b v y) a_in b_in differ)
      go (inr x) (inl y) = inr (pair b a e c y (one_of_one a v x) b_in a_in (λ f. differ (sym f)))
      go (inr x) (inr y) =
          let same : a ≡ b = one_of_one a v x ∙ sym (one_of_one b v y) in
          absurd (differ (one_domain k b.net.0 p p c e (subst (λ (w : Upset). IsIn k w.net.0 p c) same a_in) b_in).1)

  -- the new upset is the last one of its partition
  pub strikes_more : q < length k.depth → (new : List (Option Strike)) → new ≡ slice_set strikes q (Some (record { cycle = v.cycle; copy = d })) → AreStrikes k (us ++ v ∷ []) new
  strikes_more within new set = record {
    long = ap length set ∙ (length-set strikes q (Some own) ∙ is.long);
    some = λ p strike at. some p strike at (cases_eq p q);
    last = λ u p c there u_in. last u p c u_in (Contains-append_cases us (v ∷ []) u there) (cases_eq p q);
  }
    where
      own : Strike
      own = record { cycle = v.cycle; copy = d }

      here : strike_at new q ≡ Some (record { cycle = v.cycle; copy = d })
      here = ap (λ (xs : List (Option Strike)). get_or xs q None) set ∙ get_or-set_same strikes q (Some (record { cycle = v.cycle; copy = d })) None (omega (arith, within, is.long))

      there_still : (p : ℕ) → p ≢ q → strike_at new p ≡ strike_at strikes p
      there_still p apart = ap (λ (xs : List (Option Strike)). get_or xs p None) set ∙ get_or-set_other strikes q p (Some (record { cycle = v.cycle; copy = d })) None apart

      some : (p : ℕ) (strike : Strike) → strike_at new p ≡ Some strike → (p ≡ q) ⊎ (p ≢ q) → IsStrike k (us ++ v ∷ []) p strike
      some p strike at (inl same) =
          let is_own : ◌≡◌ {A = Strike} (record { cycle = v.cycle; copy = d }) strike = some_same _ strike (sym here ∙ (ap (strike_at new) (sym same) ∙ at)) in
          record {
            upset = v;
            there = in_one us v;
            is_in = subst (λ (x : ℕ). IsIn k v.net.0 (Some x) strike.copy) (sym same) (subst (λ (s : Strike). IsIn k v.net.0 (Some q) s.copy) is_own is_in);
            cycle = ap (λ (s : Strike). s.cycle) is_own;
          }
      some p strike at (inr apart) =
          let old = is.some p strike (sym (there_still p apart) ∙ at) in
          record { upset = old.upset; there = Contains-append_left us (v ∷ []) old.upset old.there; is_in = old.is_in; cycle = old.cycle }

      at_new : (u : Upset) (p : ℕ) → u.cycle ≤ v.cycle → p ≡ q → IsNoLater new p u
      at_new u p less same = record { strike = record { cycle = v.cycle; copy = d }; last = ap (strike_at new) same ∙ here; no_later = less }

      last : (u : Upset) (p : ℕ) (c : CopyNo) → IsIn k u.net.0 (Some p) c → Contains us u ⊎ Contains (v ∷ []) u → (p ≡ q) ⊎ (p ≢ q) → IsNoLater new p u
      last u p c u_in (inl x) (inl same) = at_new u p (let l = before u x in omega arith) same
      last u p c u_in (inl x) (inr apart) =
          let old = is.last u p c x u_in in
          record { strike = old.strike; last = there_still p apart ∙ old.last; no_later = old.no_later }
      last u p c u_in (inr x) same =
          let one = one_of_one u v x in
          let domain = one_domain k v.net.0 (Some p) (Some q) c d (subst (λ (w : Upset). IsIn k w.net.0 (Some p) c) one u_in) is_in in
          let cycle : u.cycle ≡ v.cycle = ap (λ (w : Upset). w.cycle) one in
          at_new u p (omega arith) (some_same p q domain.0)

  -- an upset that is near one of another copy is not added
  pub left_out : is_near (strike_at strikes q) d v.cycle (depth_of k q) ≡ true → IsAdded k us (Some v) us
  left_out near = inr (near_refutes near, refl)

  -- and one that is far is
  pub added : Allowed us k → is_near (strike_at strikes q) d v.cycle (depth_of k q) ≡ false → (new : List Upset) → new ≡ us ++ v ∷ [] → IsAdded k us (Some v) new
  added allowed far new e = inl (far_allowed allowed far, e)
