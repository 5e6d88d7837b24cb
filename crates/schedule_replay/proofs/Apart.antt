-- The last upsets of each partition and copy decide whether a schedule is allowed.
use Rattle.std.proofs.Common.{◌≡◌, ◌≢◌, ℕ, ◌+◌, ◌*◌, ◌/◌, ◌%◌, ◌<◌, ◌≤◌, ◌⊎◌, inl, inr, Bool, true, false, ◌||◌, List, length, get_or, slice_get, slice_set, Option, Some, None, refl, sym, ◌∙◌, ap, subst, arith}
use Rattle.std.specs.Prelude.{replicate, Contains}
use Rattle.std.proofs.lemmas.Bool.Decides.{nat_tests}
use Rattle.std.proofs.lemmas.List.{get_or-set_same, get_or-set_other, get_or-replicate}
use Rattle.std.proofs.lemmas.Option.{slice_get_within, slice_get-get_or, get_or_from_slice_get}
use Rattle.tmr_base.specs.declared.copies.CopyNo.{CopyNo}
use Rattle.tmr_base.specs.declared.copies.CopyNo.TheVariants.{First, Second, Third}
use Rattle.tmr_base.specs.declared.ids.Upset.{Upset}
use Rattle.tmr_base.specs.Copies.{copy_number}
use Rattle.flat_net.proofs.Slots.{slot_below}
use Rattle.certificate.specs.declared.role.Role.{Role}
use Rattle.certificate.specs.Cert.{PlainCert, role_of, part_depth}
use Rattle.certificate.specs.Schedules.{RoleIsIn, IsIn, Allowed}
use Rattle.schedules.specs.Schedule.{PlainSchedule, IsPlainSchedule, IsBefore}
use Rattle.schedules.proofs.Domains.{copy_below, one_place, one_domain}
use Rattle.schedule_replay.specs.Outcome.{part_of_role}
use Rattle.schedule_replay.specs.Allowing.{place_of, behind_last, IsPart, is_close, is_near, IsStruck, AreLasts, AreApart}

close : (last cycle depth : ℕ) → is_close last cycle depth ≡ true → (0 < last) × (cycle < last + depth)
close last cycle depth e = grind (arith, nat_tests)

not_close : (last cycle depth : ℕ) → is_close last cycle depth ≡ false → 0 < last → last + depth ≤ cycle
not_close last cycle depth e h = grind (arith, nat_tests)

or_cases : (a b : Bool) → (a || b) ≡ true → (a ≡ true) ⊎ (b ≡ true)
or_cases true b e = inl refl
or_cases false b e = inr e

or_left : (a b : Bool) → (a || b) ≡ false → a ≡ false
or_left true b e = absurd (cc)
or_left false b e = refl

or_right : (a b : Bool) → (a || b) ≡ false → b ≡ false
or_right true b e = absurd (cc)
or_right false b e = e

-- another copy that was struck shortly before
pub record IsNear (lasts : List ℕ) (p : ℕ) (c : CopyNo) (cycle depth : ℕ) : Type 0 where
  pub other : CopyNo
  pub differs : other ≢ c
  pub struck : 0 < behind_last lasts p other
  pub near : cycle < behind_last lasts p other + depth

at_copy : (lasts : List ℕ) (p : ℕ) (c e : CopyNo) (cycle depth : ℕ) → e ≢ c → is_close (behind_last lasts p e) cycle depth ≡ true → IsNear lasts p c cycle depth
at_copy lasts p c e cycle depth apart is = let (h, k) = close (behind_last lasts p e) cycle depth is in record { other = e; differs = apart; struck = h; near = k }

pub near_found : (lasts : List ℕ) (p : ℕ) (c : CopyNo) (cycle depth : ℕ) → is_near lasts p c cycle depth ≡ true → IsNear lasts p c cycle depth
near_found lasts p First cycle depth e = go (or_cases (is_close (behind_last lasts p Second) cycle depth) (is_close (behind_last lasts p Third) cycle depth) e)
  where
    go : (is_close (behind_last lasts p Second) cycle depth ≡ true) ⊎ (is_close (behind_last lasts p Third) cycle depth ≡ true) → IsNear lasts p First cycle depth
    go (inl is) = at_copy lasts p First Second cycle depth (λ same. cc) is
    go (inr is) = at_copy lasts p First Third cycle depth (λ same. cc) is
near_found lasts p Second cycle depth e = go (or_cases (is_close (behind_last lasts p First) cycle depth) (is_close (behind_last lasts p Third) cycle depth) e)
  where
    go : (is_close (behind_last lasts p First) cycle depth ≡ true) ⊎ (is_close (behind_last lasts p Third) cycle depth ≡ true) → IsNear lasts p Second cycle depth
    go (inl is) = at_copy lasts p Second First cycle depth (λ same. cc) is
    go (inr is) = at_copy lasts p Second Third cycle depth (λ same. cc) is
near_found lasts p Third cycle depth e = go (or_cases (is_close (behind_last lasts p First) cycle depth) (is_close (behind_last lasts p Second) cycle depth) e)
  where
    go : (is_close (behind_last lasts p First) cycle depth ≡ true) ⊎ (is_close (behind_last lasts p Second) cycle depth ≡ true) → IsNear lasts p Third cycle depth
    go (inl is) = at_copy lasts p Third First cycle depth (λ same. cc) is
    go (inr is) = at_copy lasts p Third Second cycle depth (λ same. cc) is

pub far : (lasts : List ℕ) (p : ℕ) (c e : CopyNo) (cycle depth : ℕ) → is_near lasts p c cycle depth ≡ false → e ≢ c → 0 < behind_last lasts p e → behind_last lasts p e + depth ≤ cycle
far lasts p First First cycle depth is apart h = absurd (apart refl)
far lasts p First Second cycle depth is apart h = not_close _ cycle depth (or_left _ _ is) h
far lasts p First Third cycle depth is apart h = not_close _ cycle depth (or_right (is_close (behind_last lasts p Second) cycle depth) _ is) h
far lasts p Second First cycle depth is apart h = not_close _ cycle depth (or_left _ _ is) h
far lasts p Second Second cycle depth is apart h = absurd (apart refl)
far lasts p Second Third cycle depth is apart h = not_close _ cycle depth (or_right (is_close (behind_last lasts p First) cycle depth) _ is) h
far lasts p Third First cycle depth is apart h = not_close _ cycle depth (or_left _ _ is) h
far lasts p Third Second cycle depth is apart h = not_close _ cycle depth (or_right (is_close (behind_last lasts p First) cycle depth) _ is) h
far lasts p Third Third cycle depth is apart h = absurd (apart refl)

place_cases : (p q : ℕ) (c d : CopyNo) → ((p ≡ q) × (c ≡ d)) ⊎ (3 * p + copy_number c ≢ 3 * q + copy_number d)
place_cases p q c d = go (cases (3 * p + copy_number c) (3 * q + copy_number d))
  where
    cases : (a b : ℕ) → (a ≡ b) ⊎ (a ≢ b)
    cases a b = grind arith

    go : (3 * p + copy_number c ≡ 3 * q + copy_number d) ⊎ (3 * p + copy_number c ≢ 3 * q + copy_number d) → ((p ≡ q) × (c ≡ d)) ⊎ (3 * p + copy_number c ≢ 3 * q + copy_number d)
    go (inl e) = inl (one_place p q c d e)
    go (inr e) = inr e

place_within : (k : PlainCert) (p : Option ℕ) → IsPart k p → place_of p < length k.depth + 1
place_within k None is = omega arith
place_within k (Some p) is = omega arith

pub one_part : (p q : Option ℕ) → place_of p ≡ place_of q → p ≡ q
one_part None None e = refl
one_part None (Some q) e = absurd (omega arith)
one_part (Some p) None e = absurd (omega arith)
one_part (Some p) (Some q) e = let same : p ≡ q = omega arith in ap Some same

-- before the first upset
pub no_lasts_yet : (k : PlainCert) (us : List Upset) (lasts : List ℕ) → lasts ≡ replicate (3 * (length k.depth + 1)) 0 → AreLasts k us 0 lasts
no_lasts_yet k us lasts e = record {
  latest = λ j u p c h. absurd (omega arith);
  reached = λ p c l h. absurd (let within = place_within k p l in let zero_there : behind_last lasts (place_of p) c ≡ 0 = ap (λ (ls : List ℕ). behind_last ls (place_of p) c) e ∙ get_or-replicate (3 * (length k.depth + 1)) (3 * place_of p + copy_number c) 0 0 (omega (arith, copy_below c)) in omega arith);
}

pub in_order : (s : PlainSchedule) → IsPlainSchedule s → (i j : ℕ) (u v : Upset) → i < j → slice_get s.upsets i ≡ Some u → slice_get s.upsets j ≡ Some v → u.cycle ≤ v.cycle
in_order s is i j u v h e f = go (is.ascending i j u v h e f)
  where
    go : IsBefore u v → u.cycle ≤ v.cycle
    go (inl l) = omega arith
    go (inr (same, l)) = omega arith

module _ (k : PlainCert) (s : PlainSchedule) (is : IsPlainSchedule s) (j : ℕ) (v : Upset) (there : slice_get s.upsets j ≡ Some v) (q : Option ℕ) (d : CopyNo) (is_in : IsIn k v.net.0 q d) (lasts : List ℕ) (room : 3 * place_of q + copy_number d < length lasts) (old : AreLasts k s.upsets j lasts) where
  after : List ℕ
  after = slice_set lasts (3 * place_of q + copy_number d) (v.cycle + 1)

  last_here : behind_last after (place_of q) d ≡ v.cycle + 1
  unfolding after
  last_here = get_or-set_same lasts (3 * place_of q + copy_number d) (v.cycle + 1) 0 room

  last_there : (p : Option ℕ) (c : CopyNo) → 3 * place_of p + copy_number c ≢ 3 * place_of q + copy_number d → behind_last after (place_of p) c ≡ behind_last lasts (place_of p) c
  unfolding after
  last_there p c apart = get_or-set_other lasts (3 * place_of q + copy_number d) (3 * place_of p + copy_number c) (v.cycle + 1) 0 apart

  same_last : (p : Option ℕ) (c : CopyNo) → (place_of p ≡ place_of q) × (c ≡ d) → behind_last after (place_of p) c ≡ v.cycle + 1
  same_last p c (same_part, same_copy) = subst (λ (x : ℕ). behind_last after x c ≡ v.cycle + 1) (sym same_part) (subst (λ (x : CopyNo). behind_last after (place_of q) x ≡ v.cycle + 1) (sym same_copy) last_here)

  latest_more : (i : ℕ) (u : Upset) (p : Option ℕ) (c : CopyNo) → i < j + 1 → slice_get s.upsets i ≡ Some u → IsIn k u.net.0 p c → u.cycle < behind_last after (place_of p) c
  latest_more i u p c h e u_in = go (cases i j) (place_cases (place_of p) (place_of q) c d)
    where
      cases : (a b : ℕ) → (a < b) ⊎ (b ≤ a)
      cases a b = grind arith

      at_place : u.cycle ≤ v.cycle → (place_of p ≡ place_of q) × (c ≡ d) → u.cycle < behind_last after (place_of p) c
      at_place le same = let here = same_last p c same in omega arith

      go : (i < j) ⊎ (j ≤ i) → ((place_of p ≡ place_of q) × (c ≡ d)) ⊎ (3 * place_of p + copy_number c ≢ 3 * place_of q + copy_number d) → u.cycle < behind_last after (place_of p) c
      go (inl l) (inl same) = at_place (in_order s is i j u v l e there) same
      go (inl l) (inr apart) = let o = old.latest i u p c l e u_in in omega (arith, last_there p c apart)
      go (inr g) same_or =
          let at : i ≡ j = omega arith in
          let same_upset : u ≡ v = let f : slice_get s.upsets j ≡ Some u = subst (λ (x : ℕ). slice_get s.upsets x ≡ Some u) at e in cc in
          let same_cycle : u.cycle ≡ v.cycle = ap (λ (w : Upset). w.cycle) same_upset in
          let one = one_domain k v.net.0 p q c d (subst (λ (w : Upset). IsIn k w.net.0 p c) same_upset u_in) is_in in
          at_place (omega arith) (ap place_of one.0, one.1)

  reached_more : (p : Option ℕ) (c : CopyNo) → IsPart k p → 0 < behind_last after (place_of p) c → IsStruck k s.upsets (j + 1) p c (behind_last after (place_of p) c)
  reached_more p c l h = go (place_cases (place_of p) (place_of q) c d)
    where
      go : ((place_of p ≡ place_of q) × (c ≡ d)) ⊎ (3 * place_of p + copy_number c ≢ 3 * place_of q + copy_number d) → IsStruck k s.upsets (j + 1) p c (behind_last after (place_of p) c)
      go (inl same) = record {
        place = j;
        upset = v;
        within = omega arith;
        there = there;
        is_in = subst (λ (x : Option ℕ). IsIn k v.net.0 x c) (sym (one_part p q same.0)) (subst (λ (x : CopyNo). IsIn k v.net.0 q x) (sym same.1) is_in);
        cycle = sym (same_last p c same);
      }
      go (inr apart) =
          let same = last_there p c apart in
          let o = old.reached p c l (omega arith) in
          record { place = o.place; upset = o.upset; within = let w = o.within in omega arith; there = o.there; is_in = o.is_in; cycle = o.cycle ∙ sym same }

  pub lasts_more : AreLasts k s.upsets (j + 1) (slice_set lasts (3 * place_of q + copy_number d) (v.cycle + 1))
  unfolding after
  lasts_more = record { latest = latest_more; reached = reached_more }

  -- an upset that is far from those of other copies
  pub apart_more : AreApart k s.upsets j → is_near lasts (place_of q) d v.cycle (part_depth k q) ≡ false → AreApart k s.upsets (j + 1)
  apart_more apart is_far a b u w p c e h l at_a at_b u_in w_in differ = go (cases b j)
    where
      cases : (a b : ℕ) → (a < b) ⊎ (b ≤ a)
      cases a b = grind arith

      go : (b < j) ⊎ (j ≤ b) → u.cycle + part_depth k p < w.cycle
      go (inl m) = apart a b u w p c e h m at_a at_b u_in w_in differ
      go (inr m) =
          let at : b ≡ j = omega arith in
          let same_upset : w ≡ v = let f : slice_get s.upsets j ≡ Some w = subst (λ (x : ℕ). slice_get s.upsets x ≡ Some w) at at_b in cc in
          let same_cycle : w.cycle ≡ v.cycle = ap (λ (x : Upset). x.cycle) same_upset in
          let domain = one_domain k v.net.0 p q e d (subst (λ (x : Upset). IsIn k x.net.0 p e) same_upset w_in) is_in in
          let before : u.cycle < behind_last lasts (place_of q) c = old.latest a u q c (omega arith) at_a (subst (λ (x : Option ℕ). IsIn k u.net.0 x c) domain.0 u_in) in
          let distance : behind_last lasts (place_of q) c + part_depth k q ≤ v.cycle = far lasts (place_of q) d c v.cycle (part_depth k q) is_far (λ same. differ (same ∙ sym domain.1)) (omega arith) in
          let depth : part_depth k p ≡ part_depth k q = ap (part_depth k) domain.0 in
          omega arith

  -- an upset that is near one of another copy
  pub near_refutes : IsPart k q → is_near lasts (place_of q) d v.cycle (part_depth k q) ≡ true → Allowed s.upsets k → ⊥
  near_refutes within e allowed =
      let near = near_found lasts (place_of q) d v.cycle (part_depth k q) e in
      let struck = old.reached q near.other within near.struck in
      let later = in_order s is struck.place j struck.upset v struck.within struck.there there in
      go near struck later (allowed struck.upset v q near.other d (contained struck.place struck.upset struck.there) (contained j v there) struck.is_in is_in near.differs)
    where
      contained : (i : ℕ) (u : Upset) → slice_get s.upsets i ≡ Some u → Contains s.upsets u
      contained i u at = (i, slice_get_within s.upsets i u at, get_or_from_slice_get s.upsets i u u at)

      go : (near : IsNear lasts (place_of q) d v.cycle (part_depth k q)) (struck : IsStruck k s.upsets j q near.other (behind_last lasts (place_of q) near.other)) → struck.upset.cycle ≤ v.cycle → (struck.upset.cycle + part_depth k q < v.cycle) ⊎ (v.cycle + part_depth k q < struck.upset.cycle) → ⊥
      go near struck later (inl l) = absurd (let a = near.near in let b = struck.cycle in omega arith)
      go near struck later (inr l) = absurd (omega arith)

-- an input belongs to its copy
pub input_domain : (k : PlainCert) (h : ℕ) (c : CopyNo) → h < k.hardened_inputs → h < 3 * k.original_inputs → copy_number c ≡ h % 3 → IsIn k h None c
input_domain k h c low few copy = subst (λ (o : Option Role). RoleIsIn k o h None c) (sym (slot_below k.hardened_inputs k.roles h low)) (h / 3, (omega arith, low, omega arith), refl)

-- at last all pairs are apart
pub all_apart : (k : PlainCert) (us : List Upset) (count : ℕ) → length us ≤ count → AreApart k us count → Allowed us k
all_apart k us count all apart u v p c d (i, i_within, at_i) (j, j_within, at_j) u_in v_in differ = go (cases i j)
  where
    there : (i : ℕ) (u : Upset) → i < length us → get_or us i u ≡ u → slice_get us i ≡ Some u
    there i u h at = slice_get-get_or us i u h ∙ ap Some at

    cases : (a b : ℕ) → (a < b) ⊎ ((b < a) ⊎ (a ≡ b))
    cases a b = grind arith

    go : (i < j) ⊎ ((j < i) ⊎ (i ≡ j)) → (u.cycle + part_depth k p < v.cycle) ⊎ (v.cycle + part_depth k p < u.cycle)
    go (inl l) = inl (apart i j u v p c d l (omega arith) (there i u i_within at_i) (there j v j_within at_j) u_in v_in differ)
    go (inr (inl l)) = inr (apart j i v u p d c l (omega arith) (there j v j_within at_j) (there i u i_within at_i) v_in u_in (λ same. differ (sym same)))
    go (inr (inr same)) =
        let one : u ≡ v = let a = there i u i_within at_i in let b : slice_get us i ≡ Some v = subst (λ (x : ℕ). slice_get us x ≡ Some v) (sym same) (there j v j_within at_j) in cc in
        absurd (differ (one_domain k v.net.0 p p c d (subst (λ (w : Upset). IsIn k w.net.0 p c) one u_in) v_in).1)

pub input_no_part : (k : PlainCert) (h : ℕ) → h < k.hardened_inputs → None ≡ part_of_role k (role_of k h)
input_no_part k h low = ap (part_of_role k) (sym (slot_below k.hardened_inputs k.roles h low))

pub ruleset domains = (input_domain, input_no_part)
