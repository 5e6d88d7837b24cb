-- The upsets of a cycle, and rows three times.
use Rattle.std.proofs.Common.{◌≡◌, ◌≢◌, ℕ, zero, suc, ◌+◌, ◌-◌, ◌*◌, ◌/◌, ◌<◌, ◌≤◌, ◌⊎◌, inl, inr, Bool, true, false, cond, ◌&&◌, List, [], ◌∷◌, ◌++◌, length, take, drop, get_or, slice_get, slice_index, Option, Some, None, refl, sym, ◌∙◌, ap, subst, arith}
use Rattle.std.specs.Prelude.{All, nat_eq}
use Rattle.std.proofs.lemmas.Bool.{eq-eqb, ne_eqb, eqb-true}
use Rattle.std.proofs.lemmas.List.{length-set, get_or-set_same, get_or-set_other, take-append-drop, ext_get_or}
use Rattle.std.proofs.lemmas.List.Elements.{All-append}
use Rattle.std.proofs.lemmas.Option.{slice_get_within, get_or_from_slice_get}
use Rattle.std.proofs.Math.Seq.{take-suc}
use Rattle.tmr_base.specs.declared.copies.CopyNo.{CopyNo}
use Rattle.tmr_base.specs.declared.copies.CopyNo.TheVariants.{First, Second, Third}
use Rattle.tmr_base.specs.declared.ids.NetId.{NetId}
use Rattle.tmr_base.specs.declared.ids.Upset.{Upset}
use Rattle.flat_net.specs.Net.{slot}
use Rattle.flat_net.proofs.Slots.{slot_at, slot_within}
use Rattle.net_meaning.specs.Meaning.{bit, spread_row, upset_at}
use Rattle.net_meaning.proofs.Lists.{bit-spread_row}
use Rattle.certificate.specs.declared.role.Role.{Role}
use Rattle.certificate.specs.declared.role.Role.TheVariants.{Copy, Voter}
use Rattle.certificate.specs.Cert.{PlainCert, IsCert, role_of}
use Rattle.certificate.specs.Schedules.{RoleIsIn, IsIn}
use Rattle.schedules.specs.Schedule.{PlainSchedule, IsPlainSchedule}
use Rattle.schedule_replay.specs.Outcome.{strikes, is_that, part_of_role}
use Rattle.schedule_replay.specs.Striking.{IsTaken, IsUpTo, IsLastStrike, AreLatest, with_strike}
use Rattle.schedule_replay.specs.Starts.{forced_to, or_else}
use Rattle.schedule_replay.proofs.Apart.{in_order}

pub or_none : (o : Option Bool) → or_else o None ≡ o
or_none None = refl
or_none (Some b) = refl

upset_at-append : (us vs : List Upset) (t x : ℕ) → upset_at (us ++ vs) t x ≡ or_else (upset_at us t x) (upset_at vs t x)
upset_at-append [] vs t x = refl
upset_at-append (u ∷ us) vs t x = go (nat_eq u.cycle t && nat_eq u.net.0 x) (upset_at-append us vs t x)
  where
    go : (b : Bool) → upset_at (us ++ vs) t x ≡ or_else (upset_at us t x) (upset_at vs t x) → cond b (Some u.value) (upset_at (us ++ vs) t x) ≡ or_else (cond b (Some u.value) (upset_at us t x)) (upset_at vs t x)
    go true e = refl
    go false e = e

pub forced_to-append : (fs gs : List (NetId × Bool)) (x : ℕ) → forced_to (fs ++ gs) x ≡ or_else (forced_to fs x) (forced_to gs x)
forced_to-append [] gs x = refl
forced_to-append (f ∷ fs) gs x = go (nat_eq f.0.0 x) (forced_to-append fs gs x)
  where
    go : (b : Bool) → forced_to (fs ++ gs) x ≡ or_else (forced_to fs x) (forced_to gs x) → cond b (Some f.1) (forced_to (fs ++ gs) x) ≡ or_else (cond b (Some f.1) (forced_to fs x)) (forced_to gs x)
    go true e = refl
    go false e = e

-- where no upset is in the cycle
none_at : (us : List Upset) (t x : ℕ) → ((j : ℕ) (u : Upset) → slice_get us j ≡ Some u → u.cycle ≢ t) → upset_at us t x ≡ None
none_at [] t x other = refl
none_at (u ∷ us) t x other =
    ap (λ (b : Bool). cond (b && nat_eq u.net.0 x) (Some u.value) (upset_at us t x)) (ne_eqb u.cycle t (λ e. absurd (other 0 u refl e)))
    ∙ none_at us t x (λ j v at. other (suc j) v at)

in_front : (n : ℕ) (us : List Upset) (j : ℕ) (u : Upset) → slice_get (take n us) j ≡ Some u → (j < n) × (slice_get us j ≡ Some u)
in_front zero us j u e = absurd (cc)
in_front (suc n) [] j u e = absurd (cc)
in_front (suc n) (v ∷ us) zero u e = (omega arith, e)
in_front (suc n) (v ∷ us) (suc j) u e = let (l, at) = in_front n us j u e in (omega arith, at)

behind : (n : ℕ) (us : List Upset) (j : ℕ) (u : Upset) → slice_get (drop n us) j ≡ Some u → slice_get us (n + j) ≡ Some u
behind zero us j u e = let z : zero + j ≡ j = omega arith in rw z e
behind (suc n) [] j u e = absurd (cc)
behind (suc n) (v ∷ us) j u e = let s : suc n + j ≡ suc (n + j) = omega arith in rw s (behind n us j u e)

-- those before the cycle strike nothing in it
pub none_before : (us : List Upset) (t from x : ℕ) → IsTaken us t from → forced_to [] x ≡ upset_at (take from us) t x
none_before us t from x taken = sym (none_at (take from us) t x (λ j u at e. let (l, there) = in_front from us j u at in let b = taken.before j u l there in absurd (omega arith)))

-- one upset of the cycle more
pub struck_more : (us : List Upset) (t j : ℕ) (u : Upset) (old new : List (NetId × Bool)) (x : ℕ) → slice_get us j ≡ Some u → u.cycle ≡ t → new ≡ old ++ (u.net, u.value) ∷ [] → forced_to old x ≡ upset_at (take j us) t x → forced_to new x ≡ upset_at (take (j + 1) us) t x
struck_more us t j u old new x there cycle is e =
    let next : j + 1 ≡ suc j = omega arith in
    let within : j < length us = slice_get_within us j u there in
    let more : take (j + 1) us ≡ take j us ++ u ∷ [] = ap (λ (k : ℕ). take k us) next ∙ (take-suc us j u within ∙ ap (λ (v : Upset). take j us ++ v ∷ []) (get_or_from_slice_get us j u u there)) in
    let one : forced_to ((u.net, u.value) ∷ []) x ≡ upset_at (u ∷ []) t x = ap (λ (b : Bool). cond (b && nat_eq u.net.0 x) (Some u.value) None) (sym (eq-eqb u.cycle t cycle)) in
    ap (λ (fs : List (NetId × Bool)). forced_to fs x) is
    ∙ (forced_to-append old ((u.net, u.value) ∷ []) x
    ∙ (ap (λ (o : Option Bool). or_else o (forced_to ((u.net, u.value) ∷ []) x)) e
    ∙ (ap (or_else (upset_at (take j us) t x)) one
    ∙ (sym (upset_at-append (take j us) (u ∷ []) t x) ∙ ap (λ (vs : List Upset). upset_at vs t x) (sym more)))))

-- those behind the cycle strike nothing in it
pub all_struck : (s : PlainSchedule) → IsPlainSchedule s → (t j : ℕ) (u : Upset) (fs : List (NetId × Bool)) (x : ℕ) → slice_get s.upsets j ≡ Some u → t < u.cycle → forced_to fs x ≡ upset_at (take j s.upsets) t x → forced_to fs x ≡ upset_at s.upsets t x
all_struck s is t j u fs x there later e =
    let none : upset_at (drop j s.upsets) t x ≡ None = none_at (drop j s.upsets) t x (λ i v at same. absurd (not_in i v (behind j s.upsets i v at) same (cases i))) in
    e ∙ (sym (or_none (upset_at (take j s.upsets) t x)) ∙ (ap (or_else (upset_at (take j s.upsets) t x)) (sym none)
    ∙ (sym (upset_at-append (take j s.upsets) (drop j s.upsets) t x) ∙ ap (λ (us : List Upset). upset_at us t x) (take-append-drop j s.upsets))))
  where
    cases : (i : ℕ) → (i ≡ 0) ⊎ (0 < i)
    cases i = grind arith

    not_in : (i : ℕ) (v : Upset) → slice_get s.upsets (j + i) ≡ Some v → v.cycle ≡ t → (i ≡ 0) ⊎ (0 < i) → ⊥
    not_in i v at same (inl z) =
        let here : slice_get s.upsets j ≡ Some v = let k : j + i ≡ j = omega arith in subst (λ (m : ℕ). slice_get s.upsets m ≡ Some v) k at in
        let one : u.cycle ≡ v.cycle = ap (λ (w : Upset). w.cycle) (let p : u ≡ v = cc in p) in
        omega arith
    not_in i v at same (inr l) = let le = in_order s is j (j + i) u v (omega arith) there at in omega arith

-- the partition of a domain
pub part_of_domain : (k : PlainCert) (h q : ℕ) (d : CopyNo) → IsIn k h (Some q) d → part_of_role k (role_of k h) ≡ Some q
part_of_domain k h q d = go (role_of k h)
  where
    go : (o : Option Role) → RoleIsIn k o h (Some q) d → part_of_role k o ≡ Some q
    go None (i, at, is) = absurd (cc)
    go (Some (Copy x e)) is = is.0
    go (Some (Voter x p e)) is = is.0

pub strikes_there : (k : PlainCert) (u : Upset) (p q : ℕ) (d : CopyNo) → IsIn k u.net.0 (Some q) d → strikes k p u ≡ nat_eq q p
strikes_there k u p q d is = ap (λ (o : Option ℕ). is_that o p) (part_of_domain k u.net.0 q d is)

equal_or_not : (a b : ℕ) → (a ≡ b) ⊎ (a ≢ b)
equal_or_not a b = grind arith

that_one : (o : Option ℕ) (p : ℕ) → is_that o p ≡ true → o ≡ Some p
that_one None p e = absurd (cc)
that_one (Some q) p e = ap Some (eqb-true q p e)

not_that : (o : Option ℕ) (p : ℕ) → is_that o p ≡ false → o ≢ Some p
not_that o p e same = absurd (let t : is_that o p ≡ true = ap (λ (r : Option ℕ). is_that r p) same ∙ eq-eqb p p refl in cc)

pub struck_same : (o : Option ℕ) (p last : ℕ) (lasts : List ℕ) → o ≡ Some p → p < length lasts → slice_index (with_strike o last lasts) p ≡ last
struck_same o p last lasts e l = ap (λ (r : Option ℕ). slice_index (with_strike r last lasts) p) e ∙ get_or-set_same lasts p last 0 l

pub struck_other : (o : Option ℕ) (p last : ℕ) (lasts : List ℕ) → o ≢ Some p → slice_index (with_strike o last lasts) p ≡ slice_index lasts p
struck_other None p last lasts e = refl
struck_other (Some q) p last lasts e = get_or-set_other lasts q p last 0 (λ same. e (ap Some (sym same)))

pub struck_length : (o : Option ℕ) (last : ℕ) (lasts : List ℕ) → length (with_strike o last lasts) ≡ length lasts
struck_length None last lasts = refl
struck_length (Some p) last lasts = length-set lasts p last

module _ (k : PlainCert) (us : List Upset) (t j : ℕ) (v : Upset) (there : slice_get us j ≡ Some v) (cycle : v.cycle ≡ t) (lasts : List ℕ) (room : length lasts ≡ length k.depth) (in_range : (p : ℕ) → strikes k p v ≡ true → p < length k.depth) (before : IsUpTo us t j) (old : AreLatest k us j lasts) where
  abbrev After : List ℕ
  After = with_strike (part_of_role k (role_of k v.net.0)) (t + 1) lasts

  pub up_to_more : IsUpTo us t (j + 1)
  up_to_more i u l at = go (equal_or_not i j)
    where
      go : (i ≡ j) ⊎ (i ≢ j) → u.cycle ≤ t
      go (inl e) = let same : u ≡ v = let f : slice_get us j ≡ Some u = subst (λ (m : ℕ). slice_get us m ≡ Some u) e at in cc in let c = ap (λ (w : Upset). w.cycle) same in omega arith
      go (inr e) = before i u (omega arith) at

  here : (p : ℕ) → strikes k p v ≡ true → slice_index After p ≡ t + 1
  here p e = struck_same (part_of_role k (role_of k v.net.0)) p (t + 1) lasts (that_one (part_of_role k (role_of k v.net.0)) p e) (let l = in_range p e in omega arith)

  elsewhere : (p : ℕ) → strikes k p v ≡ false → slice_index After p ≡ slice_index lasts p
  elsewhere p e = struck_other (part_of_role k (role_of k v.net.0)) p (t + 1) lasts (not_that (part_of_role k (role_of k v.net.0)) p e)

  latest_here : (i : ℕ) (u : Upset) (p : ℕ) → i < j + 1 → slice_get us i ≡ Some u → strikes k p u ≡ true → u.cycle < slice_index After p
  latest_here i u p l at strike = go (strikes k p v) refl (equal_or_not i j)
    where
      low : u.cycle ≤ t
      low = up_to_more i u l at

      go : (b : Bool) → strikes k p v ≡ b → (i ≡ j) ⊎ (i ≢ j) → u.cycle < slice_index After p
      go true e r = let h = here p e in let c = low in omega arith
      go false e (inl f) =
          let same : u ≡ v = let g : slice_get us j ≡ Some u = subst (λ (m : ℕ). slice_get us m ≡ Some u) f at in cc in
          absurd (let hits : strikes k p v ≡ true = subst (λ (w : Upset). strikes k p w ≡ true) same strike in cc)
      go false e (inr f) = let o = old.latest i u p (omega arith) at strike in subst (λ (m : ℕ). u.cycle < m) (sym (elsewhere p e)) o

  reached_here : (p : ℕ) → p < length k.depth → 0 < slice_index After p → IsLastStrike k us (j + 1) p (slice_index After p)
  reached_here p l some = go (strikes k p v) refl
    where
      go : (b : Bool) → strikes k p v ≡ b → IsLastStrike k us (j + 1) p (slice_index After p)
      go true e = record {
        place = j;
        upset = v;
        within = omega arith;
        there = there;
        strike = e;
        cycle = ap (λ (m : ℕ). m + 1) cycle ∙ sym (here p e);
      }
      go false e =
          let same = elsewhere p e in
          let o = old.reached p l (omega arith) in
          record { place = o.place; upset = o.upset; within = let w = o.within in omega arith; there = o.there; strike = o.strike; cycle = o.cycle ∙ sym same }

  pub latest_more : AreLatest k us (j + 1) After
  latest_more = record { latest = latest_here; reached = reached_here }

-- what is struck is a partition
part_range : (k : PlainCert) → IsCert k → (h p : ℕ) → part_of_role k (role_of k h) ≡ Some p → p < length k.depth
part_range k is h p = go (role_of k h) refl
  where
    part_in_range : (x q : ℕ) → slot k.original_inputs k.part x ≡ Some q → q < length k.depth
    part_in_range x q e =
        let (low, high) = slot_within k.original_inputs k.part x q e in
        let at : slice_get k.part (x - k.original_inputs) ≡ Some q = sym (slot_at k.original_inputs k.part x low) ∙ e in
        let same = get_or_from_slice_get k.part (x - k.original_inputs) q q at in
        subst (λ (m : ℕ). m < length k.depth) same (is.parts_in_range (x - k.original_inputs) q (omega arith))

    go : (o : Option Role) → role_of k h ≡ o → part_of_role k o ≡ Some p → p < length k.depth
    go None at e = absurd (cc)
    go (Some (Copy x c)) at e = part_in_range x.0 p e
    go (Some (Voter x q c)) at e = let r = is.roles_in_range h (Voter x q c) at in let same : q.0 ≡ p = cc in subst (λ (m : ℕ). m < length k.depth) same r.2

pub strike_range : (k : PlainCert) → IsCert k → (v : Upset) (p : ℕ) → strikes k p v ≡ true → p < length k.depth
strike_range k is v p e = part_range k is v.net.0 p (that_one (part_of_role k (role_of k v.net.0)) p e)

one : {A : Type 0} (P : A → Type 0) (x : A) → P x → All P (x ∷ [])
one P x p zero d h = p
one P x p (suc i) d h = absurd (omega arith)

pub nets_more : (high : ℕ) (fs new : List (NetId × Bool)) (f : NetId × Bool) → All (λ f. f.0.0 < high) fs → f.0.0 < high → new ≡ fs ++ f ∷ [] → All (λ f. f.0.0 < high) new
nets_more high fs new f all h e = subst (λ (gs : List (NetId × Bool)). All (λ f. f.0.0 < high) gs) (sym e) (All-append (λ f. f.0.0 < high) fs (f ∷ []) all (λ i d m. one (λ f. f.0.0 < high) f h i d m))

-- a row three times
length_spread : (row : List Bool) → length (spread_row row) ≡ 3 * length row
length_spread [] = refl
length_spread (b ∷ row) = let more = length_spread row in omega arith

pub all_spread : (row : List Bool) → length (spread_row row) ≡ 3 * length row
all_spread row = length_spread row

pub spread_is : (row spread : List Bool) → length spread ≡ 3 * length row
    → ((k : ℕ) → k < length row → get_or spread (3 * k) false ≡ bit row k) → ((k : ℕ) → k < length row → get_or spread (3 * k + 1) false ≡ bit row k) → ((k : ℕ) → k < length row → get_or spread (3 * k + 2) false ≡ bit row k)
    → spread ≡ spread_row row
spread_is row spread long first second third = ext_get_or false spread (spread_row row) (long ∙ sym (length_spread row)) (λ m h. go m h (ways m))
  where
    ways : (m : ℕ) → (m ≡ 3 * (m / 3)) ⊎ ((m ≡ 3 * (m / 3) + 1) ⊎ (m ≡ 3 * (m / 3) + 2))
    ways m = grind arith

    at : (m k : ℕ) (c : CopyNo) (n : ℕ) → m ≡ 3 * k + n → bit (spread_row row) (3 * k + n) ≡ bit row k → get_or spread (3 * k + n) false ≡ bit row k → get_or spread m false ≡ get_or (spread_row row) m false
    at m k c n e there is = subst (λ (i : ℕ). get_or spread i false ≡ get_or (spread_row row) i false) (sym e) (is ∙ sym there)

    go : (m : ℕ) → m < length spread → (m ≡ 3 * (m / 3)) ⊎ ((m ≡ 3 * (m / 3) + 1) ⊎ (m ≡ 3 * (m / 3) + 2)) → get_or spread m false ≡ get_or (spread_row row) m false
    go m h (inl e) =
        let zero_more : 3 * (m / 3) + 0 ≡ 3 * (m / 3) = omega arith in
        at m (m / 3) First 0 (omega arith) (bit-spread_row row (m / 3) First) (subst (λ (i : ℕ). get_or spread i false ≡ bit row (m / 3)) (sym zero_more) (first (m / 3) (omega arith)))
    go m h (inr (inl e)) = at m (m / 3) Second 1 e (bit-spread_row row (m / 3) Second) (second (m / 3) (omega arith))
    go m h (inr (inr e)) = at m (m / 3) Third 2 e (bit-spread_row row (m / 3) Third) (third (m / 3) (omega arith))
