-- The last upset of a partition tells whether it is quiet.
use Rattle.std.proofs.Common.{◌≡◌, ℕ, ◌+◌, ◌-◌, ◌*◌, ◌/◌, ◌<◌, ◌≤◌, ◌⊎◌, inl, inr, Bool, true, false, not, ◌&&◌, ◌||◌, List, Any, length, slice_get, slice_index, Some, refl, sym, ◌∙◌, ap, arith}
use Rattle.std.specs.Prelude.{nat_eq, nat_le, replicate}
use Rattle.std.proofs.lemmas.List.{get_or-replicate}
use Rattle.std.specs.List.{list_any}
use Rattle.std.proofs.lemmas.Bool.Decides.{nat_tests}
use Rattle.std.proofs.lemmas.List.Folds.{Any-from_list_any, list_any-from_Any}
use Rattle.std.proofs.lemmas.Option.{slice_get_within, slice_get-get_or, get_or_from_slice_get}
use Rattle.tmr_base.specs.declared.ids.Upset.{Upset}
use Rattle.flat_net.specs.Net.{Net}
use Rattle.std.proofs.lemmas.Bool.{eq-eqb}
use Rattle.tmr_base.specs.declared.copies.CopyNo.{CopyNo}
use Rattle.tmr_base.specs.declared.copies.CopyNo.TheVariants.{First, Second, Third}
use Rattle.tmr_base.specs.Copies.{copy_number}
use Rattle.flat_net.proofs.Slots.{slice_get_there}
use Rattle.certificate.specs.Cert.{PlainCert, depth_of, copy_of}
use Rattle.certificate.specs.Rules.{Rule8}
use Rattle.certificate.specs.Schedules.{IsQuiet}
use Rattle.schedule_replay.proofs.Taking.{strikes_there}
use Rattle.schedule_replay.specs.Outcome.{strikes, is_quiet}
use Rattle.schedule_replay.specs.Striking.{IsTaken, AreLatest}
use Rattle.schedule_replay.specs.Private.Telling.{TellQuiet}

-- the upset is in the partition's window
abbrev in_window : PlainCert → ℕ → ℕ → Upset → Bool
in_window k p t u = strikes k p u && (nat_le (t - depth_of k p) u.cycle && nat_le u.cycle t)

parts : (a b c : Bool) → (a && (b && c)) ≡ true → (a ≡ true) × ((b ≡ true) × (c ≡ true))
parts true true true e = (refl, (refl, refl))
parts true true false e = absurd (cc)
parts true false c e = absurd (cc)
parts false b c e = absurd (cc)

low_of : (t d cycle : ℕ) → nat_le (t - d) cycle ≡ true → t - d ≤ cycle
low_of t d cycle e = grind (arith, nat_tests)

high_of : (cycle t : ℕ) → nat_le cycle t ≡ true → cycle ≤ t
high_of cycle t e = grind (arith, nat_tests)

in_both : (t d cycle : ℕ) → t - d ≤ cycle → cycle ≤ t → (nat_le (t - d) cycle && nat_le cycle t) ≡ true
in_both t d cycle l h = grind (arith, nat_tests)

passed : (last d t : ℕ) → (last ≡ 0) ⊎ (last + d ≤ t) → (nat_eq last 0 || nat_le (last + d) t) ≡ true
passed last d t (inl e) = grind (arith, nat_tests)
passed last d t (inr l) = grind (arith, nat_tests)

not_passed : (last d t : ℕ) → 0 < last → t < last + d → (nat_eq last 0 || nat_le (last + d) t) ≡ false
not_passed last d t l h = grind (arith, nat_tests)

last_ways : (last d t : ℕ) → ((last ≡ 0) ⊎ (last + d ≤ t)) ⊎ ((0 < last) × (t < last + d))
last_ways last d t = go (zero_or last) (le_or (last + d) t)
  where
    zero_or : (a : ℕ) → (a ≡ 0) ⊎ (0 < a)
    zero_or a = grind arith

    le_or : (a b : ℕ) → (a ≤ b) ⊎ (b < a)
    le_or a b = grind arith

    go : (last ≡ 0) ⊎ (0 < last) → (last + d ≤ t) ⊎ (t < last + d) → ((last ≡ 0) ⊎ (last + d ≤ t)) ⊎ ((0 < last) × (t < last + d))
    go (inl e) r = inl (inl e)
    go (inr l) (inl h) = inl (inr h)
    go (inr l) (inr h) = inr (l, h)

module _ (k : PlainCert) (us : List Upset) (t next : ℕ) (lasts : List ℕ) (taken : IsTaken us (t + 1) next) (latest : AreLatest k us next lasts) (p : ℕ) (in_range : p < length k.depth) where
  -- an upset in the window is the last one, or stands before it
  seen : (j : ℕ) (u : Upset) → slice_get us j ≡ Some u → in_window k p t u ≡ true → (0 < slice_index lasts p) × (t < slice_index lasts p + depth_of k p)
  seen j u at window =
      let w = parts (strikes k p u) (nat_le (t - depth_of k p) u.cycle) (nat_le u.cycle t) window in
      let low = low_of t (depth_of k p) u.cycle w.1.0 in
      let high = high_of u.cycle t w.1.1 in
      before j u at w.0 low high (ways j next)
    where
      ways : (a b : ℕ) → (a < b) ⊎ (b ≤ a)
      ways a b = grind arith

      before : (j : ℕ) (u : Upset) → slice_get us j ≡ Some u → strikes k p u ≡ true → t - depth_of k p ≤ u.cycle → u.cycle ≤ t → (j < next) ⊎ (next ≤ j) → (0 < slice_index lasts p) × (t < slice_index lasts p + depth_of k p)
      before j u at strike low high (inl l) = let o = latest.latest j u p l at strike in (omega arith, omega arith)
      before j u at strike low high (inr g) = absurd (let a = taken.after j u g at in omega arith)

  none_seen : (b : Bool) → list_any (in_window k p t) us ≡ b → (slice_index lasts p ≡ 0) ⊎ (slice_index lasts p + depth_of k p ≤ t) → not b ≡ true
  none_seen false e quiet = refl
  none_seen true e quiet = contra (Any-from_list_any (in_window k p t) us e) quiet
    where
      contra : Any (λ u. in_window k p t u ≡ true) us → (slice_index lasts p ≡ 0) ⊎ (slice_index lasts p + depth_of k p ≤ t) → false ≡ true
      contra (j, u, l, at, window) (inl z) = absurd (let s = seen j u (slice_get-get_or us j u l ∙ ap Some at) window in let a = s.0 in omega arith)
      contra (j, u, l, at, window) (inr le) = absurd (let s = seen j u (slice_get-get_or us j u l ∙ ap Some at) window in let a = s.1 in omega arith)

  some_seen : 0 < slice_index lasts p → t < slice_index lasts p + depth_of k p → list_any (in_window k p t) us ≡ true
  some_seen l h =
      let s = latest.reached p in_range l in
      let below = taken.before s.place s.upset s.within s.there in
      let behind = s.cycle in
      let both = in_both t (depth_of k p) s.upset.cycle (omega arith) (omega arith) in
      let window : in_window k p t s.upset ≡ true = ap (λ (b : Bool). b && (nat_le (t - depth_of k p) s.upset.cycle && nat_le s.upset.cycle t)) s.strike ∙ both in
      list_any-from_Any (in_window k p t) us (s.place, s.upset, slice_get_within us s.place s.upset s.there, get_or_from_slice_get us s.place s.upset s.upset s.there, window)

  told : is_quiet k us p t ≡ (nat_eq (slice_index lasts p) 0 || nat_le (slice_index lasts p + depth_of k p) t)
  told = go (last_ways (slice_index lasts p) (depth_of k p) t)
    where
      go : ((slice_index lasts p ≡ 0) ⊎ (slice_index lasts p + depth_of k p ≤ t)) ⊎ ((0 < slice_index lasts p) × (t < slice_index lasts p + depth_of k p)) → is_quiet k us p t ≡ (nat_eq (slice_index lasts p) 0 || nat_le (slice_index lasts p + depth_of k p) t)
      go (inl quiet) = none_seen (list_any (in_window k p t) us) refl quiet ∙ sym (passed (slice_index lasts p) (depth_of k p) t quiet)
      go (inr (l, h)) = ap not (some_seen l h) ∙ sym (not_passed (slice_index lasts p) (depth_of k p) t l h)

pub tell_quiet : (k : PlainCert) (us : List Upset) (t next : ℕ) (lasts : List ℕ) → IsTaken us (t + 1) next → AreLatest k us next lasts → TellQuiet k us t lasts
tell_quiet k us t next lasts taken latest p in_range = told k us t next lasts taken latest p in_range

not_true : (b : Bool) → not b ≡ true → b ≡ true → ⊥
not_true true e f = absurd (cc)
not_true false e f = absurd (cc)

-- the test says what the definition of quiet partitions says
pub quiet_is : (k : PlainCert) (s : List Upset) (p t : ℕ) → is_quiet k s p t ≡ true → IsQuiet s k (Some p) t
quiet_is k s p t quiet c u (j, within, at) is_in low high =
    let strike : strikes k p u ≡ true = strikes_there k u p p c is_in ∙ eq-eqb p p refl in
    let window : in_window k p t u ≡ true = ap (λ (b : Bool). b && (nat_le (t - depth_of k p) u.cycle && nat_le u.cycle t)) strike ∙ in_both t (depth_of k p) u.cycle low high in
    not_true (list_any (in_window k p t) s) quiet (list_any-from_Any (in_window k p t) s (j, u, within, at, window))

-- by the rule of outputs there are three for each of the original
pub three_outputs : (n h : Net) (k : PlainCert) → ((place : ℕ) → Rule8 n h k place) → length h.outputs ≡ 3 * length n.outputs
three_outputs n h k rule = go (ways (length h.outputs) (3 * length n.outputs))
  where
    ways : (a b : ℕ) → (b < a) ⊎ ((a < b) ⊎ (a ≡ b))
    ways a b = grind arith

    thirds : (j : ℕ) → (j ≡ 3 * (j / 3)) ⊎ ((j ≡ 3 * (j / 3) + 1) ⊎ (j ≡ 3 * (j / 3) + 2))
    thirds j = grind arith

    missing : (i : ℕ) (c : CopyNo) → length h.outputs ≡ 3 * i + copy_number c → i < length n.outputs → ⊥
    missing i c e l =
        let (x, there) = slice_get_there n.outputs i l in
        let within = slice_get_within h.outputs (length h.outputs) (copy_of k x c) ((rule (length h.outputs)).copy i x c e there) in
        absurd (omega arith)

    third : (j : ℕ) → length h.outputs ≡ j → j < 3 * length n.outputs → (j ≡ 3 * (j / 3)) ⊎ ((j ≡ 3 * (j / 3) + 1) ⊎ (j ≡ 3 * (j / 3) + 2)) → ⊥
    third j e l (inl f) = missing (j / 3) First (let z : 3 * (j / 3) + 0 ≡ 3 * (j / 3) = omega arith in e ∙ (f ∙ sym z)) (omega arith)
    third j e l (inr (inl f)) = missing (j / 3) Second (e ∙ f) (omega arith)
    third j e l (inr (inr f)) = missing (j / 3) Third (e ∙ f) (omega arith)

    go : (3 * length n.outputs < length h.outputs) ⊎ ((length h.outputs < 3 * length n.outputs) ⊎ (length h.outputs ≡ 3 * length n.outputs)) → length h.outputs ≡ 3 * length n.outputs
    go (inl l) = absurd (let more = (rule (3 * length n.outputs)).no_more l in omega arith)
    go (inr (inl l)) = absurd (third (length h.outputs) refl l (thirds (length h.outputs)))
    go (inr (inr e)) = e

-- before the first cycle no partition was struck
pub none_struck : (k : PlainCert) (us : List Upset) (lasts : List ℕ) → lasts ≡ replicate (length k.depth) 0 → AreLatest k us 0 lasts
none_struck k us lasts e = record {
  latest = λ j u p l. absurd (omega arith);
  reached = λ p l some. absurd (let none : slice_index lasts p ≡ 0 = ap (λ (ls : List ℕ). slice_index ls p) e ∙ get_or-replicate (length k.depth) p 0 0 l in omega arith);
}

pub none_taken : (us : List Upset) → IsTaken us 0 0
none_taken us = record { before = λ j u l. absurd (omega arith); after = λ j u l at. omega arith }
