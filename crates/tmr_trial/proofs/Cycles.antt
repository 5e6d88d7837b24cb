-- One cycle more is drawn.
use Rattle.std.proofs.Common.{◌≡◌, ◌≢◌, ℕ, zero, suc, ◌+◌, ◌<◌, ◌≤◌, inl, inr, Bool, List, [], ◌∷◌, ◌++◌, length, map, Option, Some, None, refl, sym, ◌∙◌, ap, subst, arith, All}
use Rattle.std.specs.Prelude.{◌==◌}
use Rattle.std.specs.List.{range_with_len}
use Rattle.std.proofs.lemmas.Bool.{eq-eqb, ne_eqb, cond-true, cond-false}
use Rattle.std.proofs.lemmas.List.{length-append}
use Rattle.std.proofs.lemmas.List.Elements.{All-append}
use Rattle.std.proofs.lemmas.List.FromFn.{map-range_with_len_more}
use Rattle.tmr_base.specs.declared.ids.Upset.{Upset}
use Rattle.flat_net.specs.Net.{Net}
use Rattle.certificate.specs.Cert.{PlainCert}
use Rattle.certificate.specs.Schedules.{Allowed}
use Rattle.schedules.specs.Schedule.{PlainSchedule}
use Rattle.tmr_trial.specs.declared.strikes.Strike.{Strike}
use Rattle.tmr_trial.specs.Numbers.{next_state, state_after, drawn, draw}
use Rattle.tmr_trial.specs.Schedules.{cycle_draws, state_before, row_drawn, upset_drawn, IsAdded, AreAdded}
use Rattle.tmr_trial.specs.Strikes.{AreStrikes}
use Rattle.tmr_trial.specs.Drawing.{IsOfNode, HasDrawn, IsNext}

-- one input more
pub row_more : (s now i first : ℕ) (old new : List Bool) → now ≡ state_after i s → first ≡ drawn (next_state now) 2 → old ≡ row_drawn i s → new ≡ old ++ (first == 1) ∷ [] → new ≡ row_drawn (i + 1) s
row_more s now i first old new at is before more =
    let value : (first == 1) ≡ (draw s i 2 == 1) = ap (λ (k : ℕ). k == 1) (is ∙ ap (λ (k : ℕ). drawn (next_state k) 2) at) in
    more ∙ (ap (λ (xs : List Bool). xs ++ (first == 1) ∷ []) before ∙ (ap (λ (b : Bool). row_drawn i s ++ b ∷ []) value ∙ sym (map-range_with_len_more (λ i. draw s i 2 == 1) 0 i i (omega arith))))

pub state_one_more : (s now i after : ℕ) → now ≡ state_after i s → after ≡ next_state now → after ≡ state_after (i + 1) s
state_one_more s now i after at is =
    let e : i + 1 ≡ suc i = omega arith in
    is ∙ (ap next_state at ∙ sym (ap (λ (k : ℕ). state_after k s) e))

-- where there are hardened nodes, and where there are none
pub no_upset : (n h : Net) (t s : ℕ) → length h.nodes ≡ 0 → upset_drawn n h t s ≡ None
no_upset n h t s e = cond-true (length h.nodes == 0) None _ (eq-eqb (length h.nodes) 0 e)

pub some_upset : (n h : Net) (t s : ℕ) → length h.nodes ≢ 0 → upset_drawn n h t s ≡ Some (record { cycle = t; net = record { 0 = length h.inputs + draw s (length n.inputs) (length h.nodes) }; value = draw s (suc (length n.inputs)) 2 == 1 })
some_upset n h t s e = cond-false (length h.nodes == 0) None _ (ne_eqb (length h.nodes) 0 e)

pub draws_alone : (n h : Net) → length h.nodes ≡ 0 → cycle_draws n h ≡ length n.inputs
draws_alone n h e = cond-true (length h.nodes == 0) (length n.inputs) (suc (suc (length n.inputs))) (eq-eqb (length h.nodes) 0 e)

pub draws_upset : (n h : Net) → length h.nodes ≢ 0 → cycle_draws n h ≡ suc (suc (length n.inputs))
draws_upset n h e = cond-false (length h.nodes == 0) (length n.inputs) (suc (suc (length n.inputs))) (ne_eqb (length h.nodes) 0 e)

added_elim : (k : PlainCert) (before : List Upset) (o : Option Upset) (after : List Upset) (P : List Upset → Type 0) → P before → ((u : Upset) → o ≡ Some u → P (before ++ u ∷ [])) → IsAdded k before o after → P after
added_elim k before None after P same more e = subst P (sym e) same
added_elim k before (Some u) after P same more (inl (allowed, e)) = subst P (sym e) (more u refl)
added_elim k before (Some u) after P same more (inr (refused, e)) = subst P (sym e) same

one : {A : Type 0} (P : A → Type 0) (x : A) → P x → All P (x ∷ [])
one P x p zero d h = p
one P x p (suc i) d h = absurd (omega arith)

-- before the first cycle
pub drawn_none : (number : ℕ) (n h : Net) (k : PlainCert) (state : ℕ) (strikes : List (Option Strike)) (s : PlainSchedule) → state ≡ number → s.inputs ≡ length n.inputs → s.rows ≡ [] → s.starts ≡ [] → s.upsets ≡ [] → AreStrikes k [] strikes → HasDrawn number n h k 0 state strikes s
unfolding state_before
drawn_none number n h k state strikes s at inputs rows starts upsets are = record {
  state_is = at;
  schedule = record { inputs = inputs; starts = starts; rows = rows; upsets = upsets };
  long = ap length rows;
  allowed = subst (λ (us : List Upset). Allowed us k) (sym upsets) (λ u v p c d u_there. absurd (let l = u_there.1 in omega arith));
  earlier = subst (λ (us : List Upset). All (λ u. u.cycle < 0) us) (sym upsets) (λ i d l. absurd (omega arith));
  few = omega (arith, ap length upsets);
  nodes = subst (λ (us : List Upset). All (IsOfNode k) us) (sym upsets) (λ i d l. absurd (omega arith));
  strikes_are = subst (λ (us : List Upset). AreStrikes k us strikes) (sym upsets) are;
}

-- what an upset of this cycle is
abbrev pub IsOfCycle : PlainCert → ℕ → Upset → Type 0
IsOfCycle k t u = (u.cycle ≡ t) × IsOfNode k u

pub cycle_drawn : (number : ℕ) (n h : Net) (k : PlainCert) (t state after : ℕ) (strikes next : List (Option Strike)) (old new : PlainSchedule) (row : List Bool) → HasDrawn number n h k t state strikes old → new.inputs ≡ old.inputs → new.starts ≡ old.starts → new.rows ≡ old.rows ++ row ∷ [] → row ≡ row_drawn (length n.inputs) state → after ≡ state_after (cycle_draws n h) state
    → IsAdded k old.upsets (upset_drawn n h t state) new.upsets → ((u : Upset) → upset_drawn n h t state ≡ Some u → IsOfCycle k t u) → Allowed new.upsets k → AreStrikes k new.upsets next → HasDrawn number n h k (t + 1) after next new
unfolding state_before
cycle_drawn number n h k t state after strikes next old new row is inputs starts rows row_is after_is added of_cycle allowed are = record {
  state_is = after_is ∙ (ap (state_after (cycle_draws n h)) is.state_is ∙ sym (ap (state_before n h number) behind));
  schedule = record {
    inputs = inputs ∙ is.schedule.inputs;
    starts = starts ∙ is.schedule.starts;
    rows = rows ∙ (ap (λ (xs : List (List Bool)). xs ++ row ∷ []) is.schedule.rows ∙ (ap (λ (r : List Bool). map (λ t. row_drawn (length n.inputs) (state_before n h number t)) (range_with_len 0 t) ++ r ∷ []) (row_is ∙ ap (row_drawn (length n.inputs)) is.state_is) ∙ sym (map-range_with_len_more (λ t. row_drawn (length n.inputs) (state_before n h number t)) 0 t t (omega arith))));
    upsets = subst (λ (m : ℕ). AreAdded n h k number m new.upsets) (sym behind) (old.upsets, is.schedule.upsets, subst (λ (s : ℕ). IsAdded k old.upsets (upset_drawn n h t s) new.upsets) is.state_is added);
  };
  long = ap length rows ∙ (length-append old.rows (row ∷ []) ∙ ap (λ (m : ℕ). m + 1) is.long);
  allowed = allowed;
  earlier = added_elim k old.upsets (upset_drawn n h t state) new.upsets (λ (us : List Upset). All (λ u. u.cycle < t + 1) us) earlier (λ u at. All-append (λ u. u.cycle < t + 1) old.upsets (u ∷ []) earlier (one (λ u. u.cycle < t + 1) u (let e = (of_cycle u at).0 in omega arith))) added;
  few = added_elim k old.upsets (upset_drawn n h t state) new.upsets (λ (us : List Upset). length us ≤ t + 1) (omega (arith, is.few)) (λ u at. omega (arith, is.few, length-append old.upsets (u ∷ []))) added;
  nodes = added_elim k old.upsets (upset_drawn n h t state) new.upsets (λ (us : List Upset). All (IsOfNode k) us) is.nodes (λ u at. All-append (IsOfNode k) old.upsets (u ∷ []) is.nodes (one (IsOfNode k) u (of_cycle u at).1)) added;
  strikes_are = are;
}
  where
    behind : t + 1 ≡ suc t
    behind = omega arith

    earlier : All (λ u. u.cycle < t + 1) old.upsets
    earlier i d l = let e = is.earlier i d l in omega (arith, e)

pub after_row : (old new : PlainSchedule) (row : List Bool) → new ≡ record old { rows = old.rows ++ row ∷ [] } → (new.inputs ≡ old.inputs) × (new.rows ≡ old.rows ++ row ∷ []) × (new.upsets ≡ old.upsets) × (new.starts ≡ old.starts)
after_row old new row e = (ap (λ (s : PlainSchedule). s.inputs) e, ap (λ (s : PlainSchedule). s.rows) e, ap (λ (s : PlainSchedule). s.upsets) e, ap (λ (s : PlainSchedule). s.starts) e)

-- a cycle of a design without nodes
pub quiet_cycle : (number : ℕ) (n h : Net) (k : PlainCert) (t state after count : ℕ) (strikes : List (Option Strike)) (old new : PlainSchedule) (row : List Bool) → HasDrawn number n h k t state strikes old → count ≡ length n.inputs → new ≡ record old { rows = old.rows ++ row ∷ [] } → row ≡ row_drawn count state → after ≡ state_after count state → length h.nodes ≡ 0 → HasDrawn number n h k (t + 1) after strikes new
quiet_cycle number n h k t state after count strikes old new row is count_is more row_is after_is none =
    let parts = after_row old new row more in
    let quiet = no_upset n h t state none in
    cycle_drawn number n h k t state after strikes strikes old new row is parts.0 parts.3 parts.1 (row_is ∙ ap (λ (m : ℕ). row_drawn m state) count_is) (after_is ∙ ap (λ (m : ℕ). state_after m state) (count_is ∙ sym (draws_alone n h none)))
    (subst (λ (o : Option Upset). IsAdded k old.upsets o new.upsets) (sym quiet) parts.2)
    (λ u at. absurd (let no : None ≡ Some u = sym quiet ∙ at in cc))
    (subst (λ (us : List Upset). Allowed us k) (sym parts.2) is.allowed)
    (subst (λ (us : List Upset). AreStrikes k us strikes) (sym parts.2) is.strikes_are)

-- the upset that is drawn behind a row
abbrev pub upset_behind : Net → ℕ → ℕ → Upset
upset_behind h t s = record { cycle = t; net = record { 0 = length h.inputs + draw s 0 (length h.nodes) }; value = draw s 1 2 == 1 }

pub next_upset : (number : ℕ) (n h : Net) (k : PlainCert) (t state : ℕ) (strikes : List (Option Strike)) (old new : PlainSchedule) (row : List Bool) (u : Upset) → HasDrawn number n h k t state strikes old → t < 1048576 → new ≡ record old { rows = old.rows ++ row ∷ [] } → u.cycle ≡ t → k.hardened_inputs ≤ u.net.0 → u.net.0 < k.hardened_inputs + length k.roles → IsNext k u strikes new
next_upset number n h k t state strikes old new row u is room more at low high =
    let parts = after_row old new row more in
    record {
      low = low;
      high = high;
      earlier = subst (λ (us : List Upset). All (λ v. v.cycle < u.cycle) us) (sym parts.2) (subst (λ (m : ℕ). All (λ v. v.cycle < m) old.upsets) (sym at) is.earlier);
      range = omega (arith, at, ap length parts.1, length-append old.rows (row ∷ []), is.long);
      room = omega (arith, ap length parts.2, is.few, room);
      allowed = subst (λ (us : List Upset). Allowed us k) (sym parts.2) is.allowed;
      strikes_are = subst (λ (us : List Upset). AreStrikes k us strikes) (sym parts.2) is.strikes_are;
    }

-- a cycle of a design with nodes
pub struck_cycle : (number : ℕ) (n h : Net) (k : PlainCert) (t state behind after count : ℕ) (strikes next : List (Option Strike)) (old mid new : PlainSchedule) (row : List Bool) (u : Upset) → HasDrawn number n h k t state strikes old → count ≡ length n.inputs → mid ≡ record old { rows = old.rows ++ row ∷ [] } → row ≡ row_drawn count state → behind ≡ state_after count state → length h.nodes ≢ 0
    → u ≡ upset_behind h t behind → k.hardened_inputs ≤ u.net.0 → u.net.0 < k.hardened_inputs + length k.roles → after ≡ state_after 2 behind → IsAdded k mid.upsets (Some u) new.upsets → new.inputs ≡ mid.inputs → new.rows ≡ mid.rows → new.starts ≡ mid.starts → Allowed new.upsets k → AreStrikes k new.upsets next → HasDrawn number n h k (t + 1) after next new
struck_cycle number n h k t state behind after count strikes next old mid new row u is count_is more row_is behind_is some u_is low high after_is added inputs rows starts allowed are =
    let parts = after_row old mid row more in
    let at : behind ≡ state_after (length n.inputs) state = behind_is ∙ ap (λ (m : ℕ). state_after m state) count_is in
    let drawn_is : upset_drawn n h t state ≡ Some u = some_upset n h t state some ∙ (ap (λ (s : ℕ). Some (upset_behind h t s)) (sym at) ∙ ap Some (sym u_is)) in
    cycle_drawn number n h k t state after strikes next old new row is (inputs ∙ parts.0) (starts ∙ parts.3) (rows ∙ parts.1) (row_is ∙ ap (λ (m : ℕ). row_drawn m state) count_is) (after_is ∙ (ap (λ (s : ℕ). state_after 2 s) at ∙ ap (λ (m : ℕ). state_after m state) (sym (draws_upset n h some))))
    (subst (λ (o : Option Upset). IsAdded k old.upsets o new.upsets) (sym drawn_is) (subst (λ (us : List Upset). IsAdded k us (Some u) new.upsets) parts.2 added))
    (λ v there. of_cycle v (some_same u v (sym drawn_is ∙ there)))
    allowed
    are
  where
    some_same : (a b : Upset) → Some a ≡ Some b → a ≡ b
    some_same a b e = cc

    of_cycle : (v : Upset) → u ≡ v → IsOfCycle k t v
    of_cycle v same = subst (IsOfCycle k t) same (ap (λ (w : Upset). w.cycle) u_is, (low, high))
