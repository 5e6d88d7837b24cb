-- One cycle more of a schedule of pairs is drawn.
use Rattle.std.proofs.Common.{◌≡◌, ◌≢◌, ℕ, zero, suc, ◌+◌, ◌<◌, ◌≤◌, ◌⊎◌, inl, inr, Bool, true, false, cond, ◌&&◌, List, [], ◌∷◌, ◌++◌, length, map, Option, Some, None, refl, sym, ◌∙◌, ap, subst, arith, append_assoc, All}
use Rattle.std.specs.Prelude.{◌==◌, ◌-◌, nat_lt, nat_le, slice_get, IfSome, Contains}
use Rattle.std.specs.List.{range_with_len, flat_map, list_all}
use Rattle.std.proofs.lemmas.Bool.{cases_lt, cases_eq, eq-eqb, ne_eqb, cond-true, cond-false}
use Rattle.std.proofs.lemmas.Bool.Decides.{nat_tests}
use Rattle.std.proofs.lemmas.List.{length-append, flat_map_more}
use Rattle.std.proofs.lemmas.List.Elements.{All-append, All-push, Contains-append_left}
use Rattle.std.proofs.lemmas.List.Folds.{list_all-append}
use Rattle.std.proofs.lemmas.List.FromFn.{map-range_with_len_more}
use Rattle.tmr_base.specs.declared.copies.CopyNo.{CopyNo}
use Rattle.tmr_base.specs.declared.ids.Upset.{Upset}
use Rattle.flat_net.specs.Net.{Net}
use Rattle.flat_net.proofs.Slots.{slot_within}
use Rattle.certificate.specs.Cert.{PlainCert, depth_of}
use Rattle.certificate.specs.Schedules.{IsIn, Allowed}
use Rattle.certificate.proofs.Domains.{one_domain}
use Rattle.schedules.specs.Schedule.{PlainSchedule, IsBefore}
use Rattle.tmr_trial.specs.declared.near_pairs.NearPair.{NearPair}
use Rattle.tmr_trial.specs.Numbers.{state_after}
use Rattle.tmr_trial.specs.Schedules.{cycle_draws, state_before, row_drawn}
use Rattle.tmr_trial.specs.NearDrawing.{HasRows, HasPairs}
use Rattle.tmr_trial.specs.NearSchedules.{IsTooNear, IsNearSchedule, pair_drawn, pair_state, pairs_until, with_pair, is_turned, pair_upsets}
use Rattle.tmr_trial.proofs.Cycles.{after_row, draws_alone, draws_upset}
use Rattle.tmr_trial.proofs.MemberLaws.{role_in}
use Rattle.tmr_trial.proofs.PairLaws.{pair_facts}

-- ---- the rows

pub no_rows : (number : ℕ) (n h : Net) (state : ℕ) (s : PlainSchedule) → state ≡ number → s.inputs ≡ length n.inputs → s.rows ≡ [] → s.starts ≡ [] → s.upsets ≡ [] → HasRows number n h 0 state s
unfolding state_before
no_rows number n h state s at inputs rows starts upsets = record { state_is = at; inputs = inputs; starts = starts; rows = rows; long = ap length rows; upsets = upsets }

row_more : (number : ℕ) (n h : Net) (t state after : ℕ) (old new : PlainSchedule) (row : List Bool) → HasRows number n h t state old → new ≡ record old { rows = old.rows ++ row ∷ [] } → row ≡ row_drawn (length n.inputs) state → after ≡ state_after (cycle_draws n h) state → HasRows number n h (t + 1) after new
unfolding state_before
row_more number n h t state after old new row is more row_is after_is =
    let parts = after_row old new row more in
    let behind : t + 1 ≡ suc t = omega arith in
    record {
      state_is = after_is ∙ (ap (state_after (cycle_draws n h)) is.state_is ∙ sym (ap (state_before n h number) behind));
      inputs = parts.0 ∙ is.inputs;
      starts = parts.3 ∙ is.starts;
      rows = parts.1 ∙ (ap (λ (xs : List (List Bool)). xs ++ row ∷ []) is.rows ∙ (ap (λ (r : List Bool). map (λ t. row_drawn (length n.inputs) (state_before n h number t)) (range_with_len 0 t) ++ r ∷ []) (row_is ∙ ap (row_drawn (length n.inputs)) is.state_is) ∙ sym (map-range_with_len_more (λ t. row_drawn (length n.inputs) (state_before n h number t)) 0 t t (omega arith))));
      long = ap length parts.1 ∙ (length-append old.rows (row ∷ []) ∙ ap (λ (m : ℕ). m + 1) is.long);
      upsets = parts.2 ∙ is.upsets;
    }

-- a row of a design without nodes
pub row_alone : (number : ℕ) (n h : Net) (t state after count : ℕ) (old new : PlainSchedule) (row : List Bool) → HasRows number n h t state old → count ≡ length n.inputs → new ≡ record old { rows = old.rows ++ row ∷ [] } → row ≡ row_drawn count state → after ≡ state_after count state → length h.nodes ≡ 0 → HasRows number n h (t + 1) after new
row_alone number n h t state after count old new row is count_is more row_is after_is none =
    row_more number n h t state after old new row is more (row_is ∙ ap (λ (m : ℕ). row_drawn m state) count_is) (after_is ∙ ap (λ (m : ℕ). state_after m state) (count_is ∙ sym (draws_alone n h none)))

-- a row of a design with nodes
pub row_and_upset : (number : ℕ) (n h : Net) (t state behind after count : ℕ) (old new : PlainSchedule) (row : List Bool) → HasRows number n h t state old → count ≡ length n.inputs → new ≡ record old { rows = old.rows ++ row ∷ [] } → row ≡ row_drawn count state → behind ≡ state_after count state → length h.nodes ≢ 0 → after ≡ state_after 2 behind → HasRows number n h (t + 1) after new
row_and_upset number n h t state behind after count old new row is count_is more row_is behind_is some after_is =
    let at : behind ≡ state_after (length n.inputs) state = behind_is ∙ ap (λ (m : ℕ). state_after m state) count_is in
    row_more number n h t state after old new row is more (row_is ∙ ap (λ (m : ℕ). row_drawn m state) count_is) (after_is ∙ (ap (λ (s : ℕ). state_after 2 s) at ∙ ap (λ (m : ℕ). state_after m state) (sym (draws_upset n h some))))

-- ---- the order of a pair

turned_cycle : (q : NearPair) → is_turned q ≡ true → (q.first.cycle ≡ q.second.cycle) × (q.second.net.0 < q.first.net.0)
turned_cycle q e = both q.first.cycle q.second.cycle q.second.net.0 q.first.net.0 e
  where
    less : (x y : ℕ) → nat_lt x y ≡ true → x < y
    less x y e = grind (arith, nat_tests)

    by : (a b x y : ℕ) → (a ≡ b) ⊎ (a ≢ b) → ((a == b) && nat_lt x y) ≡ true → (a ≡ b) × (x < y)
    by a b x y (inl same) e = (same, less x y (sym (ap (λ (c : Bool). c && nat_lt x y) (eq-eqb a b same)) ∙ e))
    by a b x y (inr apart) e = absurd (let no : false ≡ true = sym (ap (λ (c : Bool). c && nat_lt x y) (ne_eqb a b apart)) ∙ e in cc)

    both : (a b x y : ℕ) → ((a == b) && nat_lt x y) ≡ true → (a ≡ b) × (x < y)
    both a b x y e = by a b x y (cases_eq a b) e

straight : (q : NearPair) → is_turned q ≡ false → q.first.cycle ≡ q.second.cycle → q.first.net.0 ≤ q.second.net.0
straight q e same = by q.first.cycle q.second.cycle q.second.net.0 q.first.net.0 same e
  where
    not_less : (x y : ℕ) → nat_lt x y ≡ false → y ≤ x
    not_less x y e = grind (arith, nat_tests)

    by : (a b x y : ℕ) → a ≡ b → ((a == b) && nat_lt x y) ≡ false → y ≤ x
    by a b x y same e = not_less x y (sym (ap (λ (c : Bool). c && nat_lt x y) (eq-eqb a b same)) ∙ e)

pub turned_order : (q : NearPair) (b : Bool) → b ≡ is_turned q → b ≡ true → pair_upsets q ≡ q.second ∷ q.first ∷ []
turned_order q b is e = cond-true (is_turned q) (q.second ∷ q.first ∷ []) (q.first ∷ q.second ∷ []) (sym is ∙ e)

pub straight_order : (q : NearPair) (b : Bool) → b ≡ is_turned q → b ≡ false → pair_upsets q ≡ q.first ∷ q.second ∷ []
straight_order q b is e = cond-false (is_turned q) (q.second ∷ q.first ∷ []) (q.first ∷ q.second ∷ []) (sym is ∙ e)

pub turned_before : (q : NearPair) (b : Bool) → b ≡ is_turned q → b ≡ true → IsBefore q.second q.first
turned_before q b is e = let parts = turned_cycle q (sym is ∙ e) in inr (sym parts.0, parts.1)

pub turned_same : (q : NearPair) (b : Bool) → b ≡ is_turned q → b ≡ true → q.first.cycle ≡ q.second.cycle
turned_same q b is e = (turned_cycle q (sym is ∙ e)).0

pub straight_before : (q : NearPair) (b : Bool) → b ≡ is_turned q → b ≡ false → q.first.net.0 ≢ q.second.net.0 → q.first.cycle ≤ q.second.cycle → IsBefore q.first q.second
straight_before q b is e apart later = go (cases_lt q.first.cycle q.second.cycle)
  where
    go : (q.first.cycle < q.second.cycle) ⊎ (q.second.cycle ≤ q.first.cycle) → IsBefore q.first q.second
    go (inl l) = inl l
    go (inr l) =
        let same : q.first.cycle ≡ q.second.cycle = omega (arith, l, later) in
        let below : q.first.net.0 ≤ q.second.net.0 = straight q (sym is ∙ e) same in
        inr (same, nets (cases_lt q.first.net.0 q.second.net.0) below)
      where
        nets : (q.first.net.0 < q.second.net.0) ⊎ (q.second.net.0 ≤ q.first.net.0) → q.first.net.0 ≤ q.second.net.0 → q.first.net.0 < q.second.net.0
        nets (inl m) below = m
        nets (inr m) below = absurd (apart (omega (arith, m, below)))

pub ruleset orders = (turned_order, straight_order, turned_before, turned_same, straight_before)

-- the last upset comes before the next one
pub order_more : (us : List Upset) (a b : Upset) → IsBefore a b → IfSome (slice_get (us ++ a ∷ []) (length (us ++ a ∷ []) - 1)) (λ v. IsBefore v b)
order_more us a b before = subst (λ (o : Option Upset). IfSome o (λ v. IsBefore v b)) (sym (at us)) before
  where
    last : (us : List Upset) → slice_get (us ++ a ∷ []) (length us) ≡ Some a
    last [] = refl
    last (u ∷ us) = last us

    at : (us : List Upset) → slice_get (us ++ a ∷ []) (length (us ++ a ∷ []) - 1) ≡ Some a
    at us = let place : length (us ++ a ∷ []) - 1 ≡ length us = omega (arith, length-append us (a ∷ [])) in ap (slice_get (us ++ a ∷ [])) place ∙ last us

pub pushed_two : (q : NearPair) (a b : Upset) (old mid new : PlainSchedule) → pair_upsets q ≡ a ∷ b ∷ [] → mid ≡ record old { upsets = old.upsets ++ a ∷ [] } → new ≡ record mid { upsets = mid.upsets ++ b ∷ [] } → new ≡ record old { upsets = old.upsets ++ pair_upsets q }
pushed_two q a b old mid new order mid_is is =
    is
    ∙ (ap (λ (m : PlainSchedule). record m { upsets = m.upsets ++ b ∷ [] }) mid_is
    ∙ (ap (λ (us : List Upset). record old { upsets = us }) (append_assoc old.upsets (a ∷ []) (b ∷ []))
    ∙ ap (λ (us : List Upset). record old { upsets = old.upsets ++ us }) (sym order)))

-- ---- the pairs

pub no_pairs : (number : ℕ) (n h : Net) (k : PlainCert) (cycles state : ℕ) (s : PlainSchedule) → HasRows number n h cycles state s → HasPairs number n h k cycles 0 state 0 s
unfolding pair_state pairs_until
no_pairs number n h k cycles state s is = record {
  state_is = is.state_is;
  inputs = is.inputs;
  starts = is.starts;
  rows = is.rows;
  long = is.long;
  upsets = is.upsets;
  ended = λ m. all m;
  earlier = subst (λ (us : List Upset). All (λ u. u.cycle < 0) us) (sym is.upsets) (λ i d l. absurd (omega arith));
  few = omega (arith, ap length is.upsets);
}
  where
    all : (m : ℕ) → true ≡ nat_le 0 m
    all m = grind (arith, nat_tests)

le_true : (a b : ℕ) → a ≤ b → nat_le a b ≡ true
le_true a b l = grind (arith, nat_tests)

le_false : (a b : ℕ) → b < a → nat_le a b ≡ false
le_false a b l = grind (arith, nat_tests)

lt_true : (a b : ℕ) → a < b → nat_lt a b ≡ true
lt_true a b l = grind (arith, nat_tests)

lt_false : (a b : ℕ) → b ≤ a → nat_lt a b ≡ false
lt_false a b l = grind (arith, nat_tests)

and_false : (b : Bool) → (b && false) ≡ false
and_false true = refl
and_false false = refl

-- what has ended before a cycle, with a pair more that ends in cycle s
one_ended : (next s m : ℕ) → next ≤ s → (nat_le next m && (nat_lt s m && true)) ≡ nat_le (s + 1) m
one_ended next s m l = go (cases_lt s m)
  where
    go : (s < m) ⊎ (m ≤ s) → (nat_le next m && (nat_lt s m && true)) ≡ nat_le (s + 1) m
    go (inl e) = ap (λ (b : Bool). b && (nat_lt s m && true)) (le_true next m (omega (arith, l, e))) ∙ (ap (λ (b : Bool). b && true) (lt_true s m e) ∙ sym (le_true (s + 1) m (omega (arith, e))))
    go (inr e) = ap (λ (b : Bool). nat_le next m && (b && true)) (lt_false s m e) ∙ (and_false (nat_le next m) ∙ sym (le_false (s + 1) m (omega (arith, e))))

with_none : (before : List NearPair) (next t : ℕ) (o : Option NearPair) → ((q : NearPair) → o ≡ Some q → q.first.cycle ≡ t) → ((m : ℕ) → list_all (λ q. nat_lt q.second.cycle m) before ≡ nat_le next m) → (t < next) ⊎ (o ≡ None) → with_pair before o ≡ before
with_none before next t None begins ended why = refl
with_none before next t (Some q) begins ended (inr none) = absurd (cc)
with_none before next t (Some q) begins ended (inl early) =
    let at : q.first.cycle ≡ t = begins q refl in
    cond-false (list_all (λ r. nat_lt r.second.cycle q.first.cycle) before) (before ++ q ∷ []) before (ended q.first.cycle ∙ le_false next q.first.cycle (omega (arith, at, early)))

with_one : (before : List NearPair) (next t : ℕ) (q : NearPair) → q.first.cycle ≡ t → ((m : ℕ) → list_all (λ q. nat_lt q.second.cycle m) before ≡ nat_le next m) → next ≤ t → with_pair before (Some q) ≡ before ++ q ∷ []
with_one before next t q at ended late =
    cond-true (list_all (λ r. nat_lt r.second.cycle q.first.cycle) before) (before ++ q ∷ []) before (ended q.first.cycle ∙ le_true next q.first.cycle (omega (arith, at, late)))

begins_at : (h : Net) (k : PlainCert) (cycles t s : ℕ) (q : NearPair) → pair_drawn h k cycles t s ≡ Some q → q.first.cycle ≡ t
begins_at h k cycles t s q e = ap (λ (u : Upset). u.cycle) (pair_facts h k cycles t s q e).begins

module _ (number : ℕ) (n h : Net) (k : PlainCert) (cycles t state next after : ℕ) (s : PlainSchedule) (is : HasPairs number n h k cycles t state next s) (after_is : after ≡ state_after 5 state) where
  behind : t + 1 ≡ suc t
  behind = omega arith

  state_more : after ≡ pair_state (state_before n h number cycles) (t + 1)
  unfolding pair_state
  state_more = after_is ∙ (ap (state_after 5) is.state_is ∙ sym (ap (pair_state (state_before n h number cycles)) behind))

  pairs_more : pairs_until h k cycles (state_before n h number cycles) (t + 1) ≡ with_pair (pairs_until h k cycles (state_before n h number cycles) t) (pair_drawn h k cycles t state)
  unfolding pairs_until
  pairs_more = ap (pairs_until h k cycles (state_before n h number cycles)) behind ∙ ap (λ (z : ℕ). with_pair (pairs_until h k cycles (state_before n h number cycles) t) (pair_drawn h k cycles t z)) (sym is.state_is)

  -- no pair is added
  pub skipped : (t < next) ⊎ (pair_drawn h k cycles t state ≡ None) → HasPairs number n h k cycles (t + 1) after next s
  skipped why =
      let same : pairs_until h k cycles (state_before n h number cycles) (t + 1) ≡ pairs_until h k cycles (state_before n h number cycles) t = pairs_more ∙ with_none (pairs_until h k cycles (state_before n h number cycles) t) next t (pair_drawn h k cycles t state) (λ q e. begins_at h k cycles t state q e) is.ended why in
      record {
        state_is = state_more;
        inputs = is.inputs;
        starts = is.starts;
        rows = is.rows;
        long = is.long;
        upsets = is.upsets ∙ ap (flat_map pair_upsets) (sym same);
        ended = λ m. ap (list_all (λ q. nat_lt q.second.cycle m)) same ∙ is.ended m;
        earlier = is.earlier;
        few = omega (arith, is.few);
      }

  -- a pair is added
  pub taken : (q : NearPair) (new : PlainSchedule) → pair_drawn h k cycles t state ≡ Some q → next ≤ t → new ≡ record s { upsets = s.upsets ++ pair_upsets q } → HasPairs number n h k cycles (t + 1) after (q.second.cycle + 1) new
  taken q new drawn late more = record {
    state_is = state_more;
    inputs = ap (λ (r : PlainSchedule). r.inputs) more ∙ is.inputs;
    starts = ap (λ (r : PlainSchedule). r.starts) more ∙ is.starts;
    rows = ap (λ (r : PlainSchedule). r.rows) more ∙ is.rows;
    long = ap (λ (r : PlainSchedule). length r.rows) more ∙ is.long;
    upsets = upsets ∙ (ap (λ (us : List Upset). us ++ pair_upsets q) is.upsets ∙ (flat_map_more pair_upsets [] (pairs_until h k cycles (state_before n h number cycles) t) q ∙ ap (flat_map pair_upsets) (sym pairs)));
    ended = λ m. ap (list_all (λ q. nat_lt q.second.cycle m)) pairs ∙ (list_all-append (λ q. nat_lt q.second.cycle m) (pairs_until h k cycles (state_before n h number cycles) t) (q ∷ []) ∙ (ap (λ (b : Bool). b && (nat_lt q.second.cycle m && true)) (is.ended m) ∙ one_ended next q.second.cycle m (omega (arith, late, later))));
    earlier = subst (λ (us : List Upset). All (λ u. u.cycle < q.second.cycle + 1) us) (sym upsets)
        (All-append (λ u. u.cycle < q.second.cycle + 1) s.upsets (pair_upsets q) (λ i d l. let e = is.earlier i d l in omega (arith, e, late, later)) (own (is_turned q)));
    few = omega (arith, is.few, ap length upsets, length-append s.upsets (pair_upsets q), two (is_turned q));
  }
    where
      at : q.first.cycle ≡ t
      at = begins_at h k cycles t state q drawn

      later : t ≤ q.second.cycle
      later = let near = (pair_facts h k cycles t state q drawn).near in omega (arith, near.apart, at)

      upsets : new.upsets ≡ s.upsets ++ pair_upsets q
      upsets = ap (λ (r : PlainSchedule). r.upsets) more

      pairs : pairs_until h k cycles (state_before n h number cycles) (t + 1) ≡ pairs_until h k cycles (state_before n h number cycles) t ++ q ∷ []
      pairs = pairs_more ∙ (ap (with_pair (pairs_until h k cycles (state_before n h number cycles) t)) drawn ∙ with_one (pairs_until h k cycles (state_before n h number cycles) t) next t q at is.ended late)

      both : (a b : Upset) → a.cycle ≤ q.second.cycle → b.cycle ≤ q.second.cycle → All (λ u. u.cycle < q.second.cycle + 1) (a ∷ b ∷ [])
      both a b l m zero d within = omega (arith, l)
      both a b l m (suc zero) d within = omega (arith, m)
      both a b l m (suc (suc i)) d within = absurd (omega arith)

      own : (b : Bool) → All (λ u. u.cycle < q.second.cycle + 1) (cond b (q.second ∷ q.first ∷ []) (q.first ∷ q.second ∷ []))
      own true = both q.second q.first (omega arith) (omega (arith, at, later))
      own false = both q.first q.second (omega (arith, at, later)) (omega arith)

      two : (b : Bool) → length (cond b (q.second ∷ q.first ∷ []) (q.first ∷ q.second ∷ [])) ≡ 2
      two true = refl
      two false = refl

-- two nodes of two copies are two nets
pub nets_apart : (h : Net) (k : PlainCert) (cycles t s : ℕ) (q : NearPair) → pair_drawn h k cycles t s ≡ Some q → q.first.net.0 ≢ q.second.net.0
nets_apart h k cycles t s q drawn same =
    let near = (pair_facts h k cycles t s q drawn).near in
    near.differ (one_domain k q.second.net.0 (Some near.part) (Some near.part) near.copy near.other (subst (λ (x : ℕ). IsIn k x (Some near.part) near.copy) same near.first_in) near.second_in).1

pub in_time : (h : Net) (k : PlainCert) (cycles t s : ℕ) (q : NearPair) → pair_drawn h k cycles t s ≡ Some q → (q.first.cycle ≡ t) × (q.first.cycle ≤ q.second.cycle) × (q.second.cycle < cycles)
in_time h k cycles t s q drawn =
    let facts = pair_facts h k cycles t s q drawn in
    let near = facts.near in
    (begins_at h k cycles t s q drawn, omega (arith, near.apart), facts.range)

-- ---- the whole schedule

with_all : (P : NearPair → Type 0) (before : List NearPair) (o : Option NearPair) → All P before → ((q : NearPair) → o ≡ Some q → P q) → All P (with_pair before o)
with_all P before None all each = all
with_all P before (Some q) all each = go (list_all (λ r. nat_lt r.second.cycle q.first.cycle) before)
  where
    go : (b : Bool) → All P (cond b (before ++ q ∷ []) before)
    go true = All-push P before q all (each q refl)
    go false = all

all_near : (h : Net) (k : PlainCert) (cycles s t : ℕ) → All (IsTooNear k) (pairs_until h k cycles s t)
unfolding pairs_until
all_near h k cycles s zero = λ i d l. absurd (omega arith)
all_near h k cycles s (suc t) = with_all (IsTooNear k) (pairs_until h k cycles s t) (pair_drawn h k cycles t (pair_state s t)) (all_near h k cycles s t) (λ q e. (pair_facts h k cycles t (pair_state s t) q e).near)

in_range : (k : PlainCert) (x p : ℕ) (c : CopyNo) → IsIn k x (Some p) c → (k.hardened_inputs ≤ x) × (x < k.hardened_inputs + length k.roles)
in_range k x p c inside = let r = role_in k x p c inside in slot_within k.hardened_inputs k.roles x r.role r.there

none_drawn : (h : Net) (k : PlainCert) (cycles s t : ℕ) → length k.roles ≡ 0 → [] ≡ pairs_until h k cycles s t
unfolding pairs_until
none_drawn h k cycles s zero none = refl
none_drawn h k cycles s (suc t) none = ap (λ (ps : List NearPair). ps) (none_drawn h k cycles s t none) ∙ sym (go (pair_drawn h k cycles t (pair_state s t)) refl)
  where
    go : (o : Option NearPair) → pair_drawn h k cycles t (pair_state s t) ≡ o → with_pair (pairs_until h k cycles s t) o ≡ pairs_until h k cycles s t
    go None e = refl
    go (Some q) e =
        let near = (pair_facts h k cycles t (pair_state s t) q e).near in
        let range = in_range k q.first.net.0 near.part near.copy near.first_in in
        absurd (omega (arith, range.0, range.1, none))

-- a design without nodes
pub near_none : (number : ℕ) (n h : Net) (k : PlainCert) (cycles state : ℕ) (s : PlainSchedule) → HasRows number n h cycles state s → length k.roles ≡ 0 → IsNearSchedule number n h k cycles s
near_none number n h k cycles state s is none = record {
  inputs = is.inputs;
  starts = is.starts;
  rows = is.rows;
  pairs = [];
  pairs_are = none_drawn h k cycles (state_before n h number cycles) cycles none;
  upsets = is.upsets;
  near = λ i d l. absurd (omega arith);
}

pub near_is : (number : ℕ) (n h : Net) (k : PlainCert) (cycles t state next : ℕ) (s : PlainSchedule) → HasPairs number n h k cycles t state next s → t ≡ cycles → IsNearSchedule number n h k cycles s
near_is number n h k cycles t state next s is all = record {
  inputs = is.inputs;
  starts = is.starts;
  rows = is.rows;
  pairs = pairs_until h k cycles (state_before n h number cycles) cycles;
  pairs_are = refl;
  upsets = is.upsets ∙ ap (λ (m : ℕ). flat_map pair_upsets (pairs_until h k cycles (state_before n h number cycles) m)) all;
  near = all_near h k cycles (state_before n h number cycles) cycles;
}

-- ---- what is promised of it

module _ (k : PlainCert) where
  of_pair : (P : Upset → Type 0) (q : NearPair) → P q.first → P q.second → All P (pair_upsets q)
  of_pair P q one other = go (is_turned q)
    where
      both : (a b : Upset) → P a → P b → All P (a ∷ b ∷ [])
      both a b p r zero d within = p
      both a b p r (suc zero) d within = r
      both a b p r (suc (suc i)) d within = absurd (omega arith)

      go : (b : Bool) → All P (cond b (q.second ∷ q.first ∷ []) (q.first ∷ q.second ∷ []))
      go true = both q.second q.first other one
      go false = both q.first q.second one other

  of_pairs : (P : Upset → Type 0) → ((x p : ℕ) (c : CopyNo) (u : Upset) → u.net.0 ≡ x → IsIn k x (Some p) c → P u) → (pairs : List NearPair) → All (IsTooNear k) pairs → All P (flat_map pair_upsets pairs)
  of_pairs P each [] near = λ i d l. absurd (omega arith)
  of_pairs P each (q ∷ pairs) near =
      let here : IsTooNear k q = near zero q (omega arith) in
      All-append P (pair_upsets q) (flat_map pair_upsets pairs)
      (of_pair P q (each q.first.net.0 here.part here.copy q.first refl here.first_in) (each q.second.net.0 here.part here.other q.second refl here.second_in))
      (of_pairs P each pairs (λ i d l. near (suc i) d (omega (arith, l))))

  pub near_low : (number : ℕ) (n h : Net) (cycles : ℕ) (s : PlainSchedule) → IsNearSchedule number n h k cycles s → All (λ u. k.hardened_inputs ≤ u.net.0) s.upsets
  near_low number n h cycles s is =
      subst (λ (us : List Upset). All (λ u. k.hardened_inputs ≤ u.net.0) us) (sym is.upsets)
      (of_pairs (λ u. k.hardened_inputs ≤ u.net.0) (λ x p c u at inside. let l = (in_range k x p c inside).0 in omega (arith, at, l)) is.pairs is.near)

  pub near_high : (number : ℕ) (n h : Net) (cycles : ℕ) (s : PlainSchedule) → IsNearSchedule number n h k cycles s → All (λ u. u.net.0 < k.hardened_inputs + length k.roles) s.upsets
  near_high number n h cycles s is =
      subst (λ (us : List Upset). All (λ u. u.net.0 < k.hardened_inputs + length k.roles) us) (sym is.upsets)
      (of_pairs (λ u. u.net.0 < k.hardened_inputs + length k.roles) (λ x p c u at inside. let l = (in_range k x p c inside).1 in omega (arith, at, l)) is.pairs is.near)

  first_there : (q : NearPair) → Contains (pair_upsets q) q.first
  first_there q = go (is_turned q)
    where
      go : (b : Bool) → Contains (cond b (q.second ∷ q.first ∷ []) (q.first ∷ q.second ∷ [])) q.first
      go true = (1, omega arith, refl)
      go false = (0, omega arith, refl)

  second_there : (q : NearPair) → Contains (pair_upsets q) q.second
  second_there q = go (is_turned q)
    where
      go : (b : Bool) → Contains (cond b (q.second ∷ q.first ∷ []) (q.first ∷ q.second ∷ [])) q.second
      go true = (0, omega arith, refl)
      go false = (1, omega arith, refl)

  -- a pair that is too near is not allowed
  pair_refutes : (q : NearPair) (rest : List Upset) → IsTooNear k q → Allowed (pair_upsets q ++ rest) k → ⊥
  pair_refutes q rest near allowed =
      go (allowed q.first q.second (Some near.part) near.copy near.other (Contains-append_left (pair_upsets q) rest q.first (first_there q)) (Contains-append_left (pair_upsets q) rest q.second (second_there q)) near.first_in near.second_in near.differ)
    where
      go : (q.first.cycle + depth_of k near.part < q.second.cycle) ⊎ (q.second.cycle + depth_of k near.part < q.first.cycle) → ⊥
      go (inl l) = omega (arith, l, near.apart)
      go (inr l) = omega (arith, l, near.apart)

  some_refuted : (pairs : List NearPair) → All (IsTooNear k) pairs → 0 < length (flat_map pair_upsets pairs) → Allowed (flat_map pair_upsets pairs) k → ⊥
  some_refuted [] near some allowed = omega (arith, some)
  some_refuted (q ∷ pairs) near some allowed = pair_refutes q (flat_map pair_upsets pairs) (near zero q (omega arith)) allowed

  pub near_refused : (number : ℕ) (n h : Net) (cycles : ℕ) (s : PlainSchedule) → IsNearSchedule number n h k cycles s → 0 < length s.upsets → Allowed s.upsets k → ⊥
  near_refused number n h cycles s is some allowed =
      some_refuted is.pairs is.near (omega (arith, some, ap length is.upsets)) (subst (λ (us : List Upset). Allowed us k) is.upsets allowed)
