-- The alarm of the guarded design tells of what strikes copies of one number alone.
use Rattle.std.proofs.Common.{◌≡◌, ◌≢◌, ℕ, zero, suc, ◌+◌, ◌*◌, ◌<◌, ◌≤◌, List, [], ◌∷◌, length, map, Option, Some, None, slice_get, get_or, refl, sym, ap, ◌∙◌, subst, subst₂, arith, Bool, true, false, replicate, if◌then◌else◌}
use Rattle.std.specs.Prelude.{slice_index, Contains, nat_lt, not, ◌||◌}
use Rattle.std.specs.List.{range_with_len, list_any}
use Rattle.std.specs.Option.{unwrap_or}
use Rattle.std.proofs.lemmas.Bool.{false≢true}
use Rattle.std.proofs.lemmas.Bool.Decides.{nat_tests}
use Rattle.std.proofs.lemmas.List.{length-map}
use Rattle.std.proofs.lemmas.Option.{get_or_from_slice_get}
use Rattle.tmr_base.specs.declared.ids.Upset.{Upset}
use Rattle.table_cover.specs.Cover.{cover_value, row_matches}
use Rattle.flat_net.specs.Net.{Net, Node, Table, Register, net_count, node_of, IsValid}
use Rattle.flat_net.specs.Free.{node_bit}
use Rattle.flat_net.proofs.Slots.{slot_within, slot_none_below, slice_get_there}
use Rattle.net_meaning.specs.Meaning.{bit, row_at, row_before, value_at, node_value, upset_at, start_at, net_value, IsTrace, IsFaultTrace}
use Rattle.net_meaning.proofs.Order.{net_induction}
use Rattle.dwc.specs.Guard.{twin, node_twin, differ_cover, any_cover, comparator, alarm, alarm_net, guard_net}
use Rattle.dwc.specs.Tells.{twice, StrikesOne, copy_value, alarm_value, SomeDiffer, TellsInCycle, Guards}
use Rattle.dwc.proofs.Lists.{same_half}
use Rattle.dwc.proofs.Nodes
use Rattle.dwc.proofs.Valid.{output_below, output_twin, output_alarm}

-- ---- rows and upsets

row_at-twice : (ins : List (List Bool)) (t : ℕ) → row_at (map twice ins) t ≡ twice (row_at ins t)
row_at-twice [] t = refl
row_at-twice (row ∷ ins) zero = refl
row_at-twice (row ∷ ins) (suc t) = row_at-twice ins t

bit-twice : (row : List Bool) (x c : ℕ) → c < 2 → bit (twice row) (twin c x) ≡ bit row x
bit-twice [] x c l = refl
bit-twice (b ∷ row) zero zero l = refl
bit-twice (b ∷ row) zero (suc zero) l = refl
bit-twice (b ∷ row) zero (suc (suc c)) l = absurd (omega (arith, l))
bit-twice (b ∷ row) (suc x) c l =
    let e : 2 * suc x + c ≡ suc (suc (2 * x + c)) = omega arith in
    rw e (bit-twice row x c l)

upset_at_none : (s : List Upset) (t x : ℕ) → ((u : Upset) → Contains s u → u.net.0 ≡ x → ⊥) → upset_at s t x ≡ None
upset_at_none [] t x none = refl
upset_at_none (u ∷ s) t x none =
    let here : u.net.0 ≡ x → ⊥ = none u (0, (omega arith), refl) in
    let rest : upset_at s t x ≡ None = upset_at_none s t x (λ v (i, l, is). none v (suc i, (omega arith), is)) in
    grind (arith, nat_tests)

node_bit_none : (start x : ℕ) → node_bit start [] x ≡ false
unfolding Rattle.flat_net.specs.Net.slot
node_bit_none start x = go (nat_lt x start)
  where
    go : (b : Bool) → unwrap_or (if b then None else None) false ≡ false
    go true = refl
    go false = refl

none_starts : (n : Net) (x : ℕ) → start_at n [] [] x ≡ None
none_starts n x = ap (λ (b : Bool). if b then Some (node_bit (length n.inputs) [] x) else None) (node_bit_none (length n.inputs) x)

-- ---- covers

-- a comparator is on exactly where its bits differ
differ_value : (a b : Bool) → (cover_value differ_cover (a ∷ b ∷ []) ≡ false → a ≡ b) × (cover_value differ_cover (a ∷ b ∷ []) ≡ true → a ≢ b)
unfolding cover_value
differ_value true true = ((λ e. refl), (λ e f. false≢true e))
differ_value true false = ((λ e. absurd (false≢true (sym e))), (λ e f. false≢true (sym f)))
differ_value false true = ((λ e. absurd (false≢true (sym e))), (λ e f. false≢true f))
differ_value false false = ((λ e. refl), (λ e f. false≢true e))

-- the row of zeros matches where all bits are off
zeros_match : (bits : List Bool) → row_matches (replicate (length bits) 48) bits ≡ true → (k : ℕ) → k < length bits → get_or bits k false ≡ false
zeros_match [] e k h = absurd (omega (arith, h))
zeros_match (true ∷ bits) e k h = absurd (false≢true e)
zeros_match (false ∷ bits) e zero h = refl
zeros_match (false ∷ bits) e (suc k) h = zeros_match bits e k (omega (arith, h))

zeros_fail : (bits : List Bool) → row_matches (replicate (length bits) 48) bits ≡ false → (k : ℕ) × (k < length bits) × (get_or bits k false ≡ true)
zeros_fail [] e = absurd (false≢true (sym e))
zeros_fail (true ∷ bits) e = (0, omega arith, refl)
zeros_fail (false ∷ bits) e = let (k, h, is) = zeros_fail bits e in (suc k, omega (arith, h), is)

not_false : (b : Bool) → not b ≡ false → b ≡ true
not_false true e = refl
not_false false e = absurd (false≢true (sym e))

not_true : (b : Bool) → not b ≡ true → b ≡ false
not_true true e = absurd (false≢true e)
not_true false e = refl

one_row : (row : List ℕ) (bits : List Bool) → list_any (λ r. row_matches r bits) (row ∷ []) ≡ row_matches row bits
one_row row bits = go (row_matches row bits)
  where
    go : (b : Bool) → (b || false) ≡ b
    go true = refl
    go false = refl

any_value : (count : ℕ) (bits : List Bool) → length bits ≡ suc count → cover_value (any_cover (suc count)) bits ≡ not (row_matches (replicate (length bits) 48) bits)
unfolding cover_value
any_value count bits e = ap not (one_row (replicate (suc count) 48) bits) ∙ ap (λ m. not (row_matches (replicate m 48) bits)) (sym e)

-- the alarm is off only where all bits are off
any_off : (count : ℕ) (bits : List Bool) → length bits ≡ count → cover_value (any_cover count) bits ≡ false → (k : ℕ) → k < count → get_or bits k false ≡ false
any_off zero bits e off k h = absurd (omega (arith, h))
any_off (suc count) bits e off k h = zeros_match bits (not_false _ (sym (any_value count bits e) ∙ off)) k (omega (arith, h, e))

-- and on only where one is on
any_on : (count : ℕ) (bits : List Bool) → length bits ≡ count → cover_value (any_cover count) bits ≡ true → (k : ℕ) × (k < count) × (get_or bits k false ≡ true)
unfolding cover_value
any_on zero bits e on = absurd (false≢true on)
any_on (suc count) bits e on = let (k, h, is) = zeros_fail bits (not_true _ (sym (any_value count bits e) ∙ on)) in (k, omega (arith, h, e), is)

range_bits : (v : List Bool) (a count k : ℕ) → k < count → get_or (map (bit v) (range_with_len a count)) k false ≡ bit v (a + k)
range_bits v a zero k h = absurd (omega (arith, h))
range_bits v a (suc count) zero h = let e : a ≡ a + 0 = omega arith in ap (bit v) e
range_bits v a (suc count) (suc k) h = let e : (a + 1) + k ≡ a + suc k = omega arith in range_bits v (a + 1) count k (omega (arith, h)) ∙ ap (bit v) e

length-range_bits : (v : List Bool) (a count : ℕ) → length (map (bit v) (range_with_len a count)) ≡ count
length-range_bits v a zero = refl
length-range_bits v a (suc count) = ap suc (length-range_bits v (a + 1) count)

module _ (n : Net) (valid : IsValid n) (ins tr ft : List (List Bool)) (s : List Upset) (c : ℕ) (few : c < 2) (strikes : StrikesOne n c s) (is_trace : IsTrace n ins tr) (is_fault : IsFaultTrace (guard_net n) (map twice ins) s ft) where
  in_twice : (t : ℕ) → t < length ins → t < length (map twice ins)
  in_twice t l = omega (arith, l, length-map ins twice)

  -- the other copies are not struck
  other_kept : (t x d : ℕ) → d < 2 → d ≢ c → upset_at s t (twin d x) ≡ None
  other_kept t x d l ne = upset_at_none s t (twin d x) (λ u has net. let (y, low, high, e) = strikes u has in ne (same_half x y d c l few (sym net ∙ e)).1)

  -- what stands behind the copies is not struck
  behind_kept : (t x : ℕ) → 2 * net_count n ≤ x → upset_at s t x ≡ None
  behind_kept t x far = upset_at_none s t x (λ u has net. let (y, low, high, e) = strikes u has in omega (arith, e, net, few, high, far))

  -- the equation of a node that is not struck
  guarded : (t g : ℕ) (node : Node) → t < length ins → node_of (guard_net n) g ≡ Some node → upset_at s t g ≡ None → value_at ft t g ≡ node_value node None t (row_before ft t) (row_at ft t)
  guarded t g node l e none =
      subst (λ (o : Option Bool). value_at ft t g ≡ node_value node o t (row_before ft t) (row_at ft t)) (none_starts (guard_net n) g)
      (subst₂ (λ (o : Option Node) (u : Option Bool). value_at ft t g ≡ unwrap_or u (net_value o (start_at (guard_net n) [] [] g) t (row_at (map twice ins) t) (row_before ft t) (row_at ft t) g)) e none
      (is_fault.equations t g (in_twice t l) (slot_within _ _ g node e).1))

  original : (t x : ℕ) (node : Node) → t < length ins → node_of n x ≡ Some node → value_at tr t x ≡ node_value node None t (row_before tr t) (row_at tr t)
  original t x node l e =
      subst (λ (o : Option Bool). value_at tr t x ≡ node_value node o t (row_before tr t) (row_at tr t)) (none_starts n x)
      (subst (λ (o : Option Node). value_at tr t x ≡ net_value o (start_at n [] [] x) t (row_at ins t) (row_before tr t) (row_at tr t) x) e
      (is_trace.equations t x l (slot_within _ _ x node e).1))

  -- ---- the copies that are not struck

  module _ (d : ℕ) (l : d < 2) (ne : d ≢ c) where
    abbrev Right : ℕ → ℕ → Type 0
    Right t x = x < net_count n → value_at ft t (twin d x) ≡ value_at tr t x

    input_right : (t : ℕ) → t < length ins → (x : ℕ) → node_of n x ≡ None → Right t x
    input_right t h x e high =
        let low : x < length n.inputs = slot_none_below (length n.inputs) n.nodes x e high in
        let in_g : value_at ft t (twin d x) ≡ bit (row_at (map twice ins) t) (twin d x) =
        subst₂ (λ (o : Option Node) (u : Option Bool). value_at ft t (twin d x) ≡ unwrap_or u (net_value o (start_at (guard_net n) [] [] (twin d x)) t (row_at (map twice ins) t) (row_before ft t) (row_at ft t) (twin d x))) (Nodes.twin_of_input n x d low l) (other_kept t x d l ne)
        (is_fault.equations t (twin d x) (in_twice t h) (omega (arith, high, l, Nodes.length-guarded n))) in
        let in_n : value_at tr t x ≡ bit (row_at ins t) x =
        subst (λ (o : Option Node). value_at tr t x ≡ net_value o (start_at n [] [] x) t (row_at ins t) (row_before tr t) (row_at tr t) x) e
        (is_trace.equations t x h high) in
        in_g ∙ (ap (λ (row : List Bool). bit row (twin d x)) (row_at-twice ins t) ∙ (bit-twice (row_at ins t) x d l ∙ sym in_n))

    twin_right : (t : ℕ) → t < length ins → (x : ℕ) (node : Node) → node_of n x ≡ Some node → node_value (node_twin node d) None t (row_before ft t) (row_at ft t) ≡ node_value node None t (row_before tr t) (row_at tr t) → value_at ft t (twin d x) ≡ value_at tr t x
    twin_right t h x node e same = guarded t (twin d x) (node_twin node d) h (Nodes.twin_of_node n x d node e l) (other_kept t x d l ne) ∙ (same ∙ sym (original t x node h e))

    register_same : (t : ℕ) (name : List ℕ) (init : Bool) (pin : ℕ) → pin < net_count n → ((u : ℕ) → u + 1 ≡ t → (x : ℕ) → Right u x) → node_value (node_twin (Register name init pin) d) None t (row_before ft t) (row_at ft t) ≡ node_value (Register name init pin) None t (row_before tr t) (row_at tr t)
    register_same zero name init pin range past = refl
    register_same (suc t) name init pin range past = past t (omega arith) pin range

    pins_same : (v w : List Bool) (pins : List ℕ) → ((j : ℕ) → j < length pins → bit v (twin d (slice_index pins j)) ≡ bit w (slice_index pins j)) → map (bit v) (map (twin d) pins) ≡ map (bit w) pins
    pins_same v w [] same = refl
    pins_same v w (p ∷ pins) same =
        let here : bit v (twin d p) ≡ bit w p = same 0 (omega arith) in
        let rest : map (bit v) (map (twin d) pins) ≡ map (bit w) pins = pins_same v w pins (λ j m. same (suc j) (omega (arith, m))) in
        cc

    cycle_right : (t : ℕ) → t < length ins → ((u : ℕ) → u + 1 ≡ t → (x : ℕ) → Right u x) → (x : ℕ) → Right t x
    cycle_right t h past = net_induction n valid.ordered.0 valid.ordered.1 (Right t) (input_right t h)
        (λ x name init pin e high. twin_right t h x (Register name init pin) e (register_same t name init pin (valid.unordered.wired x (Register name init pin) e) past))
        (λ x name cover pins e right high. twin_right t h x (Table name cover pins) e (ap (cover_value cover) (pins_same (row_at ft t) (row_at tr t) pins (λ j m. right j m ((valid.unordered.wired x (Table name cover pins) e).0 j 0 m)))))

    all_right : (t : ℕ) → t < length ins → (x : ℕ) → Right t x
    all_right zero h = cycle_right zero h (λ u e. absurd (omega (arith, e)))
    all_right (suc t) h = cycle_right (suc t) h (λ u e x. let same : t ≡ u = omega (arith, e) in subst (λ y. Right y x) same (all_right t (omega (arith, h)) x))

  -- ---- the comparators and the alarm

  compared : (t k y : ℕ) → t < length ins → slice_get n.outputs k ≡ Some y → value_at ft t (2 * net_count n + k) ≡ cover_value differ_cover (value_at ft t (twin 0 y) ∷ value_at ft t (twin 1 y) ∷ [])
  compared t k y h at = guarded t (2 * net_count n + k) (comparator n y) h (Nodes.comparator_of n k y at) (behind_kept t (2 * net_count n + k) (omega arith))

  sounded : (t : ℕ) → t < length ins → value_at ft t (alarm_net n) ≡ cover_value (any_cover (length n.outputs)) (map (bit (row_at ft t)) (range_with_len (2 * net_count n) (length n.outputs)))
  sounded t h = guarded t (alarm_net n) (alarm n) h (Nodes.alarm_of n) (behind_kept t (alarm_net n) (omega arith))

  quiet : (t k y : ℕ) → t < length ins → slice_get n.outputs k ≡ Some y → k < length n.outputs → value_at ft t (alarm_net n) ≡ false → value_at ft t (twin 0 y) ≡ value_at ft t (twin 1 y)
  quiet t k y h at within off =
      let comparator_off = any_off (length n.outputs) (map (bit (row_at ft t)) (range_with_len (2 * net_count n) (length n.outputs))) (length-range_bits (row_at ft t) (2 * net_count n) (length n.outputs)) (sym (sounded t h) ∙ off) k within in
      (differ_value (value_at ft t (twin 0 y)) (value_at ft t (twin 1 y))).0 (sym (compared t k y h at) ∙ (sym (range_bits (row_at ft t) (2 * net_count n) (length n.outputs) k within) ∙ comparator_off))

  alarmed : (t : ℕ) → t < length ins → value_at ft t (alarm_net n) ≡ true → (k : ℕ) × (y : ℕ) × (k < length n.outputs) × (slice_get n.outputs k ≡ Some y) × (value_at ft t (twin 0 y) ≢ value_at ft t (twin 1 y))
  alarmed t h on =
      let (k, within, comparator_on) = any_on (length n.outputs) (map (bit (row_at ft t)) (range_with_len (2 * net_count n) (length n.outputs))) (length-range_bits (row_at ft t) (2 * net_count n) (length n.outputs)) (sym (sounded t h) ∙ on) in
      let (y, at) = slice_get_there n.outputs k within in
      (k, y, within, at, (differ_value (value_at ft t (twin 0 y)) (value_at ft t (twin 1 y))).1 (sym (compared t k y h at) ∙ (sym (range_bits (row_at ft t) (2 * net_count n) (length n.outputs) k within) ∙ comparator_on)))

  -- where the alarm is off, both copies have the original's value, since one of them was not struck
  right : (t k y e : ℕ) → t < length ins → slice_get n.outputs k ≡ Some y → k < length n.outputs → e < 2 → value_at ft t (alarm_net n) ≡ false → value_at ft t (twin e y) ≡ value_at tr t y
  right t k y e h at within l off = go c e few l refl refl
    where
      same : value_at ft t (twin 0 y) ≡ value_at ft t (twin 1 y)
      same = quiet t k y h at within off

      below : y < net_count n
      below = output_below n valid k y at

      first : c ≡ 1 → value_at ft t (twin 0 y) ≡ value_at tr t y
      first is = all_right 0 (omega arith) (λ f. omega (arith, f, is)) t h y below

      second : c ≡ 0 → value_at ft t (twin 1 y) ≡ value_at tr t y
      second is = all_right 1 (omega arith) (λ f. omega (arith, f, is)) t h y below

      go : (a b : ℕ) → a < 2 → b < 2 → c ≡ a → e ≡ b → value_at ft t (twin e y) ≡ value_at tr t y
      go zero zero u v i j = ap (λ b. value_at ft t (twin b y)) j ∙ (same ∙ second i)
      go zero (suc zero) u v i j = ap (λ b. value_at ft t (twin b y)) j ∙ second i
      go (suc zero) zero u v i j = ap (λ b. value_at ft t (twin b y)) j ∙ first i
      go (suc zero) (suc zero) u v i j = ap (λ b. value_at ft t (twin b y)) j ∙ (sym same ∙ first i)
      go (suc (suc a)) b u v i j = absurd (omega (arith, u))
      go zero (suc (suc b)) u v i j = absurd (omega (arith, v))
      go (suc zero) (suc (suc b)) u v i j = absurd (omega (arith, v))

  -- ---- by the ports

  copy_is : (t k y e : ℕ) → slice_get n.outputs k ≡ Some y → e < 2 → copy_value (guard_net n) ft t k e ≡ value_at ft t (twin e y)
  copy_is t k y e at l = ap (value_at ft t) (get_or_from_slice_get (guard_net n).outputs (2 * k + e) (twin e y) 0 (output_twin n valid k e y at l))

  alarm_is : (t : ℕ) → alarm_value n (guard_net n) ft t ≡ value_at ft t (alarm_net n)
  alarm_is t = ap (value_at ft t) (get_or_from_slice_get (guard_net n).outputs (2 * length n.outputs) (alarm_net n) 0 (output_alarm n valid))

  differ_there : (t : ℕ) → t < length ins → value_at ft t (alarm_net n) ≡ true → SomeDiffer n (guard_net n) ft t
  differ_there t h on =
      let (k, y, within, at, apart) = alarmed t h on in
      (k, within, λ e. apart (sym (copy_is t k y 0 at (omega arith)) ∙ (e ∙ copy_is t k y 1 at (omega arith))))

  on_there : (t : ℕ) → t < length ins → SomeDiffer n (guard_net n) ft t → value_at ft t (alarm_net n) ≡ true
  on_there t h (k, within, apart) = go (value_at ft t (alarm_net n)) refl
    where
      go : (b : Bool) → value_at ft t (alarm_net n) ≡ b → value_at ft t (alarm_net n) ≡ true
      go true e = e
      go false e =
          let (y, at) = slice_get_there n.outputs k within in
          absurd (apart (copy_is t k y 0 at (omega arith) ∙ (quiet t k y h at within e ∙ sym (copy_is t k y 1 at (omega arith)))))

  tells_in : (t : ℕ) → t < length ins → TellsInCycle n (guard_net n) tr ft t
  tells_in t h = record {
    alarmed = ((λ on. differ_there t h (sym (alarm_is t) ∙ on)), (λ some. alarm_is t ∙ on_there t h some));
    right = λ off k e within l.
        let (y, at) = slice_get_there n.outputs k within in
        copy_is t k y e at l ∙ (right t k y e h at within l (sym (alarm_is t) ∙ off) ∙ ap (value_at tr t) (sym (get_or_from_slice_get n.outputs k y 0 at)));
  }

pub tells : (n : Net) → IsValid n → Guards n (guard_net n)
tells n valid ins tr ft s c rows is_trace schedule few strikes is_fault t h = tells_in n valid ins tr ft s c few strikes is_trace is_fault t h
