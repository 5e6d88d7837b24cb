-- There is exactly one trace.
use Rattle.std.proofs.Common.{◌≡◌, ℕ, zero, suc, ◌+◌, ◌<◌, ◌≤◌, ◌⊎◌, max, Bool, false, List, [], length, map, refl, sym, ◌∙◌, ap, subst, arith, slice_index, Option, Some, None, inl, inr}
use Rattle.std.specs.List.{range_with_len}
use Rattle.std.specs.Option.{unwrap_or}
use Rattle.std.proofs.lemmas.List.{ext_get_or}
use Rattle.std.proofs.lemmas.List.FromFn.{length-map-range_with_len, get_or-map-range_with_len}
use Rattle.tmr_base.specs.declared.ids.Upset.{Upset}
use Rattle.table_cover.specs.Cover.{PlainCover, cover_value}
use Rattle.flat_net.specs.Net.{Net, Node, Table, Register, node_of, net_count, IsOrder, IsValid}
use Rattle.net_meaning.specs.Meaning.{bit, row_at, row_before, value_at, node_value, upset_at, start_at, net_value, FreeEquation, IsFreeFaultTrace, TracesAreUnique, FreeTracesAreUnique}
use Rattle.net_meaning.proofs.Order.{net_induction}
use Rattle.net_meaning.proofs.Lists.{map_agree}

-- what holds of each number from some bound on, of each of finitely many things, does so from one bound on
bound_all : (Q : ℕ → ℕ → Type 0) (count : ℕ) → ((j : ℕ) → j < count → (m : ℕ) × ((i : ℕ) → m ≤ i → Q j i)) → (m : ℕ) × ((j : ℕ) → j < count → (i : ℕ) → m ≤ i → Q j i)
bound_all Q zero each = (0, λ j l i h. absurd (omega arith))
bound_all Q (suc count) each =
    let (m, below) = bound_all Q count (λ j l. each j (omega arith)) in
    let (k, here) = each count (omega arith) in
    (max m k, λ j l i h. go m k below here j l i h (cases j count))
  where
    cases : (j count : ℕ) → (j < count) ⊎ (count ≤ j)
    cases j count = grind arith

    go : (m k : ℕ) → ((j : ℕ) → j < count → (i : ℕ) → m ≤ i → Q j i) → ((i : ℕ) → k ≤ i → Q count i) → (j : ℕ) → j < suc count → (i : ℕ) → max m k ≤ i → (j < count) ⊎ (count ≤ j) → Q j i
    go m k below here j l i h (inl lt) = below j lt i (omega arith)
    go m k below here j l i h (inr ge) = let e : count ≡ j = omega arith in subst (λ (y : ℕ). Q y i) e (here i (omega arith))

module _ (n : Net) (order : List ℕ) (is_order : IsOrder n order) (valid : IsValid n) (free w : List Bool) (s : List Upset) where
  -- what net x has in cycle t, if this is its node
  abbrev meant : Option Node → ℕ → List Bool → List Bool → List Bool → ℕ → Bool
  meant o t ins before v x = unwrap_or (upset_at s t x) (net_value o (start_at n free w x) t ins before v x)

  pin_lt : (x : ℕ) (name : List ℕ) (cover : PlainCover) (pins : List ℕ) → node_of n x ≡ Some (Table name cover pins) → (j : ℕ) → j < length pins → slice_index pins j < net_count n
  pin_lt x name cover pins e j l = (valid.unordered.wired x _ e).0 j 0 l

  module _ (t : ℕ) (ins before : List Bool) where
    -- each net's value by its equation, from the values v
    round : List Bool → List Bool
    round v = map (λ x. meant (node_of n x) t ins before v x) (range_with_len 0 (net_count n))

    rounds : ℕ → List Bool
    rounds zero = []
    rounds (suc i) = round (rounds i)

    bit-rounds : (i x : ℕ) → x < net_count n → bit (rounds (suc i)) x ≡ meant (node_of n x) t ins before (rounds i) x
    unfolding round rounds
    bit-rounds i x l = get_or-map-range_with_len _ 0 (net_count n) x x false l (omega arith)

    length-rounds : (i : ℕ) → length (rounds (suc i)) ≡ net_count n
    unfolding round rounds
    length-rounds i = length-map-range_with_len _ 0 (net_count n)

    abbrev Settles : ℕ → Type 0
    Settles x = x < net_count n → (m : ℕ) × ((i : ℕ) → m ≤ i → bit (rounds (suc i)) x ≡ bit (rounds i) x)

    -- a node whose equation comes to the same
    settled : (i x : ℕ) (node : Node) → x < net_count n → node_of n x ≡ Some node → node_value node (start_at n free w x) t before (rounds (suc i)) ≡ node_value node (start_at n free w x) t before (rounds i) → bit (rounds (suc (suc i))) x ≡ bit (rounds (suc i)) x
    settled i x node l e same =
        bit-rounds (suc i) x l ∙ (subst (λ (o : Option Node). meant o t ins before (rounds (suc i)) x ≡ meant o t ins before (rounds i) x) (sym e) (ap (unwrap_or (upset_at s t x)) same) ∙ sym (bit-rounds i x l))

    input_settles : (x : ℕ) → node_of n x ≡ None → Settles x
    input_settles x e l = (1, go)
      where
        go : (i : ℕ) → 1 ≤ i → bit (rounds (suc i)) x ≡ bit (rounds i) x
        go zero h = absurd (omega arith)
        go (suc i) h = bit-rounds (suc i) x l ∙ (subst (λ (o : Option Node). meant o t ins before (rounds (suc i)) x ≡ meant o t ins before (rounds i) x) (sym e) refl ∙ sym (bit-rounds i x l))

    register_value : (t : ℕ) (name : List ℕ) (init : Bool) (pin : ℕ) (start : Option Bool) (u v : List Bool) → node_value (Register name init pin) start t before u ≡ node_value (Register name init pin) start t before v
    register_value zero name init pin start u v = refl
    register_value (suc t) name init pin start u v = refl

    register_settles : (x : ℕ) (name : List ℕ) (init : Bool) (pin : ℕ) → node_of n x ≡ Some (Register name init pin) → Settles x
    register_settles x name init pin e l = (1, go)
      where
        go : (i : ℕ) → 1 ≤ i → bit (rounds (suc i)) x ≡ bit (rounds i) x
        go zero h = absurd (omega arith)
        go (suc i) h = settled i x _ l e (register_value t name init pin (start_at n free w x) (rounds (suc i)) (rounds i))

    table_settles : (x : ℕ) (name : List ℕ) (cover : PlainCover) (pins : List ℕ) → node_of n x ≡ Some (Table name cover pins) → ((j : ℕ) → j < length pins → Settles (slice_index pins j)) → Settles x
    table_settles x name cover pins e pins_settle l =
        let (m, all) = bound_all (λ j i. bit (rounds (suc i)) (slice_index pins j) ≡ bit (rounds i) (slice_index pins j)) (length pins) (λ j k. pins_settle j k (pin_lt x name cover pins e j k)) in
        (m + 1, go m all)
      where
        go : (m : ℕ) → ((j : ℕ) → j < length pins → (i : ℕ) → m ≤ i → bit (rounds (suc i)) (slice_index pins j) ≡ bit (rounds i) (slice_index pins j)) → (i : ℕ) → m + 1 ≤ i → bit (rounds (suc i)) x ≡ bit (rounds i) x
        go m all zero h = absurd (omega arith)
        go m all (suc i) h = settled i x _ l e (ap (cover_value cover) (map_agree (bit (rounds (suc i))) (bit (rounds i)) pins pins refl (λ j k. all j k i (omega arith))))

    settles : (x : ℕ) → Settles x
    settles = net_induction n order is_order Settles input_settles register_settles table_settles

    -- a row in which each net meets its equation
    cycle_row : (v : List Bool) × (length v ≡ net_count n) × ((x : ℕ) → x < net_count n → FreeEquation n free w s t before ins v x)
    cycle_row =
        let (m, all) = bound_all (λ x i. bit (rounds (suc i)) x ≡ bit (rounds i) x) (net_count n) (λ x l. settles x l) in
        (rounds (suc m), length-rounds m, λ x l. sym (all x l (suc m) (omega arith)) ∙ bit-rounds (suc m) x l)

  module _ (ins : List (List Bool)) where
    row : ℕ → List Bool
    row zero = (cycle_row 0 (row_at ins 0) []).0
    row (suc t) = (cycle_row (suc t) (row_at ins (suc t)) (row t)).0

    rows : List (List Bool)
    rows = map row (range_with_len 0 (length ins))

    row_at-rows : (t : ℕ) → t < length ins → row_at rows t ≡ row t
    unfolding rows
    row_at-rows t l = get_or-map-range_with_len row 0 (length ins) t t [] l (omega arith)

    length-row : (t : ℕ) → length (row t) ≡ net_count n
    unfolding row
    length-row zero = (cycle_row 0 (row_at ins 0) []).1
    length-row (suc t) = (cycle_row (suc t) (row_at ins (suc t)) (row t)).1

    row-equation : (t x : ℕ) → t < length ins → x < net_count n → FreeEquation n free w s t (row_before rows t) (row_at ins t) (row t) x
    unfolding row
    row-equation zero x l h = (cycle_row 0 (row_at ins 0) []).2 x h
    row-equation (suc t) x l h =
        subst (λ (b : List Bool). FreeEquation n free w s (suc t) b (row_at ins (suc t)) (row (suc t)) x) (sym (row_at-rows t (omega arith))) ((cycle_row (suc t) (row_at ins (suc t)) (row t)).2 x h)

    length-trace : length rows ≡ length ins
    unfolding rows
    length-trace = length-map-range_with_len row 0 (length ins)

    rows_are_trace : IsFreeFaultTrace n free w ins s rows
    rows_are_trace = record {
      long = length-trace;
      wide = λ t l. ap length (row_at-rows t l) ∙ length-row t;
      equations = λ t x l h. subst (λ (v : List Bool). FreeEquation n free w s t (row_before rows t) (row_at ins t) v x) (sym (row_at-rows t l)) (row-equation t x l h);
    }

    -- two traces agree
    module _ (a b : List (List Bool)) (is_a : IsFreeFaultTrace n free w ins s a) (is_b : IsFreeFaultTrace n free w ins s b) where
      abbrev Agree : ℕ → ℕ → Type 0
      Agree t x = x < net_count n → value_at a t x ≡ value_at b t x

      node_agrees : (t : ℕ) → t < length ins → (x : ℕ) (node : Node) → x < net_count n → node_of n x ≡ Some node → node_value node (start_at n free w x) t (row_before a t) (row_at a t) ≡ node_value node (start_at n free w x) t (row_before b t) (row_at b t) → value_at a t x ≡ value_at b t x
      node_agrees t l x node h e same =
          is_a.equations t x l h ∙ (subst (λ (o : Option Node). meant o t (row_at ins t) (row_before a t) (row_at a t) x ≡ meant o t (row_at ins t) (row_before b t) (row_at b t) x) (sym e) (ap (unwrap_or (upset_at s t x)) same) ∙ sym (is_b.equations t x l h))

      register_agrees : (t : ℕ) (name : List ℕ) (init : Bool) (pin : ℕ) (start : Option Bool) → row_before a t ≡ row_before b t → node_value (Register name init pin) start t (row_before a t) (row_at a t) ≡ node_value (Register name init pin) start t (row_before b t) (row_at b t)
      register_agrees zero name init pin start e = refl
      register_agrees (suc t) name init pin start e = ap (λ (v : List Bool). bit v pin) e

      cycle_agrees : (t : ℕ) → t < length ins → row_before a t ≡ row_before b t → (x : ℕ) → Agree t x
      cycle_agrees t l past = net_induction n order is_order (Agree t)
          (λ x e h. is_a.equations t x l h ∙ (subst (λ (o : Option Node). meant o t (row_at ins t) (row_before a t) (row_at a t) x ≡ meant o t (row_at ins t) (row_before b t) (row_at b t) x) (sym e) refl ∙ sym (is_b.equations t x l h)))
          (λ x name init pin e h. node_agrees t l x _ h e (register_agrees t name init pin (start_at n free w x) past))
          (λ x name cover pins e pins_agree h. node_agrees t l x _ h e (ap (cover_value cover) (map_agree (bit (row_at a t)) (bit (row_at b t)) pins pins refl (λ j k. pins_agree j k (pin_lt x name cover pins e j k)))))

      row_agrees : (t : ℕ) → t < length ins → row_before a t ≡ row_before b t → row_at a t ≡ row_at b t
      row_agrees t l past =
          let wide_a : length (row_at a t) ≡ net_count n = is_a.wide t l in
          let wide_b : length (row_at b t) ≡ net_count n = is_b.wide t l in
          ext_get_or false (row_at a t) (row_at b t) (wide_a ∙ sym wide_b) (λ x h. cycle_agrees t l past x (omega arith))

      rows_agree : (t : ℕ) → t < length ins → row_at a t ≡ row_at b t
      rows_agree zero l = row_agrees zero l refl
      rows_agree (suc t) l = row_agrees (suc t) l (rows_agree t (omega arith))

      traces_agree : a ≡ b
      traces_agree =
          let long_a : length a ≡ length ins = is_a.long in
          let long_b : length b ≡ length ins = is_b.long in
          ext_get_or [] a b (long_a ∙ sym long_b) (λ t h. rows_agree t (omega arith))

pub one_trace : (n : Net) (free : List Bool) → IsValid n → FreeTracesAreUnique n free
one_trace n free valid version w ins are_rows s is_schedule =
    let (order, is_order) = valid.ordered in
    record {
      trace = rows n order is_order valid free w s ins;
      is_trace = rows_are_trace n order is_order valid free w s ins;
      only = λ tr is. traces_agree n order is_order valid free w s ins tr _ is (rows_are_trace n order is_order valid free w s ins);
    }

-- where no initial value is free
pub one_plain_trace : (n : Net) → IsValid n → TracesAreUnique n
one_plain_trace n valid = one_trace n [] valid 1 []
