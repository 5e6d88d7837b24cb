-- A cycle has one row of values, and a trace's rows are its cycles.
use Rattle.std.proofs.Common.{◌≡◌, ℕ, zero, suc, ◌-◌, ◌<◌, Bool, true, false, nat_lt, if◌then◌else◌, List, [], length, slice_get, slice_index, refl, sym, ◌∙◌, ap, subst, arith, Option, Some, None}
use Rattle.std.proofs.lemmas.List.{ext_get_or}
use Rattle.tmr_base.specs.declared.ids.Upset.{Upset}
use Rattle.table_cover.specs.Cover.{PlainCover, cover_value}
use Rattle.flat_net.specs.Net.{Net, Node, Table, Register, slot, net_count, node_of, IsValid}
use Rattle.net_meaning.specs.Meaning.{bit, row_at, start_at, node_value, net_value, upset_at, IsFaultTrace}
use Rattle.std.specs.Option.{unwrap_or}
use Rattle.net_simulator.specs.Forced.{forced_value}
use Rattle.net_meaning.proofs.Order.{net_induction}
use Rattle.net_meaning.proofs.Lists.{map_agree}
use Rattle.net_simulator.specs.Cycle.{IsCycle, cycle_after, values_of}

-- an equation counts each later cycle as the second
later_value : (node : Node) (t : ℕ) (before v : List Bool) → node_value node None (suc t) before v ≡ node_value node None 1 before v
later_value (Table name cover pins) t before v = refl
later_value (Register name init pin) t before v = refl

later_forced_value : (o : Option Node) (u : Option Bool) (t : ℕ) (ins before v : List Bool) (x : ℕ) → forced_value o u (suc t) ins before v x ≡ forced_value o u 1 ins before v x
later_forced_value None u t ins before v x = refl
later_forced_value (Some node) u t ins before v x = ap (unwrap_or u) (later_value node t before v)

module _ (n : Net) (valid : IsValid n) (last : Option (List Bool)) (ins : List Bool) (forced : ℕ → Option Bool) (v w : List Bool) (is_v : IsCycle n last ins forced v) (is_w : IsCycle n last ins forced w) where
  abbrev Agree : ℕ → Type 0
  Agree x = x < net_count n → bit v x ≡ bit w x

  by_value : (x : ℕ) → x < net_count n → forced_value (node_of n x) (forced x) (cycle_after last) ins (values_of last) v x ≡ forced_value (node_of n x) (forced x) (cycle_after last) ins (values_of last) w x → bit v x ≡ bit w x
  by_value x h same = is_v.equations x h ∙ (same ∙ sym (is_w.equations x h))

  at_input : (x : ℕ) → node_of n x ≡ None → Agree x
  at_input x e h = by_value x h (subst (λ (o : Option Node). forced_value o (forced x) (cycle_after last) ins (values_of last) v x ≡ forced_value o (forced x) (cycle_after last) ins (values_of last) w x) (sym e) refl)

  register_value : (t : ℕ) (name : List ℕ) (init : Bool) (pin : ℕ) (before a b : List Bool) → node_value (Register name init pin) None t before a ≡ node_value (Register name init pin) None t before b
  register_value zero name init pin before a b = refl
  register_value (suc t) name init pin before a b = refl

  at_register : (x : ℕ) (name : List ℕ) (init : Bool) (pin : ℕ) → node_of n x ≡ Some (Register name init pin) → Agree x
  at_register x name init pin e h = by_value x h (subst (λ (o : Option Node). forced_value o (forced x) (cycle_after last) ins (values_of last) v x ≡ forced_value o (forced x) (cycle_after last) ins (values_of last) w x) (sym e) (ap (unwrap_or (forced x)) (register_value (cycle_after last) name init pin (values_of last) v w)))

  at_table : (x : ℕ) (name : List ℕ) (cover : PlainCover) (pins : List ℕ) → node_of n x ≡ Some (Table name cover pins) → ((j : ℕ) → j < length pins → Agree (slice_index pins j)) → Agree x
  at_table x name cover pins e pins_agree h =
      by_value x h (subst (λ (o : Option Node). forced_value o (forced x) (cycle_after last) ins (values_of last) v x ≡ forced_value o (forced x) (cycle_after last) ins (values_of last) w x) (sym e)
      (ap (λ (bs : List Bool). unwrap_or (forced x) (cover_value cover bs)) (map_agree (bit v) (bit w) pins pins refl (λ j k. pins_agree j k ((valid.unordered.wired x _ e).0 j 0 k)))))

  pub one_cycle : v ≡ w
  one_cycle =
      let (order, is_order) = valid.ordered in
      let wide_v : length v ≡ net_count n = is_v.wide in
      let wide_w : length w ≡ net_count n = is_w.wide in
      ext_get_or false v w (wide_v ∙ sym wide_w) (λ x h. net_induction n order is_order Agree at_input at_register at_table x (omega arith))

-- the values before cycle t of a trace
abbrev pub before_cycle : List (List Bool) → ℕ → Option (List Bool)
before_cycle tr zero = None
before_cycle tr (suc t) = Some (row_at tr t)

-- where nothing is marked, no start value counts
no_start : (n : Net) (x : ℕ) → start_at n [] [] x ≡ None
unfolding slot
no_start n x = go (nat_lt x (length n.inputs))
  where
    go : (b : Bool) → (if unwrap_or (if b then None else slice_get [] (x - length n.inputs)) false then Some (unwrap_or (if b then None else slice_get [] (x - length n.inputs)) false) else None) ≡ None
    go true = refl
    go false = refl

-- row t of a trace is a cycle
row_is_cycle : (n : Net) (ins : List (List Bool)) (s : List Upset) (tr : List (List Bool)) (t : ℕ) → IsFaultTrace n ins s tr → t < length ins → IsCycle n (before_cycle tr t) (row_at ins t) (λ x. upset_at s t x) (row_at tr t)
row_is_cycle n ins s tr zero is l = record {
  wide = is.wide zero l;
  equations = λ x h. is.equations zero x l h ∙ ap (λ (o : Option Bool). unwrap_or (upset_at s zero x) (net_value (node_of n x) o zero (row_at ins zero) [] (row_at tr zero) x)) (no_start n x);
}
row_is_cycle n ins s tr (suc t) is l = record {
  wide = is.wide (suc t) l;
  equations = λ x h. is.equations (suc t) x l h
      ∙ (ap (λ (o : Option Bool). unwrap_or (upset_at s (suc t) x) (net_value (node_of n x) o (suc t) (row_at ins (suc t)) (row_at tr t) (row_at tr (suc t)) x)) (no_start n x)
      ∙ later_forced_value (node_of n x) (upset_at s (suc t) x) t (row_at ins (suc t)) (row_at tr t) (row_at tr (suc t)) x);
}

-- what is forced may be told in another way
pub forced_alike : (n : Net) (last : Option (List Bool)) (ins : List Bool) (f g : ℕ → Option Bool) (v : List Bool) → ((x : ℕ) → x < net_count n → f x ≡ g x) → IsCycle n last ins f v → IsCycle n last ins g v
forced_alike n last ins f g v same is = record {
  wide = is.wide;
  equations = λ x h. subst (λ (u : Option Bool). bit v x ≡ forced_value (node_of n x) u (cycle_after last) ins (values_of last) v x) (same x h) (is.equations x h);
}
