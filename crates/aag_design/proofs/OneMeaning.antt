-- A graph's design does the same as the graph.
use Rattle.std.proofs.Common.{◌≡◌, ℕ, zero, suc, ◌+◌, ◌-◌, ◌<◌, ◌≤◌, ◌⊎◌, inl, inr, Bool, false, List, [], length, map, get_or, slice_get, Option, Some, refl, sym, ap, ◌∙◌, subst, arith}
use Rattle.std.specs.Prelude.{nat_eq, slice_index, if◌then◌else◌}
use Rattle.std.specs.List.{range_with_len}
use Rattle.std.proofs.lemmas.Bool.{cases_lt, ne_eqb}
use Rattle.std.proofs.lemmas.List.{length-map}
use Rattle.std.proofs.lemmas.List.FromFn.{length-map-range_with_len, get_or-map-range_with_len}
use Rattle.std.proofs.lemmas.Option.{slice_get_within, get_or_from_slice_get}
use Rattle.flat_net.proofs.Slots.{slice_get_there}
use Rattle.flat_net.proofs.Sound.{names_of_draft, count_of_draft}
use Rattle.flat_net.specs.Net.{Net, Node, Register, net_count, node_of, IsValid}
use Rattle.flat_net.specs.Free.{FreeDesign}
use Rattle.flat_net.specs.Faults.{number_in, node_of_element, draft_names, net_of_draft}
use Rattle.net_meaning.specs.Meaning.{bit, row_at, row_before, value_at, start_at, node_value, net_value, AreRows, IsFreeTrace, HasOneTrace}
use Rattle.net_meaning.proofs.OneTrace.{one_trace}
use Rattle.aag_text.specs.declared.aig.Literal.{Literal}
use Rattle.aag_text.specs.declared.aig.Latch.{Latch}
use Rattle.aag_text.specs.declared.aig.Gate.{Gate}
use Rattle.aag_text.specs.Aig.{PlainAig, literal_value, positive}
use Rattle.aag_text.specs.Traces.{latch_value, IsAigTrace}
use Rattle.aag_text.specs.Same.{latch_bits}
use Rattle.aag_text.specs.Variables.{IsDefinedOnce, IsDefined}
use Rattle.aag_design.specs.Draft.{numbered, net_name, starts_with_1}
use Rattle.aag_design.specs.Private.Drafting.{plain_draft, plain_marks}
use Rattle.aag_design.specs.Same.{net_literals, DoesTheSame}
use Rattle.aag_design.proofs.Places.{map_get, node_total, IsPlace, AtZero, AtLatch, AtGate, AtNext, AtOutput, place_of}
use Rattle.aag_design.proofs.Nets.{element, node_at, node_name, input_at, count_is, literals_long, literal_get, input_literal, node_literal, AreApart, number_is}
use Rattle.aag_design.proofs.Known.{AreVariables, IsNetOf, zero_net, input_net, latch_net, gate_net, known_net, next_known, output_known, left_known, right_known, defined_input, defined_latch, defined_gate}
use Rattle.aag_design.proofs.Values.{names, design, pin_bit, PinsAgree, literal_agrees, gate_agrees, no_value, start_same}

-- the names of a valid design stand apart
pub apart_of : (a : PlainAig) → IsValid (net_of_draft (plain_draft a)) → AreApart (draft_names (plain_draft a))
apart_of a valid = record {
  same = λ x y hx hy e. valid.unordered.names_differ x y (omega (arith, hx, count_of_draft (plain_draft a))) (omega (arith, hy, count_of_draft (plain_draft a)))
      (ap (λ (ns : List (List ℕ)). get_or ns x []) (names_of_draft (plain_draft a)) ∙ (e ∙ sym (ap (λ (ns : List (List ℕ)). get_or ns y []) (names_of_draft (plain_draft a)))));
}

module _ (a : PlainAig) (once : IsDefinedOnce a) (all : IsDefined a) (are : AreVariables a) (valid : IsValid (net_of_draft (plain_draft a))) where
  apart : AreApart (draft_names (plain_draft a))
  apart = apart_of a valid

  net_number : (u x : ℕ) → IsNetOf a u x → number_in (names a) (net_name a u) ≡ x
  net_number u x is = number_is (names a) x (net_name a u) apart is.name

  -- the table of a latch's next literal
  next_number : (j : ℕ) (l : Latch) → slice_get a.latches j ≡ Some l → number_in (names a) (numbered 100 j) ≡ length a.inputs + (1 + length a.latches + length a.gates + j)
  next_number j l at = number_is (names a) (length a.inputs + (1 + length a.latches + length a.gates + j)) (numbered 100 j) apart (node_name a (1 + length a.latches + length a.gates + j) (length a.inputs + (1 + length a.latches + length a.gates + j)) (AtNext j l refl at) refl)

  -- ---- from a trace of the graph to one of the design

  module _ (w : List Bool) (ins : List (List Bool)) (are_rows : AreRows (design a) ins) (tr : ℕ → ℕ → Bool) (it : IsAigTrace a (latch_bits (design a) w) ins tr) where
    pub row_is : (t : ℕ) → t < length ins → row_at (map (λ t. map (literal_value (tr t)) (net_literals a)) (range_with_len 0 (length ins))) t ≡ map (literal_value (tr t)) (net_literals a)
    row_is t l = get_or-map-range_with_len (λ t. map (literal_value (tr t)) (net_literals a)) 0 (length ins) t t [] l (omega arith)

    bit_is : (x : ℕ) (m : Literal) (t : ℕ) → slice_get (net_literals a) x ≡ Some m → bit (map (literal_value (tr t)) (net_literals a)) x ≡ literal_value (tr t) m
    bit_is x m t e = get_or_from_slice_get (map (literal_value (tr t)) (net_literals a)) x (literal_value (tr t) m) false (map_get (literal_value (tr t)) (net_literals a) x m e)

    agree : (t : ℕ) → PinsAgree a (map (literal_value (tr t)) (net_literals a)) (tr t)
    agree t u known =
        let (x, is, low) = known_net a once are u known in
        ap (bit (map (literal_value (tr t)) (net_literals a))) (net_number u x is) ∙ bit_is x (positive u) t is.literal

    -- the row before, where there is one
    abbrev IsBefore : ℕ → List Bool → Type 0
    IsBefore zero before = Unit {0}
    IsBefore (suc t) before = before ≡ map (literal_value (tr t)) (net_literals a)

    register_meets : (t j x : ℕ) (l : Latch) (before v : List Bool) → x ≡ length a.inputs + (1 + j) → slice_get a.latches j ≡ Some l → IsBefore t before
        → latch_value l (bit (latch_bits (design a) w) j) tr t ≡ node_value (Register (numbered 108 j) (starts_with_1 l.start) (number_in (names a) (numbered 100 j))) (start_at (design a) (plain_marks a) w x) t before v
    register_meets zero j x l before v e at b = start_same a w j x l e at
    register_meets (suc t) j x l before v e at b =
        sym (ap (λ (r : List Bool). bit r (number_in (names a) (numbered 100 j))) b
        ∙ (ap (bit (map (literal_value (tr t)) (net_literals a))) (next_number j l at)
        ∙ bit_is (length a.inputs + (1 + length a.latches + length a.gates + j)) l.next t (literal_get a (1 + length a.latches + length a.gates + j) (length a.inputs + (1 + length a.latches + length a.gates + j)) (AtNext j l refl at) refl)))

    node_meets : (t i x : ℕ) (p : IsPlace a i) (before : List Bool) → t < length ins → x ≡ length a.inputs + i → IsBefore t before
        → literal_value (tr t) (node_literal a i p) ≡ node_value (node_of_element (names a) (element a i p)) (start_at (design a) (plain_marks a) w x) t before (map (literal_value (tr t)) (net_literals a))
    node_meets t i x (AtZero z) before l e b = it.zero t l ∙ sym no_value
    node_meets t i x (AtLatch j m z at) before l e b = it.latches t j m l at ∙ register_meets t j x m before (map (literal_value (tr t)) (net_literals a)) (omega (arith, e, z)) at b
    node_meets t i x (AtGate k g z at) before l e b = it.gates t k g l at ∙ sym (gate_agrees a (map (literal_value (tr t)) (net_literals a)) (tr t) (agree t) g (left_known a all k g at) (right_known a all k g at))
    node_meets t i x (AtNext j m z at) before l e b = sym (literal_agrees a (map (literal_value (tr t)) (net_literals a)) (tr t) (agree t) m.next (next_known a all j m at))
    node_meets t i x (AtOutput k m z at) before l e b = sym (literal_agrees a (map (literal_value (tr t)) (net_literals a)) (tr t) (agree t) m (output_known a all k m at))

    before_is : (t : ℕ) → t < length ins → IsBefore t (row_before (map (λ t. map (literal_value (tr t)) (net_literals a)) (range_with_len 0 (length ins))) t)
    before_is zero l = tt
    before_is (suc t) l = row_is t (omega (arith, l))

    meets : (t x : ℕ) → t < length ins → x < net_count (design a) → bit (map (literal_value (tr t)) (net_literals a)) x ≡ net_value (node_of (design a) x) (start_at (design a) (plain_marks a) w x) t (row_at ins t) (row_before (map (λ t. map (literal_value (tr t)) (net_literals a)) (range_with_len 0 (length ins))) t) (map (literal_value (tr t)) (net_literals a)) x
    meets t x l h = go (cases_lt x (length a.inputs))
      where
        go : (x < length a.inputs) ⊎ (length a.inputs ≤ x) → bit (map (literal_value (tr t)) (net_literals a)) x ≡ net_value (node_of (design a) x) (start_at (design a) (plain_marks a) w x) t (row_at ins t) (row_before (map (λ t. map (literal_value (tr t)) (net_literals a)) (range_with_len 0 (length ins))) t) (map (literal_value (tr t)) (net_literals a)) x
        go (inl low) =
            let (v, at) = slice_get_there a.inputs x low in
            let own : slice_index a.inputs x ≡ v = get_or_from_slice_get a.inputs x v 0 at in
            subst (λ (o : Option Node). bit (map (literal_value (tr t)) (net_literals a)) x ≡ net_value o (start_at (design a) (plain_marks a) w x) t (row_at ins t) (row_before (map (λ t. map (literal_value (tr t)) (net_literals a)) (range_with_len 0 (length ins))) t) (map (literal_value (tr t)) (net_literals a)) x)
            (sym (input_at a x low)) (bit_is x (positive v) t (input_literal a x v at) ∙ (ap (tr t) (sym own) ∙ it.inputs t x l low))
        go (inr high) =
            let e : x ≡ length a.inputs + (x - length a.inputs) = omega (arith, high) in
            let p : IsPlace a (x - length a.inputs) = place_of a (x - length a.inputs) (omega (arith, high, h, count_is a)) in
            subst (λ (o : Option Node). bit (map (literal_value (tr t)) (net_literals a)) x ≡ net_value o (start_at (design a) (plain_marks a) w x) t (row_at ins t) (row_before (map (λ t. map (literal_value (tr t)) (net_literals a)) (range_with_len 0 (length ins))) t) (map (literal_value (tr t)) (net_literals a)) x)
            (sym (node_at a (x - length a.inputs) x p e))
            (bit_is x (node_literal a (x - length a.inputs) p) t (literal_get a (x - length a.inputs) x p e) ∙ node_meets t (x - length a.inputs) x p (row_before (map (λ t. map (literal_value (tr t)) (net_literals a)) (range_with_len 0 (length ins))) t) l e (before_is t l))

    pub rows_are : IsFreeTrace (design a) (plain_marks a) w ins (map (λ t. map (literal_value (tr t)) (net_literals a)) (range_with_len 0 (length ins)))
    rows_are = record {
      long = length-map-range_with_len (λ t. map (literal_value (tr t)) (net_literals a)) 0 (length ins);
      wide = λ t l. ap length (row_is t l) ∙ (length-map (net_literals a) (literal_value (tr t)) ∙ (literals_long a ∙ sym (count_is a)));
      equations = λ t x l h. subst (λ (r : List Bool). bit r x ≡ net_value (node_of (design a) x) (start_at (design a) (plain_marks a) w x) t (row_at ins t) (row_before (map (λ t. map (literal_value (tr t)) (net_literals a)) (range_with_len 0 (length ins))) t) r x) (sym (row_is t l)) (meets t x l h);
    }

  -- ---- from a trace of the design to one of the graph

  module _ (w : List Bool) (ins rows : List (List Bool)) (is : IsFreeTrace (design a) (plain_marks a) w ins rows) where
    abbrev pub variable_value : ℕ → ℕ → Bool
    variable_value t u = if nat_eq u 0 then false else pin_bit a (row_at rows t) u

    equation : (t i x : ℕ) (p : IsPlace a i) → t < length ins → i < node_total a → x ≡ length a.inputs + i → bit (row_at rows t) x ≡ node_value (node_of_element (names a) (element a i p)) (start_at (design a) (plain_marks a) w x) t (row_before rows t) (row_at rows t)
    equation t i x p l h e = subst (λ (o : Option Node). bit (row_at rows t) x ≡ net_value o (start_at (design a) (plain_marks a) w x) t (row_at ins t) (row_before rows t) (row_at rows t) x) (node_at a i x p e) (is.equations t x l (omega (arith, h, e, count_is a)))

    within : (i : ℕ) → IsPlace a i → i < node_total a
    within i (AtZero z) = omega (arith, z)
    within i (AtLatch j m z at) = let s = slice_get_within a.latches j m at in omega (arith, z, s)
    within i (AtGate k g z at) = let s = slice_get_within a.gates k g at in omega (arith, z, s)
    within i (AtNext j m z at) = let s = slice_get_within a.latches j m at in omega (arith, z, s)
    within i (AtOutput k m z at) = let s = slice_get_within a.outputs k m at in omega (arith, z, s)

    pin_of_net : (t u x : ℕ) → IsNetOf a u x → pin_bit a (row_at rows t) u ≡ bit (row_at rows t) x
    pin_of_net t u x net = ap (bit (row_at rows t)) (net_number u x net)

    zero_value : (t : ℕ) → t < length ins → pin_bit a (row_at rows t) 0 ≡ false
    zero_value t l = pin_of_net t 0 (length a.inputs) (zero_net a once) ∙ (equation t 0 (length a.inputs) (AtZero refl) l (within 0 (AtZero refl)) (omega arith) ∙ no_value)

    pins : (t : ℕ) → t < length ins → PinsAgree a (row_at rows t) (variable_value t)
    pins t l zero known = zero_value t l
    pins t l (suc u) known = let no : nat_eq (suc u) 0 ≡ false = ne_eqb (suc u) 0 (λ z. omega (arith, z)) in rw no refl

    plain : (t u x : ℕ) → 0 < u → IsNetOf a u x → variable_value t u ≡ bit (row_at rows t) x
    plain t u x some net =
        let no : nat_eq u 0 ≡ false = ne_eqb u 0 (λ z. omega (arith, z, some)) in
        rw no (pin_of_net t u x net)

    next_value : (t j : ℕ) (m : Latch) → t < length ins → slice_get a.latches j ≡ Some m → bit (row_at rows t) (number_in (names a) (numbered 100 j)) ≡ literal_value (variable_value t) m.next
    next_value t j m l at =
        ap (bit (row_at rows t)) (next_number j m at)
        ∙ (equation t (1 + length a.latches + length a.gates + j) (length a.inputs + (1 + length a.latches + length a.gates + j)) (AtNext j m refl at) l (within (1 + length a.latches + length a.gates + j) (AtNext j m refl at)) refl
        ∙ literal_agrees a (row_at rows t) (variable_value t) (pins t l) m.next (next_known a all j m at))

    latch_meets : (t j x : ℕ) (m : Latch) → t < length ins → x ≡ length a.inputs + (1 + j) → slice_get a.latches j ≡ Some m
        → node_value (Register (numbered 108 j) (starts_with_1 m.start) (number_in (names a) (numbered 100 j))) (start_at (design a) (plain_marks a) w x) t (row_before rows t) (row_at rows t) ≡ latch_value m (bit (latch_bits (design a) w) j) variable_value t
    latch_meets zero j x m l e at = sym (start_same a w j x m e at)
    latch_meets (suc t) j x m l e at = next_value t j m (omega (arith, l)) at

    pub values_are : IsAigTrace a (latch_bits (design a) w) ins variable_value
    values_are = record {
      zero = λ t l. refl;
      inputs = λ t i l h. input t i l h;
      latches = λ t j m l at.
          let some = are (length a.inputs + j) m.variable (defined_latch a (length a.inputs + j) j m refl at) in
          plain t m.variable (length a.inputs + (1 + j)) some (latch_net a once j (length a.inputs + (1 + j)) m refl some at)
          ∙ (equation t (1 + j) (length a.inputs + (1 + j)) (AtLatch j m refl at) l (within (1 + j) (AtLatch j m refl at)) refl
          ∙ latch_meets t j (length a.inputs + (1 + j)) m l refl at);
      gates = λ t k g l at.
          let some = are (length a.inputs + length a.latches + k) g.variable (defined_gate a (length a.inputs + length a.latches + k) k g refl at) in
          plain t g.variable (length a.inputs + (1 + length a.latches + k)) some (gate_net a once k (length a.inputs + (1 + length a.latches + k)) g refl some at)
          ∙ (equation t (1 + length a.latches + k) (length a.inputs + (1 + length a.latches + k)) (AtGate k g refl at) l (within (1 + length a.latches + k) (AtGate k g refl at)) refl
          ∙ gate_agrees a (row_at rows t) (variable_value t) (pins t l) g (left_known a all k g at) (right_known a all k g at));
    }
      where
        input : (t i : ℕ) → t < length ins → i < length a.inputs → variable_value t (slice_index a.inputs i) ≡ value_at ins t i
        input t i l h =
            let (v, at) = slice_get_there a.inputs i h in
            let own : slice_index a.inputs i ≡ v = get_or_from_slice_get a.inputs i v 0 at in
            let some = are i v (defined_input a i v at) in
            ap (variable_value t) own
            ∙ (plain t v i some (input_net a once i v some at)
            ∙ subst (λ (o : Option Node). bit (row_at rows t) i ≡ net_value o (start_at (design a) (plain_marks a) w i) t (row_at ins t) (row_before rows t) (row_at rows t) i) (input_at a i h) (is.equations t i l (omega (arith, h, count_is a))))

  -- ---- the law

  one : (w : List Bool) (ins : List (List Bool)) → AreRows (design a) ins → HasOneTrace (design a) (plain_marks a) w ins []
  one w ins are_rows = one_trace (design a) (plain_marks a) valid 1 w ins are_rows [] (record {
    cycles = λ u h. absurd (omega (arith, h.1));
    nets = λ u h. absurd (omega (arith, h.1));
    nodes = λ v u h. absurd (omega (arith, h.1));
    differ = λ j k u v l e f. absurd (cc);
  })

  pub does_the_same : (n : FreeDesign) → n.design.net ≡ net_of_draft (plain_draft a) → n.free ≡ plain_marks a → DoesTheSame n a
  does_the_same n net marks = record {
    some = λ w ins are_rows. some w ins are_rows;
    each = λ w ins are_rows rows is tr it t l. each w ins are_rows rows is tr it t l;
  }
    where
      some : (w : List Bool) (ins : List (List Bool)) → AreRows n.design.net ins → (tr : ℕ → ℕ → Bool) × IsAigTrace a (latch_bits n.design.net w) ins tr
      some w ins are_rows =
          let o = one w ins (subst (λ (m : Net). AreRows m ins) net are_rows) in
          (variable_value w ins o.trace o.is_trace, subst (λ (m : Net). IsAigTrace a (latch_bits m w) ins (variable_value w ins o.trace o.is_trace)) (sym net) (values_are w ins o.trace o.is_trace))

      each : (w : List Bool) (ins : List (List Bool)) → AreRows n.design.net ins → (rows : List (List Bool)) → IsFreeTrace n.design.net n.free w ins rows
          → (tr : ℕ → ℕ → Bool) → IsAigTrace a (latch_bits n.design.net w) ins tr → (t : ℕ) → t < length ins → row_at rows t ≡ map (literal_value (tr t)) (net_literals a)
      each w ins are_rows rows is tr it t l =
          let rows_fit = subst (λ (m : Net). AreRows m ins) net are_rows in
          let o = one w ins rows_fit in
          let plain_is : IsFreeTrace (design a) (plain_marks a) w ins rows = subst (λ (f : List Bool). IsFreeTrace (design a) f w ins rows) marks (subst (λ (m : Net). IsFreeTrace m n.free w ins rows) net is) in
          let plain_it : IsAigTrace a (latch_bits (design a) w) ins tr = subst (λ (m : Net). IsAigTrace a (latch_bits m w) ins tr) net it in
          let same = o.only rows plain_is ∙ sym (o.only _ (rows_are w ins rows_fit tr plain_it)) in
          ap (λ (r : List (List Bool)). row_at r t) same ∙ row_is w ins rows_fit tr plain_it t l
