-- The design of a draft without faults is valid but for an order.
use Rattle.std.proofs.Common.{◌≡◌, ◌≢◌, ℕ, zero, suc, ◌+◌, ◌-◌, ◌<◌, ◌≤◌, ◌⊎◌, inl, inr, Bool, true, false, not, ◌||◌, List, [], ◌∷◌, ◌++◌, length, map, take, drop, get_or, All, Option, Some, None, slice_get, refl, sym, ap, ◌∙◌, subst, arith, eqb, ltb, Any, if◌then◌else◌}
use Rattle.std.specs.Prelude.{Contains, position, count_by, codes}
use Rattle.std.specs.List.{flat_map, list_any, IsDistinct, position_or_len}
use Rattle.std.specs.Option.{unwrap_or, option_map}
use Rattle.std.specs.Str.{bytes_eq}
use Rattle.std.proofs.lemmas.List.{length-map, length-append, get_or_default, get_or-map, append_assoc}
use Rattle.std.proofs.lemmas.List.Quantifiers.{position-Some}
use Rattle.std.proofs.lemmas.List.Folds.{list_any-append, Any-from_list_any, list_any_none}
use Rattle.std.proofs.lemmas.List.Sums.{fails_before_first, sum_by-cons, length-filter, count_by-le-length}
use Rattle.std.proofs.lemmas.List.Elements.{filter_passes, All-map, All-filter, All-append, All-head, All-tail, All-contains, All-weaker, Contains-append_cases}
use Rattle.std.proofs.lemmas.List.Concat.{length-flat_map}
use Rattle.std.proofs.lemmas.Map.Keys.{apart_from_distinct, IsDistinct-from_apart}
use Rattle.std.proofs.lemmas.Map.Steps.{length-le_from_distinct_below}
use Rattle.std.proofs.lemmas.Bool.{cases_lt, cases_order, ne_eqb, eqb-true, or_parts, false≢true, not-false, cond-true, lt-ltb}
use Rattle.std.proofs.lemmas.Option.{slice_get_within, get_or_from_slice_get, slice_get-map}
use Rattle.tmr_base.specs.Names.{is_name}
use Rattle.tmr_base.specs.declared.ids.Edge.{Edge}
use Rattle.flat_net.specs.Net.{Node, node_of, node_name, net_names, net_count, pins_of, pin_total, is_register, IsWired, IsClockOf, IsUnordered}
use Rattle.flat_net.specs.Draft.{PlainDraft, Element, TableOf, LatchOf, out_of, reads_of, IsDraft, IsElement, AreDistinct}
use Rattle.flat_net.specs.First.{HasNone}
use Rattle.flat_net.specs.Faults.{is_among, is_no_net, number_in, node_of_element, net_inputs, draft_names, draft_reads, clock_of, clock_from, first_control, is_clock, net_of_draft, IsDrivenOnce, HasCleanClock, IsDriven}
use Rattle.flat_net.proofs.Firsts.{none_at}
use Rattle.flat_net.proofs.Names.{eq_true, eq_from}
use Rattle.flat_net.proofs.Slots.{slot_at, slot_within, slice_get_there}
use Rattle.flat_net.proofs.Going.{taken_split}

-- ---- numbers of names

pub among_number : (names : List (List ℕ)) (x : List ℕ) → is_among names x ≡ true → (number_in names x < length names) × (get_or names (number_in names x) [] ≡ x)
among_number names x e = go (cases_lt (position_or_len (bytes_eq x) names) (length names))
  where
    go : (position_or_len (bytes_eq x) names < length names) ⊎ (length names ≤ position_or_len (bytes_eq x) names) → (number_in names x < length names) × (get_or names (number_in names x) [] ≡ x)
    go (inl l) =
        let p : position (bytes_eq x) names ≡ Some (position_or_len (bytes_eq x) names) = cond-true (ltb (position_or_len (bytes_eq x) names) (length names)) (Some (position_or_len (bytes_eq x) names)) None (lt-ltb _ _ l) in
        let f = position-Some (bytes_eq x) names (position_or_len (bytes_eq x) names) [] p in
        let n : number_in names x ≡ position_or_len (bytes_eq x) names = ap (λ (o : Option ℕ). unwrap_or o 0) p in
        rw n (f.0, sym (eq_from x (get_or names (position_or_len (bytes_eq x) names) []) f.1))
    go (inr l) = absurd (false≢true (sym (list_any_none (bytes_eq x) names (λ k d h. fails_before_first (bytes_eq x) names k d (omega arith))) ∙ e))

pub number_apart : (names : List (List ℕ)) (x y : List ℕ) → is_among names x ≡ true → is_among names y ≡ true → number_in names x ≡ number_in names y → x ≡ y
number_apart names x y a b e = sym ((among_number names x a).1) ∙ (ap (λ k. get_or names k []) e ∙ (among_number names y b).1)

-- ---- parts of lists without such an entry

none_left : {A : Type 0} (test : List A → A → Bool) (xs ys : List A) → HasNone test (xs ++ ys) → HasNone test xs
none_left test xs ys h = record { none = λ before x after e. h.none before x (after ++ ys) (ap (λ zs. zs ++ ys) e ∙ append_assoc before (x ∷ after) ys) }

none_right : {A : Type 0} (p : A → Bool) (xs ys : List A) → HasNone (λ before x. p x) (xs ++ ys) → HasNone (λ before x. p x) ys
none_right p xs ys h = record { none = λ before x after e. h.none (xs ++ before) x after (ap (λ zs. xs ++ zs) e ∙ sym (append_assoc xs before (x ∷ after))) }

none_element : (keys : List (List ℕ)) (es : List Element) (i : ℕ) (e : Element) → HasNone (is_no_net keys) (flat_map reads_of es) → slice_get es i ≡ Some e → HasNone (is_no_net keys) (reads_of e)
none_element keys [] i e h at = absurd (cc)
none_element keys (x ∷ es) zero e h at = let s : x ≡ e = cc in rw (← s) (none_left (is_no_net keys) (reads_of x) (flat_map reads_of es) h)
none_element keys (x ∷ es) (suc i) e h at = none_element keys es i e (none_right (λ name. not (is_among keys name)) (reads_of x) (flat_map reads_of es) h) at

is_net_at : (keys names : List (List ℕ)) (k : ℕ) (d : List ℕ) → HasNone (is_no_net keys) names → k < length names → is_among keys (get_or names k d) ≡ true
is_net_at keys names k d h l = not-false (is_among keys (get_or names k d)) (none_at (λ name. not (is_among keys name)) names k d h l)

-- ---- the nodes

out_names : (keys : List (List ℕ)) (es : List Element) → map node_name (map (node_of_element keys) es) ≡ map out_of es
out_names keys [] = refl
out_names keys (TableOf pins out cover ∷ es) = ap (λ (xs : List (List ℕ)). out ∷ xs) (out_names keys es)
out_names keys (LatchOf pin out control init ∷ es) = ap (λ (xs : List (List ℕ)). out ∷ xs) (out_names keys es)

pub names_of_draft : (d : PlainDraft) → net_names (net_of_draft d) ≡ draft_names d
names_of_draft d = ap (λ (xs : List (List ℕ)). net_inputs d ++ xs) (out_names (draft_names d) d.elements)

pub count_of_draft : (d : PlainDraft) → net_count (net_of_draft d) ≡ length (draft_names d)
count_of_draft d = omega (arith, length-append (net_inputs d) (map out_of d.elements), length-map d.elements out_of, length-map d.elements (node_of_element (draft_names d)))

pins_of_nodes : (keys : List (List ℕ)) (es : List Element) → length (flat_map pins_of (map (node_of_element keys) es)) ≡ length (flat_map reads_of es)
pins_of_nodes keys [] = refl
pins_of_nodes keys (TableOf pins out cover ∷ es) = length-append (map (number_in keys) pins) (flat_map pins_of (map (node_of_element keys) es)) ∙ (omega (arith, pins_of_nodes keys es, length-map pins (number_in keys), length-append pins (flat_map reads_of es)))
pins_of_nodes keys (LatchOf pin out control init ∷ es) = ap suc (pins_of_nodes keys es)

pub total_of_draft : (d : PlainDraft) → pin_total (net_of_draft d) ≡ length (draft_reads d)
total_of_draft d = sym (length-flat_map pins_of (map (node_of_element (draft_names d)) d.elements)) ∙ pins_of_nodes (draft_names d) d.elements

-- the element that a node stands for
pub record IsElementOf (d : PlainDraft) (node : Node) : Type 0 where
  pub place : ℕ
  pub element : Element
  pub at : slice_get d.elements place ≡ Some element
  pub is : node ≡ node_of_element (draft_names d) element

pub element_of : (d : PlainDraft) (x : ℕ) (node : Node) → node_of (net_of_draft d) x ≡ Some node → IsElementOf d node
element_of d x node e = go (slice_get d.elements (x - length (net_inputs d))) refl
  where
    within : (length (net_inputs d) ≤ x) × (x < length (net_inputs d) + length (map (node_of_element (draft_names d)) d.elements))
    within = slot_within (length (net_inputs d)) (map (node_of_element (draft_names d)) d.elements) x node e

    here : option_map (node_of_element (draft_names d)) (slice_get d.elements (x - length (net_inputs d))) ≡ Some node
    here = sym (slot_at (length (net_inputs d)) (map (node_of_element (draft_names d)) d.elements) x within.0 ∙ slice_get-map (node_of_element (draft_names d)) d.elements (x - length (net_inputs d))) ∙ e

    go : (o : Option Element) → slice_get d.elements (x - length (net_inputs d)) ≡ o → IsElementOf d node
    go None f = absurd (let g = rw f at here in cc)
    go (Some element) f = record { place = x - length (net_inputs d); element = element; at = f; is = let g = rw f at here in cc }

pub wired_element : (d : PlainDraft) (e : Element) → IsElement e → HasNone (is_no_net (draft_names d)) (reads_of e) → IsWired (net_count (net_of_draft d)) (node_of_element (draft_names d) e)
wired_element d (TableOf pins out cover) is nets = (
  All-map (λ x. x < net_count (net_of_draft d)) (number_in (draft_names d)) pins (λ k b h. rw (count_of_draft d) ((among_number (draft_names d) (get_or pins k b) (is_net_at (draft_names d) pins k b nets h)).0)),
  length-map pins (number_in (draft_names d)) ∙ is.1,
  is.2,
)
wired_element d (LatchOf pin out control init) is nets = rw (count_of_draft d) ((among_number (draft_names d) pin (is_net_at (draft_names d) (pin ∷ []) 0 [] nets (omega arith))).0)

-- ---- the outputs

outputs_below : (d : PlainDraft) → HasNone (is_no_net (draft_names d)) d.outputs → All (λ x. x < net_count (net_of_draft d)) (map (number_in (draft_names d)) d.outputs)
outputs_below d nets = All-map (λ x. x < net_count (net_of_draft d)) (number_in (draft_names d)) d.outputs (λ k b h. rw (count_of_draft d) ((among_number (draft_names d) (get_or d.outputs k b) (is_net_at (draft_names d) d.outputs k b nets h)).0))

outputs_apart : (d : PlainDraft) → AreDistinct d.outputs → HasNone (is_no_net (draft_names d)) d.outputs → (j k : ℕ) → j < k → k < length (map (number_in (draft_names d)) d.outputs) → get_or (map (number_in (draft_names d)) d.outputs) j 0 ≢ get_or (map (number_in (draft_names d)) d.outputs) k 0
outputs_apart d distinct nets j k jk h e =
    let high : k < length d.outputs = omega (arith, length-map d.outputs (number_in (draft_names d))) in
    distinct j k jk high (number_apart (draft_names d) (get_or d.outputs j []) (get_or d.outputs k [])
    (is_net_at (draft_names d) d.outputs j [] nets (omega arith)) (is_net_at (draft_names d) d.outputs k [] nets high)
    (sym (get_or-map (number_in (draft_names d)) d.outputs j [] 0 (omega arith)) ∙ (e ∙ get_or-map (number_in (draft_names d)) d.outputs k [] 0 high)))

-- so many numbers below n, no two equal, are at most n
few_apart : (xs : List ℕ) (n : ℕ) → ((j k : ℕ) → j < k → k < length xs → get_or xs j 0 ≢ get_or xs k 0) → All (λ x. x < n) xs → length xs ≤ n
few_apart xs n apart below = length-le_from_distinct_below xs n (IsDistinct-from_apart eqb xs (λ j k b jk h. ne_eqb _ _ (λ e. apart j k jk h (get_or_default xs j 0 b (omega arith) ∙ (e ∙ get_or_default xs k b 0 h))))) (λ q t. go q (Any-from_list_any (eqb q) xs t))
  where
    go : (q : ℕ) → Any (λ x. eqb q x ≡ true) xs → q < n
    go q (k, v, l, at, h) = let b = below k v l in omega (arith, eqb-true q v h, at)

-- ---- the clock

-- the clock is none of the inputs that are nets
not_input : (d : PlainDraft) (edge : Edge) (clock : List ℕ) → clock_of d ≡ Some (edge, clock) → Contains (net_inputs d) clock → ⊥
not_input d edge clock e there =
    let p = All-contains (λ name. not (is_clock (clock_of d) name) ≡ true) (net_inputs d) clock (filter_passes (λ name. not (is_clock (clock_of d) name)) d.inputs) there in
    let q : not (bytes_eq clock clock) ≡ true = rw e at p in
    false≢true (rw (eq_true clock clock refl) at q)

-- a main input is no element's output
not_output : (d : PlainDraft) (clock : List ℕ) → IsDrivenOnce d → is_among d.inputs clock ≡ true → Contains (map out_of d.elements) clock → ⊥
not_output d clock once input (k, below, is) = go (slice_get_there d.elements k (omega (arith, length-map d.elements out_of)))
  where
    go : (e : Element) × (slice_get d.elements k ≡ Some e) → ⊥
    go (e, at) =
        let here : e ≡ get_or d.elements k e = sym (get_or_from_slice_get d.elements k e e at) in
        let within = slice_get_within d.elements k e at in
        let out : out_of e ≡ clock = ap out_of here ∙ (sym (get_or-map out_of d.elements k e clock within) ∙ is) in
        let fresh = once.none (take k d.elements) e (drop (k + 1) d.elements) (taken_split d.elements k e within here) in
        let again : is_among (d.inputs ++ map out_of (take k d.elements)) (out_of e) ≡ true = rw out (list_any-append (bytes_eq clock) d.inputs (map out_of (take k d.elements)) ∙ ap (λ b. b || list_any (bytes_eq clock) (map out_of (take k d.elements))) input) in
        false≢true (sym fresh ∙ again)

some_register : (keys : List (List ℕ)) (es : List Element) (control : Option (Edge × List ℕ)) → first_control es ≡ Some control → 0 < count_by is_register (map (node_of_element keys) es)
some_register keys [] control e = absurd (cc)
some_register keys (TableOf pins out cover ∷ es) control e = omega (arith, some_register keys es control e, sum_by-cons (λ node. if is_register node then 1 else 0) (node_of_element keys (TableOf pins out cover)) (map (node_of_element keys) es))
some_register keys (LatchOf pin out c init ∷ es) control e = omega (arith, sum_by-cons (λ node. if is_register node then 1 else 0) (node_of_element keys (LatchOf pin out c init)) (map (node_of_element keys) es))

control_is_name : (es : List Element) (edge : Edge) (clock : List ℕ) → All IsElement es → clock_from (first_control es) ≡ Some (edge, clock) → is_name clock ≡ true
control_is_name [] edge clock all e = absurd (cc)
control_is_name (TableOf pins out cover ∷ es) edge clock all e = control_is_name es edge clock (All-tail IsElement (TableOf pins out cover) es all) e
control_is_name (LatchOf pin out control init ∷ es) edge clock all e = rw e at ((All-head IsElement (LatchOf pin out control init) es all).1)

has_latch : (es : List Element) (c : Edge × List ℕ) → clock_from (first_control es) ≡ Some c → first_control es ≡ Some (Some c)
has_latch es c e = go (first_control es) refl e
  where
    go : (o : Option (Option (Edge × List ℕ))) → first_control es ≡ o → clock_from o ≡ Some c → first_control es ≡ Some (Some c)
    go None f g = absurd (cc)
    go (Some control) f g = f ∙ ap Some g

pub clock_is : (d : PlainDraft) → IsDraft d → IsDrivenOnce d → HasCleanClock d → IsClockOf (net_of_draft d) (clock_of d)
clock_is d is once clean = go (clock_of d) refl
  where
    go : (o : Option (Edge × List ℕ)) → clock_of d ≡ o → IsClockOf (net_of_draft d) o
    go None e = tt
    go (Some (edge, clock)) e = (
      control_is_name d.elements edge clock is.elements e,
      (λ nil. false≢true (sym uses.0 ∙ eq_true clock (codes "NIL") nil)),
      (λ there. parts (Contains-append_cases (net_inputs d) (map out_of d.elements) clock (rw (names_of_draft d) at there))),
      some_register (draft_names d) d.elements (Some (edge, clock)) (has_latch d.elements (edge, clock) e),
    )
      where
        uses : (bytes_eq clock (codes "NIL") ≡ false) × (not (is_among d.inputs clock) ≡ false)
        uses =
            let a = or_parts _ (is_among d.outputs clock) (clean edge clock e) in
            let b = or_parts _ (is_among (draft_reads d) clock) a.0 in
            or_parts (bytes_eq clock (codes "NIL")) (not (is_among d.inputs clock)) b.0

        parts : Contains (net_inputs d) clock ⊎ Contains (map out_of d.elements) clock → ⊥
        parts (inl there) = not_input d edge clock e there
        parts (inr there) = not_output d clock once (not-false (is_among d.inputs clock) uses.1) there

-- ---- the whole

names_all : (d : PlainDraft) → IsDraft d → All (λ name. is_name name ≡ true) (draft_names d)
names_all d is = All-append (λ name. is_name name ≡ true) (net_inputs d) (map out_of d.elements)
    (All-filter (λ name. not (is_clock (clock_of d) name)) (λ name. is_name name ≡ true) d.inputs is.inputs)
    (All-map (λ name. is_name name ≡ true) out_of d.elements (All-weaker IsElement (λ e. is_name (out_of e) ≡ true) named d.elements is.elements))
  where
    named : (e : Element) → IsElement e → is_name (out_of e) ≡ true
    named (TableOf pins out cover) i = i.0
    named (LatchOf pin out control init) i = i.0

pub unordered : (d : PlainDraft) → IsDraft d → length d.inputs + length d.elements < 4294967295 → length (draft_reads d) < 4294967295 → AreDistinct d.outputs → IsDistinct bytes_eq (draft_names d) → IsDrivenOnce d → HasCleanClock d → IsDriven d → IsUnordered (net_of_draft d)
unordered d is few few_reads distinct apart once clean driven = record {
  model_is_name = is.model;
  few = few_nets;
  few_pins = rw (total_of_draft d) few_reads;
  few_outputs = few_outputs;
  names_are_names = λ x h. rw (names_of_draft d) (names_all d is x [] (rw (count_of_draft d) at h));
  names_differ = λ x y hx hy e. same x y (rw (count_of_draft d) at hx) (rw (count_of_draft d) at hy) (rw (names_of_draft d) at e) (cases_order x y);
  wired = λ x node e. wired node (element_of d x node e);
  outputs_in_range = outputs_below d nets_out;
  outputs_differ = outputs_apart d distinct nets_out;
  clock = clock_is d is once clean;
}
  where
    nets_in : HasNone (is_no_net (draft_names d)) (draft_reads d)
    nets_in = none_left (is_no_net (draft_names d)) (draft_reads d) d.outputs driven

    nets_out : HasNone (is_no_net (draft_names d)) d.outputs
    nets_out = none_right (λ name. not (is_among (draft_names d) name)) (draft_reads d) d.outputs driven

    few_nets : net_count (net_of_draft d) < 4294967295
    few_nets = omega (arith, length-filter (λ name. not (is_clock (clock_of d) name)) d.inputs, count_by-le-length (λ name. not (is_clock (clock_of d) name)) d.inputs, length-map d.elements (node_of_element (draft_names d)))

    few_outputs : length (map (number_in (draft_names d)) d.outputs) < 4294967295
    few_outputs =
        let most = few_apart (map (number_in (draft_names d)) d.outputs) (net_count (net_of_draft d)) (outputs_apart d distinct nets_out) (outputs_below d nets_out) in
        omega (arith, few_nets)

    same : (x y : ℕ) → x < length (draft_names d) → y < length (draft_names d) → get_or (draft_names d) x [] ≡ get_or (draft_names d) y [] → (x ≡ y) ⊎ ((x < y) ⊎ (y < x)) → x ≡ y
    same x y hx hy e (inl s) = s
    same x y hx hy e (inr (inl l)) = absurd (false≢true (sym (apart_from_distinct bytes_eq (draft_names d) x y [] apart l hy) ∙ eq_true _ _ e))
    same x y hx hy e (inr (inr l)) = absurd (false≢true (sym (apart_from_distinct bytes_eq (draft_names d) y x [] apart l hx) ∙ eq_true _ _ (sym e)))

    wired : (node : Node) → IsElementOf d node → IsWired (net_count (net_of_draft d)) node
    wired node of =
        let fits : IsElement of.element = subst IsElement (get_or_from_slice_get d.elements of.place of.element of.element of.at) (is.elements of.place of.element (slice_get_within d.elements of.place of.element of.at)) in
        rw of.is (wired_element d of.element fits (none_element (draft_names d) d.elements of.place of.element nets_in of.at))

pub names_few : (d : PlainDraft) → length d.inputs + length d.elements < 4294967295 → length (draft_names d) < 4294967295
names_few d few = omega (arith, length-append (net_inputs d) (map out_of d.elements), length-filter (λ name. not (is_clock (clock_of d) name)) d.inputs, count_by-le-length (λ name. not (is_clock (clock_of d) name)) d.inputs, length-map d.elements out_of)

pub clock_is_input : (d : PlainDraft) (edge : Edge) (clock : List ℕ) → HasCleanClock d → clock_of d ≡ Some (edge, clock) → is_among d.inputs clock ≡ true
clock_is_input d edge clock clean e =
    let a = or_parts _ (is_among d.outputs clock) (clean edge clock e) in
    let b = or_parts _ (is_among (draft_reads d) clock) a.0 in
    not-false (is_among d.inputs clock) ((or_parts (bytes_eq clock (codes "NIL")) (not (is_among d.inputs clock)) b.0).1)
