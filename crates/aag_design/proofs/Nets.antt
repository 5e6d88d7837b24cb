-- The nets of a graph's design, by number.
use Rattle.std.proofs.Common.{◌≡◌, ℕ, zero, suc, ◌+◌, ◌-◌, ◌<◌, true, List, [], ◌∷◌, ◌++◌, length, map, get_or, slice_get, Option, Some, None, refl, sym, ap, ◌∙◌, subst, arith, length-append}
use Rattle.std.specs.Prelude.{filter, not}
use Rattle.std.specs.Str.{bytes_eq}
use Rattle.std.specs.List.{list_any}
use Rattle.std.proofs.lemmas.List.{length-map}
use Rattle.std.proofs.lemmas.List.Folds.{list_any-from_Any}
use Rattle.std.proofs.lemmas.Option.{slice_get_within, get_or_from_slice_get}
use Rattle.flat_net.specs.Net.{node_of, net_count}
use Rattle.flat_net.specs.Draft.{Element, TableOf, LatchOf, out_of}
use Rattle.flat_net.specs.Faults.{is_among, number_in, node_of_element, net_inputs, draft_names, clock_of, clock_from, first_control, is_clock, net_of_draft}
use Rattle.flat_net.proofs.Names.{eq_true}
use Rattle.flat_net.proofs.Slots.{slot_at, slot_below}
use Rattle.flat_net.proofs.Sound.{among_number}
use Rattle.aag_text.specs.declared.aig.Literal.{Literal}
use Rattle.aag_text.specs.declared.aig.Latch.{Latch}
use Rattle.aag_text.specs.declared.aig.Gate.{Gate}
use Rattle.aag_text.specs.Aig.{PlainAig, positive}
use Rattle.aag_design.specs.Draft.{map_from, each_node, numbered, zero_element, latch_element, gate_element, literal_element, aig_elements}
use Rattle.aag_design.specs.Private.Drafting.{plain_draft}
use Rattle.aag_design.specs.Same.{net_literals}
use Rattle.aag_design.proofs.Places.{some_is, get_left, get_right, map_from_first, map_get, length-map_from, node_total, IsPlace, AtZero, AtLatch, AtGate, AtNext, AtOutput, place_of, entry, each_get, each_length}

-- ---- the clock

abbrev HasNoControl : Element → Type 0
HasNoControl (TableOf pins out cover) = Unit {0}
HasNoControl (LatchOf pin out control init) = control ≡ None

controls_none : (es : List Element) → ((i : ℕ) (e : Element) → slice_get es i ≡ Some e → HasNoControl e) → clock_from (first_control es) ≡ None
controls_none [] f = refl
controls_none (TableOf pins out cover ∷ es) f = controls_none es (λ i e h. f (suc i) e h)
controls_none (LatchOf pin out control init ∷ es) f = f 0 (LatchOf pin out control init) refl

filter_all : (xs : List (List ℕ)) → filter (λ name. true) xs ≡ xs
filter_all [] = refl
filter_all (x ∷ xs) = ap (λ (ys : List (List ℕ)). x ∷ ys) (filter_all xs)

module _ (a : PlainAig) where
  -- the element of node i
  abbrev pub element : (i : ℕ) → IsPlace a i → Element
  element i p = entry a zero_element latch_element (gate_element a) (literal_element a 100) (literal_element a 111) i p

  pub element_get : (i : ℕ) (p : IsPlace a i) → slice_get (aig_elements a) i ≡ Some (element i p)
  element_get i p = each_get a zero_element latch_element (gate_element a) (literal_element a 100) (literal_element a 111) i p

  pub elements_long : length (aig_elements a) ≡ node_total a
  elements_long = each_length a zero_element latch_element (gate_element a) (literal_element a 100) (literal_element a 111)

  no_control : (i : ℕ) (p : IsPlace a i) → HasNoControl (element i p)
  no_control i (AtZero e) = tt
  no_control i (AtLatch j l e at) = refl
  no_control i (AtGate k g e at) = tt
  no_control i (AtNext j l e at) = tt
  no_control i (AtOutput k m e at) = tt

  pub no_clock : clock_of (plain_draft a) ≡ None
  no_clock = controls_none (aig_elements a) (λ i e h. here i e h)
    where
      here : (i : ℕ) (e : Element) → slice_get (aig_elements a) i ≡ Some e → HasNoControl e
      here i e h =
          let within = slice_get_within (aig_elements a) i e h in
          let p : IsPlace a i = place_of a i (omega (arith, within, elements_long)) in
          subst HasNoControl (some_is (element i p) e (sym (element_get i p) ∙ h)) (no_control i p)

  -- ---- the names

  abbrev pub input_names : List (List ℕ)
  input_names = map_from (λ i v. numbered 105 i) 0 a.inputs

  inputs_long : length input_names ≡ length a.inputs
  inputs_long = length-map_from (λ i v. numbered 105 i) 0 a.inputs

  pub inputs_are : net_inputs (plain_draft a) ≡ input_names
  inputs_are = ap (λ (o : Option _). filter (λ name. not (is_clock o name)) input_names) no_clock ∙ filter_all input_names

  pub input_count : length (net_inputs (plain_draft a)) ≡ length a.inputs
  input_count = ap length inputs_are ∙ inputs_long

  pub names_are : draft_names (plain_draft a) ≡ input_names ++ map out_of (aig_elements a)
  names_are = ap (λ (xs : List (List ℕ)). xs ++ map out_of (aig_elements a)) inputs_are

  pub names_long : length (draft_names (plain_draft a)) ≡ length a.inputs + node_total a
  names_long = ap length names_are ∙ (length-append input_names (map out_of (aig_elements a)) ∙ omega (arith, inputs_long, elements_long, length-map (aig_elements a) out_of))

  pub input_name : (i v : ℕ) → slice_get a.inputs i ≡ Some v → slice_get (draft_names (plain_draft a)) i ≡ Some (numbered 105 i)
  input_name i v e = ap (λ (xs : List (List ℕ)). slice_get xs i) names_are ∙ get_left input_names (map out_of (aig_elements a)) i (numbered 105 i) (map_from_first (λ i v. numbered 105 i) a.inputs i v e)

  pub node_name : (i x : ℕ) (p : IsPlace a i) → x ≡ length a.inputs + i → slice_get (draft_names (plain_draft a)) x ≡ Some (out_of (element i p))
  node_name i x p e =
      ap (λ (xs : List (List ℕ)). slice_get xs x) names_are
      ∙ (get_right input_names (map out_of (aig_elements a)) i x (omega (arith, e, inputs_long))
      ∙ map_get out_of (aig_elements a) i (element i p) (element_get i p))

  -- ---- the nodes

  pub node_at : (i x : ℕ) (p : IsPlace a i) → x ≡ length a.inputs + i → node_of (net_of_draft (plain_draft a)) x ≡ Some (node_of_element (draft_names (plain_draft a)) (element i p))
  node_at i x p e =
      let place : x - length (net_inputs (plain_draft a)) ≡ i = omega (arith, e, input_count) in
      slot_at (length (net_inputs (plain_draft a))) (map (node_of_element (draft_names (plain_draft a))) (aig_elements a)) x (omega (arith, e, input_count))
      ∙ (ap (slice_get (map (node_of_element (draft_names (plain_draft a))) (aig_elements a))) place
      ∙ map_get (node_of_element (draft_names (plain_draft a))) (aig_elements a) i (element i p) (element_get i p))

  pub input_at : (x : ℕ) → x < length a.inputs → node_of (net_of_draft (plain_draft a)) x ≡ None
  input_at x l = slot_below (length (net_inputs (plain_draft a))) (map (node_of_element (draft_names (plain_draft a))) (aig_elements a)) x (omega (arith, l, input_count))

  pub count_is : net_count (net_of_draft (plain_draft a)) ≡ length a.inputs + node_total a
  count_is = omega (arith, input_count, elements_long, length-map (aig_elements a) (node_of_element (draft_names (plain_draft a))))

  -- ---- the literals

  abbrev pub node_literal : (i : ℕ) → IsPlace a i → Literal
  node_literal i p = entry a (positive 0) (λ j (l : Latch). positive l.variable) (λ (g : Gate). positive g.variable) (λ j l. l) (λ k l. l) i p

  positives_long : length (map positive a.inputs) ≡ length a.inputs
  positives_long = length-map a.inputs positive

  pub literals_long : length (net_literals a) ≡ length a.inputs + node_total a
  literals_long =
      length-append (map positive a.inputs) (each_node a (positive 0) (λ j (l : Latch). positive l.variable) (λ (g : Gate). positive g.variable) (λ j l. l) (λ k l. l))
      ∙ omega (arith, positives_long, each_length a (positive 0) (λ j (l : Latch). positive l.variable) (λ (g : Gate). positive g.variable) (λ j l. l) (λ k l. l))

  pub input_literal : (i v : ℕ) → slice_get a.inputs i ≡ Some v → slice_get (net_literals a) i ≡ Some (positive v)
  input_literal i v e = get_left (map positive a.inputs) _ i (positive v) (map_get positive a.inputs i v e)

  pub literal_get : (i x : ℕ) (p : IsPlace a i) → x ≡ length a.inputs + i → slice_get (net_literals a) x ≡ Some (node_literal i p)
  literal_get i x p e =
      get_right (map positive a.inputs) (each_node a (positive 0) (λ j (l : Latch). positive l.variable) (λ (g : Gate). positive g.variable) (λ j l. l) (λ k l. l)) i x (omega (arith, e, positives_long))
      ∙ each_get a (positive 0) (λ j (l : Latch). positive l.variable) (λ (g : Gate). positive g.variable) (λ j l. l) (λ k l. l) i p

-- ---- numbers of names

-- no name stands twice
pub record AreApart (names : List (List ℕ)) : Type 0 where
  pub same : (x y : ℕ) → x < length names → y < length names → get_or names x [] ≡ get_or names y [] → x ≡ y

pub is_there : (names : List (List ℕ)) (x : ℕ) (name : List ℕ) → slice_get names x ≡ Some name → is_among names name ≡ true
is_there names x name e = list_any-from_Any (bytes_eq name) names (x, name, slice_get_within names x name e, get_or_from_slice_get names x name name e, eq_true name name refl)

pub number_is : (names : List (List ℕ)) (x : ℕ) (name : List ℕ) → AreApart names → slice_get names x ≡ Some name → number_in names name ≡ x
number_is names x name apart e =
    let n = among_number names name (is_there names x name e) in
    apart.same (number_in names name) x n.0 (slice_get_within names x name e) (n.1 ∙ sym (get_or_from_slice_get names x name [] e))
