-- The flat text of a design that was read within a limit keeps that limit.
use Rattle.std.proofs.Common.{◌≡◌, ℕ, zero, suc, ◌+◌, ◌<◌, ◌≤◌, Bool, true, false, not, cond, ◌&&◌, ◌||◌, List, [], ◌∷◌, ◌++◌, length, map, filter, get_or, Option, Some, None, refl, ap, ◌∙◌, arith}
use Rattle.std.specs.List.{sum_by, flat_map, list_any}
use Rattle.std.specs.Str.{bytes_eq}
use Rattle.std.proofs.lemmas.Bool.{and_parts}
use Rattle.std.proofs.lemmas.List.{length-append}
use Rattle.std.proofs.lemmas.List.Sums.{sum_by-cons}
use Rattle.tmr_base.specs.declared.ids.Edge.{Edge}
use Rattle.blif_text.specs.Models.{PlainElement, Table, Register, Instance, PlainModel}
use Rattle.flat_net.specs.Net.{Net, name_of}
use Rattle.flat_net.specs.First.{HasNone}
use Rattle.flat_net.specs.Draft.{PlainDraft, Element, TableOf, LatchOf, reads_of}
use Rattle.flat_net.specs.Faults.{net_of_draft, node_of_element, draft_names, draft_reads, number_in, first_control, clock_from, clock_of, is_among, is_no_net, is_clock, is_mixed, is_unlike, same_control, same_edge, IsFaultless}
use Rattle.flat_net.proofs.Firsts.{none_at}
use Rattle.flat_net.proofs.Names.{eq_from}
use Rattle.flat_net.proofs.Sound.{among_number, names_of_draft}
use Rattle.library_faults.specs.FlatText.{spaced, all_spaced, control_length, element_length, text_length}
use Rattle.hierarchy.specs.Drafted.{drafted, draft_of, starts_with}
use Rattle.hierarchy.specs.Flatten.{IsFlat}
use Rattle.blif_writer.specs.Text.{clock_words}
use Rattle.blif_writer.specs.Length.{nets_length, node_length, flat_length}

not_false : (b : Bool) → not b ≡ false → b ≡ true
not_false true e = refl
not_false false e = absurd cc

-- ---- inputs

kept_short : (p : List ℕ → Bool) (xs : List (List ℕ)) → all_spaced (filter p xs) ≤ all_spaced xs
kept_short p [] = omega arith
kept_short p (x ∷ xs) = go (p x) (kept_short p xs)
  where
    go : (b : Bool) → all_spaced (filter p xs) ≤ all_spaced xs → all_spaced (cond b (x ∷ filter p xs) (filter p xs)) ≤ all_spaced (x ∷ xs)
    go true ih = omega (arith, ih, sum_by-cons spaced x (filter p xs), sum_by-cons spaced x xs)
    go false ih = omega (arith, ih, sum_by-cons spaced x xs)

-- the inputs but the clock, and the clock
clock_apart : (clock : List ℕ) (xs : List (List ℕ)) → list_any (bytes_eq clock) xs ≡ true → all_spaced (filter (λ name. not (bytes_eq clock name)) xs) + spaced clock ≤ all_spaced xs
clock_apart clock [] e = absurd cc
clock_apart clock (x ∷ xs) e = go (bytes_eq clock x) refl e (clock_apart clock xs)
  where
    go : (b : Bool) → bytes_eq clock x ≡ b → (b || list_any (bytes_eq clock) xs) ≡ true → (list_any (bytes_eq clock) xs ≡ true → all_spaced (filter (λ name. not (bytes_eq clock name)) xs) + spaced clock ≤ all_spaced xs)
        → all_spaced (cond (not b) (x ∷ filter (λ name. not (bytes_eq clock name)) xs) (filter (λ name. not (bytes_eq clock name)) xs)) + spaced clock ≤ all_spaced (x ∷ xs)
    go true is e ih = omega (arith, ap spaced (eq_from clock x is), kept_short (λ name. not (bytes_eq clock name)) xs, sum_by-cons spaced x xs)
    go false is e ih = omega (arith, ih e, sum_by-cons spaced x (filter (λ name. not (bytes_eq clock name)) xs), sum_by-cons spaced x xs)

-- a clock that is not misused is an input
clock_is_input : (a b c d : Bool) → (a || not b || c || d) ≡ false → b ≡ true
clock_is_input true b c d e = absurd cc
clock_is_input false true c d e = refl
clock_is_input false false c d e = absurd cc

inputs_short : (d : PlainDraft) (fine : IsFaultless d) (c : Option (Edge × List ℕ)) → clock_of d ≡ c → all_spaced (filter (λ name. not (is_clock c name)) d.inputs) + all_spaced (clock_words c) ≤ all_spaced d.inputs
inputs_short d fine None e = omega (arith, kept_short (λ name. not (is_clock None name)) d.inputs)
inputs_short d fine (Some (edge, clock)) e =
    let input : is_among d.inputs clock ≡ true = clock_is_input _ (is_among d.inputs clock) _ _ (fine.clean_clock edge clock e) in
    omega (arith, clock_apart clock d.inputs input, sum_by-cons spaced clock [])

-- ---- controls

same_long : (a b : Option (Edge × List ℕ)) → not (same_control a b) ≡ false → control_length b ≡ control_length a
same_long None None e = refl
same_long None (Some b) e = absurd cc
same_long (Some a) None e = absurd cc
same_long (Some (edge, a)) (Some (other, b)) e =
    let (edges, names) = and_parts (same_edge edge other) (bytes_eq a b) (not_false (same_edge edge other && bytes_eq a b) e) in
    omega (arith, ap length (eq_from a b names))

-- all latches have a control of so many bytes
abbrev EachControl : ℕ → List Element → Type 0
EachControl m [] = Unit {0}
EachControl m (TableOf pins out cover ∷ es) = EachControl m es
EachControl m (LatchOf pin out control init ∷ es) = (control_length control ≡ m) × EachControl m es

like_first : (first : Option (Edge × List ℕ)) (es : List Element) → HasNone (λ before e. is_unlike first e) es → EachControl (control_length first) es
like_first first [] h = tt
like_first first (TableOf pins out cover ∷ es) h = like_first first es (record { none = λ before x after e. h.none (TableOf pins out cover ∷ before) x after (ap (λ (zs : List Element). TableOf pins out cover ∷ zs) e) })
like_first first (LatchOf pin out control init ∷ es) h = (
  same_long first control (h.none [] (LatchOf pin out control init) es refl),
  like_first first es (record { none = λ before x after e. h.none (LatchOf pin out control init ∷ before) x after (ap (λ (zs : List Element). LatchOf pin out control init ∷ zs) e) }),
)

one_control : (es : List Element) → HasNone is_mixed es → EachControl (control_length (clock_from (first_control es))) es
one_control [] h = tt
one_control (TableOf pins out cover ∷ es) h = one_control es (record { none = λ before x after e. h.none (TableOf pins out cover ∷ before) x after (ap (λ (zs : List Element). TableOf pins out cover ∷ zs) e) })
one_control (LatchOf pin out control init ∷ es) h = (
  refl,
  like_first control es (record { none = λ before x after e. h.none (LatchOf pin out control init ∷ before) x after (ap (λ (zs : List Element). LatchOf pin out control init ∷ zs) e) }),
)

-- ---- pins and outputs

-- these are names of nets
abbrev AreNets : List (List ℕ) → List (List ℕ) → Type 0
AreNets names xs = (k : ℕ) → k < length xs → is_among names (get_or xs k []) ≡ true

nets_front : (names xs ys : List (List ℕ)) → AreNets names (xs ++ ys) → AreNets names xs
nets_front names [] ys all k h = absurd (omega arith)
nets_front names (x ∷ xs) ys all zero h = all zero (omega (arith, length-append xs ys))
nets_front names (x ∷ xs) ys all (suc k) h = nets_front names xs ys (λ j l. all (suc j) (omega (arith, l))) k (omega arith)

nets_back : (names xs ys : List (List ℕ)) → AreNets names (xs ++ ys) → AreNets names ys
nets_back names [] ys all = all
nets_back names (x ∷ xs) ys all = nets_back names xs ys (λ j l. all (suc j) (omega (arith, l)))

module _ (d : PlainDraft) where
  name_again : (x : List ℕ) → is_among (draft_names d) x ≡ true → name_of (net_of_draft d) (number_in (draft_names d) x) ≡ x
  name_again x is = ap (λ (names : List (List ℕ)). get_or names (number_in (draft_names d) x) []) (names_of_draft d) ∙ (among_number (draft_names d) x is).1

  nets_again : (xs : List (List ℕ)) → AreNets (draft_names d) xs → nets_length (net_of_draft d) (map (number_in (draft_names d)) xs) ≡ all_spaced xs
  nets_again [] all = refl
  nets_again (x ∷ xs) all =
      omega (arith, sum_by-cons (λ y. spaced (name_of (net_of_draft d) y)) (number_in (draft_names d) x) (map (number_in (draft_names d)) xs), sum_by-cons spaced x xs, ap length (name_again x (all 0 (omega arith))), nets_again xs (λ j l. all (suc j) (omega (arith, l))))

  -- the lines of the nodes
  nodes_short : (es : List PlainElement) → AreNets (draft_names d) (flat_map reads_of (flat_map drafted es)) → EachControl (control_length (clock_of d)) (flat_map drafted es)
      → sum_by (node_length (net_of_draft d)) (map (node_of_element (draft_names d)) (flat_map drafted es)) ≤ sum_by element_length es
  nodes_short [] nets controls = omega arith
  nodes_short (Table pins out cover ∷ es) nets controls =
      let rest : List (List ℕ) = flat_map reads_of (flat_map drafted es) in
      omega (arith, sum_by-cons element_length (Table pins out cover) es, sum_by-cons (node_length (net_of_draft d)) (node_of_element (draft_names d) (TableOf pins out cover)) (map (node_of_element (draft_names d)) (flat_map drafted es)), nets_again pins (nets_front (draft_names d) pins rest nets), nodes_short es (nets_back (draft_names d) pins rest nets) controls)
  nodes_short (Register pin out control init ∷ es) nets controls =
      let rest : List (List ℕ) = flat_map reads_of (flat_map drafted es) in
      let name = name_again pin (nets 0 (omega arith)) in
      omega (arith, sum_by-cons element_length (Register pin out control init) es, sum_by-cons (node_length (net_of_draft d)) (node_of_element (draft_names d) (LatchOf pin out control (starts_with init))) (map (node_of_element (draft_names d)) (flat_map drafted es)), ap length name, controls.0, nodes_short es (nets_back (draft_names d) (pin ∷ []) rest nets) controls.1)
  nodes_short (Instance model bindings ∷ es) nets controls = omega (arith, sum_by-cons element_length (Instance model bindings) es, nodes_short es nets controls)

  all_nets : IsFaultless d → AreNets (draft_names d) (draft_reads d ++ d.outputs)
  all_nets fine k h = not_false (is_among (draft_names d) (get_or (draft_reads d ++ d.outputs) k [])) (none_at (is_no_net (draft_names d) []) (draft_reads d ++ d.outputs) k [] fine.driven h)

-- the flat text of a model's design is no longer than that of the model
model_short : (m : PlainModel) → IsFaultless (draft_of m) → flat_length (net_of_draft (draft_of m)) ≤ text_length m
unfolding text_length draft_of flat_length
model_short m fine =
    let d : PlainDraft = draft_of m in
    let nets = all_nets d fine in
    omega (arith, inputs_short d fine (clock_of d) refl, nets_again d m.outputs (nets_back (draft_names d) (draft_reads d) m.outputs nets), nodes_short d m.elements (nets_front (draft_names d) (draft_reads d) m.outputs nets) (one_control d.elements fine.one_clock))

-- a design that is read within a limit has a flat text within it
pub limit_kept : (library : List PlainModel) (limit count : ℕ) (n : Net) → IsFlat library limit n count → flat_length n ≤ limit
limit_kept library limit count n is = omega (arith, ap flat_length is.design_is, model_short _ is.faultless, is.fits)
