-- A design is no larger than its text.
use Rattle.std.proofs.Common.{◌≡◌, ℕ, zero, suc, ◌+◌, ◌*◌, ◌<◌, ◌≤◌, Bool, true, false, List, [], ◌∷◌, ◌++◌, length, map, get_or, filter, cond, not, refl, ap, subst, ◌∙◌, arith}
use Rattle.std.specs.List.{sum_by, flat_map}
use Rattle.std.proofs.lemmas.List.{length-append, length-map, get_or_append_left}
use Rattle.std.proofs.lemmas.List.Sums.{sum_by-cons}
use Rattle.std.proofs.lemmas.Grind.{common_steps}
use Rattle.std.proofs.lemmas.Nat.{mul-le}
use Rattle.tmr_base.specs.Names.{is_name}
use Rattle.table_cover.specs.Cover.{PlainCover}
use Rattle.blif_text.specs.Models.{PlainElement, Table, Register, Instance, PlainModel}
use Rattle.flat_net.specs.Net.{Net, net_count, pin_total, IsValid}
use Rattle.flat_net.specs.Draft.{PlainDraft, TableOf, LatchOf, out_of, reads_of}
use Rattle.flat_net.specs.Faults.{net_of_draft, node_of_element, net_inputs, draft_names, draft_reads, number_in, is_among, is_no_net, is_clock, clock_of, IsFaultless}
use Rattle.flat_net.proofs.Firsts.{none_at}
use Rattle.flat_net.proofs.Sound.{among_number, names_of_draft, count_of_draft, total_of_draft}
use Rattle.library_faults.specs.FlatText.{spaced, all_spaced, row_length, rows_length, element_length, text_length}
use Rattle.hierarchy.specs.Drafted.{drafted, draft_of, starts_with}
use Rattle.hierarchy.specs.Sizes.{row_places, row_total}

-- no name is empty
abbrev Named : List (List ℕ) → Type 0
Named names = (k : ℕ) → k < length names → 0 < length (get_or names k [])

named_tail : (name : List ℕ) (names : List (List ℕ)) → Named (name ∷ names) → Named names
named_tail name names all k h = all (suc k) (omega arith)

named_front : (xs ys : List (List ℕ)) → Named (xs ++ ys) → Named xs
named_front [] ys all k h = absurd (omega arith)
named_front (x ∷ xs) ys all zero h = all zero (omega (arith, length-append xs ys))
named_front (x ∷ xs) ys all (suc k) h = named_front xs ys (named_tail x (xs ++ ys) all) k (omega arith)

named_back : (xs ys : List (List ℕ)) → Named (xs ++ ys) → Named ys
named_back [] ys all = all
named_back (x ∷ xs) ys all = named_back xs ys (named_tail x (xs ++ ys) all)

-- each name has a blank and a byte at least
names_cost : (names : List (List ℕ)) → Named names → 2 * length names ≤ all_spaced names
names_cost [] all = omega arith
names_cost (name ∷ names) all = omega (arith, sum_by-cons spaced name names, all 0 (omega arith), names_cost names (named_tail name names all))

kept_cost : (keeps : List ℕ → Bool) (names : List (List ℕ)) → Named (filter keeps names) → 2 * length (filter keeps names) ≤ all_spaced names
kept_cost keeps [] all = omega arith
kept_cost keeps (name ∷ names) all = go (keeps name) (cond (keeps name) (name ∷ filter keeps names) (filter keeps names)) refl (kept_cost keeps names) all
  where
    go : (b : Bool) (kept : List (List ℕ)) → kept ≡ cond b (name ∷ filter keeps names) (filter keeps names) → (Named (filter keeps names) → 2 * length (filter keeps names) ≤ all_spaced names) → Named kept → 2 * length kept ≤ all_spaced (name ∷ names)
    go true kept is rest named =
        let all : Named (name ∷ filter keeps names) = subst Named is named in
        rw is (omega (arith, sum_by-cons spaced name names, all 0 (omega arith), rest (named_tail name (filter keeps names) all)))
    go false kept is rest named = rw is (omega (arith, sum_by-cons spaced name names, rest (subst Named is named)))

one_large : (e : PlainElement) → Named (flat_map reads_of (drafted e)) → 2 * (length (drafted e) + length (flat_map reads_of (drafted e))) ≤ element_length e
one_large (Table pins out cover) all = omega (arith, names_cost pins (named_front pins [] all), length-append pins [])
one_large (Register pin out control init) all = omega arith
one_large (Instance model bindings) all = omega arith

flat_map-append : {A B : Type 0} (f : A → List B) (xs ys : List A) → flat_map f (xs ++ ys) ≡ flat_map f xs ++ flat_map f ys
flat_map-append f xs ys = Rattle.std.proofs.lemmas.Grind.flat_map-append f xs ys

all_large : (es : List PlainElement) → Named (flat_map reads_of (flat_map drafted es)) → 2 * (length (flat_map drafted es) + length (flat_map reads_of (flat_map drafted es))) ≤ sum_by element_length es
all_large [] all = omega arith
all_large (e ∷ es) all =
    let split : flat_map reads_of (drafted e ++ flat_map drafted es) ≡ flat_map reads_of (drafted e) ++ flat_map reads_of (flat_map drafted es) = flat_map-append reads_of (drafted e) (flat_map drafted es) in
    let named : Named (flat_map reads_of (drafted e) ++ flat_map reads_of (flat_map drafted es)) = subst Named split all in
    omega (arith, sum_by-cons element_length e es, one_large e (named_front (flat_map reads_of (drafted e)) _ named), all_large es (named_back (flat_map reads_of (drafted e)) _ named), length-append (drafted e) (flat_map drafted es), ap length split, length-append (flat_map reads_of (drafted e)) (flat_map reads_of (flat_map drafted es)))

-- ---- the names of a design

name_some : (name : List ℕ) → is_name name ≡ true → 0 < length name
name_some [] is = absurd cc
name_some (b ∷ bytes) is = omega arith

module _ (d : PlainDraft) (valid : IsValid (net_of_draft d)) (fine : IsFaultless d) where
  names_some : Named (draft_names d)
  names_some k h =
      let count : net_count (net_of_draft d) ≡ length (draft_names d) = count_of_draft d in
      name_some (get_or (draft_names d) k []) (subst (λ names. is_name (get_or names k []) ≡ true) (names_of_draft d) (valid.unordered.names_are_names k (omega arith)))

  among_some : (name : List ℕ) → is_among (draft_names d) name ≡ true → 0 < length name
  among_some name is = let at = among_number (draft_names d) name is in subst (λ (x : List ℕ). 0 < length x) at.1 (names_some (number_in (draft_names d) name) at.0)

  reads_some : Named (draft_reads d)
  reads_some k h =
      let here : get_or (draft_reads d ++ d.outputs) k [] ≡ get_or (draft_reads d) k [] = get_or_append_left (draft_reads d) d.outputs [] k h in
      let driven : is_no_net (draft_names d) [] (get_or (draft_reads d ++ d.outputs) k []) ≡ false = none_at (is_no_net (draft_names d) []) (draft_reads d ++ d.outputs) k [] fine.driven (omega (arith, length-append (draft_reads d) d.outputs)) in
      among_some (get_or (draft_reads d) k []) (not_false (is_among (draft_names d) (get_or (draft_reads d) k [])) (subst (λ name. is_no_net (draft_names d) [] name ≡ false) here driven))
    where
      not_false : (b : Bool) → not b ≡ false → b ≡ true
      not_false true e = refl
      not_false false e = absurd cc

  inputs_some : Named (net_inputs d)
  inputs_some = named_front (net_inputs d) (map out_of d.elements) names_some

-- twice the nets and pins together
pub nets_within : (m : PlainModel) (n : Net) → n ≡ net_of_draft (draft_of m) → IsValid n → IsFaultless (draft_of m) → 2 * (net_count n + pin_total n) ≤ text_length m
unfolding text_length draft_of
nets_within m n is valid fine =
    rw is (omega (arith, count_of_draft (draft_of m), total_of_draft (draft_of m), counts, kept_cost (λ name. not (is_clock (clock_of (draft_of m)) name)) m.inputs (inputs_some (draft_of m) here fine), all_large m.elements (reads_some (draft_of m) here fine)))
  where
    here : IsValid (net_of_draft (draft_of m))
    here = subst IsValid is valid

    counts : length (draft_names (draft_of m)) ≡ length (net_inputs (draft_of m)) + length (draft_of m).elements
    counts = length-append (net_inputs (draft_of m)) (map out_of (draft_of m).elements) ∙ ap (λ k. length (net_inputs (draft_of m)) + k) (length-map (draft_of m).elements out_of)

-- ---- rows

rows_here : (cover : PlainCover) → length cover.rows * (cover.width + 1) ≤ rows_length cover
rows_here cover = mul-le (length cover.rows) (cover.width + 1) (length cover.rows) (row_length cover.width) (omega arith) (grind (arith, common_steps))

all_rows : (names : List (List ℕ)) (es : List PlainElement) → sum_by row_places (map (node_of_element names) (flat_map drafted es)) ≤ sum_by element_length es
all_rows names [] = omega arith
all_rows names (Table pins out cover ∷ es) = omega (arith, sum_by-cons element_length (Table pins out cover) es, sum_by-cons row_places (node_of_element names (TableOf pins out cover)) (map (node_of_element names) (flat_map drafted es)), rows_here cover, all_rows names es)
all_rows names (Register pin out control init ∷ es) = omega (arith, sum_by-cons element_length (Register pin out control init) es, sum_by-cons row_places (node_of_element names (LatchOf pin out control (starts_with init))) (map (node_of_element names) (flat_map drafted es)), all_rows names es)
all_rows names (Instance model bindings ∷ es) = omega (arith, sum_by-cons element_length (Instance model bindings) es, all_rows names es)

-- each row of each cover, and a place more
pub rows_within : (m : PlainModel) (n : Net) → n ≡ net_of_draft (draft_of m) → row_total n ≤ text_length m
unfolding text_length draft_of
rows_within m n is = rw is (omega (arith, all_rows (draft_names (draft_of m)) m.elements))

pub ruleset sizes = (nets_within, rows_within)
