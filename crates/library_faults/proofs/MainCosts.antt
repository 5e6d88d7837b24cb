-- The length of the flat text of a library whose statements have no fault.
use Rattle.std.proofs.Common.{◌≡◌, ◌≢◌, ℕ, zero, suc, ◌+◌, ◌<◌, ◌≤◌, Bool, true, false, ◌||◌, List, [], ◌∷◌, ◌++◌, length, map, min, get_or, refl, sym, ap, subst, ◌∙◌, arith, eqb, Option, Some, None}
use Rattle.std.specs.Prelude.{All, Any, Contains, slice_get, option_and_then}
use Rattle.std.specs.Option.{option_map_or}
use Rattle.std.specs.List.{sum_by, list_any}
use Rattle.std.specs.Str.{bytes_eq}
use Rattle.std.proofs.lemmas.List.{length-map, get_or_default}
use Rattle.std.proofs.lemmas.List.Sums.{sum_by-cons, sum_by-append, sum_by-le-sum_by}
use Rattle.std.proofs.lemmas.Map.Steps.{length-le_from_distinct_below}
use Rattle.std.proofs.lemmas.Map.Keys.{IsDistinct-from_apart}
use Rattle.std.proofs.lemmas.List.Folds.{Any-from_list_any}
use Rattle.std.proofs.lemmas.Bool.{ne_eqb, eqb-true}
use Rattle.std.proofs.lemmas.Option.{slice_get-get_or, get_or_from_slice_get, slice_get_within}
use Rattle.blif_text.specs.Models.{PlainElement, Table, Register, Instance, PlainModel}
use Rattle.library_faults.specs.declared.lengths.count.Count.{Count}
use Rattle.library_faults.specs.Graph.{graph, names_of, number_named, model_named, placed_of, row, Places, Reached, main, placed}
use Rattle.library_faults.specs.Library.{IsPlaceable}
use Rattle.library_faults.specs.Found.{IsOrder}
use Rattle.library_faults.specs.Faults.{element_fault}
use Rattle.library_faults.specs.Ports.{ports_of}
use Rattle.library_faults.specs.Flat.{Level, no_model, main_of, main_level, path_of, step, actual_of, named as named_net, elements_with, elements_to, flat_elements, flat_model}
use Rattle.library_faults.specs.FlatText.{capped, element_length, header_length, text_length}
use Rattle.library_faults.specs.Private.Models.{model_at}
use Rattle.library_faults.specs.Private.Counts.{Use, Formal, Own, use_of, placed_use, control_names, uses_with, fixed_with, is_formal, uses_to, fixed_to, uses_in, fixed_in, least, own_length, IsCount, IsOutcome, AreCounted, ArePlaces}
use Rattle.library_faults.specs.Private.Entries.{entry_at}
use Rattle.library_faults.proofs.Models.{first_model}
use Rattle.library_faults.proofs.SoundStatements.{IsSoundPlacing, placing_sound}
use Rattle.library_faults.proofs.AllCounts.{placed_there, row_at, statements_sound}
use Rattle.library_faults.proofs.FlatCosts.{Binds, Costs, use_length, with_length}

-- ---- nothing places the main model

module _ (rows : List (List ℕ)) (order : List ℕ) (ordered : IsOrder rows order) (last : ℕ) (below : last < length order) (is_main : get_or order last 0 ≡ 0) where
  earlier : (x y j : ℕ) → j ≤ last → get_or order j 0 ≡ x → Places rows x y → (i : ℕ) × (i < j) × (get_or order i 0 ≡ y)
  earlier x y j low at (t, within, is) = go (ordered.after j t (omega arith) (subst (λ v. t < length (row rows v)) (sym at) within))
    where
      go : (i : ℕ) × (i < j) × (get_or order i 0 ≡ get_or (row rows (get_or order j 0)) t 0) → (i : ℕ) × (i < j) × (get_or order i 0 ≡ y)
      go (i, lower, same) = (i, lower, same ∙ (ap (λ v. get_or (row rows v) t 0) at ∙ (get_or_default (row rows x) t 0 y within ∙ is)))

  before_main : (x : ℕ) → Reached rows x → (j : ℕ) × (j ≤ last) × (get_or order j 0 ≡ x)
  before_main _ main = (last, omega arith, is_main)
  before_main _ (placed x y reached places) = go (before_main x reached)
    where
      go : (j : ℕ) × (j ≤ last) × (get_or order j 0 ≡ x) → (j : ℕ) × (j ≤ last) × (get_or order j 0 ≡ y)
      go (j, low, at) = after (earlier x y j low at places)
        where
          after : (i : ℕ) × (i < j) × (get_or order i 0 ≡ y) → (j : ℕ) × (j ≤ last) × (get_or order j 0 ≡ y)
          after (i, lower, same) = (i, omega arith, same)

  pub not_main : (x y : ℕ) → Reached rows x → Places rows x y → y ≢ 0
  not_main x y reached places zero_is = go (before_main x reached)
    where
      go : (j : ℕ) × (j ≤ last) × (get_or order j 0 ≡ x) → ⊥
      go (j, low, at) = after (earlier x y j low at places)
        where
          after : (i : ℕ) × (i < j) × (get_or order i 0 ≡ y) → ⊥
          after (i, lower, same) = ordered.once i last (omega arith) below (same ∙ (zero_is ∙ sym is_main))

-- ---- the flat elements of a reached model

module _ (library : List PlainModel) (order : List ℕ) (sound : IsPlaceable library) (ordered : IsOrder (graph library) order) (last : ℕ) (at_last : last < length order) (is_main : get_or order last 0 ≡ 0) where
  Lengths : ℕ → Type 0
  Lengths depth = (levels : List Level) (model : List ℕ) (y : ℕ) → number_named (names_of library) model ≡ Some y → y < length library → Reached (graph library) y → Binds levels (is_formal library y) → sum_by element_length (map named_net (elements_to library depth levels model)) ≡ fixed_to library depth model + sum_by (use_length levels) (uses_to library depth model)

  formals_alone : (y : ℕ) (m : PlainModel) (bindings : List (List ℕ × List ℕ)) → y ≢ 0 → m ≡ model_at library y → ((name : List ℕ) → (list_any (bytes_eq name) m.inputs || list_any (bytes_eq name) m.outputs) ≡ false → actual_of bindings name ≡ None) → (name : List ℕ) → is_formal library y name ≡ false → actual_of bindings name ≡ None
  formals_alone zero m bindings some is alone name no_formal = absurd (some refl)
  formals_alone (suc y) m bindings some is alone name no_formal = alone name (subst (λ m. (list_any (bytes_eq name) m.inputs || list_any (bytes_eq name) m.outputs) ≡ false) (sym is) no_formal)

  all_costs : (depth x : ℕ) → Lengths depth → x < length library → Reached (graph library) x → (levels : List Level) → All (λ e. (n : ℕ) → Costs (elements_to library depth) (fixed_to library depth) (uses_to library depth) levels n e) (model_at library x).elements
  unfolding Lengths Costs Binds
  all_costs depth x lengths below reached levels k d within = by (get_or (model_at library x).elements k d) refl
    where
      placing : (model : List ℕ) (bindings : List (List ℕ × List ℕ)) → get_or (model_at library x).elements k d ≡ Instance model bindings → IsSoundPlacing library model bindings → (n : ℕ) → Costs (elements_to library depth) (fixed_to library depth) (uses_to library depth) levels n (Instance model bindings)
      placing model bindings is s n = lengths (record { path = path_of levels ++ n ∷ []; bindings = bindings } ∷ levels) model s.number s.named there (placed x s.number reached places) (formals_alone s.number s.placed bindings (not_main (graph library) order ordered last at_last is_main x s.number reached places) (sym (get_or_from_slice_get library s.number s.placed no_model s.there)) s.alone)
        where
          there : s.number < length library
          there = slice_get_within library s.number s.placed s.there

          places : Places (graph library) x s.number
          places = subst (λ r. Contains r s.number) (sym (row_at library x below)) (placed_there (names_of library) (model_at library x).elements k d model bindings s.number within is s.named)

      by : (e : PlainElement) → get_or (model_at library x).elements k d ≡ e → (n : ℕ) → Costs (elements_to library depth) (fixed_to library depth) (uses_to library depth) levels n e
      by (Table pins out cover) is n = tt
      by (Register pin out control init) is n = tt
      by (Instance model bindings) is n = placing model bindings is (placing_sound library model bindings (subst (λ e. element_fault (names_of library) (map ports_of library) e ≡ None) is (statements_sound library x sound below reached k d within))) n

  in_length : (depth x : ℕ) → Lengths depth → x < length library → Reached (graph library) x → (levels : List Level) → Binds levels (is_formal library x) → sum_by element_length (map named_net (elements_with (elements_to library depth) levels 0 (model_at library x).elements)) ≡ fixed_in library depth x + sum_by (use_length levels) (uses_in library depth x)
  in_length depth x lengths below reached levels binds = with_length (elements_to library depth) (fixed_to library depth) (uses_to library depth) levels (is_formal library x) binds 0 (model_at library x).elements (all_costs depth x lengths below reached levels)

  to_length : (depth : ℕ) → Lengths depth
  unfolding Lengths elements_to fixed_to uses_to
  to_length zero levels model y named below reached binds = refl
  to_length (suc depth) levels model y named below reached binds =
      ap (λ o. sum_by element_length (map named_net (option_map_or (λ m. elements_with (elements_to library depth) levels 0 m.elements) o []))) found
      ∙ (in_length depth y (to_length depth) below reached levels binds
      ∙ sym (ap (λ o. option_map_or (λ x. fixed_with (fixed_to library depth) (model_at library x).elements) o 0 + sum_by (use_length levels) (option_map_or (λ x. uses_with (is_formal library x) (uses_to library depth) 0 (model_at library x).elements) o [])) named))
    where
      found : model_named library model ≡ Some (model_at library y)
      found = ap (option_and_then (slice_get library)) named ∙ slice_get-get_or library y no_model below

-- ---- the main model

-- all nets of the main model are its own
abbrev no_formal : List ℕ → Bool
no_formal name = false

own_names : (names : List (List ℕ)) → sum_by (use_length (main_level ∷ [])) (map (use_of no_formal) names) ≡ sum_by own_length (map (use_of no_formal) names)
unfolding use_length
own_names [] = refl
own_names (name ∷ names) = omega (arith, sum_by-cons (use_length (main_level ∷ [])) (Own name) (map (use_of no_formal) names), sum_by-cons own_length (Own name) (map (use_of no_formal) names), own_names names)

own_placed : (number : ℕ) (bindings : List (List ℕ × List ℕ)) (us : List Use) → sum_by (use_length (main_level ∷ [])) (map (placed_use no_formal number bindings) us) ≡ sum_by own_length (map (placed_use no_formal number bindings) us)
unfolding use_length
own_placed number bindings [] = refl
own_placed number bindings (u ∷ us) = omega (arith, sum_by-cons (use_length (main_level ∷ [])) (placed_use no_formal number bindings u) (map (placed_use no_formal number bindings) us), sum_by-cons own_length (placed_use no_formal number bindings u) (map (placed_use no_formal number bindings) us), one u, own_placed number bindings us)
  where
    one : (u : Use) → use_length (main_level ∷ []) (placed_use no_formal number bindings u) ≡ own_length (placed_use no_formal number bindings u)
    one (Own text) = omega arith
    one (Formal name) = go (actual_of bindings name)
      where
        go : (o : Option (List ℕ)) → use_length (main_level ∷ []) (option_map_or (use_of no_formal) o (Own (step number ++ name))) ≡ own_length (option_map_or (use_of no_formal) o (Own (step number ++ name)))
        go None = omega arith
        go (Some actual) = omega arith

own_with : (uses : List ℕ → List Use) (number : ℕ) (elements : List PlainElement) → sum_by (use_length (main_level ∷ [])) (uses_with no_formal uses number elements) ≡ sum_by own_length (uses_with no_formal uses number elements)
unfolding uses_with
own_with uses number [] = refl
own_with uses number (Table pins out cover ∷ elements) = omega (arith, sum_by-append (use_length (main_level ∷ [])) (map (use_of no_formal) (pins ++ out ∷ [])) (uses_with no_formal uses number elements), sum_by-append own_length (map (use_of no_formal) (pins ++ out ∷ [])) (uses_with no_formal uses number elements), own_names (pins ++ out ∷ []), own_with uses number elements)
own_with uses number (Register pin out control init ∷ elements) = omega (arith, sum_by-append (use_length (main_level ∷ [])) (map (use_of no_formal) (pin ∷ out ∷ control_names control)) (uses_with no_formal uses number elements), sum_by-append own_length (map (use_of no_formal) (pin ∷ out ∷ control_names control)) (uses_with no_formal uses number elements), own_names (pin ∷ out ∷ control_names control), own_with uses number elements)
own_with uses number (Instance model bindings ∷ elements) = omega (arith, sum_by-append (use_length (main_level ∷ [])) (map (placed_use no_formal number bindings) (uses model)) (uses_with no_formal uses (number + 1) elements), sum_by-append own_length (map (placed_use no_formal number bindings) (uses model)) (uses_with no_formal uses (number + 1) elements), own_placed number bindings (uses model), own_with uses (number + 1) elements)

least_below : (levels : List Level) (u : Use) → least u ≤ use_length levels u
unfolding use_length
least_below levels (Formal name) = omega arith
least_below levels (Own text) = omega arith

module _ (library : List PlainModel) (order : List ℕ) (sound : IsPlaceable library) (ordered : IsOrder (graph library) order) (some : 0 < length library) where
  pub few_placed : length order ≤ length library
  few_placed = length-le_from_distinct_below order (length library) (IsDistinct-from_apart eqb order (λ j k b jk h. ne_eqb _ _ (λ e. ordered.once j k jk h (get_or_default order j 0 b (omega arith) ∙ (e ∙ get_or_default order k b 0 h))))) (λ q t. go q (Any-from_list_any (eqb q) order t))
    where
      go : (q : ℕ) → Any (λ x. eqb q x ≡ true) order → q < length library
      go q (k, v, l, at, h) =
          let w : get_or order k 0 < length (graph library) = ordered.within k l in
          let same : get_or order k 0 ≡ v = get_or_default order k 0 v l ∙ at in
          omega (arith, w, same, eqb-true q v h, length-map library (placed_of (names_of library)))

  -- the place of the main model
  pub main_place : (k : ℕ) × (k < length order) × (get_or order k 0 ≡ 0)
  main_place = ordered.complete 0 main

  main_length : (k : ℕ) → k < length order → get_or order k 0 ≡ 0 → sum_by element_length (map named_net (flat_elements library)) ≡ fixed_in library (length library) 0 + sum_by (use_length (main_level ∷ [])) (uses_in library (length library) 0)
  unfolding flat_elements Binds actual_of
  main_length k below at = ap (λ m. sum_by element_length (map named_net (elements_with (elements_to library (length library)) (main_level ∷ []) 0 m.elements))) (sym (first_model library)) ∙ in_length library order sound ordered k below at (length library) 0 (to_length library order sound ordered k below at (length library)) some main (main_level ∷ []) (λ name no_formal. binds name)
    where
      binds : (name : List ℕ) → actual_of [] name ≡ None
      binds name = refl

  module _ (limit : ℕ) (counts : List (Option Count)) (counted : AreCounted library limit order counts) (all : length counts ≡ length order) (k : ℕ) (below : k < length order) (at : get_or order k 0 ≡ 0) where
    outcome : IsOutcome limit (get_or counts k None) (fixed_in library (length library) 0) (uses_in library (length library) 0)
    outcome = subst (λ v. IsOutcome limit (get_or counts k None) (fixed_in library (length library) v) (uses_in library (length library) v)) at (counted k (length library) (omega arith) (omega (arith, few_placed)))

    own_main : sum_by (use_length (main_level ∷ [])) (uses_in library (length library) 0) ≡ sum_by own_length (uses_in library (length library) 0)
    own_main = own_with (uses_to library (length library)) 0 (model_at library 0).elements

    pub text_counted : (count : Count) (header : ℕ) → get_or counts k None ≡ Some count → header ≡ capped (header_length (main_of library)) → min (header + count.bytes) 18446744073709551615 ≡ capped (text_length (flat_model library))
    unfolding text_length flat_model
    text_counted count header is head =
        let exact : IsCount count (fixed_in library (length library) 0) (uses_in library (length library) 0) = subst (λ o. IsOutcome limit o (fixed_in library (length library) 0) (uses_in library (length library) 0)) is outcome in
        omega (arith, head, exact.bytes, main_length k below at, own_main)

    pub text_large : get_or counts k None ≡ None → limit < text_length (flat_model library)
    unfolding text_length flat_model
    text_large is =
        let large : limit < fixed_in library (length library) 0 + sum_by least (uses_in library (length library) 0) = subst (λ o. IsOutcome limit o (fixed_in library (length library) 0) (uses_in library (length library) 0)) is outcome in
        omega (arith, large, main_length k below at, sum_by-le-sum_by least (use_length (main_level ∷ [])) (uses_in library (length library) 0) (least_below (main_level ∷ [])))

  module _ (limit : ℕ) (positions : List ℕ) (counts : List (Option Count)) (counted : AreCounted library limit order counts) (all : length counts ≡ length order) (places : ArePlaces order positions) where
    found : (k : ℕ) → k < length order → get_or order k 0 ≡ 0 → entry_at positions counts 0 ≡ get_or counts k None
    found k below at = ap (option_and_then (λ p. get_or counts p None)) (subst (λ x. slice_get positions x ≡ Some k) at (places k below))

    pub main_counted : (count : Count) (header : ℕ) → entry_at positions counts 0 ≡ Some count → header ≡ capped (header_length (main_of library)) → min (header + count.bytes) 18446744073709551615 ≡ capped (text_length (flat_model library))
    main_counted count header is head = go main_place
      where
        go : (k : ℕ) × (k < length order) × (get_or order k 0 ≡ 0) → min (header + count.bytes) 18446744073709551615 ≡ capped (text_length (flat_model library))
        go (k, below, at) = text_counted limit counts counted all k below at count header (sym (found k below at) ∙ is) head

    pub main_large : entry_at positions counts 0 ≡ None → limit < text_length (flat_model library)
    main_large is = go main_place
      where
        go : (k : ℕ) × (k < length order) × (get_or order k 0 ≡ 0) → limit < text_length (flat_model library)
        go (k, below, at) = text_large limit counts counted all k below at (sym (found k below at) ∙ is)
