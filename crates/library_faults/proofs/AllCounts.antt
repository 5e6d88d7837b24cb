-- The counts of models, each made of those of the models that it places.
use Rattle.std.proofs.Common.{◌≡◌, ℕ, zero, suc, ◌<◌, ◌≤◌, ◌⊎◌, List, [], ◌∷◌, ◌++◌, length, map, get_or, refl, sym, ap, subst, inl, inr, ◌∙◌, arith, Option, Some, None}
use Rattle.std.specs.Prelude.{All, Contains, slice_get, option_and_then, option_to_list}
use Rattle.std.specs.Option.{option_map_or}
use mathlib.Core.Path.{fun_ext}
use Rattle.std.proofs.lemmas.Bool.{cases_lt}
use Rattle.std.proofs.lemmas.List.{get_or_default, get_or_push, get_or_append_left, get_or_past, length_push, length-map}
use Rattle.std.proofs.lemmas.List.Elements.{Contains-append_left, Contains-append_right}
use Rattle.std.proofs.lemmas.Option.{slice_get-get_or}
use Rattle.blif_text.specs.Kind.{is_among}
use Rattle.blif_text.specs.Models.{PlainElement, Table, Register, Instance, PlainModel}
use Rattle.blif_text.specs.declared.library.BlifModel.{BlifModel}
use Rattle.blif_text.specs.Views.{plain_model}
use Rattle.library_faults.specs.declared.lengths.count.Count.{Count}
use Rattle.library_faults.specs.Graph.{graph, names_of, number_named, placed_by, placed_in, placed_of, row, Reached}
use Rattle.library_faults.specs.Library.{IsPlaceable}
use Rattle.library_faults.specs.Found.{IsOrder}
use Rattle.library_faults.specs.Faults.{element_fault}
use Rattle.library_faults.specs.Ports.{ports_of}
use Rattle.library_faults.specs.Private.Models.{model_at}
use Rattle.library_faults.specs.Flat.{no_model}
use Rattle.library_faults.specs.Private.Counts.{Use, is_formal, uses_with, fixed_with, uses_to, fixed_to, uses_in, fixed_in, IsTold, IsCount, IsOutcome, AreCounted, AreCounts, ArePlaces}
use Rattle.library_faults.specs.Private.Entries.{entry_at, entry_named}
use Rattle.library_faults.proofs.SoundStatements.{IsSoundPlacing, placing_sound, each_faultless}
use Rattle.library_faults.proofs.Models.{at_model}

-- ---- a statement of a reached model

pub placed_there : (names : List (List ℕ)) (elements : List PlainElement) (k : ℕ) (d : PlainElement) (model : List ℕ) (bindings : List (List ℕ × List ℕ)) (y : ℕ) → k < length elements → get_or elements k d ≡ Instance model bindings → number_named names model ≡ Some y → Contains (placed_in names elements) y
unfolding placed_in
placed_there names [] k d model bindings y below is named = absurd (omega arith)
placed_there names (e ∷ elements) zero d model bindings y below is named = Contains-append_left (placed_by names e) (placed_in names elements) y (subst (λ f. Contains (placed_by names f) y) (sym is) (subst (λ o. Contains (option_to_list o) y) (sym named) (0, omega arith, refl)))
placed_there names (e ∷ elements) (suc k) d model bindings y below is named = Contains-append_right (placed_by names e) (placed_in names elements) y (placed_there names elements k d model bindings y (omega arith) is named)

pub row_at : (library : List PlainModel) (x : ℕ) → x < length library → row (graph library) x ≡ placed_in (names_of library) (model_at library x).elements
row_at library x below = go (names_of library) library x below
  where
    go : (names : List (List ℕ)) (models : List PlainModel) (x : ℕ) → x < length models → row (map (placed_of names) models) x ≡ placed_in names (model_at models x).elements
    go names [] x below = absurd (omega arith)
    go names (m ∷ models) zero below = refl
    go names (m ∷ models) (suc x) below = go names models x (omega arith)

pub statements_sound : (library : List PlainModel) (x : ℕ) → IsPlaceable library → x < length library → Reached (graph library) x → All (λ e. element_fault (names_of library) (map ports_of library) e ≡ None) (model_at library x).elements
statements_sound library x sound below reached = each_faultless (names_of library) (map ports_of library) (model_at library x).elements (sound x (model_at library x) below (slice_get-get_or library x no_model below) reached)

-- ---- the models that it places are counted

to_in : (library : List PlainModel) (depth y : ℕ) (model : List ℕ) → number_named (names_of library) model ≡ Some y → (fixed_to library (suc depth) model ≡ fixed_in library depth y) × (uses_to library (suc depth) model ≡ uses_in library depth y)
unfolding fixed_to uses_to
to_in library depth y model named = (ap (λ o. option_map_or (λ x. fixed_with (fixed_to library depth) (model_at library x).elements) o 0) named, ap (λ o. option_map_or (λ x. uses_with (is_formal library x) (uses_to library depth) 0 (model_at library x).elements) o []) named)

module _ (library : List PlainModel) (limit : ℕ) (order positions : List ℕ) (counts : List (Option Count)) (sound : IsPlaceable library) (ordered : IsOrder (graph library) order) (places : ArePlaces order positions) (counted : AreCounted library limit order counts) (here : length counts < length order) where
  placed_outcome : (depth : ℕ) → length counts ≤ depth → (model : List ℕ) (y j : ℕ) → number_named (names_of library) model ≡ Some y → j < length counts → get_or order j 0 ≡ y → IsOutcome limit (entry_named (names_of library) positions counts model) (fixed_to library depth model) (uses_to library depth model)
  placed_outcome zero deep model y j named below at = absurd (omega arith)
  placed_outcome (suc depth) deep model y j named below at =
      let told : IsOutcome limit (get_or counts j None) (fixed_in library depth y) (uses_in library depth y) = subst (λ v. IsOutcome limit (get_or counts j None) (fixed_in library depth v) (uses_in library depth v)) at (counted j depth below (omega arith)) in
      let both = to_in library depth y model named in
      let place : slice_get positions y ≡ Some j = subst (λ v. slice_get positions v ≡ Some j) at (places j (omega arith)) in
      let found : entry_named (names_of library) positions counts model ≡ get_or counts j None = ap (option_and_then (entry_at positions counts)) named ∙ ap (option_and_then (λ p. get_or counts p None)) place in
      subst (λ o. IsOutcome limit o (fixed_to library (suc depth) model) (uses_to library (suc depth) model)) (sym found) (subst (λ f. IsOutcome limit (get_or counts j None) f (uses_to library (suc depth) model)) (sym both.0) (subst (λ us. IsOutcome limit (get_or counts j None) (fixed_in library depth y) us) (sym both.1) told))

  pub all_told : (x depth : ℕ) → get_or order (length counts) 0 ≡ x → length counts ≤ depth → All (IsTold limit (entry_named (names_of library) positions counts) (fixed_to library depth) (uses_to library depth)) (model_at library x).elements
  all_told x depth at deep k d below = by (get_or (model_at library x).elements k d) refl
    where
      within : x < length library
      within = let w : get_or order (length counts) 0 < length (graph library) = ordered.within (length counts) here in omega (arith, w, at, length-map library (placed_of (names_of library)))

      reached : Reached (graph library) x
      reached = subst (Reached (graph library)) at (ordered.reached (length counts) here)

      placing : (model : List ℕ) (bindings : List (List ℕ × List ℕ)) → get_or (model_at library x).elements k d ≡ Instance model bindings → IsSoundPlacing library model bindings → IsTold limit (entry_named (names_of library) positions counts) (fixed_to library depth) (uses_to library depth) (Instance model bindings)
      placing model bindings is s = go (subst (λ r. Contains r s.number) (sym (row_at library x within)) (placed_there (names_of library) (model_at library x).elements k d model bindings s.number below is s.named))
        where
          go : Contains (row (graph library) x) s.number → IsTold limit (entry_named (names_of library) positions counts) (fixed_to library depth) (uses_to library depth) (Instance model bindings)
          go (t, within_row, is_y) = earlier (ordered.after (length counts) t here (subst (λ v. t < length (row (graph library) v)) (sym at) within_row))
            where
              earlier : (j : ℕ) × (j < length counts) × (get_or order j 0 ≡ get_or (row (graph library) (get_or order (length counts) 0)) t 0) → IsTold limit (entry_named (names_of library) positions counts) (fixed_to library depth) (uses_to library depth) (Instance model bindings)
              earlier (j, lower, same) = (placed_outcome depth deep model s.number j s.named lower (same ∙ (ap (λ v. get_or (row (graph library) v) t 0) at ∙ (get_or_default (row (graph library) x) t 0 s.number within_row ∙ is_y))), s.apart)

      by : (e : PlainElement) → get_or (model_at library x).elements k d ≡ e → IsTold limit (entry_named (names_of library) positions counts) (fixed_to library depth) (uses_to library depth) e
      by (Table pins out cover) is = tt
      by (Register pin out control init) is = tt
      by (Instance model bindings) is = placing model bindings is (placing_sound library model bindings (subst (λ e. element_fault (names_of library) (map ports_of library) e ≡ None) is (statements_sound library x sound within reached k d below)))

  -- one count more
  pub counts_more : (found : Option Count) (x : ℕ) → get_or order (length counts) 0 ≡ x → ((depth : ℕ) → length counts ≤ depth → IsOutcome limit found (fixed_in library depth x) (uses_in library depth x)) → AreCounted library limit order (counts ++ found ∷ [])
  counts_more found x at made place depth below deep = go (cases_lt place (length counts))
    where
      go : (place < length counts) ⊎ (length counts ≤ place) → IsOutcome limit (get_or (counts ++ found ∷ []) place None) (fixed_in library depth (get_or order place 0)) (uses_in library depth (get_or order place 0))
      go (inl l) = subst (λ o. IsOutcome limit o (fixed_in library depth (get_or order place 0)) (uses_in library depth (get_or order place 0))) (sym (get_or_append_left counts (found ∷ []) None place l)) (counted place depth l deep)
      go (inr l) =
          let last : place ≡ length counts = omega (arith, length_push counts found) in
          let told : IsOutcome limit found (fixed_in library depth x) (uses_in library depth x) = made depth (omega arith) in
          subst (λ o. IsOutcome limit o (fixed_in library depth (get_or order place 0)) (uses_in library depth (get_or order place 0))) (sym (get_or_push counts found None place (sym last)))
          (subst (λ v. IsOutcome limit found (fixed_in library depth v) (uses_in library depth v)) (sym (ap (λ p. get_or order p 0) last ∙ at)) told)

-- what the count of one model tells, in the words of the library
pub model_counted : (models : List BlifModel) (limit : ℕ) (item : BlifModel) (x : ℕ) (found : Option Count) (keys names : List (List ℕ)) (positions : List ℕ) (items counts : List (Option Count)) (depth : ℕ) → names ≡ names_of (map plain_model models) → items ≡ counts → ((name : List ℕ) → is_among keys name ≡ is_formal (map plain_model models) x name) → x < length models → item ≡ get_or models x item → ((fixed : List ℕ → ℕ) (uses : List ℕ → List Use) → All (IsTold limit (entry_named names positions items) fixed uses) (plain_model item).elements → IsOutcome limit found (fixed_with fixed (plain_model item).elements) (uses_with (is_among keys) uses 0 (plain_model item).elements)) → All (IsTold limit (entry_named (names_of (map plain_model models)) positions counts) (fixed_to (map plain_model models) depth) (uses_to (map plain_model models) depth)) (model_at (map plain_model models) x).elements → IsOutcome limit found (fixed_in (map plain_model models) depth x) (uses_in (map plain_model models) depth x)
model_counted models limit item x found keys names positions items counts depth named same formals below is made told =
    subst (λ m. IsOutcome limit found (fixed_with (fixed_to library depth) m.elements) (uses_with (is_formal library x) (uses_to library depth) 0 m.elements)) (sym at)
    (subst (λ f. IsOutcome limit found (fixed_with (fixed_to library depth) (plain_model item).elements) (uses_with f (uses_to library depth) 0 (plain_model item).elements)) (fun_ext formals)
    (made (fixed_to library depth) (uses_to library depth)
    (subst (λ m. All (IsTold limit (entry_named names positions items) (fixed_to library depth) (uses_to library depth)) m.elements) at
    (subst (λ ns. All (IsTold limit (entry_named ns positions items) (fixed_to library depth) (uses_to library depth)) (model_at library x).elements) (sym named)
    (subst (λ cs. All (IsTold limit (entry_named (names_of library) positions cs) (fixed_to library depth) (uses_to library depth)) (model_at library x).elements) (sym same) told)))))
  where
    library : List PlainModel
    library = map plain_model models

    at : model_at library x ≡ plain_model item
    at = at_model models x item below is

-- each count that is there is exact
pub counts_exact : (library : List PlainModel) (limit : ℕ) (order : List ℕ) (counts : List (Option Count)) → AreCounted library limit order counts → AreCounts library order counts
counts_exact library limit order counts counted = record { exact = λ place depth count is deep. exact place depth count is deep (cases_lt place (length counts)) }
  where
    exact : (place depth : ℕ) (count : Count) → get_or counts place None ≡ Some count → place ≤ depth → (place < length counts) ⊎ (length counts ≤ place) → IsCount count (fixed_in library depth (get_or order place 0)) (uses_in library depth (get_or order place 0))
    exact place depth count is deep (inl l) = subst (λ o. IsOutcome limit o (fixed_in library depth (get_or order place 0)) (uses_in library depth (get_or order place 0))) is (counted place depth l deep)
    exact place depth count is deep (inr l) = absurd (let none : get_or counts place None ≡ None = get_or_past counts place None l in let same : None ≡ Some count = sym none ∙ is in cc)
