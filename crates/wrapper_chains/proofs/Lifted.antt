-- The flat elements of a model with only formals in them, as elements over these formals.
use Rattle.std.proofs.Common.{◌≡◌, ℕ, zero, suc, ◌+◌, ◌<◌, ◌≤◌, ◌⊎◌, Bool, true, false, List, [], ◌∷◌, ◌++◌, length, map, get_or, refl, sym, ap, subst, inl, inr, ◌∙◌, arith, Option, Some, None}
use Rattle.std.specs.Prelude.{slice_index_or}
use Rattle.std.specs.Option.{option_map_or, is_some}
use Rattle.std.specs.List.{sum_by}
use Rattle.std.specs.Str.{bytes_eq}
use Rattle.std.proofs.lemmas.Bool.{cases_lt}
use Rattle.std.proofs.lemmas.Grind.{flat_map-append}
use Rattle.std.proofs.lemmas.List.{map-append}
use Rattle.std.proofs.lemmas.List.Sums.{sum_by-cons, sum_by-append}
use Rattle.tmr_base.specs.declared.ids.Edge.{Edge}
use Rattle.blif_text.specs.Kind.{is_among}
use Rattle.blif_text.specs.Models.{PlainElement, Table, Register, Instance, PlainModel}
use Rattle.wrapper_chains.specs.declared.ways.Way.{Way}
use Rattle.library_faults.specs.declared.lengths.count.Count.{Count}
use Rattle.library_faults.specs.Graph.{graph, names_of, number_named}
use Rattle.library_faults.specs.Found.{IsOrder}
use Rattle.library_faults.specs.Flat.{Level, NetTable, NetRegister, step, path_of, actual_of, resolve, resolved_control, elements_with, elements_to}
use Rattle.library_faults.specs.Private.Counts.{Use, Formal, Own, use_of, placed_use, control_names, element_names, uses_with, uses_to, uses_in, is_formal, own_one, by_formal, used, IsCount, AreCounts}
use Rattle.wrapper_chains.specs.Private.Placed.{placed_element}
use Rattle.library_faults.specs.Private.Models.{model_at, no_element}
use Rattle.wrapper_chains.specs.Private.Ways.{nets_in, placed_all, bound_at, IsEndWay, IsWay}
use Rattle.wrapper_chains.proofs.ChainLaws.{into_model, nets_same, itself, placed_before}

-- ---- elements on what a statement binds

abbrev bound_name : List (List ℕ × List ℕ) → List ℕ → List ℕ
bound_name bindings name = option_map_or (λ actual. actual) (actual_of bindings name) name

abbrev renamed_control : List (List ℕ × List ℕ) → Option (Edge × List ℕ) → Option (Edge × List ℕ)
renamed_control bindings None = None
renamed_control bindings (Some (edge, name)) = Some (edge, bound_name bindings name)

abbrev renamed : List (List ℕ × List ℕ) → PlainElement → PlainElement
renamed bindings (Table pins out cover) = Table (map (bound_name bindings) pins) (bound_name bindings out) cover
renamed bindings (Register pin out control init) = Register (bound_name bindings pin) (bound_name bindings out) (renamed_control bindings control) init
renamed bindings (Instance model nets) = Instance model nets

control_renamed : (bindings : List (List ℕ × List ℕ)) (control : Option (Edge × List ℕ)) → control_names (renamed_control bindings control) ≡ map (bound_name bindings) (control_names control)
control_renamed bindings None = refl
control_renamed bindings (Some (edge, name)) = refl

names_renamed : (bindings : List (List ℕ × List ℕ)) (e : PlainElement) → element_names (renamed bindings e) ≡ map (bound_name bindings) (element_names e)
names_renamed bindings (Table pins out cover) = sym (map-append (bound_name bindings) pins (out ∷ []))
names_renamed bindings (Register pin out control init) = ap (λ rest. bound_name bindings pin ∷ bound_name bindings out ∷ rest) (control_renamed bindings control)
names_renamed bindings (Instance model nets) = refl

all_renamed : (bindings : List (List ℕ × List ℕ)) (es : List PlainElement) → nets_in (map (renamed bindings) es) ≡ map (bound_name bindings) (nets_in es)
all_renamed bindings [] = refl
all_renamed bindings (e ∷ es) =
    ap (λ names. names ++ nets_in (map (renamed bindings) es)) (names_renamed bindings e)
    ∙ (ap (λ names. map (bound_name bindings) (element_names e) ++ names) (all_renamed bindings es)
    ∙ sym (map-append (bound_name bindings) (element_names e) (nets_in es)))

-- each of these names is bound
abbrev AreBound : List (List ℕ × List ℕ) → List (List ℕ) → Type 0
AreBound bindings [] = Unit {0}
AreBound bindings (name ∷ names) = (is_some (actual_of bindings name) ≡ true) × AreBound bindings names

bound_split : (bindings : List (List ℕ × List ℕ)) (xs ys : List (List ℕ)) → AreBound bindings (xs ++ ys) → AreBound bindings xs × AreBound bindings ys
bound_split bindings [] ys all = (tt, all)
bound_split bindings (x ∷ xs) ys all = let rest = bound_split bindings xs ys all.1 in ((all.0, rest.0), rest.1)

-- at the level of a statement, what it binds has the nets of the names that it is bound to
module _ (path : List ℕ) (bindings : List (List ℕ × List ℕ)) (levels : List Level) where
  abbrev inner : List Level
  inner = record { path = path; bindings = bindings } ∷ levels

  net_renamed : (name : List ℕ) → is_some (actual_of bindings name) ≡ true → resolve inner name ≡ resolve levels (bound_name bindings name)
  unfolding resolve
  net_renamed name some = go (actual_of bindings name) some
    where
      go : (o : Option (List ℕ)) → is_some o ≡ true → option_map_or (resolve levels) o (record { path = path; name = name }) ≡ resolve levels (option_map_or (λ actual. actual) o name)
      go (Some actual) e = refl
      go None e = absurd cc

  nets_renamed : (names : List (List ℕ)) → AreBound bindings names → map (resolve inner) names ≡ map (resolve levels) (map (bound_name bindings) names)
  nets_renamed [] all = refl
  nets_renamed (name ∷ names) all =
      let one : resolve inner name ≡ resolve levels (bound_name bindings name) = net_renamed name all.0 in
      let rest : map (resolve inner) names ≡ map (resolve levels) (map (bound_name bindings) names) = nets_renamed names all.1 in
      cc

  clock_renamed : (control : Option (Edge × List ℕ)) → AreBound bindings (control_names control) → resolved_control inner control ≡ resolved_control levels (renamed_control bindings control)
  clock_renamed None all = refl
  clock_renamed (Some (edge, name)) all = ap (λ net. Some (edge, net)) (net_renamed name all.0)

  element_renamed : (e : PlainElement) → AreBound bindings (element_names e) → placed_element inner e ≡ placed_element levels (renamed bindings e)
  element_renamed (Table pins out cover) all =
      let split = bound_split bindings pins (out ∷ []) all in
      let ins : map (resolve inner) pins ≡ map (resolve levels) (map (bound_name bindings) pins) = nets_renamed pins split.0 in
      let to : resolve inner out ≡ resolve levels (bound_name bindings out) = net_renamed out split.1.0 in
      cc
  element_renamed (Register pin out control init) all =
      let in_ : resolve inner pin ≡ resolve levels (bound_name bindings pin) = net_renamed pin all.0 in
      let to : resolve inner out ≡ resolve levels (bound_name bindings out) = net_renamed out all.1.0 in
      let by : resolved_control inner control ≡ resolved_control levels (renamed_control bindings control) = clock_renamed control all.1.1 in
      cc
  element_renamed (Instance model nets) all = refl

  placed_renamed : (es : List PlainElement) → AreBound bindings (nets_in es) → placed_all inner es ≡ placed_all levels (map (renamed bindings) es)
  placed_renamed [] all = refl
  placed_renamed (e ∷ es) all =
      let split = bound_split bindings (element_names e) (nets_in es) all in
      let one : placed_element inner e ≡ placed_element levels (renamed bindings e) = element_renamed e split.0 in
      let rest : placed_all inner es ≡ placed_all levels (map (renamed bindings) es) = placed_renamed es split.1 in
      cc

-- ---- nets that all go by formals

-- none of the nets is the model's own
abbrev AreFormal : List Use → Type 0
AreFormal uses = sum_by own_one uses ≡ 0

formal_split : (us vs : List Use) → AreFormal (us ++ vs) → AreFormal us × AreFormal vs
formal_split us vs none = let sum = sum_by-append own_one us vs in (omega arith, omega arith)

name_formal : (is_formal : List ℕ → Bool) (name : List ℕ) → own_one (use_of is_formal name) ≡ 0 → use_of is_formal name ≡ Formal name
name_formal is_formal name none = by (is_formal name) refl
  where
    by : (t : Bool) → is_formal name ≡ t → use_of is_formal name ≡ Formal name
    by true e = rw e refl
    by false e = absurd (let one : own_one (use_of is_formal name) ≡ 1 = rw e refl in omega arith)

formal_both : (u v : Use) (us vs : List Use) → u ≡ v → us ≡ vs → u ∷ us ≡ v ∷ vs
formal_both u v us vs e f = cc

named_formal : (is_formal : List ℕ → Bool) (names : List (List ℕ)) → AreFormal (map (use_of is_formal) names) → map (use_of is_formal) names ≡ map Formal names
named_formal is_formal [] none = refl
named_formal is_formal (name ∷ names) none =
    let sum = sum_by-cons own_one (use_of is_formal name) (map (use_of is_formal) names) in
    formal_both (use_of is_formal name) (Formal name) (map (use_of is_formal) names) (map Formal names) (name_formal is_formal name (omega arith)) (named_formal is_formal names (omega arith))

-- a net of the placed model's own is one of the placing model
own_one_placed : (is_formal : List ℕ → Bool) (number : ℕ) (bindings : List (List ℕ × List ℕ)) (u : Use) → own_one u ≤ own_one (placed_use is_formal number bindings u)
own_one_placed is_formal number bindings (Formal name) = omega arith
own_one_placed is_formal number bindings (Own text) = omega arith

own_below : (is_formal : List ℕ → Bool) (number : ℕ) (bindings : List (List ℕ × List ℕ)) (uses : List Use) → sum_by own_one uses ≤ sum_by own_one (map (placed_use is_formal number bindings) uses)
own_below is_formal number bindings [] = omega arith
own_below is_formal number bindings (u ∷ uses) = omega (arith, sum_by-cons own_one u uses, sum_by-cons own_one (placed_use is_formal number bindings u) (map (placed_use is_formal number bindings) uses), own_one_placed is_formal number bindings u, own_below is_formal number bindings uses)

own_placed : (is_formal : List ℕ → Bool) (number : ℕ) (bindings : List (List ℕ × List ℕ)) (uses : List Use) → AreFormal (map (placed_use is_formal number bindings) uses) → AreFormal uses
own_placed is_formal number bindings uses none = omega (arith, own_below is_formal number bindings uses)

-- where a placed model has formals alone, and these go by formals, each is bound
bound_one : (is_formal : List ℕ → Bool) (number : ℕ) (bindings : List (List ℕ × List ℕ)) (name : List ℕ) → own_one (placed_use is_formal number bindings (Formal name)) ≡ 0 → (is_some (actual_of bindings name) ≡ true) × (placed_use is_formal number bindings (Formal name) ≡ Formal (bound_name bindings name))
bound_one is_formal number bindings name none = by (actual_of bindings name) none
  where
    by : (o : Option (List ℕ)) → own_one (option_map_or (use_of is_formal) o (Own (step number ++ name))) ≡ 0 → (is_some o ≡ true) × (option_map_or (use_of is_formal) o (Own (step number ++ name)) ≡ Formal (option_map_or (λ actual. actual) o name))
    by (Some actual) zero_is = (refl, name_formal is_formal actual zero_is)
    by None zero_is = absurd (omega arith)

bound_all : (is_formal : List ℕ → Bool) (number : ℕ) (bindings : List (List ℕ × List ℕ)) (names : List (List ℕ)) → AreFormal (map (placed_use is_formal number bindings) (map Formal names)) → AreBound bindings names × (map (placed_use is_formal number bindings) (map Formal names) ≡ map Formal (map (bound_name bindings) names))
bound_all is_formal number bindings [] none = (tt, refl)
bound_all is_formal number bindings (name ∷ names) none =
    let sum = sum_by-cons own_one (placed_use is_formal number bindings (Formal name)) (map (placed_use is_formal number bindings) (map Formal names)) in
    let one = bound_one is_formal number bindings name (omega arith) in
    let rest = bound_all is_formal number bindings names (omega arith) in
    ((one.0, rest.0), formal_both (placed_use is_formal number bindings (Formal name)) (Formal (bound_name bindings name)) (map (placed_use is_formal number bindings) (map Formal names)) (map Formal (map (bound_name bindings) names)) one.1 rest.1)

-- a name that stands among names is counted
stands : (names : List (List ℕ)) (name : List ℕ) → is_among names name ≡ true → 0 < sum_by (by_formal name) (map Formal names)
stands [] name among = absurd cc
stands (n ∷ names) name among = by (bytes_eq name n) refl (stands names name)
  where
    by : (t : Bool) → bytes_eq name n ≡ t → (is_among names name ≡ true → 0 < sum_by (by_formal name) (map Formal names)) → 0 < sum_by (by_formal name) (map Formal (n ∷ names))
    by true e rest = let one : by_formal name (Formal n) ≡ 1 = rw e refl in omega (arith, sum_by-cons (by_formal name) (Formal n) (map Formal names))
    by false e rest = let more : is_among names name ≡ true = (rw e at among) in omega (arith, sum_by-cons (by_formal name) (Formal n) (map Formal names), rest more)

-- ---- the elements of all models below

abbrev lifted_with : (List ℕ → List PlainElement) → List PlainElement → List PlainElement
lifted_with below [] = []
lifted_with below (Table pins out cover ∷ es) = Table pins out cover ∷ lifted_with below es
lifted_with below (Register pin out control init ∷ es) = Register pin out control init ∷ lifted_with below es
lifted_with below (Instance model bindings ∷ es) = map (renamed bindings) (below model) ++ lifted_with below es

abbrev lifted_to : List PlainModel → ℕ → List ℕ → List PlainElement
lifted_to library zero name = []
lifted_to library (suc depth) name = option_map_or (λ x. lifted_with (lifted_to library depth) (model_at library x).elements) (number_named (names_of library) name) []

module _ (library : List PlainModel) where
  -- where all nets go by formals, they are those of the elements, and these are the flat elements wherever they are placed
  abbrev IsLifted : ℕ → Type 0
  IsLifted depth = (model : List ℕ) → AreFormal (uses_to library depth model) → (uses_to library depth model ≡ map Formal (nets_in (lifted_to library depth model))) × ((levels : List Level) → elements_to library depth levels model ≡ placed_all levels (lifted_to library depth model))

  abbrev AreLifted : ℕ → (List ℕ → Bool) → ℕ → List PlainElement → Type 0
  AreLifted depth is_formal number es = (uses_with is_formal (uses_to library depth) number es ≡ map Formal (nets_in (lifted_with (lifted_to library depth) es))) × ((n : ℕ) (levels : List Level) → elements_with (elements_to library depth) levels n es ≡ placed_all levels (lifted_with (lifted_to library depth) es))

  joined : (names more : List (List ℕ)) (us vs : List Use) → us ≡ map Formal names → vs ≡ map Formal more → us ++ vs ≡ map Formal (names ++ more)
  joined names more us vs e f = rw (e, f) (sym (map-append Formal names more))

  instance_lifted : (depth : ℕ) → IsLifted depth → (is_formal : List ℕ → Bool) (number : ℕ) (model : List ℕ) (bindings : List (List ℕ × List ℕ)) (es : List PlainElement) → AreFormal (map (placed_use is_formal number bindings) (uses_to library depth model)) → AreLifted depth is_formal (number + 1) es → AreLifted depth is_formal number (Instance model bindings ∷ es)
  unfolding uses_with elements_with
  instance_lifted depth models is_formal number model bindings es none rest = (nets, flat)
    where
      placed : (uses_to library depth model ≡ map Formal (nets_in (lifted_to library depth model))) × ((levels : List Level) → elements_to library depth levels model ≡ placed_all levels (lifted_to library depth model))
      placed = models model (own_placed is_formal number bindings (uses_to library depth model) none)

      bound : AreBound bindings (nets_in (lifted_to library depth model)) × (map (placed_use is_formal number bindings) (map Formal (nets_in (lifted_to library depth model))) ≡ map Formal (map (bound_name bindings) (nets_in (lifted_to library depth model))))
      bound = bound_all is_formal number bindings (nets_in (lifted_to library depth model)) (subst (λ us. AreFormal (map (placed_use is_formal number bindings) us)) placed.0 none)

      first : map (placed_use is_formal number bindings) (uses_to library depth model) ≡ map Formal (nets_in (map (renamed bindings) (lifted_to library depth model)))
      first = ap (map (placed_use is_formal number bindings)) placed.0 ∙ (bound.1 ∙ ap (map Formal) (sym (all_renamed bindings (lifted_to library depth model))))

      nets : map (placed_use is_formal number bindings) (uses_to library depth model) ++ uses_with is_formal (uses_to library depth) (number + 1) es ≡ map Formal (nets_in (map (renamed bindings) (lifted_to library depth model) ++ lifted_with (lifted_to library depth) es))
      nets = joined (nets_in (map (renamed bindings) (lifted_to library depth model))) (nets_in (lifted_with (lifted_to library depth) es)) (map (placed_use is_formal number bindings) (uses_to library depth model)) (uses_with is_formal (uses_to library depth) (number + 1) es) first rest.0 ∙ ap (map Formal) (sym (flat_map-append element_names (map (renamed bindings) (lifted_to library depth model)) (lifted_with (lifted_to library depth) es)))

      flat : (n : ℕ) (levels : List Level) → elements_to library depth (record { path = path_of levels ++ n ∷ []; bindings = bindings } ∷ levels) model ++ elements_with (elements_to library depth) levels (n + 1) es ≡ placed_all levels (map (renamed bindings) (lifted_to library depth model) ++ lifted_with (lifted_to library depth) es)
      flat n levels =
          let one : elements_to library depth (record { path = path_of levels ++ n ∷ []; bindings = bindings } ∷ levels) model ≡ placed_all levels (map (renamed bindings) (lifted_to library depth model)) = placed.1 (record { path = path_of levels ++ n ∷ []; bindings = bindings } ∷ levels) ∙ placed_renamed (path_of levels ++ n ∷ []) bindings levels (lifted_to library depth model) bound.0 in
          let more : elements_with (elements_to library depth) levels (n + 1) es ≡ placed_all levels (lifted_with (lifted_to library depth) es) = rest.1 (n + 1) levels in
          rw (one, more) (sym (flat_map-append (placed_element levels) (map (renamed bindings) (lifted_to library depth model)) (lifted_with (lifted_to library depth) es)))

  statements_lifted : (depth : ℕ) → IsLifted depth → (is_formal : List ℕ → Bool) (number : ℕ) (es : List PlainElement) → AreFormal (uses_with is_formal (uses_to library depth) number es) → AreLifted depth is_formal number es
  unfolding uses_with elements_with
  statements_lifted depth models is_formal number [] none = (refl, λ n levels. refl)
  statements_lifted depth models is_formal number (Table pins out cover ∷ es) none =
      let split = formal_split (map (use_of is_formal) (pins ++ out ∷ [])) (uses_with is_formal (uses_to library depth) number es) none in
      let rest = statements_lifted depth models is_formal number es split.1 in
      (joined (pins ++ out ∷ []) (nets_in (lifted_with (lifted_to library depth) es)) (map (use_of is_formal) (pins ++ out ∷ [])) (uses_with is_formal (uses_to library depth) number es) (named_formal is_formal (pins ++ out ∷ []) split.0) rest.0, λ n levels. ap (λ more. NetTable (map (resolve levels) pins) (resolve levels out) cover ∷ more) (rest.1 n levels))
  statements_lifted depth models is_formal number (Register pin out control init ∷ es) none =
      let split = formal_split (map (use_of is_formal) (pin ∷ out ∷ control_names control)) (uses_with is_formal (uses_to library depth) number es) none in
      let rest = statements_lifted depth models is_formal number es split.1 in
      (joined (pin ∷ out ∷ control_names control) (nets_in (lifted_with (lifted_to library depth) es)) (map (use_of is_formal) (pin ∷ out ∷ control_names control)) (uses_with is_formal (uses_to library depth) number es) (named_formal is_formal (pin ∷ out ∷ control_names control) split.0) rest.0, λ n levels. ap (λ more. NetRegister (resolve levels pin) (resolve levels out) (resolved_control levels control) init ∷ more) (rest.1 n levels))
  statements_lifted depth models is_formal number (Instance model bindings ∷ es) none =
      let split = formal_split (map (placed_use is_formal number bindings) (uses_to library depth model)) (uses_with is_formal (uses_to library depth) (number + 1) es) none in
      instance_lifted depth models is_formal number model bindings es split.0 (statements_lifted depth models is_formal (number + 1) es split.1)

  model_lifted : (depth : ℕ) (model : List ℕ) → ((y : ℕ) → AreFormal (uses_in library depth y) → AreLifted depth (is_formal library y) 0 (model_at library y).elements) → AreFormal (uses_to library (suc depth) model) → (uses_to library (suc depth) model ≡ map Formal (nets_in (lifted_to library (suc depth) model))) × ((levels : List Level) → elements_to library (suc depth) levels model ≡ placed_all levels (lifted_to library (suc depth) model))
  unfolding uses_to elements_to
  model_lifted depth model inner none = by_number (number_named (names_of library) model) refl
    where
      by_number : (o : Option ℕ) → number_named (names_of library) model ≡ o → (uses_to library (suc depth) model ≡ map Formal (nets_in (lifted_to library (suc depth) model))) × ((levels : List Level) → elements_to library (suc depth) levels model ≡ placed_all levels (lifted_to library (suc depth) model))
      by_number None e = (rw e refl, λ levels. rw e refl)
      by_number (Some y) e = (uses ∙ (here.0 ∙ ap (λ es. map Formal (nets_in es)) (sym lifts)), λ levels. into_model library depth y levels model e ∙ (here.1 0 levels ∙ ap (placed_all levels) (sym lifts)))
        where
          uses : uses_to library (suc depth) model ≡ uses_in library depth y
          uses = rw e refl

          lifts : lifted_to library (suc depth) model ≡ lifted_with (lifted_to library depth) (model_at library y).elements
          lifts = rw e refl

          here : AreLifted depth (is_formal library y) 0 (model_at library y).elements
          here = inner y (subst AreFormal uses none)

  models_lifted : (depth : ℕ) → IsLifted depth
  unfolding uses_to elements_to
  models_lifted zero model none = (refl, λ levels. refl)
  models_lifted (suc depth) model none = model_lifted depth model (λ y formal. statements_lifted depth (models_lifted depth) (is_formal library y) 0 (model_at library y).elements formal) none

  -- ---- more depth gives the same elements

  module _ (order : List ℕ) (ordered : IsOrder (graph library) order) where
    abbrev IsSame : ℕ → Type 0
    IsSame place = (d e : ℕ) → place ≤ d → place ≤ e → lifted_with (lifted_to library d) (model_at library (get_or order place 0)).elements ≡ lifted_with (lifted_to library e) (model_at library (get_or order place 0)).elements

    abbrev IsBefore : ℕ → List ℕ → Type 0
    IsBefore place model = (y : ℕ) → number_named (names_of library) model ≡ Some y → (j : ℕ) × (j < place) × (get_or order j 0 ≡ y)

    placed_same : (place d e : ℕ) (model : List ℕ) → place ≤ d → place ≤ e → ((j : ℕ) → j < place → IsSame j) → IsBefore place model → lifted_to library d model ≡ lifted_to library e model
    placed_same place d e model deep_d deep_e before placed = by_number (number_named (names_of library) model) refl
      where
        none : (d : ℕ) → number_named (names_of library) model ≡ None → lifted_to library d model ≡ []
        none zero f = refl
        none (suc d) f = rw f refl

        some : (d e y j : ℕ) → number_named (names_of library) model ≡ Some y → j < place → get_or order j 0 ≡ y → place ≤ d → place ≤ e → lifted_to library d model ≡ lifted_to library e model
        some zero e y j f lower at deep_d deep_e = absurd (omega arith)
        some (suc d) zero y j f lower at deep_d deep_e = absurd (omega arith)
        some (suc d) (suc e) y j f lower at deep_d deep_e =
            let same : lifted_with (lifted_to library d) (model_at library y).elements ≡ lifted_with (lifted_to library e) (model_at library y).elements = subst (λ v. lifted_with (lifted_to library d) (model_at library v).elements ≡ lifted_with (lifted_to library e) (model_at library v).elements) at (before j lower d e (omega arith) (omega arith)) in
            rw f same

        by_number : (o : Option ℕ) → number_named (names_of library) model ≡ o → lifted_to library d model ≡ lifted_to library e model
        by_number None f = none d f ∙ sym (none e f)
        by_number (Some y) f = go (placed y f)
          where
            go : (j : ℕ) × (j < place) × (get_or order j 0 ≡ y) → lifted_to library d model ≡ lifted_to library e model
            go (j, lower, at) = some d e y j f lower at deep_d deep_e

    abbrev AreBefore : ℕ → List PlainElement → Type 0
    AreBefore place es = (i : ℕ) (model : List ℕ) (bindings : List (List ℕ × List ℕ)) (y : ℕ) → i < length es → slice_index_or es i no_element ≡ Instance model bindings → number_named (names_of library) model ≡ Some y → (j : ℕ) × (j < place) × (get_or order j 0 ≡ y)

    statements_same : (place d e : ℕ) → place ≤ d → place ≤ e → ((j : ℕ) → j < place → IsSame j) → (es : List PlainElement) → AreBefore place es → lifted_with (lifted_to library d) es ≡ lifted_with (lifted_to library e) es
    statements_same place d e deep_d deep_e before [] placed = refl
    statements_same place d e deep_d deep_e before (Table pins out cover ∷ es) placed = ap (λ rest. Table pins out cover ∷ rest) (statements_same place d e deep_d deep_e before es (λ i model bindings y l is f. placed (suc i) model bindings y (omega arith) is f))
    statements_same place d e deep_d deep_e before (Register pin out control init ∷ es) placed = ap (λ rest. Register pin out control init ∷ rest) (statements_same place d e deep_d deep_e before es (λ i model bindings y l is f. placed (suc i) model bindings y (omega arith) is f))
    statements_same place d e deep_d deep_e before (Instance model bindings ∷ es) placed =
        let one : lifted_to library d model ≡ lifted_to library e model = placed_same place d e model deep_d deep_e before (λ y f. placed 0 model bindings y (omega arith) refl f) in
        let rest : lifted_with (lifted_to library d) es ≡ lifted_with (lifted_to library e) es = statements_same place d e deep_d deep_e before es (λ i m b y l is f. placed (suc i) m b y (omega arith) is f) in
        cc

    all_same : (bound : ℕ) → bound ≤ length order → (place : ℕ) → place < bound → IsSame place
    all_same zero long place below = absurd (omega arith)
    all_same (suc bound) long place below = go (all_same bound (omega arith)) (cases_lt place bound)
      where
        go : ((j : ℕ) → j < bound → IsSame j) → (place < bound) ⊎ (bound ≤ place) → IsSame place
        go before (inl l) = before place l
        go before (inr l) = λ d e deep_d deep_e. statements_same place d e deep_d deep_e (λ j lower. before j (omega arith)) (model_at library (get_or order place 0)).elements (λ i model bindings y within is f. placed_before library order ordered place i y model bindings (omega arith) within is f)

    -- ---- the way of a model at which chains may end

    pub end_is : (counts : List (Option Count)) (place x : ℕ) (way : Way) → AreCounts library order counts → place < length order → get_or order place 0 ≡ x → IsEndWay (get_or counts place None) x way → IsWay library order place way
    end_is counts place x way counted here at end = record {
      end = place;
      before = omega arith;
      base = at ∙ sym end.base;
      elements = elements;
      made = λ depth number levels deep. subst (λ v. elements_with (elements_to library depth) levels number (model_at library v).elements ≡ placed_all levels elements) (sym end.base) (made depth number levels deep);
      bound = λ name among. ap is_some (bound name among);
      same = λ depth number levels deep. subst (λ v. elements_with (elements_to library depth) levels number (model_at library v).elements ≡ placed_all (bound_at way.nets.items levels) elements) (sym at)
          (made depth number levels deep ∙ sym (nets_same (bound_at way.nets.items levels) levels elements (λ name among. itself way.nets.items levels name (bound name among))));
    }
      where
        elements : List PlainElement
        elements = lifted_with (lifted_to library place) (model_at library x).elements

        told : (depth : ℕ) → place ≤ depth → AreFormal (uses_in library depth x)
        told depth deep = let count : IsCount end.count _ (uses_in library depth (get_or order place 0)) = counted.exact place depth end.count end.is deep in
            subst (λ v. AreFormal (uses_in library depth v)) at (sym count.places ∙ end.closed)

        lifted : (depth : ℕ) → place ≤ depth → AreLifted depth (is_formal library x) 0 (model_at library x).elements
        lifted depth deep = statements_lifted depth (models_lifted depth) (is_formal library x) 0 (model_at library x).elements (told depth deep)

        made : (depth number : ℕ) (levels : List Level) → place ≤ depth → elements_with (elements_to library depth) levels number (model_at library x).elements ≡ placed_all levels elements
        made depth number levels deep = (lifted depth deep).1 number levels ∙ ap (placed_all levels) (subst (λ v. lifted_with (lifted_to library depth) (model_at library v).elements ≡ lifted_with (lifted_to library place) (model_at library v).elements) at (all_same (length order) (omega arith) place here depth place deep (omega arith)))

        bound : (name : List ℕ) → is_among (nets_in elements) name ≡ true → actual_of way.nets.items name ≡ Some name
        bound name among = end.bound name (λ none. (let s = stands (nets_in elements) name among in let u = as_often in omega arith))
          where
            as_often : used end.count name ≡ sum_by (by_formal name) (map Formal (nets_in elements))
            as_often =
                let count : IsCount end.count _ (uses_in library place (get_or order place 0)) = counted.exact place place end.count end.is (omega arith) in
                count.by name ∙ ap (sum_by (by_formal name)) (ap (uses_in library place) at ∙ (lifted place (omega arith)).0)
