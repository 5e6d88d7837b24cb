-- Models that stand for those of a library give the same flat elements, and a greater depth gives no others.
use Rattle.std.proofs.Common.{◌≡◌, ℕ, zero, suc, ◌+◌, ◌<◌, ◌≤◌, ◌⊎◌, List, [], ◌∷◌, ◌++◌, length, map, get_or, refl, sym, ap, ◌∙◌, subst, inl, inr, arith, Option, Some, None}
use Rattle.std.specs.Prelude.{slice_index_or}
use Rattle.std.proofs.lemmas.Bool.{cases_lt}
use Rattle.blif_text.specs.Models.{PlainElement, Table, Register, Instance, PlainModel}
use Rattle.library_faults.specs.Graph.{graph, names_of, number_named}
use Rattle.library_faults.specs.Found.{IsOrder}
use Rattle.library_faults.specs.Library.{IsPlaceable}
use Rattle.library_faults.specs.Flat.{Level, NetTable, NetRegister, path_of, resolve, resolved_control, main_of, main_level, elements_with, elements_to, flat_elements}
use Rattle.library_faults.specs.Private.Models.{model_at, no_element}
use Rattle.library_faults.proofs.Models.{first_model}
use Rattle.library_faults.proofs.MainCosts.{few_placed, main_place}
use Rattle.wrapper_chains.specs.SameFlat.{IsSameFlat}
use Rattle.wrapper_chains.proofs.Substitutes.{StandFor, AreStandIns, IsStandIn}
use Rattle.wrapper_chains.proofs.ChainLaws.{into_model, order_within, itself_stands}

names_alike : (models library : List PlainModel) → length models ≡ length library → ((x : ℕ) → x < length library → (model_at models x).name ≡ (model_at library x).name) → names_of models ≡ names_of library
names_alike [] [] long each = refl
names_alike [] (m ∷ library) long each = absurd (omega arith)
names_alike (n ∷ models) [] long each = absurd (omega arith)
names_alike (n ∷ models) (m ∷ library) long each =
    let one : n.name ≡ m.name = each 0 (omega arith) in
    let rest : names_of models ≡ names_of library = names_alike models library (omega arith) (λ x l. each (suc x) (omega arith)) in
    cc

nothing_named : (library : List PlainModel) (depth : ℕ) (levels : List Level) (model : List ℕ) → number_named (names_of library) model ≡ None → elements_to library depth levels model ≡ []
unfolding elements_to
nothing_named library zero levels model e = refl
nothing_named library (suc depth) levels model e = rw e refl

module _ (library : List PlainModel) (order : List ℕ) (ordered : IsOrder (graph library) order) (models : List PlainModel) (all : AreStandIns library order models) where
  same_names : names_of models ≡ names_of library
  same_names = names_alike models library all.long (λ x l. (all.each x l).name)

  -- a model has no more models below one another than stand before it
  abbrev Alike : ℕ → Type 0
  Alike place = (depth other : ℕ) (levels : List Level) → place ≤ depth → place ≤ other → elements_with (elements_to models depth) levels 0 (model_at models (get_or order place 0)).elements ≡ elements_with (elements_to library other) levels 0 (model_at library (get_or order place 0)).elements

  -- what a statement places
  placed_alike : (place depth other : ℕ) (levels : List Level) (model : List ℕ) → place ≤ depth → place ≤ other → ((j : ℕ) → j < place → Alike j) → ((y : ℕ) → number_named (names_of library) model ≡ Some y → (j : ℕ) × (j < place) × (get_or order j 0 ≡ y)) → elements_to models depth levels model ≡ elements_to library other levels model
  placed_alike place depth other levels model deep deep_too before placed = by_number (number_named (names_of library) model) refl
    where
      here : (o : Option ℕ) → number_named (names_of library) model ≡ o → number_named (names_of models) model ≡ o
      here o e = ap (λ ns. number_named ns model) same_names ∙ e

      known : (d e y j : ℕ) → place ≤ d → place ≤ e → number_named (names_of library) model ≡ Some y → j < place → get_or order j 0 ≡ y → elements_to models d levels model ≡ elements_to library e levels model
      known zero e y j l m named lower at = absurd (omega arith)
      known (suc d) zero y j l m named lower at = absurd (omega arith)
      known (suc d) (suc e) y j l m named lower at =
          into_model models d y levels model (here (Some y) named)
          ∙ (subst (λ v. elements_with (elements_to models d) levels 0 (model_at models v).elements ≡ elements_with (elements_to library e) levels 0 (model_at library v).elements) at (before j lower d e levels (omega arith) (omega arith))
          ∙ sym (into_model library e y levels model named))

      by_number : (o : Option ℕ) → number_named (names_of library) model ≡ o → elements_to models depth levels model ≡ elements_to library other levels model
      by_number None e = nothing_named models depth levels model (here None e) ∙ sym (nothing_named library other levels model e)
      by_number (Some y) e = go (placed y e)
        where
          go : (j : ℕ) × (j < place) × (get_or order j 0 ≡ y) → elements_to models depth levels model ≡ elements_to library other levels model
          go (j, lower, at) = known depth other y j deep deep_too e lower at

  -- statements that place models before this place alone
  statements_alike : (place depth other : ℕ) → place ≤ depth → place ≤ other → ((j : ℕ) → j < place → Alike j) → (levels : List Level) (number : ℕ) (es : List PlainElement) → ((i : ℕ) (model : List ℕ) (bindings : List (List ℕ × List ℕ)) (y : ℕ) → i < length es → slice_index_or es i no_element ≡ Instance model bindings → number_named (names_of library) model ≡ Some y → (j : ℕ) × (j < place) × (get_or order j 0 ≡ y)) → elements_with (elements_to models depth) levels number es ≡ elements_with (elements_to library other) levels number es
  unfolding elements_with
  statements_alike place depth other deep deep_too before levels number [] placed = refl
  statements_alike place depth other deep deep_too before levels number (Table pins out cover ∷ es) placed = ap (λ rest. NetTable (map (resolve levels) pins) (resolve levels out) cover ∷ rest) (statements_alike place depth other deep deep_too before levels number es (λ i model bindings y l is e. placed (suc i) model bindings y (omega arith) is e))
  statements_alike place depth other deep deep_too before levels number (Register pin out control init ∷ es) placed = ap (λ rest. NetRegister (resolve levels pin) (resolve levels out) (resolved_control levels control) init ∷ rest) (statements_alike place depth other deep deep_too before levels number es (λ i model bindings y l is e. placed (suc i) model bindings y (omega arith) is e))
  statements_alike place depth other deep deep_too before levels number (Instance model bindings ∷ es) placed =
      let inner : List Level = record { path = path_of levels ++ number ∷ []; bindings = bindings } ∷ levels in
      let one : elements_to models depth inner model ≡ elements_to library other inner model = placed_alike place depth other inner model deep deep_too before (λ y e. placed 0 model bindings y (omega arith) refl e) in
      let rest : elements_with (elements_to models depth) levels (number + 1) es ≡ elements_with (elements_to library other) levels (number + 1) es = statements_alike place depth other deep deep_too before levels (number + 1) es (λ i m b y l is e. placed (suc i) m b y (omega arith) is e) in
      cc

  one_alike : (place : ℕ) → place < length order → ((j : ℕ) → j < place → Alike j) → Alike place
  one_alike place below before depth other levels deep deep_too = statements_alike place depth other deep deep_too before levels 0 (model_at models (get_or order place 0)).elements stand.placed ∙ stand.same other levels deep_too
    where
      stand : StandFor library order place (model_at models (get_or order place 0)).elements
      stand = (all.each (get_or order place 0) (order_within library order ordered place below)).elements place below refl

  all_alike : (bound : ℕ) → bound ≤ length order → (place : ℕ) → place < bound → Alike place
  all_alike zero long place below = absurd (omega arith)
  all_alike (suc bound) long place below = go (all_alike bound (omega arith)) (cases_lt place bound)
    where
      go : ((j : ℕ) → j < bound → Alike j) → (place < bound) ⊎ (bound ≤ place) → Alike place
      go before (inl l) = before place l
      go before (inr l) = one_alike place (omega arith) (λ j lower. before j (omega arith))

  module _ (sound : IsPlaceable library) (some : 0 < length library) where
    -- the flat elements, with at least as many models below one another as there are
    pub elements_deep : (depth : ℕ) → length library ≤ depth → elements_with (elements_to models depth) (main_level ∷ []) 0 (main_of models).elements ≡ flat_elements library
    unfolding flat_elements
    elements_deep depth deep = go (main_place library order sound ordered some)
      where
        go : (k : ℕ) × (k < length order) × (get_or order k 0 ≡ 0) → elements_with (elements_to models depth) (main_level ∷ []) 0 (main_of models).elements ≡ elements_with (elements_to library (length library)) (main_level ∷ []) 0 (main_of library).elements
        go (k, below, at) =
            let few : length order ≤ length library = few_placed library order sound ordered some in
            ap (λ m. elements_with (elements_to models depth) (main_level ∷ []) 0 m.elements) (sym (first_model models))
            ∙ (subst (λ v. elements_with (elements_to models depth) (main_level ∷ []) 0 (model_at models v).elements ≡ elements_with (elements_to library (length library)) (main_level ∷ []) 0 (model_at library v).elements) at (all_alike (length order) (omega arith) k below depth (length library) (main_level ∷ []) (omega arith) (omega arith))
            ∙ ap (λ m. elements_with (elements_to library (length library)) (main_level ∷ []) 0 m.elements) (first_model library))

    elements_same : flat_elements models ≡ flat_elements library
    unfolding flat_elements
    elements_same = elements_deep (length models) (let l = all.long in omega arith)

    stand : IsStandIn library order 0 (model_at models 0)
    stand = all.each 0 some

    pub same_flat : IsSameFlat library models
    same_flat = record {
      names = same_names;
      long = all.long;
      name = ap (λ m. m.name) (sym (first_model models)) ∙ (stand.name ∙ ap (λ m. m.name) (first_model library));
      inputs = ap (λ m. m.inputs) (sym (first_model models)) ∙ (stand.inputs ∙ ap (λ m. m.inputs) (first_model library));
      outputs = ap (λ m. m.outputs) (sym (first_model models)) ∙ (stand.outputs ∙ ap (λ m. m.outputs) (first_model library));
      elements = elements_same;
    }

-- ---- models stand for themselves

themselves : (library : List PlainModel) (order : List ℕ) → IsOrder (graph library) order → AreStandIns library order library
themselves library order ordered = record {
  long = refl;
  each = λ x below. record {
    name = refl;
    inputs = refl;
    outputs = refl;
    elements = λ place here at. subst (λ v. StandFor library order place (model_at library v).elements) at (itself_stands library order ordered place here);
  };
}

-- a depth that is greater than the number of models gives the same flat elements
pub deep_alike : (library : List PlainModel) (order : List ℕ) (depth : ℕ) → IsPlaceable library → IsOrder (graph library) order → 0 < length library → length library ≤ depth → elements_with (elements_to library depth) (main_level ∷ []) 0 (main_of library).elements ≡ flat_elements library
deep_alike library order depth sound ordered some deep = elements_deep library order ordered library (themselves library order ordered) sound some depth deep

pub flat_itself : (library : List PlainModel) → IsSameFlat library library
flat_itself library = record { names = refl; long = refl; name = refl; inputs = refl; outputs = refl; elements = refl }

pub ruleset stand_in_laws = (flat_itself)
