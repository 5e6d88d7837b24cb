-- Models in which no element stands.
use Rattle.std.proofs.Common.{◌≡◌, ℕ, zero, suc, ◌+◌, ◌<◌, ◌≤◌, ◌⊎◌, Bool, true, false, cond, ◌&&◌, ◌||◌, List, [], ◌∷◌, ◌++◌, length, get_or, set, replicate, map, refl, sym, ap, ◌∙◌, subst, inl, inr, arith, Option, Some, None}
use Rattle.std.specs.Prelude.{slice_get, slice_index_or, option_and_then}
use Rattle.std.specs.List.{list_all}
use Rattle.std.specs.Option.{is_none, option_map_or}
use Rattle.std.proofs.lemmas.Bool.{cases_eq, cases_lt}
use Rattle.std.proofs.lemmas.List.{get_or-set_other, get_or-replicate, get_or_past, length-replicate}
use Rattle.std.proofs.lemmas.Option.{get_or_from_slice_get}
use Rattle.blif_text.specs.Models.{PlainElement, Table, Register, Instance, PlainModel}
use Rattle.blif_text.specs.declared.library.BlifModel.{BlifModel}
use Rattle.blif_text.specs.Views.{plain_model, plain_element}
use Rattle.library_faults.specs.Flat.{Level, NetElement, no_model, path_of, elements_with, elements_to}
use Rattle.library_faults.specs.Graph.{names_of, number_named, model_named}
use Rattle.library_faults.specs.Private.Models.{model_at}
use Rattle.library_faults.proofs.Models.{at_model}
use Rattle.wrapper_chains.specs.Bare.{holds_with, holds_to, IsBare, AreBare, filled, is_bare_element}

-- ---- what is bare has no flat elements

pub neither : (a b : Bool) → (a || b) ≡ false → (a ≡ false) × (b ≡ false)
neither true b e = absurd cc
neither false b e = (refl, e)

module _ (inner : List Level → List ℕ → List NetElement) (holds : List ℕ → Bool) (below : (levels : List Level) (model : List ℕ) → holds model ≡ false → inner levels model ≡ []) where
  pub nothing_with : (levels : List Level) (number : ℕ) (es : List PlainElement) → holds_with holds es ≡ false → elements_with inner levels number es ≡ []
  unfolding holds_with elements_with
  nothing_with levels number [] e = refl
  nothing_with levels number (Table pins out cover ∷ es) e = absurd cc
  nothing_with levels number (Register pin out control init ∷ es) e = absurd cc
  nothing_with levels number (Instance model bindings ∷ es) e =
      let split = neither (holds model) (holds_with holds es) e in
      rw (below (record { path = path_of levels ++ number ∷ []; bindings = bindings } ∷ levels) model split.0) (nothing_with levels (number + 1) es split.1)

pub nothing_to : (library : List PlainModel) (depth : ℕ) (levels : List Level) (model : List ℕ) → holds_to library depth model ≡ false → elements_to library depth levels model ≡ []
unfolding holds_to elements_to
nothing_to library zero levels model e = refl
nothing_to library (suc depth) levels model e = go (model_named library model) (nothing_to library depth) e
  where
    go : (o : Option PlainModel) → ((levels : List Level) (model : List ℕ) → holds_to library depth model ≡ false → elements_to library depth levels model ≡ []) → option_map_or (λ m. holds_with (holds_to library depth) m.elements) o false ≡ false → option_map_or (λ m. elements_with (elements_to library depth) levels 0 m.elements) o [] ≡ []
    go None below f = refl
    go (Some m) below f = nothing_with (elements_to library depth) (holds_to library depth) below levels 0 m.elements f

-- ---- statements that place what is bare

both : (a b : Bool) → (a && b) ≡ true → (a ≡ true) × (b ≡ true)
both true b e = (refl, e)
both false b e = absurd cc

unmarked : (v : Bool) (x : ℕ) → is_none (cond v (Some x) None) ≡ true → v ≡ false
unmarked true x e = absurd cc
unmarked false x e = refl

module _ (library : List PlainModel) (holds : List Bool) (bare : AreBare library holds) where
  at_number : (depth x : ℕ) → slice_index_or holds x true ≡ false → (o : Option PlainModel) → slice_get library x ≡ o → option_map_or (λ m. holds_with (holds_to library depth) m.elements) o false ≡ false
  at_number depth x off None e = refl
  at_number depth x off (Some m) e = subst (λ n. holds_with (holds_to library depth) n.elements ≡ false) (get_or_from_slice_get library x m no_model e) (bare x off depth)

  by_number : (depth : ℕ) (o : Option ℕ) → is_none (filled holds o) ≡ true → option_map_or (λ m. holds_with (holds_to library depth) m.elements) (option_and_then (slice_get library) o) false ≡ false
  by_number depth None e = refl
  by_number depth (Some x) e = at_number depth x (unmarked (slice_index_or holds x true) x e) (slice_get library x) refl

  pub nothing_placed : (depth : ℕ) (model : List ℕ) → is_none (filled holds (number_named (names_of library) model)) ≡ true → holds_to library depth model ≡ false
  unfolding holds_to
  nothing_placed zero model e = refl
  nothing_placed (suc depth) model e = by_number depth (number_named (names_of library) model) e

  pub all_bare : (es : List PlainElement) → list_all (is_bare_element (names_of library) holds) es ≡ true → IsBare library es
  unfolding holds_with
  all_bare [] e depth = refl
  all_bare (Table pins out cover ∷ es) e depth = absurd cc
  all_bare (Register pin out control init ∷ es) e depth = absurd cc
  all_bare (Instance model bindings ∷ es) e depth =
      let b = both (is_bare_element (names_of library) holds (Instance model bindings)) (list_all (is_bare_element (names_of library) holds) es) e in
      rw (nothing_placed depth model b.0) (all_bare es b.1 depth)

  pub one_bare : (x : ℕ) → list_all (is_bare_element (names_of library) holds) (model_at library x).elements ≡ true → AreBare library (set holds x false)
  one_bare x e y off = go (cases_eq y x)
    where
      go : (y ≡ x) ⊎ (y ≡ x → ⊥) → IsBare library (model_at library y).elements
      go (inl same) = subst (λ v. IsBare library (model_at library v).elements) (sym same) (all_bare (model_at library x).elements e)
      go (inr ne) = bare y (sym (get_or-set_other holds x y false true ne) ∙ off)

pub none_bare : (library : List PlainModel) (n : ℕ) → AreBare library (replicate n true)
none_bare library n y off = go (cases_lt y n)
  where
    go : (y < n) ⊎ (n ≤ y) → IsBare library (model_at library y).elements
    go (inl l) = absurd (let e : slice_index_or (replicate n true) y true ≡ true = get_or-replicate n y true true l in cc)
    go (inr l) = absurd (let e : slice_index_or (replicate n true) y true ≡ true = get_or_past (replicate n true) y true (omega (arith, length-replicate n true)) in cc)

-- one model more is marked
pub marked : (models : List BlifModel) (names : List (List ℕ)) (holds : List Bool) (x : ℕ) (item : BlifModel) → names ≡ names_of (map plain_model models) → x < length models → item ≡ get_or models x item → AreBare (map plain_model models) holds → list_all (is_bare_element names holds) (map plain_element item.elements.items) ≡ true → AreBare (map plain_model models) (set holds x false)
marked models names holds x item named below is bare all =
    one_bare (map plain_model models) holds bare x
    (ap (λ m. list_all (is_bare_element (names_of (map plain_model models)) holds) m.elements) (at_model models x item below is)
    ∙ (ap (λ ns. list_all (is_bare_element ns holds) (map plain_element item.elements.items)) (sym named) ∙ all))
