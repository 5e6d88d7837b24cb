-- Ways found one by one, and what stands for models, in the words of the calls.
use Rattle.std.proofs.Common.{◌≡◌, ◌≢◌, ℕ, ◌+◌, ◌<◌, ◌≤◌, ◌⊎◌, Bool, ltb, List, [], ◌∷◌, ◌++◌, length, map, get_or, refl, sym, ap, ◌∙◌, subst, inl, inr, arith, Option, Some, None}
use Rattle.std.specs.Prelude.{slice_get, option_and_then, IfSome}
use Rattle.std.specs.List.{position_or_len}
use Rattle.std.specs.Str.{bytes_eq}
use Rattle.std.proofs.lemmas.Bool.{cases_lt, cond-true, lt-ltb, false_from_ne_true}
use Rattle.std.proofs.lemmas.List.{get_or-map, get_or_append_left, get_or_push, get_or_past, get_or_default, length_push, length-map, map-append}
use Rattle.std.proofs.lemmas.List.Sums.{position_or_len_is}
use Rattle.std.proofs.lemmas.Option.{slice_get-get_or, slice_get_within, get_or_from_slice_get}
use Rattle.std.proofs.lemmas.Slice.Eq.{bytes_eq-Decides}
use Rattle.blif_text.specs.Models.{PlainElement, Instance, PlainModel}
use Rattle.blif_text.specs.Library.{name_of, Differ}
use Rattle.blif_text.specs.declared.library.BlifModel.{BlifModel}
use Rattle.blif_text.specs.declared.library.Element.{Element}
use Rattle.blif_text.specs.Views.{plain_model, plain_element}
use Rattle.wrapper_chains.specs.declared.ways.Way.{Way}
use Rattle.library_faults.specs.Graph.{graph, names_of, number_named}
use Rattle.library_faults.specs.Found.{IsOrder}
use Rattle.library_faults.specs.Flat.{no_model}
use Rattle.library_faults.specs.declared.lengths.count.Count.{Count}
use Rattle.library_faults.specs.Private.Counts.{ArePlaces, AreCounts}
use Rattle.wrapper_chains.specs.Bare.{AreBare}
use Rattle.library_faults.specs.Private.Models.{model_at, no_element}
use Rattle.wrapper_chains.specs.Private.Ways.{IsOnly, IsHandedWay, IsEndWay, IsWay, AreWays, IsOfWay, IsShort}
use Rattle.library_faults.specs.Private.Entries.{entry_at, entry_named}
use Rattle.wrapper_chains.proofs.Substitutes.{StandFor, AreStandIns}
use Rattle.library_faults.proofs.Models.{at_model, element_is}
use Rattle.wrapper_chains.proofs.ChainLaws.{order_within, handed_way, itself_stands, way_stands}
use Rattle.wrapper_chains.proofs.Lifted.{end_is}

module _ (models : List BlifModel) (names : List (List ℕ)) (holds : List Bool) (order positions : List ℕ) (ways : List (Option Way)) (x : ℕ) (item : BlifModel) (elements : List Element) (named : names ≡ names_of (map plain_model models)) (bare : AreBare (map plain_model models) holds) (ordered : IsOrder (graph (map plain_model models)) order) (here : length ways < length order) (at : get_or order (length ways) 0 ≡ x) (is : item ≡ get_or models x item) (are : elements ≡ item.elements.items) where
  abbrev library : List PlainModel
  library = map plain_model models

  within : x < length models
  within = let w = order_within library order ordered (length ways) here in omega (arith, w, at, length-map models plain_model)

  elements_are : (model_at library (get_or order (length ways) 0)).elements ≡ map plain_element elements
  elements_are = ap (λ v. (model_at library v).elements) at ∙ (ap (λ m. m.elements) (at_model models x item within is) ∙ ap (map plain_element) (sym are))

  -- the way of a model that holds one statement alone
  pub next_handed : (i : ℕ) (element : Element) (model : List ℕ) (bindings bound : List (List ℕ × List ℕ)) (way : Way) → ArePlaces order positions → AreWays library order ways → IsOnly names holds (map plain_element elements) i → element ≡ get_or item.elements.items i element → plain_element element ≡ Instance model bindings → bound ≡ bindings → IsHandedWay (entry_named names positions ways model) bound way → IsWay library order (length ways) way
  next_handed i element model bindings bound way places all only at_i instance same h =
      handed_way library order ordered holds bare (length ways) i model bindings here
      (subst (λ es. IsOnly (names_of library) holds es i) (sym elements_are) (subst (λ ns. IsOnly ns holds (map plain_element elements) i) named only))
      (ap (λ es. get_or es i no_element) elements_are ∙ (element_is elements i element here_too (subst (λ es. element ≡ get_or es i element) (sym are) at_i) ∙ instance))
      positions ways way places all refl
      (subst (λ ns. IsHandedWay (entry_named ns positions ways model) bindings way) named (subst (λ b. IsHandedWay (entry_named names positions ways model) b way) same h))
    where
      here_too : i < length elements
      here_too = let w = only.within in omega (arith, w, length-map elements plain_element)

-- the way of a model at which chains may end
pub next_end : (models : List BlifModel) (order positions : List ℕ) (counts : List (Option Count)) (place x : ℕ) (way : Way) → IsOrder (graph (map plain_model models)) order → ArePlaces order positions → AreCounts (map plain_model models) order counts → place < length order → get_or order place 0 ≡ x → IsEndWay (entry_at positions counts x) x way → IsWay (map plain_model models) order place way
next_end models order positions counts place x way ordered places counted here at h = end_is (map plain_model models) order ordered counts place x way counted here at (subst (λ o. IsEndWay o x way) found h)
  where
    found : entry_at positions counts x ≡ get_or counts place None
    found = ap (option_and_then (λ p. get_or counts p None)) (subst (λ v. slice_get positions v ≡ Some place) at (places place here))

-- one way more
pub ways_more : (library : List PlainModel) (order : List ℕ) (ways : List (Option Way)) (found : Option Way) → AreWays library order ways → IfSome found (λ way. IsWay library order (length ways) way) → AreWays library order (ways ++ found ∷ [])
ways_more library order ways found all one place way e = go (cases_lt place (length ways))
  where
    there : get_or (ways ++ found ∷ []) place None ≡ Some way
    there = get_or_from_slice_get (ways ++ found ∷ []) place (Some way) None e

    last : (o : Option Way) → IfSome o (λ way. IsWay library order (length ways) way) → o ≡ Some way → IsWay library order (length ways) way
    last (Some w) h f = let same : w ≡ way = cc in subst (IsWay library order (length ways)) same h
    last None h f = absurd cc

    go : (place < length ways) ⊎ (length ways ≤ place) → IsWay library order place way
    go (inl l) = all place way (slice_get-get_or ways place None l ∙ ap (λ o. Some o) (sym (get_or_append_left ways (found ∷ []) None place l) ∙ there))
    go (inr l) =
        let w : place < length (ways ++ found ∷ []) = slice_get_within (ways ++ found ∷ []) place (Some way) e in
        let end : place ≡ length ways = omega (arith, w, length_push ways found) in
        subst (λ p. IsWay library order p way) (sym end) (last found one (sym (get_or_push ways found None place (sym end)) ∙ there))

-- the model of a model's name
named_itself : (library : List PlainModel) (y : ℕ) → Differ (names_of library) → y < length library → number_named (names_of library) (model_at library y).name ≡ Some y
unfolding number_named
named_itself library y differ below = cond-true (ltb (position_or_len (bytes_eq name) (names_of library)) (length (names_of library))) (Some (position_or_len (bytes_eq name) (names_of library))) None (lt-ltb _ _ (omega (arith, place, long))) ∙ ap (λ p. Some p) place
  where
    name : List ℕ
    name = (model_at library y).name

    long : length (names_of library) ≡ length library
    long = length-map library name_of

    there : get_or (names_of library) y [] ≡ name
    there = get_or-map name_of library y no_model [] below

    place : position_or_len (bytes_eq name) (names_of library) ≡ y
    place = position_or_len_is (bytes_eq name) (names_of library) y [] (omega (arith, long))
        (λ k l. false_from_ne_true (bytes_eq name (get_or (names_of library) k [])) (λ t. differ k y [] l (omega (arith, long)) (sym ((bytes_eq-Decides name (get_or (names_of library) k [])).0 t) ∙ sym there)))
        (λ l. (bytes_eq-Decides name (get_or (names_of library) y [])).1 (sym there))

module _ (library : List PlainModel) (order positions : List ℕ) (ways : List (Option Way)) (ordered : IsOrder (graph library) order) (places : ArePlaces order positions) (all : AreWays library order ways) (differ : Differ (names_of library)) where
  name_at : (y : ℕ) → y < length (names_of library) → get_or (names_of library) y [] ≡ (model_at library y).name
  name_at y below = get_or-map name_of library y no_model [] (omega (arith, length-map library name_of))

  elements_stand : (place x : ℕ) (elements : List PlainElement) → place < length order → get_or order place 0 ≡ x → (elements ≡ (model_at library x).elements) ⊎ IsOfWay (names_of library) positions ways x elements → StandFor library order place elements
  elements_stand place x elements below at (inl same) = subst (StandFor library order place) (ap (λ v. (model_at library v).elements) at ∙ sym same) (itself_stands library order ordered place below)
  elements_stand place x elements below at (inr w) = subst (StandFor library order place) (sym (w.is ∙ ap (λ n. Instance n w.way.nets.items ∷ []) (name_at w.way.base w.within))) (way_stands library order ordered place w.way (model_at library w.way.base).name (all place w.way there) (λ e. w.other (sym e ∙ at)) (named_itself library w.way.base differ (let b = w.within in omega (arith, length-map library name_of))))
    where
      found : get_or ways place None ≡ Some w.way
      found = sym (ap (option_and_then (λ p. get_or ways p None)) (subst (λ v. slice_get positions v ≡ Some place) at (places place below))) ∙ w.at

      within : place < length ways
      within = go (cases_lt place (length ways))
        where
          go : (place < length ways) ⊎ (length ways ≤ place) → place < length ways
          go (inl l) = l
          go (inr l) = absurd (let none : get_or ways place None ≡ None = get_or_past ways place None l in let f = found in cc)

      there : slice_get ways place ≡ Some (Some w.way)
      there = slice_get-get_or ways place None within ∙ ap (λ o. Some o) found

  pub stand_ins_are : (models : List PlainModel) → length models ≡ length library → ((x : ℕ) → x < length library → IsShort (names_of library) positions ways x (model_at library x) (model_at models x)) → AreStandIns library order models
  stand_ins_are models long each = record {
    long = long;
    each = λ x l. record {
      name = (each x l).name;
      inputs = (each x l).inputs;
      outputs = (each x l).outputs;
      elements = λ place below at. elements_stand place x (model_at models x).elements below at (each x l).elements;
    };
  }

-- the statement of a way, in the words of the call
pub of_way : (names : List (List ℕ)) (positions : List ℕ) (ways : List (Option Way)) (x : ℕ) (way : Way) (name : List ℕ) (nets : List (List ℕ × List ℕ)) (elements : List PlainElement) → Some way ≡ entry_at positions ways x → way.base ≢ x → way.base < length names → name ≡ get_or names way.base name → nets ≡ way.nets.items → elements ≡ Instance name nets ∷ [] → IsOfWay names positions ways x elements
of_way names positions ways x way name nets elements at other below is bound made = record {
  way = way;
  at = sym at;
  other = other;
  within = below;
  is = made ∙ (ap (λ n. Instance n nets ∷ []) (is ∙ get_or_default names way.base name [] below) ∙ ap (λ b. Instance (get_or names way.base []) b ∷ []) bound);
}

-- a model stands for itself, and so does one with the statement of its way
pub short_itself : (names : List (List ℕ)) (positions : List ℕ) (ways : List (Option Way)) (x : ℕ) (m : PlainModel) → IsShort names positions ways x m m
short_itself names positions ways x m = record { name = refl; inputs = refl; outputs = refl; elements = inl refl }

pub short_way : (names : List (List ℕ)) (positions : List ℕ) (ways : List (Option Way)) (x : ℕ) (m short : PlainModel) (elements : List PlainElement) → short ≡ record m { elements = elements } → IsOfWay names positions ways x elements → IsShort names positions ways x m short
short_way names positions ways x m short elements is way = record {
  name = ap (λ k. k.name) is;
  inputs = ap (λ k. k.inputs) is;
  outputs = ap (λ k. k.outputs) is;
  elements = inr (subst (IsOfWay names positions ways x) (sym (ap (λ k. k.elements) is)) way);
}

pub ruleset short_laws = (short_itself, short_way)

-- one model more
pub shorts_more : (library : List PlainModel) (found : List BlifModel) (names : List (List ℕ)) (positions : List ℕ) (ways : List (Option Way)) (n : ℕ) (own m : BlifModel) → length found ≡ n → model_at library n ≡ plain_model own → ((k : ℕ) → k < n → IsShort names positions ways k (model_at library k) (model_at (map plain_model found) k)) → IsShort names positions ways n (plain_model own) (plain_model m) → (k : ℕ) → k < n + 1 → IsShort names positions ways k (model_at library k) (model_at (map plain_model (found ++ m ∷ [])) k)
shorts_more library found names positions ways n own m long is each one k below = subst (λ ms. IsShort names positions ways k (model_at library k) (model_at ms k)) (sym (map-append plain_model found (m ∷ []))) (go (cases_lt k n))
  where
    all : length (map plain_model found) ≡ n
    all = length-map found plain_model ∙ long

    go : (k < n) ⊎ (n ≤ k) → IsShort names positions ways k (model_at library k) (model_at (map plain_model found ++ plain_model m ∷ []) k)
    go (inl l) = subst (IsShort names positions ways k (model_at library k)) (sym (get_or_append_left (map plain_model found) (plain_model m ∷ []) no_model k (let a = all in omega arith))) (each k l)
    go (inr l) =
        let end : n ≡ k = omega arith in
        subst (λ v. IsShort names positions ways v (model_at library v) (model_at (map plain_model found ++ plain_model m ∷ []) v)) end (subst (IsShort names positions ways n (model_at library n)) (sym (get_or_push (map plain_model found) (plain_model m) no_model n all)) (subst (λ own. IsShort names positions ways n own (plain_model m)) (sym is) one))
