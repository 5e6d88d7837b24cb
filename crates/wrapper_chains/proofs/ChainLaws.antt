-- What a statement alone hands on, and the nets of names along a chain.
use Rattle.std.proofs.Common.{◌≡◌, ◌≢◌, ℕ, zero, suc, ◌+◌, ◌<◌, ◌≤◌, Bool, true, false, ◌||◌, List, [], ◌∷◌, ◌++◌, length, map, get_or, refl, sym, ap, ◌∙◌, subst, arith, append-nil, Option, Some, None}
use Rattle.std.specs.Prelude.{slice_get, slice_index_or, option_and_then, Contains}
use Rattle.std.specs.Option.{option_map_or, is_some}
use Rattle.std.specs.List.{list_all}
use Rattle.std.specs.Str.{bytes_eq}
use Rattle.std.proofs.lemmas.List.{get_or_default, length-map}
use Rattle.std.proofs.lemmas.List.Folds.{list_any-append}
use Rattle.std.proofs.lemmas.Option.{slice_get-get_or}
use Rattle.std.proofs.lemmas.Slice.Eq.{bytes_eq-Decides}
use Rattle.blif_text.specs.Kind.{is_among}
use Rattle.blif_text.specs.Models.{PlainElement, Table, Register, Instance, PlainModel}
use Rattle.blif_text.specs.Library.{name_of}
use Rattle.tmr_base.specs.declared.ids.Edge.{Edge}
use Rattle.wrapper_chains.specs.declared.ways.Way.{Way}
use Rattle.library_faults.specs.Graph.{graph, names_of, number_named, placed_of, row}
use Rattle.library_faults.specs.Found.{IsOrder}
use Rattle.library_faults.specs.Flat.{Level, no_model, path_of, actual_of, resolve, resolved_control, elements_with, elements_to}
use Rattle.library_faults.specs.Private.Counts.{control_names, element_names, ArePlaces}
use Rattle.wrapper_chains.specs.Bare.{holds_to, AreBare, is_bare_element}
use Rattle.wrapper_chains.specs.Private.Placed.{placed_element}
use Rattle.library_faults.specs.Private.Models.{model_at, no_element}
use Rattle.wrapper_chains.specs.Private.Ways.{nets_in, placed_all, bound_at, IsOnly, IsHandedOn, IsHandedWay, IsWay, AreWays}
use Rattle.library_faults.specs.Private.Entries.{entry_at, entry_named}
use Rattle.wrapper_chains.proofs.Substitutes.{StandFor}
use Rattle.library_faults.proofs.AllCounts.{placed_there, row_at}
use Rattle.wrapper_chains.proofs.BareLaws.{nothing_with, nothing_to, nothing_placed, all_bare}
use Rattle.library_faults.proofs.GraphLaws.{number_within}

-- ---- names among names

or_left : (a b : Bool) → a ≡ true → (a || b) ≡ true
or_left a b e = ap (λ t. t || b) e

or_right : (a b : Bool) → b ≡ true → (a || b) ≡ true
or_right true b e = refl
or_right false b e = e

among_first : (name : List ℕ) (names : List (List ℕ)) → is_among (name ∷ names) name ≡ true
among_first name names = or_left (bytes_eq name name) (is_among names name) ((bytes_eq-Decides name name).1 refl)

among_left : (xs ys : List (List ℕ)) (name : List ℕ) → is_among xs name ≡ true → is_among (xs ++ ys) name ≡ true
among_left xs ys name e = list_any-append (bytes_eq name) xs ys ∙ or_left (is_among xs name) (is_among ys name) e

among_right : (xs ys : List (List ℕ)) (name : List ℕ) → is_among ys name ≡ true → is_among (xs ++ ys) name ≡ true
among_right xs ys name e = list_any-append (bytes_eq name) xs ys ∙ or_right (is_among xs name) (is_among ys name) e

-- ---- levels that give names the same nets

module _ (a b : List Level) where
  names_same : (names : List (List ℕ)) → ((name : List ℕ) → is_among names name ≡ true → resolve a name ≡ resolve b name) → map (resolve a) names ≡ map (resolve b) names
  names_same [] h = refl
  names_same (name ∷ names) h =
      let one : resolve a name ≡ resolve b name = h name (among_first name names) in
      let rest : map (resolve a) names ≡ map (resolve b) names = names_same names (λ n e. h n (or_right (bytes_eq n name) (is_among names n) e)) in
      cc

  control_same : (control : Option (Edge × List ℕ)) → ((name : List ℕ) → is_among (control_names control) name ≡ true → resolve a name ≡ resolve b name) → resolved_control a control ≡ resolved_control b control
  control_same None h = refl
  control_same (Some (edge, name)) h = ap (λ n. Some (edge, n)) (h name (among_first name []))

  element_same : (e : PlainElement) → ((name : List ℕ) → is_among (element_names e) name ≡ true → resolve a name ≡ resolve b name) → placed_element a e ≡ placed_element b e
  element_same (Table pins out cover) h =
      let ins : map (resolve a) pins ≡ map (resolve b) pins = names_same pins (λ n e. h n (among_left pins (out ∷ []) n e)) in
      let to : resolve a out ≡ resolve b out = h out (among_right pins (out ∷ []) out (among_first out [])) in
      cc
  element_same (Register pin out control init) h =
      let in_ : resolve a pin ≡ resolve b pin = h pin (among_first pin (out ∷ control_names control)) in
      let to : resolve a out ≡ resolve b out = h out (or_right (bytes_eq out pin) (is_among (out ∷ control_names control) out) (among_first out (control_names control))) in
      let by : resolved_control a control ≡ resolved_control b control = control_same control (λ n e. h n (or_right (bytes_eq n pin) (is_among (out ∷ control_names control) n) (or_right (bytes_eq n out) (is_among (control_names control) n) e))) in
      cc
  element_same (Instance model bindings) h = refl

  pub nets_same : (es : List PlainElement) → ((name : List ℕ) → is_among (nets_in es) name ≡ true → resolve a name ≡ resolve b name) → placed_all a es ≡ placed_all b es
  nets_same [] h = refl
  nets_same (e ∷ es) h =
      let one : placed_element a e ≡ placed_element b e = element_same e (λ n f. h n (among_left (element_names e) (nets_in es) n f)) in
      let rest : placed_all a es ≡ placed_all b es = nets_same es (λ n f. h n (among_right (element_names e) (nets_in es) n f)) in
      cc

-- ---- the net of a name that is bound

pub itself : (nets : List (List ℕ × List ℕ)) (levels : List Level) (name : List ℕ) → actual_of nets name ≡ Some name → resolve (bound_at nets levels) name ≡ resolve levels name
unfolding resolve
itself nets levels name e = rw e refl

pub any_path : (path : List ℕ) (nets : List (List ℕ × List ℕ)) (levels : List Level) (name : List ℕ) → is_some (actual_of nets name) ≡ true → resolve (record { path = path; bindings = nets } ∷ levels) name ≡ resolve (bound_at nets levels) name
unfolding resolve
any_path path nets levels name some = go (actual_of nets name) some
  where
    go : (o : Option (List ℕ)) → is_some o ≡ true → option_map_or (resolve levels) o (record { path = path; name = name }) ≡ option_map_or (resolve levels) o (record { path = []; name = name })
    go (Some x) e = refl
    go None e = absurd cc

pub handed_net : (path : List ℕ) (nets bindings handed : List (List ℕ × List ℕ)) (levels : List Level) (name : List ℕ) → IsHandedOn nets (actual_of bindings) handed → is_some (actual_of nets name) ≡ true → resolve (bound_at nets (record { path = path; bindings = bindings } ∷ levels)) name ≡ resolve (bound_at handed levels) name
unfolding resolve
handed_net path nets bindings handed levels name h some = go (actual_of nets name) refl
  where
    last : (net : List ℕ) (o : Option (List ℕ)) → is_some o ≡ true → option_map_or (resolve levels) o (record { path = path; name = net }) ≡ option_map_or (resolve levels) o (record { path = []; name = name })
    last net (Some x) e = refl
    last net None e = absurd cc

    go : (o : Option (List ℕ)) → actual_of nets name ≡ o → resolve (bound_at nets (record { path = path; bindings = bindings } ∷ levels)) name ≡ resolve (bound_at handed levels) name
    go None e = absurd (let none : is_some (actual_of nets name) ≡ false = ap is_some e in cc)
    go (Some net) e =
        let same : actual_of handed name ≡ actual_of bindings net = h.same name ∙ ap (option_and_then (actual_of bindings)) e in
        let there : is_some (actual_of bindings net) ≡ true = ap is_some (sym same) ∙ (h.some name ∙ some) in
        rw (e, same) (last net (actual_of bindings net) there)

-- ---- elements of which one alone may hold elements

all_listed : (p : PlainElement → Bool) (es : List PlainElement) → ((k : ℕ) → k < length es → p (slice_index_or es k no_element) ≡ true) → list_all p es ≡ true
all_listed p [] h = refl
all_listed p (e ∷ es) h =
    let one : p e ≡ true = h 0 (omega arith) in
    let rest : list_all p es ≡ true = all_listed p es (λ k l. h (suc k) (omega arith)) in
    rw (one, rest) refl

module _ (library : List PlainModel) (holds : List Bool) (bare : AreBare library holds) where
  -- what is bare is passed
  bare_first : (e : PlainElement) (es : List PlainElement) (depth number : ℕ) (levels : List Level) → is_bare_element (names_of library) holds e ≡ true → elements_with (elements_to library depth) levels number (e ∷ es) ≡ elements_with (elements_to library depth) levels (number + 1) es
  unfolding elements_with
  bare_first (Table pins out cover) es depth number levels b = absurd cc
  bare_first (Register pin out control init) es depth number levels b = absurd cc
  bare_first (Instance model bindings) es depth number levels b = rw (nothing_to library depth (record { path = path_of levels ++ number ∷ []; bindings = bindings } ∷ levels) model (nothing_placed library holds bare depth model b)) refl

  alone : (e : PlainElement) (es : List PlainElement) (depth number : ℕ) (levels : List Level) → ((m : ℕ) → elements_with (elements_to library depth) levels m es ≡ []) → elements_with (elements_to library depth) levels number (e ∷ es) ≡ elements_with (elements_to library depth) levels number (e ∷ [])
  unfolding elements_with
  alone (Table pins out cover) es depth number levels none = rw (none number) refl
  alone (Register pin out control init) es depth number levels none = rw (none number) refl
  alone (Instance model bindings) es depth number levels none = rw (none (number + 1)) refl

  pub only_made : (es : List PlainElement) (i : ℕ) → IsOnly (names_of library) holds es i → (depth number : ℕ) (levels : List Level) → elements_with (elements_to library depth) levels number es ≡ elements_with (elements_to library depth) levels (number + i) (slice_index_or es i no_element ∷ [])
  only_made [] i only depth number levels = absurd (let w = only.within in omega arith)
  only_made (e ∷ es) zero only depth number levels =
      let rest : list_all (is_bare_element (names_of library) holds) es ≡ true = all_listed (is_bare_element (names_of library) holds) es (λ k l. only.others (suc k) (omega arith) (omega arith)) in
      alone e es depth number levels (λ m. nothing_with (elements_to library depth) (holds_to library depth) (nothing_to library depth) levels m es (all_bare library holds bare es rest depth)) ∙ ap (λ n. elements_with (elements_to library depth) levels n (e ∷ [])) (omega arith)
  only_made (e ∷ es) (suc i) only depth number levels =
      bare_first e es depth number levels (only.others 0 (omega arith) (omega arith))
      ∙ (only_made es i (record { within = (let w = only.within in omega arith); others = λ k l ne. only.others (suc k) (omega arith) (omega arith) }) depth (number + 1) levels
      ∙ ap (λ n. elements_with (elements_to library depth) levels n (slice_index_or es i no_element ∷ [])) (omega arith))

-- ---- one level in

pub into_model : (library : List PlainModel) (depth y : ℕ) (levels : List Level) (model : List ℕ) → number_named (names_of library) model ≡ Some y → elements_to library (suc depth) levels model ≡ elements_with (elements_to library depth) levels 0 (model_at library y).elements
unfolding elements_to
into_model library depth y levels model named = ap (λ o. option_map_or (λ m. elements_with (elements_to library depth) levels 0 m.elements) o []) (ap (option_and_then (slice_get library)) named ∙ slice_get-get_or library y no_model below)
  where
    below : y < length library
    below = omega (arith, number_within (names_of library) model y named, length-map library name_of)

one_statement : (library : List PlainModel) (depth number y : ℕ) (levels : List Level) (model : List ℕ) (bindings : List (List ℕ × List ℕ)) → number_named (names_of library) model ≡ Some y → elements_with (elements_to library (suc depth)) levels number (Instance model bindings ∷ []) ≡ elements_with (elements_to library depth) (record { path = path_of levels ++ number ∷ []; bindings = bindings } ∷ levels) 0 (model_at library y).elements
unfolding elements_with
one_statement library depth number y levels model bindings named = append-nil (elements_to library (suc depth) (record { path = path_of levels ++ number ∷ []; bindings = bindings } ∷ levels) model) ∙ into_model library depth y (record { path = path_of levels ++ number ∷ []; bindings = bindings } ∷ levels) model named

-- ---- statements of the models of an order

module _ (library : List PlainModel) (order : List ℕ) (ordered : IsOrder (graph library) order) where
  pub order_within : (place : ℕ) → place < length order → get_or order place 0 < length library
  order_within place below = let w : get_or order place 0 < length (graph library) = ordered.within place below in omega (arith, w, length-map library (placed_of (names_of library)))

  -- what a statement places stands before
  pub placed_before : (place i y : ℕ) (model : List ℕ) (bindings : List (List ℕ × List ℕ)) → place < length order → i < length (model_at library (get_or order place 0)).elements → get_or (model_at library (get_or order place 0)).elements i no_element ≡ Instance model bindings → number_named (names_of library) model ≡ Some y → (j : ℕ) × (j < place) × (get_or order j 0 ≡ y)
  placed_before place i y model bindings below within is named = go (subst (λ r. Contains r y) (sym (row_at library x (order_within place below))) (placed_there (names_of library) (model_at library x).elements i no_element model bindings y within is named))
    where
      x : ℕ
      x = get_or order place 0

      go : Contains (row (graph library) x) y → (j : ℕ) × (j < place) × (get_or order j 0 ≡ y)
      go (t, within_row, is_y) = earlier (ordered.after place t below within_row)
        where
          earlier : (j : ℕ) × (j < place) × (get_or order j 0 ≡ get_or (row (graph library) x) t 0) → (j : ℕ) × (j < place) × (get_or order j 0 ≡ y)
          earlier (j, lower, same) = (j, lower, same ∙ (get_or_default (row (graph library) x) t 0 y within_row ∙ is_y))

  -- the way of a model that holds one statement alone
  module _ (holds : List Bool) (bare : AreBare library holds) (place i : ℕ) (model : List ℕ) (bindings : List (List ℕ × List ℕ)) (here : place < length order) (only : IsOnly (names_of library) holds (model_at library (get_or order place 0)).elements i) (is : get_or (model_at library (get_or order place 0)).elements i no_element ≡ Instance model bindings) where
    handed_is : (way placed : Way) (y j : ℕ) → number_named (names_of library) model ≡ Some y → j < place → get_or order j 0 ≡ y → IsWay library order j placed → way.base ≡ placed.base → IsHandedOn placed.nets.items (actual_of bindings) way.nets.items → IsWay library order place way
    handed_is way placed y j named lower at w base handed = record {
      end = w.end;
      before = (let b = w.before in omega arith);
      base = w.base ∙ sym base;
      elements = w.elements;
      made = subst (λ v. (depth number : ℕ) (levels : List Level) → w.end ≤ depth → elements_with (elements_to library depth) levels number (model_at library v).elements ≡ placed_all levels w.elements) (sym base) w.made;
      bound = λ name among. handed.some name ∙ w.bound name among;
      same = same;
    }
      where
        same : (depth number : ℕ) (levels : List Level) → place ≤ depth → elements_with (elements_to library depth) levels number (model_at library (get_or order place 0)).elements ≡ placed_all (bound_at way.nets.items levels) w.elements
        same zero number levels deep = absurd (omega arith)
        same (suc depth) number levels deep =
            only_made library holds bare (model_at library (get_or order place 0)).elements i only (suc depth) number levels
            ∙ (ap (λ e. elements_with (elements_to library (suc depth)) levels (number + i) (e ∷ [])) is
            ∙ (one_statement library depth (number + i) y levels model bindings named
            ∙ (subst (λ v. elements_with (elements_to library depth) inner 0 (model_at library v).elements ≡ placed_all (bound_at placed.nets.items inner) w.elements) at (w.same depth 0 inner (omega arith))
            ∙ nets_same (bound_at placed.nets.items inner) (bound_at way.nets.items levels) w.elements (λ name among. handed_net (path_of levels ++ (number + i) ∷ []) placed.nets.items bindings way.nets.items levels name handed (w.bound name among)))))
          where
            inner : List Level
            inner = record { path = path_of levels ++ (number + i) ∷ []; bindings = bindings } ∷ levels

    pub handed_way : (positions : List ℕ) (ways : List (Option Way)) (way : Way) → ArePlaces order positions → AreWays library order ways → length ways ≡ place → IsHandedWay (entry_named (names_of library) positions ways model) bindings way → IsWay library order place way
    handed_way positions ways way places all long handed = by_number (number_named (names_of library) model) refl
      where
        by_way : (y j : ℕ) → number_named (names_of library) model ≡ Some y → j < place → get_or order j 0 ≡ y → (o : Option Way) → get_or ways j None ≡ o → IsHandedWay o bindings way → IsWay library order place way
        by_way y j named lower at None e h = absurd h
        by_way y j named lower at (Some placed) e h = handed_is way placed y j named lower at (all j placed (slice_get-get_or ways j None (omega arith) ∙ ap (λ w. Some w) e)) h.0 h.1

        by_place : (y : ℕ) → number_named (names_of library) model ≡ Some y → (j : ℕ) × (j < place) × (get_or order j 0 ≡ y) → IsWay library order place way
        by_place y named (j, lower, at) = by_way y j named lower at (get_or ways j None) refl (subst (λ o. IsHandedWay o bindings way) found handed)
          where
            found : entry_named (names_of library) positions ways model ≡ get_or ways j None
            found = ap (option_and_then (entry_at positions ways)) named ∙ ap (option_and_then (λ p. get_or ways p None)) (subst (λ v. slice_get positions v ≡ Some j) at (places j (omega arith)))

        by_number : (o : Option ℕ) → number_named (names_of library) model ≡ o → IsWay library order place way
        by_number None e = absurd (subst (λ o. IsHandedWay o bindings way) (ap (option_and_then (entry_at positions ways)) e) handed)
        by_number (Some y) e = by_place y e (placed_before place i y model bindings here only.within is e)

  -- ---- what may stand for a model

  -- its own elements
  pub itself_stands : (place : ℕ) → place < length order → StandFor library order place (model_at library (get_or order place 0)).elements
  itself_stands place below = record {
    same = λ depth levels deep. refl;
    placed = λ i model bindings y within is named. placed_before place i y model bindings below within is named;
  }

  -- the statement of its way
  pub way_stands : (place : ℕ) (way : Way) (model : List ℕ) → IsWay library order place way → get_or order place 0 ≢ way.base → number_named (names_of library) model ≡ Some way.base → StandFor library order place (Instance model way.nets.items ∷ [])
  way_stands place way model w other named = record {
    same = same;
    placed = placed;
  }
    where
      strict : w.end < place
      strict = let ne : w.end ≢ place = (λ e. other (sym (ap (λ p. get_or order p 0) e) ∙ w.base)) in let b = w.before in omega arith

      same : (depth : ℕ) (levels : List Level) → place ≤ depth → elements_with (elements_to library depth) levels 0 (Instance model way.nets.items ∷ []) ≡ elements_with (elements_to library depth) levels 0 (model_at library (get_or order place 0)).elements
      same zero levels deep = absurd (let s = strict in omega arith)
      same (suc depth) levels deep =
          one_statement library depth 0 way.base levels model way.nets.items named
          ∙ (w.made depth 0 (record { path = path_of levels ++ 0 ∷ []; bindings = way.nets.items } ∷ levels) (let s = strict in omega arith)
          ∙ (nets_same (record { path = path_of levels ++ 0 ∷ []; bindings = way.nets.items } ∷ levels) (bound_at way.nets.items levels) w.elements (λ name among. any_path (path_of levels ++ 0 ∷ []) way.nets.items levels name (w.bound name among))
          ∙ sym (w.same (suc depth) 0 levels deep)))

      placed : (i : ℕ) (name : List ℕ) (bindings : List (List ℕ × List ℕ)) (y : ℕ) → i < 1 → get_or (Instance model way.nets.items ∷ []) i no_element ≡ Instance name bindings → number_named (names_of library) name ≡ Some y → (j : ℕ) × (j < place) × (get_or order j 0 ≡ y)
      placed zero name bindings y l is e = (w.end, strict, w.base ∙ (let same_name : model ≡ name = cc in let both : Some way.base ≡ Some y = sym named ∙ (ap (number_named (names_of library)) same_name ∙ e) in let out : way.base ≡ y = cc in out))
      placed (suc i) name bindings y l is e = absurd (omega arith)
