-- Links made one by one.
use Rattle.std.proofs.Common.{◌≡◌, ℕ, ◌+◌, ◌<◌, Bool, List, [], ◌∷◌, ◌++◌, length, get_or, take, map}
use Rattle.std.proofs.lemmas.List.{take_more, map-append}
use Rattle.blif_text.specs.Models.{PlainElement, PlainModel}
use Rattle.blif_text.specs.declared.library.BlifModel.{BlifModel}
use Rattle.blif_text.specs.declared.library.Element.{Element}
use Rattle.blif_text.specs.Views.{plain_model, plain_element}
use Rattle.hierarchy.specs.declared.walking.bindings.Link.{Link}
use Rattle.hierarchy.specs.declared.walking.bindings.Row.{Row}
use Rattle.hierarchy.specs.Private.Bindings.{IsLink, AreLinks, AreRows}

link_push : (names : List (List ℕ)) (holds : List Bool) (links : List Link) (elements : List PlainElement) (link : Link) (element : PlainElement) → AreLinks names holds links elements → IsLink names holds link element → AreLinks names holds (links ++ link ∷ []) (elements ++ element ∷ [])
link_push names holds [] [] link element all one = (one, tt)
link_push names holds [] (e ∷ elements) link element all one = absurd all
link_push names holds (l ∷ links) [] link element all one = absurd all
link_push names holds (l ∷ links) (e ∷ elements) link element all one = (all.0, link_push names holds links elements link element all.1 one)

row_push : (names : List (List ℕ)) (holds : List Bool) (rows : List Row) (models : List PlainModel) (row : Row) (m : PlainModel) → AreRows names holds rows models → AreLinks names holds row.links.items m.elements → AreRows names holds (rows ++ row ∷ []) (models ++ m ∷ [])
row_push names holds [] [] row m all one = (one, tt)
row_push names holds [] (e ∷ models) row m all one = absurd all
row_push names holds (l ∷ rows) [] row m all one = absurd all
row_push names holds (l ∷ rows) (e ∷ models) row m all one = (all.0, row_push names holds rows models row m all.1 one)

pub link_more : (names : List (List ℕ)) (holds : List Bool) (links : List Link) (elements : List Element) (i : ℕ) (link : Link) (e : Element) → i < length elements → e ≡ get_or elements i e → AreLinks names holds links (map plain_element (take i elements)) → IsLink names holds link (plain_element e) → AreLinks names holds (links ++ link ∷ []) (map plain_element (take (i + 1) elements))
link_more names holds links elements i link e below is all one =
    rw (take_more elements i e below, map-append, ← is) (link_push names holds links (map plain_element (take i elements)) link (plain_element e) all one)

pub row_more : (names : List (List ℕ)) (holds : List Bool) (rows : List Row) (models : List BlifModel) (i : ℕ) (row : Row) (m : BlifModel) → i < length models → m ≡ get_or models i m → AreRows names holds rows (map plain_model (take i models)) → AreLinks names holds row.links.items (map plain_element m.elements.items) → AreRows names holds (rows ++ row ∷ []) (map plain_model (take (i + 1) models))
row_more names holds rows models i row m below is all one =
    rw (take_more models i m below, map-append, ← is) (row_push names holds rows (map plain_model (take i models)) row (plain_model m) all one)

pub ruleset linking_laws = (link_more, row_more)
