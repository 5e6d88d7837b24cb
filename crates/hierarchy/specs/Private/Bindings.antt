-- Statements made ready to be followed.
use Rattle.std.specs.Prelude.{◌≡◌, ℕ, Bool, List, [], ◌∷◌, Option, Some, None}
use Rattle.std.specs.Str.{bytes_eq}
use Rattle.indexmap.specs.IndexMap.{IndexMap, get}
use Rattle.blif_text.specs.Models.{PlainElement, Table, Register, Instance, PlainModel}
use Rattle.hierarchy.specs.declared.walking.bindings.Link.{Link}
use Rattle.library_faults.specs.Graph.{number_named}
use Rattle.library_faults.specs.Flat.{actual_of}
use Rattle.wrapper_chains.specs.Bare.{filled}
use Rattle.hierarchy.specs.declared.walking.bindings.Row.{Row}

-- what a statement places, where an element stands in it
abbrev pub target_of : List (List ℕ) → List Bool → PlainElement → Option ℕ
target_of names holds (Table pins out cover) = None
target_of names holds (Register pin out control init) = None
target_of names holds (Instance model bindings) = filled holds (number_named names model)

-- what a statement binds
abbrev pub bindings_of : PlainElement → List (List ℕ × List ℕ)
bindings_of (Table pins out cover) = []
bindings_of (Register pin out control init) = []
bindings_of (Instance model bindings) = bindings

-- what the bindings bind each formal to, where it is kept by name
abbrev pub Binds : {S : Type 0} → Option (IndexMap (List ℕ) (List ℕ) S) → List (List ℕ × List ℕ) → Type 0
Binds None bindings = Unit {0}
Binds (Some actuals) bindings = (name : List ℕ) → get bytes_eq actuals name ≡ actual_of bindings name

-- the link says what the statement places and binds
pub record IsLink (names : List (List ℕ)) (holds : List Bool) (link : Link) (element : PlainElement) : Type 0 where
  pub target : link.target ≡ target_of names holds element
  pub actuals : Binds link.actuals (bindings_of element)

-- one link for each element
abbrev pub AreLinks : List (List ℕ) → List Bool → List Link → List PlainElement → Type 0
AreLinks names holds [] [] = Unit {0}
AreLinks names holds [] (element ∷ elements) = ⊥
AreLinks names holds (link ∷ links) [] = ⊥
AreLinks names holds (link ∷ links) (element ∷ elements) = IsLink names holds link element × AreLinks names holds links elements

-- one row of links for each model
abbrev pub AreRows : List (List ℕ) → List Bool → List Row → List PlainModel → Type 0
AreRows names holds [] [] = Unit {0}
AreRows names holds [] (m ∷ models) = ⊥
AreRows names holds (row ∷ rows) [] = ⊥
AreRows names holds (row ∷ rows) (m ∷ models) = AreLinks names holds row.links.items m.elements × AreRows names holds rows models
