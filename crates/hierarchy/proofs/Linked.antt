-- The link of an element.
use Rattle.std.proofs.Common.{◌≡◌, ℕ, zero, suc, ◌<◌, Bool, List, [], ◌∷◌, length, refl, ap, subst, arith, Option, Some, None}
use Rattle.std.specs.Prelude.{slice_get, slice_index_or}
use Rattle.blif_text.specs.Models.{PlainElement, PlainModel}
use Rattle.hierarchy.specs.declared.walking.bindings.Link.{Link}
use Rattle.hierarchy.specs.declared.walking.bindings.Row.{Row}
use Rattle.library_faults.specs.Flat.{no_model}
use Rattle.hierarchy.specs.Private.Bindings.{IsLink, AreLinks, AreRows}
use Rattle.library_faults.specs.Private.Models.{model_at, no_element, element_at}

links_long : (names : List (List ℕ)) (holds : List Bool) (links : List Link) (elements : List PlainElement) → AreLinks names holds links elements → length links ≡ length elements
links_long names holds [] [] a = refl
links_long names holds [] (e ∷ elements) a = absurd a
links_long names holds (l ∷ links) [] a = absurd a
links_long names holds (l ∷ links) (e ∷ elements) a = ap suc (links_long names holds links elements a.1)

pub rows_long : (names : List (List ℕ)) (holds : List Bool) (rows : List Row) (models : List PlainModel) → AreRows names holds rows models → length rows ≡ length models
rows_long names holds [] [] a = refl
rows_long names holds [] (e ∷ models) a = absurd a
rows_long names holds (l ∷ rows) [] a = absurd a
rows_long names holds (l ∷ rows) (e ∷ models) a = ap suc (rows_long names holds rows models a.1)

link_is : (names : List (List ℕ)) (holds : List Bool) (links : List Link) (elements : List PlainElement) (i : ℕ) (link : Link) → AreLinks names holds links elements → slice_get links i ≡ Some link → IsLink names holds link (slice_index_or elements i no_element)
link_is names holds [] [] i link a e = absurd cc
link_is names holds [] (x ∷ elements) i link a e = absurd a
link_is names holds (l ∷ links) [] i link a e = absurd a
link_is names holds (l ∷ links) (x ∷ elements) zero link a e = let same : l ≡ link = cc in subst (λ k. IsLink names holds k x) same a.0
link_is names holds (l ∷ links) (x ∷ elements) (suc i) link a e = link_is names holds links elements i link a.1 e

row_is : (names : List (List ℕ)) (holds : List Bool) (rows : List Row) (models : List PlainModel) (x : ℕ) (row : Row) → AreRows names holds rows models → slice_get rows x ≡ Some row → AreLinks names holds row.links.items (slice_index_or models x no_model).elements
row_is names holds [] [] i row a e = absurd cc
row_is names holds [] (x ∷ models) i row a e = absurd a
row_is names holds (l ∷ rows) [] i row a e = absurd a
row_is names holds (l ∷ rows) (x ∷ models) zero row a e = let same : l ≡ row = cc in subst (λ k. AreLinks names holds k.links.items x.elements) same a.0
row_is names holds (l ∷ rows) (x ∷ models) (suc i) row a e = row_is names holds rows models i row a.1 e

module _ (library : List PlainModel) (names : List (List ℕ)) (holds : List Bool) (rows : List Row) (a : AreRows names holds rows library) where
  pub row_long : (x i : ℕ) (row : Row) → i < length (model_at library x).elements → slice_get rows x ≡ Some row → i < length row.links.items
  row_long x i row below e = omega (arith, links_long names holds row.links.items (model_at library x).elements (row_is names holds rows library x row a e))

  pub link_of : (x i : ℕ) (row : Row) (link : Link) → slice_get rows x ≡ Some row → slice_get row.links.items i ≡ Some link → IsLink names holds link (element_at library x i)
  link_of x i row link e f = link_is names holds row.links.items (model_at library x).elements i link (row_is names holds rows library x row a e) f

  pub some_row : (x : ℕ) → x < length library → (row : Row) × (slice_get rows x ≡ Some row)
  some_row x below = go (slice_get rows x) refl
    where
      go : (o : Option Row) → slice_get rows x ≡ o → (row : Row) × (slice_get rows x ≡ Some row)
      go (Some row) e = (row, e)
      go None e = absurd (there rows x (omega (arith, rows_long names holds rows library a)) e)
        where
          there : (rows : List Row) (x : ℕ) → x < length rows → slice_get rows x ≡ None → ⊥
          there [] x h e = omega arith
          there (r ∷ rows) zero h e = cc
          there (r ∷ rows) (suc x) h e = there rows x (omega arith) e
