-- What a graph of models keeps.
use Rattle.std.proofs.Common.{◌≡◌, ℕ, ◌<◌, List, [], ◌∷◌, length, refl, arith, Option, Some, None, cond, Bool, true, false, nat_lt}
use Rattle.std.specs.Prelude.{All, option_to_list}
use Rattle.std.specs.Str.{bytes_eq}
use Rattle.std.specs.List.{position_or_len}
use Rattle.std.proofs.lemmas.Grind.{common_steps}
use Rattle.std.proofs.lemmas.List.{length-map}
use Rattle.std.proofs.lemmas.List.Elements.{All-append, All-cons, All-nil}
use Rattle.blif_text.specs.Models.{PlainElement, Table, Register, Instance, PlainModel}
use Rattle.blif_text.specs.Library.{name_of}
use Rattle.library_faults.specs.Graph.{names_of, number_named, placed_by, placed_in, placed_of, graph}
use Rattle.library_faults.specs.Private.Rows.{AreWithin}
use Rattle.library_faults.proofs.Items.{all_map}

pub number_within : (names : List (List ℕ)) (name : List ℕ) (x : ℕ) → number_named names name ≡ Some x → x < length names
unfolding number_named
number_within names name x e = go (nat_lt (position_or_len (bytes_eq name) names) (length names)) refl e
  where
    go : (b : Bool) → nat_lt (position_or_len (bytes_eq name) names) (length names) ≡ b → cond b (Some (position_or_len (bytes_eq name) names)) None ≡ Some x → x < length names
    go true below same = grind (arith, common_steps)
    go false below same = absurd cc

one_within : (names : List (List ℕ)) (o : Option ℕ) → ((x : ℕ) → o ≡ Some x → x < length names) → All (λ x. x < length names) (option_to_list o)
one_within names None h = All-nil (λ x. x < length names)
one_within names (Some x) h = All-cons (λ x. x < length names) x [] (h x refl) (All-nil (λ x. x < length names))

by_within : (names : List (List ℕ)) (e : PlainElement) → All (λ x. x < length names) (placed_by names e)
by_within names (Table pins out cover) = All-nil (λ x. x < length names)
by_within names (Register pin out control init) = All-nil (λ x. x < length names)
by_within names (Instance model bindings) = one_within names (number_named names model) (λ x. number_within names model x)

in_within : (names : List (List ℕ)) (es : List PlainElement) → All (λ x. x < length names) (placed_in names es)
unfolding placed_in
in_within names [] = All-nil (λ x. x < length names)
in_within names (e ∷ es) = All-append (λ x. x < length names) (placed_by names e) (placed_in names es) (by_within names e) (in_within names es)

pub graph_within : (library : List PlainModel) → AreWithin (graph library)
graph_within library = all_map (λ row. All (λ x. x < length (graph library)) row) (placed_of (names_of library)) library (λ m. row_within m)
  where
    row_within : (m : PlainModel) → All (λ x. x < length (graph library)) (placed_of (names_of library) m)
    row_within m k d below =
        let inner = in_within (names_of library) m.elements k d below in
        omega (arith, length-map library name_of, length-map library (placed_of (names_of library)))
