-- The names of the models of a loop.
use Rattle.std.proofs.Common.{◌≡◌, ℕ, ◌+◌, ◌<◌, List, [], ◌∷◌, ◌++◌, length, get_or, take, sym, refl, ◌∙◌, subst, arith}
use Rattle.std.specs.Prelude.{All}
use Rattle.std.proofs.lemmas.List.{length-map, take_more, map-append, get_or_default}
use Rattle.blif_text.specs.Library.{name_of, IsLibrary}
use Rattle.blif_text.specs.Models.{PlainModel}
use Rattle.library_faults.specs.Graph.{graph, names_of, placed_of}
use Rattle.library_faults.specs.Library.{IsLoop, picked}
use Rattle.library_faults.proofs.GraphLaws.{graph_within}
use Rattle.library_faults.proofs.ModelOrders.{reached_within}

pub picked_one : (names : List (List ℕ)) (found : List (List ℕ)) (models : List ℕ) (i x : ℕ) (item name : List ℕ) → i < length models → x ≡ get_or models i 0 → x < length names → item ≡ get_or names x item → name ≡ item → found ≡ picked names (take i models) → found ++ name ∷ [] ≡ picked names (take (i + 1) models)
unfolding picked
picked_one names found models i x item name below at within is copied so_far =
    let e : get_or names x [] ≡ name = get_or_default names x [] item within ∙ (sym is ∙ sym copied) in
    rw (take_more models i 0 below, map-append, ← at, e, so_far) refl

pub loop_within : (library : List PlainModel) (models : List ℕ) → 0 < length library → IsLoop (graph library) models → All (λ x. x < length (names_of library)) models
loop_within library models some l k d below =
    let within : get_or models k 0 < length (graph library) = reached_within (graph library) (graph_within library) (omega (arith, length-map library (placed_of (names_of library)))) (get_or models k 0) (l.reached k below) in
    omega (arith, within, get_or_default models k d 0 below, length-map library (placed_of (names_of library)), length-map library name_of)

pub loop_at : (library : List PlainModel) (rows : List (List ℕ)) (names : List (List ℕ)) (models : List ℕ) → IsLibrary library → names ≡ names_of library → rows ≡ graph library → IsLoop rows models → All (λ x. x < length names) models
loop_at library rows names models l n g loop = subst (λ ns. All (λ x. x < length ns) models) (sym n) (loop_within library models l.some (subst (λ r. IsLoop r models) g loop))

pub ruleset loop_laws = (picked_one, loop_at)
