-- Where each model stands after those that it places, none is in a loop.
use Rattle.std.proofs.Common.{◌≡◌, ℕ, ◌<◌, List, length, sym, subst, ◌∙◌}
use Rattle.std.specs.Prelude.{slice_index, Contains}
use Rattle.std.proofs.lemmas.List.{get_or_default}
use Rattle.flat_net.proofs.NoLoop.{Meets, none_contained, next_around}
use Rattle.library_faults.specs.Graph.{row, Places}
use Rattle.library_faults.specs.Library.{IsLoop}
use Rattle.library_faults.specs.Found.{IsOrder}

pub no_model_loop : (rows : List (List ℕ)) (order models : List ℕ) → IsOrder rows order → IsLoop rows models → ⊥
no_model_loop rows order models ordered loop = none_contained order models before loop.some (ordered.complete (slice_index models 0) (loop.reached 0 loop.some))
  where
    before : (k j : ℕ) → k < length order → j < length models → slice_index order k ≡ slice_index models j → Meets order models k
    before k j h l e =
        let (at, within, places) = next_around (Places rows) models loop.some loop.next loop.closed j l in
        let (i, below, is) = subst (λ (x : ℕ). Contains (row rows x) (slice_index models at)) (sym e) places in
        let (place, earlier, same) = ordered.after k i h below in
        record {
          place = place;
          at = at;
          earlier = earlier;
          within = within;
          same = same ∙ (get_or_default (row rows (slice_index order k)) i 0 (slice_index models at) below ∙ is);
        }
