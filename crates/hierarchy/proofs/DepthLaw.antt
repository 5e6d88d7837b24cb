-- More models below one another than a library has give no further flat elements.
use Rattle.std.proofs.Common.{◌≡◌, ℕ, ◌<◌, [], ◌∷◌, length, get_or, arith}
use Rattle.library_faults.specs.Graph.{main}
use Rattle.library_faults.specs.Flat.{main_of, main_level, elements_with, elements_to, flat_elements}
use Rattle.wrapper_chains.proofs.ChainLaws.{order_within}
use Rattle.wrapper_chains.proofs.StandIns.{deep_alike}
use Rattle.hierarchy.specs.Laws.{DepthSuffices}

pub depth_law : DepthSuffices
depth_law library depth sound deep = go (sound.ordered.complete 0 main)
  where
    go : (k : ℕ) × (k < length sound.order) × (get_or sound.order k 0 ≡ 0) → elements_with (elements_to library depth) (main_level ∷ []) 0 (main_of library).elements ≡ flat_elements library
    go (k, below, at) =
        let first : get_or sound.order k 0 < length library = order_within library sound.order sound.ordered k below in
        deep_alike library sound.order depth sound.placeable sound.ordered (omega (arith, at, first)) deep
