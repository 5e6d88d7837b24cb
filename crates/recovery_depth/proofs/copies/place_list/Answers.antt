use Rattle.std.proofs.Common.{◌<◌, ◌≤◌, ℕ, ◌⊎◌, ◌++◌, ◌∷◌, [], List, length, map, get_or, sym, ◌∙◌, ap, subst, inl, inr, arith}
use Rattle.std.specs.Prelude.{All}
use Rattle.std.specs.List.{range_with_len}
use Rattle.std.proofs.lemmas.Bool.{cases_lt}
use Rattle.std.proofs.lemmas.List.{get_or_append_left, get_or_push, length_push}
use Rattle.std.proofs.lemmas.List.FromFn.{map-range_with_len_more}
use Rattle.recovery_depth.specs.Private.ChainEnds.{place_at}
use Rattle.recovery_depth.proofs.copies.place_list.Goals as goal

all_push : (count : ℕ) (xs : List ℕ) (y : ℕ) → All (λ p. p < count) xs → y < count → All (λ p. p < count) (xs ++ y ∷ [])
all_push count xs y all l k d h = go (cases_lt k (length xs))
  where
    go : (k < length xs) ⊎ (length xs ≤ k) → get_or (xs ++ y ∷ []) k d < count
    go (inl m) = subst (λ v. v < count) (sym (get_or_append_left xs (y ∷ []) d k m)) (all k d m)
    go (inr m) = subst (λ v. v < count) (sym (get_or_push xs y d k (omega (arith, length_push xs y, h, m)))) l

pub loop-g-preserved : goal.loop-g-preserved
loop-g-preserved c = record {
  places = c.in_ok-push.ensures.items ∙ (ap (λ g. g ++ c.place.result ∷ []) c.loop-g.invariant.places
      ∙ (ap (λ b. map (place_at c.args.h.now.net c.args.c.now) (range_with_len 0 c.loop-g.g) ++ b ∷ []) c.place.ensures.place
      ∙ sym (map-range_with_len_more (place_at c.args.h.now.net c.args.c.now) 0 c.loop-g.g c.loop-g.g (omega arith))));
  range = subst (All (λ p. p < length c.args.c.now.depth)) (sym c.in_ok-push.ensures.items) (all_push (length c.args.c.now.depth) c.loop-g.places.items c.place.result c.loop-g.invariant.range c.place.ensures.range);
}
