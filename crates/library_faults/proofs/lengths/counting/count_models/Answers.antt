use Rattle.std.proofs.Common.{◌≡◌, ◌<◌, ◌+◌, ◌∙◌, ℕ, length, map, get_or, sym, ap, subst, arith}
use Rattle.std.proofs.lemmas.List.{length_push, length-map}
use Rattle.blif_text.specs.Views.{plain_model}
use Rattle.library_faults.specs.Graph.{names_of, placed_of}
use Rattle.library_faults.specs.Private.Counts.{AreCounted}
use Rattle.library_faults.proofs.AllCounts.{counts_more, model_counted, all_told}
use Rattle.library_faults.proofs.lengths.counting.count_models.Goals as goal

pub loop-x-preserved : goal.loop-x-preserved
loop-x-preserved c = record {
  long = ap length c.in_ok-push.ensures.items ∙ (length_push c.loop-x.counts.items c.in_ok-count.count ∙ ap (λ n. n + 1) c.loop-x.invariant.long);
  counted = subst (AreCounted (map plain_model c.args.models.now) c.args.limit c.args.order.now) (sym c.in_ok-push.ensures.items)
      (counts_more (map plain_model c.args.models.now) c.args.limit c.args.order.now c.args.positions.now c.loop-x.counts.items c.requires.placeable c.requires.ordered c.requires.places c.loop-x.invariant.counted here c.in_ok-count.count x at
      (λ depth deep. model_counted c.args.models.now c.args.limit c.index-models-x.result x c.in_ok-count.count c.in_ok-formals.formals.keys c.args.names.now.keys c.args.positions.now c.deref.result.now c.loop-x.counts.items depth c.requires.names c.deref.ensures.value c.in_ok-formals.ensures within c.index-models-x.is c.in_ok-count.ensures
      (all_told (map plain_model c.args.models.now) c.args.limit c.args.order.now c.args.positions.now c.loop-x.counts.items c.requires.placeable c.requires.ordered c.requires.places c.loop-x.invariant.counted here x depth at deep)));
}
  where
    here : length c.loop-x.counts.items < length c.args.order.now
    here = omega (arith, c.loop-x.invariant.long)

    x : ℕ
    x = get_or c.args.order.now c.loop-x.x-index 0

    at : get_or c.args.order.now (length c.loop-x.counts.items) 0 ≡ x
    at = ap (λ k. get_or c.args.order.now k 0) c.loop-x.invariant.long

    within : x < length c.args.models.now
    within = omega (arith, c.requires.ordered.within c.loop-x.x-index c.loop-x-test.true, length-map c.args.models.now plain_model, length-map (map plain_model c.args.models.now) (placed_of (names_of (map plain_model c.args.models.now))))

pub formals_of-requires : goal.formals_of-requires
formals_of-requires c = omega (arith, c.requires.ordered.within c.loop-x.x-index c.loop-x-test.true, length-map c.args.models.now plain_model, length-map (map plain_model c.args.models.now) (placed_of (names_of (map plain_model c.args.models.now))))

pub bounds-models-x : goal.bounds-models-x
bounds-models-x c = omega (arith, c.requires.ordered.within c.loop-x.x-index c.loop-x-test.true, length-map c.args.models.now plain_model, length-map (map plain_model c.args.models.now) (placed_of (names_of (map plain_model c.args.models.now))))
