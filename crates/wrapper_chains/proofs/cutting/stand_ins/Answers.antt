use Rattle.std.proofs.Common.{◌≡◌, ◌<◌, ◌∙◌, suc, length, get_or, refl, drop, map, sym, ap, subst, arith}
use Rattle.std.specs.Vec.Iter.{into_iter_items}
use Rattle.std.proofs.lemmas.List.{length_push, get_or-map}
use Rattle.blif_text.specs.Views.{plain_model}
use Rattle.library_faults.specs.Flat.{no_model}
use Rattle.library_faults.specs.Private.Models.{model_at}
use Rattle.wrapper_chains.specs.Private.Ways.{IsShort}
use Rattle.library_faults.proofs.Items.{next_left}
use Rattle.wrapper_chains.proofs.WayLaws.{shorts_more}
use Rattle.wrapper_chains.proofs.cutting.stand_ins.Goals as goal

pub loop-model-preserved : goal.loop-model-preserved
loop-model-preserved c = record {
  within = omega (arith, longer, here.0);
  left = here.2 ∙ ap (λ n. drop n c.args.models.items) (sym longer);
  each = λ k below. subst (λ found. IsShort c.args.looked.now.names.keys c.args.looked.now.positions.items c.args.ways.now k (model_at (map plain_model c.args.models.items) k) (model_at (map plain_model found) k)) (sym c.in_ok-push.ensures.items)
      (shorts_more (map plain_model c.args.models.items) c.loop-model.found.items c.args.looked.now.names.keys c.args.looked.now.positions.items c.args.ways.now (length c.loop-model.found.items) c.in-Some.model c.in_ok-short.short refl
      (get_or-map plain_model c.args.models.items (length c.loop-model.found.items) c.in-Some.model no_model here.0 ∙ ap plain_model here.1)
      c.loop-model.invariant.each
      (subst (λ x. IsShort c.args.looked.now.names.keys c.args.looked.now.positions.items c.args.ways.now x (plain_model c.in-Some.model) (plain_model c.in_ok-short.short)) number c.in_ok-short.ensures)
      k (omega (arith, below, longer)));
}
  where
    number : c.len-x.result ≡ length c.loop-model.found.items
    number = omega (arith, c.len-x.ensures)

    here : (length c.loop-model.found.items < length c.args.models.items) × (get_or c.args.models.items (length c.loop-model.found.items) c.in-Some.model ≡ c.in-Some.model) × (into_iter_items c.next.new.self ≡ drop (suc (length c.loop-model.found.items)) c.args.models.items)
    here = next_left (length c.loop-model.found.items) c.args.models.items c.in-Some.model c.in-Some.model (into_iter_items c.next.new.self) (sym c.in-Some.ensures.steps.0 ∙ c.loop-model.invariant.left)

    longer : length c.push.new.self.items ≡ suc (length c.loop-model.found.items)
    longer = omega (arith, ap length c.in_ok-push.ensures.items, length_push c.loop-model.found.items c.in_ok-short.short)
