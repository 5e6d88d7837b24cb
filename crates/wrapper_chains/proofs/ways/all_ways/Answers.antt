use Rattle.std.proofs.Common.{◌+◌, ◌∙◌, ap, sym, subst, length, map}
use Rattle.std.specs.Prelude.{IfSome}
use Rattle.std.proofs.lemmas.List.{length_push}
use Rattle.blif_text.specs.Views.{plain_model}
use Rattle.wrapper_chains.specs.Private.Ways.{IsWay, AreWays}
use Rattle.wrapper_chains.proofs.WayLaws.{ways_more}
use Rattle.wrapper_chains.proofs.ways.all_ways.Goals as goal

pub loop-x-preserved : goal.loop-x-preserved
loop-x-preserved c = record {
  long = ap length c.in_ok-push.ensures.items ∙ (length_push c.loop-x.ways.items c.in_ok-way.way ∙ ap (λ n. n + 1) c.loop-x.invariant.long);
  all = subst (AreWays (map plain_model c.args.models.now) c.args.looked.now.order.items) (sym c.in_ok-push.ensures.items)
      (ways_more (map plain_model c.args.models.now) c.args.looked.now.order.items c.loop-x.ways.items c.in_ok-way.way c.loop-x.invariant.all
      (subst (λ ws. IfSome c.in_ok-way.way (λ way. IsWay (map plain_model c.args.models.now) c.args.looked.now.order.items (length ws) way)) c.deref.ensures.value c.in_ok-way.ensures));
}
