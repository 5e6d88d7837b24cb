use Rattle.std.proofs.Common.{arith, ◌++◌, ◌∷◌, [], map, sym, ◌∙◌, ap}
use Rattle.std.specs.List.{range_with_len}
use Rattle.std.proofs.lemmas.List.FromFn.{map-range_with_len_more}
use Rattle.flat_net.specs.Private.TableReads.{table_row}
use Rattle.flat_net.proofs.building.order.table_reads.Goals as goal

pub loop-y-preserved : goal.loop-y-preserved
loop-y-preserved c =
    c.in_ok-push.ensures ∙ (ap (λ g. g ++ c.deref.result.now ∷ []) c.loop-y.invariant
    ∙ (ap (λ r. map (table_row c.args.wiring.now) (range_with_len 0 c.loop-y.y) ++ r ∷ []) (c.deref.ensures.value ∙ c.in_ok-put_row.ensures)
    ∙ sym (map-range_with_len_more (table_row c.args.wiring.now) 0 c.loop-y.y c.loop-y.y (omega arith))))
