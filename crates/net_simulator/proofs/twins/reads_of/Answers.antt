use Rattle.std.proofs.Common.{arith, ◌++◌, ◌∷◌, [], map, sym, ◌∙◌, ap}
use Rattle.std.specs.List.{range_with_len}
use Rattle.std.proofs.lemmas.List.FromFn.{map-range_with_len_more}
use Rattle.net_simulator.specs.Beside.{net_row}
use Rattle.net_simulator.proofs.twins.reads_of.Goals as goal

pub loop-y-preserved : goal.loop-y-preserved
loop-y-preserved c =
    c.in_ok-push.ensures ∙ (ap (λ g. g ++ c.deref.result.now ∷ []) c.loop-y.invariant
    ∙ (ap (λ r. map (net_row c.args.h.now.net) (range_with_len 0 c.loop-y.y) ++ r ∷ []) (c.deref.ensures.value ∙ c.in_ok-put_pins.ensures)
    ∙ sym (map-range_with_len_more (net_row c.args.h.now.net) 0 c.loop-y.y c.loop-y.y (omega arith))))
