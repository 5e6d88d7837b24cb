use Rattle.std.proofs.Common.{◌≡◌, ◌∙◌, ◌||◌, not, Bool, sym, ap}
use Rattle.flat_net.specs.Net.{node_of, pins_at}
use Rattle.net_simulator.proofs.Literals.{row_pushed, always_pushed}
use Rattle.net_simulator.proofs.tables.push_rows.Goals.{then-always, else-always}
use Rattle.net_simulator.proofs.tables.push_rows.Goals as goal

pub loop-i-preserved : goal.loop-i-preserved
loop-i-preserved c =
    let pins = pins_at (node_of c.args.net.now.net c.args.x.0) in
    let joined : c.if-always.always ≡ (c.loop-i.always || not c.in_ok-some.some) =
    elim c.if-always.branch [
      | then-always w ↦ w.always-is ∙ (w.if-always.true ∙ sym (ap (λ (b : Bool). b || not c.in_ok-some.some) w.if-always.true))
      | else-always w ↦ w.always-is ∙ sym (ap (λ (b : Bool). b || not c.in_ok-some.some) w.if-always.false)
    ] in
    record {
      literals = row_pushed _ c.loop-i.literals.items c.push_row.new.literals.items c.args.cover.now.rows pins c.loop-i.i c.row.result.now c.loop-i.invariant.literals c.row.ensures.row c.in_ok-some.ensures.literals;
      some = always_pushed _ c.loop-i.always c.in_ok-some.some c.if-always.always c.args.cover.now.rows pins c.loop-i.i c.row.result.now c.loop-i.invariant.some c.row.ensures.row c.in_ok-some.ensures.some joined;
    }
