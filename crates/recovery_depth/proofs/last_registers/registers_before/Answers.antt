use Rattle.std.proofs.Common.{◌≡◌, ◌<◌, ◌-◌, ℕ, length, get_or, ◌∙◌, ap, refl, arith}
use Rattle.graph.specs.Rows.{row}
use Rattle.recovery_depth.specs.Walks.{is_marked}
use Rattle.recovery_depth.specs.Private.Vertices.{one_if, IsReachIn}
use Rattle.recovery_depth.specs.Private.LastRegisters.{number_at}
use Rattle.recovery_depth.proofs.LastRegisterLaws.{chosen_as, one_before, all_before}
use Rattle.recovery_depth.proofs.last_registers.registers_before.Goals as goal

pub loop-x-preserved : goal.loop-x-preserved
loop-x-preserved c =
    let x : ℕ = get_or c.args.order.now c.loop-x.x-index 0 in
    let target : c.saturating_sub-target.result ≡ number_at c.args.reaches.now x - one_if (is_marked c.args.is_register.now x) = c.saturating_sub-target.ensures ∙ (ap (λ (a : ℕ). a - c.own_count-own.result) c.reach_at.ensures ∙ ap (λ (b : ℕ). number_at c.args.reaches.now x - b) c.own_count-own.ensures) in
    let reached : (y : ℕ) → y < length c.args.graph.now → IsReachIn c.args.graph.now c.args.is_register.now y (number_at c.args.reaches.now y) = λ y l. c.requires.reached y (omega (arith, c.requires.count, l)) in
    one_before c.args.graph.now c.args.is_register.now c.args.reaches.now (c.requires.long ∙ c.requires.count) reached c.args.order.now c.loop-x.before.items c.loop-x.x-index x c.requires.ordered c.loop-x.invariant c.loop-x-test.true refl c.chosen.result _
    (chosen_as c.row.result.now (row c.args.graph.now x) c.args.reaches.now c.args.is_register.now c.as_slice.result.now c.loop-x.before.items c.args.count (length c.args.graph.now) c.saturating_sub-target.result (number_at c.args.reaches.now x - one_if (is_marked c.args.is_register.now x)) c.chosen.result c.row.ensures c.as_slice.ensures.value c.requires.count target c.chosen.ensures) refl

pub returns : goal.returns
returns c =
    all_before c.args.graph.now c.args.is_register.now c.args.order.now c.args.reaches.now c.loop-x.before.items c.loop-x.x-index c.requires.ordered c.loop-x.invariant c.loop-x-test.false
