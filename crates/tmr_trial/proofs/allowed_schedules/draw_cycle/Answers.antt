use Rattle.std.proofs.Common.{length, sym, ap, ◌∙◌, arith}
use Rattle.std.specs.Prelude.{◌==◌}
use Rattle.std.proofs.lemmas.List.FromFn.{length-map-range_with_len}
use Rattle.tmr_base.specs.declared.ids.Upset.{Upset}
use Rattle.tmr_trial.specs.Numbers.{draw}
use Rattle.tmr_trial.proofs.Cycles.{quiet_cycle, next_upset, struck_cycle}
use Rattle.tmr_trial.proofs.allowed_schedules.draw_cycle.Goals as goal

pub push_cycle-requires-clause-width : goal.push_cycle-requires-clause-width
push_cycle-requires-clause-width c =
    ap length (c.deref.ensures.value ∙ c.in_ok-draw_row.ensures.row) ∙ (length-map-range_with_len (λ i. draw c.args.numbers.now.state i 2 == 1) 0 c.input_count.result ∙ (c.input_count.ensures.count ∙ sym c.requires.drawn.schedule.inputs))

pub returns-then-node_count-eq0 : goal.returns-then-node_count-eq0
returns-then-node_count-eq0 c =
    quiet_cycle c.args.trial.now.number c.args.trial.now.original.now.net c.args.trial.now.hardened.now.net c.args.trial.now.certificate.now c.args.t c.args.numbers.now.state c.draw_row.new.numbers.state c.input_count.result c.args.strikes.now.items c.args.s.now c.push_cycle.new.self c.deref.result.now c.requires.drawn c.input_count.ensures.count c.in_ok-push_cycle.ensures.ok (c.deref.ensures.value ∙ c.in_ok-draw_row.ensures.row) c.in_ok-draw_row.ensures.state (sym c.node_count.ensures ∙ c.if-node_count-eq0.true)

pub add_if_allowed-requires : goal.add_if_allowed-requires
add_if_allowed-requires c =
    next_upset c.args.trial.now.number c.args.trial.now.original.now.net c.args.trial.now.hardened.now.net c.args.trial.now.certificate.now c.args.t c.args.numbers.now.state c.args.strikes.now.items c.args.s.now c.push_cycle.new.self c.deref.result.now c.draw_upset-u.result c.requires.drawn c.requires.room c.in_ok-push_cycle.ensures.ok (ap (λ (u : Upset). u.cycle) c.draw_upset-u.ensures.upset) (omega (arith, c.draw_upset-u.ensures.low, c.requires.fits.hardened_inputs)) (omega (arith, c.draw_upset-u.ensures.high, c.requires.fits.hardened_inputs, c.requires.fits.hardened_nodes))

pub returns : goal.returns
returns c =
    struck_cycle c.args.trial.now.number c.args.trial.now.original.now.net c.args.trial.now.hardened.now.net c.args.trial.now.certificate.now c.args.t c.args.numbers.now.state c.draw_row.new.numbers.state c.draw_upset-u.new.numbers.state c.input_count.result c.args.strikes.now.items c.add_if_allowed.new.strikes.items c.args.s.now c.push_cycle.new.self c.add_if_allowed.new.s c.deref.result.now c.draw_upset-u.result c.requires.drawn c.input_count.ensures.count c.in_ok-push_cycle.ensures.ok (c.deref.ensures.value ∙ c.in_ok-draw_row.ensures.row) c.in_ok-draw_row.ensures.state (λ e. c.if-node_count-eq0.false (c.node_count.ensures ∙ e)) c.draw_upset-u.ensures.upset (omega (arith, c.draw_upset-u.ensures.low, c.requires.fits.hardened_inputs)) (omega (arith, c.draw_upset-u.ensures.high, c.requires.fits.hardened_inputs, c.requires.fits.hardened_nodes)) c.draw_upset-u.ensures.state c.in_ok-add_if_allowed.ensures.added c.in_ok-add_if_allowed.ensures.inputs c.in_ok-add_if_allowed.ensures.rows c.in_ok-add_if_allowed.ensures.starts c.in_ok-add_if_allowed.ensures.allowed c.in_ok-add_if_allowed.ensures.strikes
