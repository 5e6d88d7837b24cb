use Rattle.std.proofs.Common.{length, sym, ap, ◌∙◌}
use Rattle.std.specs.Prelude.{◌==◌}
use Rattle.std.proofs.lemmas.List.FromFn.{length-map-range_with_len}
use Rattle.tmr_trial.specs.Numbers.{draw}
use Rattle.tmr_trial.proofs.NearLaws.{row_alone, row_and_upset}
use Rattle.tmr_trial.proofs.near_schedules.draw_row_alone.Goals as goal

pub push_cycle-requires-clause-width : goal.push_cycle-requires-clause-width
push_cycle-requires-clause-width c =
    ap length (c.deref.ensures.value ∙ c.in_ok-draw_row.ensures.row) ∙ (length-map-range_with_len (λ i. draw c.args.numbers.now.state i 2 == 1) 0 c.input_count.result ∙ (c.input_count.ensures.count ∙ sym c.requires.drawn.inputs))

pub returns-then-node_count-eq0 : goal.returns-then-node_count-eq0
returns-then-node_count-eq0 c =
    row_alone c.args.number c.args.n.now.net c.args.h.now.net c.args.t c.args.numbers.now.state c.draw_row.new.numbers.state c.input_count.result c.args.s.now c.push_cycle.new.self c.deref.result.now
    c.requires.drawn c.input_count.ensures.count c.in_ok-push_cycle.ensures.ok (c.deref.ensures.value ∙ c.in_ok-draw_row.ensures.row) c.in_ok-draw_row.ensures.state (sym c.node_count.ensures ∙ c.if-node_count-eq0.true)

pub returns : goal.returns
returns c =
    row_and_upset c.args.number c.args.n.now.net c.args.h.now.net c.args.t c.args.numbers.now.state c.draw_row.new.numbers.state c.draw_upset-unused.new.numbers.state c.input_count.result c.args.s.now c.push_cycle.new.self c.deref.result.now
    c.requires.drawn c.input_count.ensures.count c.in_ok-push_cycle.ensures.ok (c.deref.ensures.value ∙ c.in_ok-draw_row.ensures.row) c.in_ok-draw_row.ensures.state (λ e. c.if-node_count-eq0.false (c.node_count.ensures ∙ e)) c.draw_upset-unused.ensures.state
