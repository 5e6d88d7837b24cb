use Rattle.std.proofs.Common.{◌≡◌, ◌*◌, ◌<◌, ℕ, List, Bool, Some, length, get_or, slice_get, refl, sym, subst, arith}
use Rattle.std.specs.Prelude.{All, IsTrue, ◌↔◌}
use Rattle.flat_net.specs.Net.{net_count}
use Rattle.std.proofs.lemmas.Option.{slice_get-get_or, slice_get_within, slice_get_read}
use Rattle.flat_net.proofs.Slots.{slice_get_there}
use Rattle.certificate.specs.Schedules.{Allowed}
use Rattle.schedule_replay.specs.declared.outcome.Outcome.{Outcome}
use Rattle.schedule_replay.specs.Outcome.{IsOutcome}
use Rattle.schedule_replay.specs.OutcomeView.{plain_outcome}
use Rattle.schedule_replay.specs.Running.{Traces, AreTracesOf, BeginWith}
use Rattle.schedules.specs.Schedule.{PlainSchedule, IsPlainSchedule}
use Rattle.schedule_replay.proofs.Starting.{original_trace, hardened_trace}
use Rattle.schedule_replay.proofs.Turns.{at_place}
use Rattle.schedule_replay.proofs.WideLaws.{begun_counted, begun_bounded}
use Rattle.schedule_replay.proofs.wide.replay_runs.Goals as goal

pub loop-t-init : goal.loop-t-init
loop-t-init c = record {
  ready = c.in_ok-running.ensures.ready;
  taken = c.in_ok-runs.ensures;
  long = c.in_ok-outcomes.ensures.begun.long;
  bounded = λ j d l.
      let o : Outcome = get_or c.in_ok-outcomes.outcomes.items j d in
      let at_o : slice_get c.in_ok-outcomes.outcomes.items j ≡ Some o = slice_get-get_or c.in_ok-outcomes.outcomes.items j d l in
      let (s, at_s) = slice_get_there c.args.list.now j (let long = c.in_ok-outcomes.ensures.begun.long in omega arith) in
      begun_bounded c.args.c.now s o (c.in_ok-outcomes.ensures.begun.each j s o at_s at_o);
  allowed = λ j s o at_s at_o. (c.in_ok-outcomes.ensures.begun.each j s o at_s at_o).allowed;
  counted = λ j s o v at_s at_o is begin. (
    c.in_ok-running.ensures.begun j v (let l = slice_get_within c.args.list.now j s at_s in let few = c.requires.few in omega arith) begin,
    begun_counted c.args.n.now.net c.args.h.now.net c.args.c.now s v.original v.hardened o (c.in_ok-outcomes.ensures.begun.each j s o at_s at_o),
  );
}

pub count_cycle_wide-requires-clause-t : goal.count_cycle_wide-requires-clause-t
count_cycle_wide-requires-clause-t c = λ j d l.
    let list : List PlainSchedule = c.args.list.now in
    let s : PlainSchedule = get_or list j d in
    let at_s : slice_get list j ≡ Some s = slice_get-get_or list j d l in
    let first : slice_get list 0 ≡ Some c.index-list-0.result = slice_get_read list (length list) 0 c.index-list-0.result refl c.requires.some c.index-list-0.is in
    let same = c.requires.cycles 0 j c.index-list-0.result s first at_s in
    omega arith

pub loop-t-preserved : goal.loop-t-preserved
loop-t-preserved c = record {
  ready = c.in_ok-count_cycle_wide.ensures.ready;
  taken = c.in_ok-count_cycle_wide.ensures.taken;
  long = c.in_ok-count_cycle_wide.ensures.long;
  bounded = c.in_ok-count_cycle_wide.ensures.bounded;
  allowed = λ j s o at_s at_o.
      let (a, at_a) = slice_get_there c.loop-t.outcomes.items j (let l = slice_get_within c.args.list.now j s at_s in let long = c.loop-t.invariant.long in omega arith) in
      subst (λ (x : Bool). IsTrue x ↔ Allowed s.upsets c.args.c.now) (sym (c.in_ok-count_cycle_wide.ensures.allowed j a o at_a at_o)) (c.loop-t.invariant.allowed j s a at_s at_a);
  counted = λ j s o v at_s at_o is begin.
      let (a, at_a) = slice_get_there c.loop-t.outcomes.items j (let l = slice_get_within c.args.list.now j s at_s in let long = c.loop-t.invariant.long in omega arith) in
      let (ran, counted) = c.loop-t.invariant.counted j s a v at_s at_a is begin in
      c.in_ok-count_cycle_wide.ensures.counted j s a o v at_s at_a at_o is ran counted;
}

pub returns-clause-outcomes : goal.returns-clause-outcomes
returns-clause-outcomes c = record {
  long = c.loop-t.invariant.long;
  each = λ j s o f w g u at_s at_o mf mg sf sg.
      let n = c.args.n.now.net in
      let h = c.args.h.now.net in
      let list : List PlainSchedule = c.args.list.now in
      let plain = at_place (λ s. IsPlainSchedule s) list j s c.in_ok-outcomes.ensures.plain at_s in
      let rows = at_place (λ s. s.inputs ≡ length n.inputs) list j s c.requires.rows at_s in
      let nets = at_place (λ s. All (λ u. u.net.0 < net_count h) s.upsets) list j s c.requires.nets at_s in
      let wide : length h.inputs ≡ 3 * s.inputs = let a = c.requires.inputs in omega arith in
      let first : slice_get list 0 ≡ Some c.index-list-0.result = slice_get_read list (length list) 0 c.index-list-0.result refl c.requires.some c.index-list-0.is in
      let same = c.requires.cycles 0 j c.index-list-0.result s first at_s in
      let all : c.loop-t.t ≡ length s.rows = let e = c.cycles-t-end.ensures.count in omega arith in
      record {
        original = original_trace s plain n f w (c.free_traces_are_unique.ensures n f c.input_count.ensures.design.valid) rows;
        hardened = hardened_trace s plain h g u (c.free_traces_are_unique.ensures h g c.input_count-2.ensures.design.valid) wide nets;
        outcome = λ tr ft is_tr is_ft.
            let v : Traces = record { marks = f; starts = w; original = tr; hardened_marks = g; hardened_starts = u; hardened = ft } in
            let is : AreTracesOf n h s v = record { marks = mf; original = is_tr; hardened_marks = mg; hardened = is_ft } in
            let begin : BeginWith n h v c.args.starts.now = record { original = sf; hardened = sg } in
            let counted = (c.loop-t.invariant.counted j s o v at_s at_o is begin).1 in
            subst (λ (t : ℕ). IsOutcome n h c.args.c.now s.upsets tr ft t (plain_outcome o)) all (record { allowed = c.loop-t.invariant.allowed j s o at_s at_o; counts = counted.counts; late = counted.late });
      };
}
