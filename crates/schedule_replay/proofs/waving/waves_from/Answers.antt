use Rattle.std.proofs.Common.{◌≡◌, ◌∙◌, ◌++◌, ◌*◌, ℕ, suc, ◌+◌, List, Bool, length, sym, ap, subst, arith}
use Rattle.net_simulator.proofs.OneCycle.{before_cycle}
use Rattle.schedule_replay.specs.Outcome.{outputs_until, outputs_in}
use Rattle.schedule_replay.specs.Running.{Traces, AreTracesOf, BeginWith}
use Rattle.schedule_replay.specs.Waves.{waves}
use Rattle.schedule_replay.proofs.OneSchedule.{first_of_one}
use Rattle.schedule_replay.proofs.Starting.{original_trace, hardened_trace}
use Rattle.schedule_replay.proofs.WaveLaws.{waves-append}
use Rattle.schedule_replay.proofs.waving.waves_from.Goals as goal

pub loop-t-init : goal.loop-t-init
loop-t-init c = record {
  ready = c.in_ok-running.ensures.ready;
  taken = c.in_ok-runs.ensures;
  ran = λ v is begin. c.in_ok-running.ensures.begun 0 v (omega arith) begin;
  values = λ v is begin. c.new-values.ensures.items;
}

pub loop-t-preserved : goal.loop-t-preserved
loop-t-preserved c =
    let there = first_of_one c.from_ref-list.result.now c.args.s.now c.from_ref-list.ensures.value in
    record {
      ready = c.in_ok-advance_runs.ensures.ready;
      taken = c.in_ok-advance_runs.ensures.taken;
      ran = λ v is begin. c.in_ok-advance_runs.ensures.ran 0 c.args.s.now v there is (c.loop-t.invariant.ran v is begin);
      values = λ v is begin.
          let n = c.args.n.now.net in
          let h = c.args.h.now.net in
          let t : ℕ = c.loop-t.t in
          let tr : List (List Bool) = v.original in
          let ft : List (List Bool) = v.hardened in
          let next : t + 1 ≡ suc t = omega arith in
          let ran = c.in_ok-advance_runs.ensures.ran 0 c.args.s.now v there is (c.loop-t.invariant.ran v is begin) in
          let pushed = c.in_ok-push_outputs.ensures tr ft (ran.original ∙ ap (before_cycle tr) next) (ran.hardened ∙ ap (before_cycle ft) next) in
          pushed ∙ (ap (λ (vs : List Bool). vs ++ waves (outputs_in n h tr ft t (length n.outputs))) (c.loop-t.invariant.values v is begin)
          ∙ (sym (waves-append (outputs_until n h tr ft t) (outputs_in n h tr ft t (length n.outputs))) ∙ ap (λ (m : ℕ). waves (outputs_until n h tr ft m)) (sym next)));
    }

pub returns : goal.returns
returns c = λ f w g u mf mg sf sg.
    let n = c.args.n.now.net in
    let h = c.args.h.now.net in
    let s = c.args.s.now in
    let plain = c.cycles-t-end.ensures.plain in
    let all : c.loop-t.t ≡ length s.rows = let e = c.cycles-t-end.ensures.count in omega arith in
    let wide : length h.inputs ≡ 3 * s.inputs = let a = c.requires.inputs in let b = c.requires.rows in omega arith in
    record {
      original = original_trace s plain n f w (c.free_traces_are_unique.ensures n f c.input_count.ensures.design.valid) c.requires.rows;
      hardened = hardened_trace s plain h g u (c.free_traces_are_unique.ensures h g c.input_count-2.ensures.design.valid) wide c.requires.nets;
      values_are = λ tr ft is_tr is_ft.
          let v : Traces = record { marks = f; starts = w; original = tr; hardened_marks = g; hardened_starts = u; hardened = ft } in
          let is : AreTracesOf n h s v = record { marks = mf; original = is_tr; hardened_marks = mg; hardened = is_ft } in
          let begin : BeginWith n h v c.args.starts = record { original = sf; hardened = sg } in
          subst (λ (t : ℕ). c.loop-t.values.items ≡ waves (outputs_until n h tr ft t)) all (c.loop-t.invariant.values v is begin);
    }
