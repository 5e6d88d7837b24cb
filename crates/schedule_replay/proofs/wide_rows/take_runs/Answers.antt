use Rattle.std.proofs.Common.{◌≡◌, ◌<◌, ◌+◌, ◌∙◌, ℕ, Bool, List, Some, length, slice_get, refl, sym, ap, subst, arith}
use Rattle.std.specs.Prelude.{All}
use Rattle.std.proofs.lemmas.List.{length-set}
use Rattle.std.proofs.lemmas.Option.{slice_get_read, slice_get_within}
use Rattle.tmr_base.specs.declared.ids.NetId.{NetId}
use Rattle.flat_net.proofs.Slots.{slice_get_there}
use Rattle.net_meaning.specs.Meaning.{upset_at}
use Rattle.net_simulator.specs.Cycle.{forced_in}
use Rattle.schedule_replay.specs.Starts.{forced_to}
use Rattle.schedule_replay.specs.declared.wide_rows.Progress.{Progress}
use Rattle.schedules.specs.Schedule.{PlainSchedule}
use Rattle.schedule_replay.specs.Wide.{HasTurned, TakesCycle}
use Rattle.schedule_replay.proofs.Turns.{done_more, rest_more}
use Rattle.schedule_replay.proofs.WideRows.{struck_done}
use Rattle.schedule_replay.proofs.wide_rows.take_runs.Goals as goal

pub take_run-requires-clause-taken : goal.take_run-requires-clause-taken
take_run-requires-clause-taken c =
    let j : ℕ = c.loop-j.j in
    let within : j < length c.loop-j.runs.items = let long = c.loop-j.invariant.long in omega arith in
    let listed = slice_get_read c.args.list.now (length c.args.list.now) j c.index-list-j.result refl c.loop-j-test.true c.index-list-j.is in
    let now = slice_get_read c.loop-j.runs.items (length c.loop-j.runs.items) j c.index_mut.result.now refl within c.index_mut.ensures.value in
    c.requires.taken.each j c.index-list-j.result c.index_mut.result.now listed (sym (c.loop-j.invariant.rest j (omega arith)) ∙ now)

pub loop-j-preserved : goal.loop-j-preserved
loop-j-preserved c =
    let k = c.args.c.now in
    let list : List PlainSchedule = c.args.list.now in
    let t : ℕ = c.args.t in
    let j : ℕ = c.loop-j.j in
    let r : PlainSchedule = c.index-list-j.result in
    let w : Progress = c.take_run.new.p in
    let within : j < length c.loop-j.runs.items = let long = c.loop-j.invariant.long in omega arith in
    let small : j < 64 = let few = c.requires.few in omega arith in
    let listed : slice_get list j ≡ Some r = slice_get_read list (length list) j r refl c.loop-j-test.true c.index-list-j.is in
    let turned : HasTurned k list t j c.index_mut.result.now w = λ s at.
    subst (λ (x : PlainSchedule). TakesCycle k x.upsets t w) (let same : r ≡ s = cc in same) (record { taken = c.in_ok-take_run.ensures.taken; quiet = c.in_ok-take_run.ensures.quiet }) in
    record {
      long = length-set c.loop-j.runs.items j w ∙ c.loop-j.invariant.long;
      done = done_more (HasTurned k list t) c.args.runs.now.items c.loop-j.runs.items j c.index_mut.result.now w within c.index_mut.ensures.value c.loop-j.invariant.done c.loop-j.invariant.rest turned;
      rest = rest_more (HasTurned k list t) c.args.runs.now.items c.loop-j.runs.items j c.index_mut.result.now w c.loop-j.invariant.rest;
      struck = λ i s x l at.
          struck_done (λ s. upset_at s.upsets t x) list j r (λ i. forced_in i c.loop-j.struck.items x) (λ i. forced_in i c.push_run.new.struck.items x) listed c.requires.few
          (c.in_ok-push_run.ensures.own x (c.loop-j.invariant.free j x (omega arith) small) ∙ (ap (λ (fs : List (NetId × Bool)). forced_to fs x) c.deref.ensures.value ∙ c.in_ok-take_run.ensures.pairs x))
          (λ i h apart. c.in_ok-push_run.ensures.others i x h apart) (λ i s h at. c.loop-j.invariant.struck i s x h at) i s l at;
      free = λ i x l h. c.in_ok-push_run.ensures.others i x h (omega arith) ∙ c.loop-j.invariant.free i x (omega arith) h;
      nets = c.in_ok-push_run.ensures.nets (k.hardened_inputs + length k.roles) (subst (λ (fs : List (NetId × Bool)). All (λ f. f.0.0 < k.hardened_inputs + length k.roles) fs) (sym c.deref.ensures.value) c.in_ok-take_run.ensures.nets) c.loop-j.invariant.nets;
    }

pub returns-clause-taken : goal.returns-clause-taken
returns-clause-taken c = record {
  long = c.loop-j.invariant.long;
  each = λ j s p at_s at_p.
      let l : j < length c.args.list.now = slice_get_within c.args.list.now j s at_s in
      let (a, at_a) = slice_get_there c.args.runs.now.items j (let long = c.requires.taken.long in omega arith) in
      (c.loop-j.invariant.done j a p (omega arith) at_a at_p s at_s).taken;
}

pub returns-clause-quiet : goal.returns-clause-quiet
returns-clause-quiet c = λ j s p at_s at_p.
    let l : j < length c.args.list.now = slice_get_within c.args.list.now j s at_s in
    let (a, at_a) = slice_get_there c.args.runs.now.items j (let long = c.requires.taken.long in omega arith) in
    (c.loop-j.invariant.done j a p (omega arith) at_a at_p s at_s).quiet

pub returns-clause-struck : goal.returns-clause-struck
returns-clause-struck c = λ j s x at. c.loop-j.invariant.struck j s x (let l = slice_get_within c.args.list.now j s at in omega arith) at
