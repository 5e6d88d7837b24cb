use Rattle.std.proofs.Common.{◌≡◌, ◌<◌, ◌+◌, ◌∙◌, ℕ, Bool, Some, length, get_or, slice_get, slice_index, refl, sym, ap, subst, arith}
use Rattle.std.proofs.lemmas.Grind.{get_or_default_zero}
use Rattle.std.proofs.lemmas.List.{length-set}
use Rattle.std.proofs.lemmas.Option.{slice_get_read, slice_get_within}
use Rattle.schedule_replay.specs.declared.outcome.Outcome.{Outcome}
use Rattle.schedule_replay.specs.declared.wide_rows.Progress.{Progress}
use Rattle.schedule_replay.specs.Wide.{LateRun, late_in_run, is_told_quiet}
use Rattle.schedule_replay.proofs.Turns.{at_place, done_more, rest_more}
use Rattle.schedule_replay.proofs.WideOutcomes.{none_late, later_none}
use Rattle.schedule_replay.proofs.wide_comparing.late_runs.Goals as goal

pub add_late-requires-clause-late : goal.add_late-requires-clause-late
add_late-requires-clause-late c =
    let within : c.loop-j.j < length c.loop-j.o.items = let long = c.loop-j.invariant.long in omega arith in
    let now = slice_get_read c.loop-j.o.items (length c.loop-j.o.items) c.loop-j.j c.index_mut.result.now refl within c.index_mut.ensures.value in
    at_place (λ a. a.late < 9223372036854775808) c.args.o.now.items c.loop-j.j c.index_mut.result.now c.requires.late (sym (c.loop-j.invariant.rest c.loop-j.j (omega arith)) ∙ now)

pub loop-j-preserved : goal.loop-j-preserved
loop-j-preserved c =
    let j : ℕ = c.loop-j.j in
    let v : Outcome = c.index_mut.result.now in
    let w : Outcome = c.add_late.new.o in
    let within : j < length c.loop-j.o.items = let long = c.loop-j.invariant.long in omega arith in
    let p : ℕ = c.args.p.0 in
    let r : Progress = c.index-runs-j.result in
    let there : j < length c.args.runs.now = let both = c.requires.long in let long = c.loop-j.invariant.long in omega arith in
    let listed : slice_get c.args.runs.now j ≡ Some r = slice_get_read c.args.runs.now (length c.args.runs.now) j r refl there c.index-runs-j.is in
    let parts : p < length r.lasts.items = at_place (λ q. p < length q.lasts.items) c.args.runs.now j r c.requires.lasts listed in
    let last : c.index.result.now ≡ slice_index r.lasts.items p = c.index.ensures ∙ (ap (λ (x : Progress). get_or x.lasts.items p c.index.result.now) (sym c.index-runs-j.is) ∙ get_or_default_zero r.lasts.items p c.index.result.now parts) in
    let quiet : c.is_quiet-quiet.result ≡ is_told_quiet (slice_index r.lasts.items p) c.args.depth c.args.t = c.is_quiet-quiet.ensures ∙ ap (λ (m : ℕ). is_told_quiet m c.args.depth c.args.t) last in
    let late : LateRun c.args.w.now c.args.runs.now p c.args.depth c.args.t j v w = λ q at_q.
    subst (λ (x : Progress). w ≡ record v { late = v.late + late_in_run c.args.w.now (is_told_quiet (slice_index x.lasts.items p) c.args.depth c.args.t) j }) (let same : r ≡ q = cc in same)
    (c.add_late.ensures ∙ ap (λ (m : ℕ). record v { late = v.late + m }) (c.late_of.ensures.value ∙ ap (λ (b : Bool). late_in_run c.args.w.now b j) quiet)) in
    record {
      long = length-set c.loop-j.o.items j w ∙ c.loop-j.invariant.long;
      done = done_more (LateRun c.args.w.now c.args.runs.now c.args.p.0 c.args.depth c.args.t) c.args.o.now.items c.loop-j.o.items j v w within c.index_mut.ensures.value c.loop-j.invariant.done c.loop-j.invariant.rest late;
      rest = rest_more (LateRun c.args.w.now c.args.runs.now c.args.p.0 c.args.depth c.args.t) c.args.o.now.items c.loop-j.o.items j v w c.loop-j.invariant.rest;
    }

pub returns-then-all_same-clause-late : goal.returns-then-all_same-clause-late
returns-then-all_same-clause-late c = λ j a b q at_a at_b at_q.
    let (first, second, third) = c.all_same.ensures c.if-all_same.true in
    let same : b ≡ a = cc in
    same ∙ later_none a (late_in_run c.args.w.now (is_told_quiet (slice_index q.lasts.items c.args.p.0) c.args.depth c.args.t) j) (none_late c.args.w.now first second third j (is_told_quiet (slice_index q.lasts.items c.args.p.0) c.args.depth c.args.t))

pub returns-clause-late : goal.returns-clause-late
returns-clause-late c = λ j a b q at_a at_b at_q. c.loop-j.invariant.done j a b (let l = slice_get_within c.args.o.now.items j a at_a in let long = c.loop-j.invariant.long in omega arith) at_a at_b q at_q
