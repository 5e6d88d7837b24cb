use Rattle.std.proofs.Common.{◌≡◌, ◌<◌, ◌∙◌, ℕ, [], ◌∷◌, length, refl, sym, subst, arith}
use Rattle.std.proofs.lemmas.List.{length-set}
use Rattle.std.proofs.lemmas.Option.{slice_get_read, slice_get_within}
use Rattle.schedule_replay.specs.declared.outcome.Difference.{Difference}
use Rattle.schedule_replay.specs.declared.outcome.Outcome.{Outcome}
use Rattle.schedule_replay.specs.Wide.{NotesRun, Notes, HasNoted, difference_in}
use Rattle.schedule_replay.proofs.Turns.{at_place, done_more, rest_more}
use Rattle.schedule_replay.proofs.WideOutcomes.{none_noted, nothing_grown}
use Rattle.schedule_replay.proofs.wide_comparing.note_runs.Goals as goal

pub note-requires-clause-differences : goal.note-requires-clause-differences
note-requires-clause-differences c =
    let within : c.loop-j.j < length c.loop-j.o.items = let long = c.loop-j.invariant.long in omega arith in
    let now = slice_get_read c.loop-j.o.items (length c.loop-j.o.items) c.loop-j.j c.index_mut.result.now refl within c.index_mut.ensures.value in
    at_place (λ a. a.differences < 9223372036854775808) c.args.o.now.items c.loop-j.j c.index_mut.result.now c.requires.differences (sym (c.loop-j.invariant.rest c.loop-j.j (omega arith)) ∙ now)

pub note-requires-clause-wrong : goal.note-requires-clause-wrong
note-requires-clause-wrong c =
    let within : c.loop-j.j < length c.loop-j.o.items = let long = c.loop-j.invariant.long in omega arith in
    let now = slice_get_read c.loop-j.o.items (length c.loop-j.o.items) c.loop-j.j c.index_mut.result.now refl within c.index_mut.ensures.value in
    at_place (λ a. a.wrong < 9223372036854775808) c.args.o.now.items c.loop-j.j c.index_mut.result.now c.requires.wrong (sym (c.loop-j.invariant.rest c.loop-j.j (omega arith)) ∙ now)

pub loop-j-preserved : goal.loop-j-preserved
loop-j-preserved c =
    let j : ℕ = c.loop-j.j in
    let v : Outcome = c.index_mut.result.now in
    let w : Outcome = c.note.new.o in
    let within : j < length c.loop-j.o.items = let long = c.loop-j.invariant.long in omega arith in
    let noted : NotesRun c.args.w.now c.args.t c.args.i j v w = record {
      grown = record { differences = c.in_ok-note.ensures.differences; wrong = c.in_ok-note.ensures.wrong; late = c.in_ok-note.ensures.late; allowed = c.in_ok-note.ensures.allowed };
      notes = subst (λ (d : Difference). Notes (d ∷ []) v w) c.difference.ensures c.in_ok-note.ensures.counts;
    } in
    record {
      long = length-set c.loop-j.o.items j w ∙ c.loop-j.invariant.long;
      done = done_more (NotesRun c.args.w.now c.args.t c.args.i) c.args.o.now.items c.loop-j.o.items j v w within c.index_mut.ensures.value c.loop-j.invariant.done c.loop-j.invariant.rest noted;
      rest = rest_more (NotesRun c.args.w.now c.args.t c.args.i) c.args.o.now.items c.loop-j.o.items j v w c.loop-j.invariant.rest;
    }

pub returns-then-all_same-clause-bounded : goal.returns-then-all_same-clause-bounded
returns-then-all_same-clause-bounded c = λ j a b at_a at_b. subst (λ (o : Outcome). HasNoted 1 a o) (let same : a ≡ b = cc in same) (nothing_grown a 1)

pub returns-then-all_same-clause-counts : goal.returns-then-all_same-clause-counts
returns-then-all_same-clause-counts c = λ j a b at_a at_b.
    let (first, second, third) = c.all_same.ensures c.if-all_same.true in
    subst (λ (o : Outcome). Notes (difference_in c.args.w.now c.args.t c.args.i j ∷ []) a o) (let same : a ≡ b = cc in same) (none_noted c.args.w.now first second third j c.args.t c.args.i a)

pub returns-clause-bounded : goal.returns-clause-bounded
returns-clause-bounded c = λ j a b at_a at_b. (c.loop-j.invariant.done j a b (let l = slice_get_within c.args.o.now.items j a at_a in let long = c.loop-j.invariant.long in omega arith) at_a at_b).grown

pub returns-clause-counts : goal.returns-clause-counts
returns-clause-counts c = λ j a b at_a at_b. (c.loop-j.invariant.done j a b (let l = slice_get_within c.args.o.now.items j a at_a in let long = c.loop-j.invariant.long in omega arith) at_a at_b).notes
