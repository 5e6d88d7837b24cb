use Rattle.std.proofs.Common.{◌≡◌, ◌<◌, ◌∙◌, ℕ, [], Some, length, get_or, slice_get, refl, subst, arith}
use Rattle.std.proofs.lemmas.Option.{slice_get-get_or, slice_get_within}
use Rattle.flat_net.proofs.Slots.{slice_get_there}
use Rattle.schedule_replay.specs.declared.outcome.Outcome.{Outcome}
use Rattle.schedule_replay.specs.Outcome.{outputs_in}
use Rattle.schedule_replay.specs.Wide.{HasNoted, Notes}
use Rattle.schedule_replay.proofs.Turns.{at_place}
use Rattle.schedule_replay.proofs.WideOutcomes.{nothing_grown, nothing_noted, grown, noted_more}
use Rattle.schedule_replay.proofs.wide_comparing.compare_outputs_wide.Goals as goal

pub loop-i-init : goal.loop-i-init
loop-i-init c = record {
  long = refl;
  bounded = λ j a b at_a at_b. subst (λ (o : Outcome). HasNoted 0 a o) (let same : a ≡ b = cc in same) (nothing_grown a 0);
  counts = λ j a b tr ft at_a at_b e f. subst (λ (o : Outcome). Notes [] a o) (let same : a ≡ b = cc in same) (nothing_noted a);
}

pub note_runs-requires-clause-differences : goal.note_runs-requires-clause-differences
note_runs-requires-clause-differences c = λ j d l.
    let b : Outcome = get_or c.loop-i.o.items j d in
    let at_b : slice_get c.loop-i.o.items j ≡ Some b = slice_get-get_or c.loop-i.o.items j d l in
    let (a, at_a) = slice_get_there c.args.o.now.items j (let long = c.loop-i.invariant.long in omega arith) in
    let grew = (c.loop-i.invariant.bounded j a b at_a at_b).differences in
    let was : a.differences < 4611686018427387904 = at_place (λ a. a.differences < 4611686018427387904) c.args.o.now.items j a c.requires.differences at_a in
    omega arith

pub note_runs-requires-clause-wrong : goal.note_runs-requires-clause-wrong
note_runs-requires-clause-wrong c = λ j d l.
    let b : Outcome = get_or c.loop-i.o.items j d in
    let at_b : slice_get c.loop-i.o.items j ≡ Some b = slice_get-get_or c.loop-i.o.items j d l in
    let (a, at_a) = slice_get_there c.args.o.now.items j (let long = c.loop-i.invariant.long in omega arith) in
    let grew = (c.loop-i.invariant.bounded j a b at_a at_b).wrong in
    let was : a.wrong < 4611686018427387904 = at_place (λ a. a.wrong < 4611686018427387904) c.args.o.now.items j a c.requires.wrong at_a in
    omega arith

pub loop-i-preserved : goal.loop-i-preserved
loop-i-preserved c = record {
  long = c.in_ok-note_runs.ensures.long ∙ c.loop-i.invariant.long;
  bounded = λ j a b at_a at_b.
      let (m, at_m) = slice_get_there c.loop-i.o.items j (let l = slice_get_within c.args.o.now.items j a at_a in let long = c.loop-i.invariant.long in omega arith) in
      grown a m b c.loop-i.i (c.loop-i.invariant.bounded j a m at_a at_m) (c.in_ok-note_runs.ensures.bounded j m b at_m at_b);
  counts = λ j a b tr ft at_a at_b e f.
      let (m, at_m) = slice_get_there c.loop-i.o.items j (let l = slice_get_within c.args.o.now.items j a at_a in let long = c.loop-i.invariant.long in omega arith) in
      noted_more c.args.n.now.net c.args.h.now.net tr ft c.args.t c.loop-i.i _ a m b (c.output_words.ensures c.args.t j tr ft e f) (c.loop-i.invariant.counts j a m tr ft at_a at_m e f) (c.in_ok-note_runs.ensures.counts j m b at_m at_b);
}

pub returns-clause-bounded : goal.returns-clause-bounded
returns-clause-bounded c = λ j a b at_a at_b.
    let is = c.loop-i.invariant.bounded j a b at_a at_b in
    record { differences = let x = is.differences in omega arith; wrong = let x = is.wrong in omega arith; late = is.late; allowed = is.allowed }

pub returns-clause-counts : goal.returns-clause-counts
returns-clause-counts c = λ j a b tr ft at_a at_b e f.
    let all : c.loop-i.i ≡ length c.args.n.now.net.outputs = omega arith in
    subst (λ (k : ℕ). Notes (outputs_in c.args.n.now.net c.args.h.now.net tr ft c.args.t k) a b) all (c.loop-i.invariant.counts j a b tr ft at_a at_b e f)
