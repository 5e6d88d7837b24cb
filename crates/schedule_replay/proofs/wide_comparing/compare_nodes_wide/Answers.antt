use Rattle.std.proofs.Common.{◌≡◌, ◌<◌, ◌+◌, ◌∙◌, ℕ, suc, Some, length, get_or, slice_get, slice_index, refl, sym, ap, subst, arith}
use Rattle.std.proofs.lemmas.Option.{slice_get-get_or, slice_get_within}
use Rattle.flat_net.proofs.Slots.{slice_get_there}
use Rattle.certificate.specs.Cert.{part_of}
use Rattle.schedule_replay.specs.declared.outcome.Outcome.{Outcome}
use Rattle.schedule_replay.specs.Outcome.{late_at, late_in}
use Rattle.schedule_replay.specs.Wide.{late_in_run, is_told_quiet}
use Rattle.schedule_replay.proofs.Turns.{at_place}
use Rattle.schedule_replay.proofs.WideOutcomes.{few_late, late_here, later_none, later_more, only_later}
use Rattle.schedule_replay.proofs.wide_comparing.compare_nodes_wide.Goals as goal

pub loop-i-init : goal.loop-i-init
loop-i-init c = record {
  long = refl;
  same = λ j a b at_a at_b. let e : b ≡ a = cc in subst (λ (o : Outcome). o ≡ record a { late = o.late }) (sym e) refl;
  bound = λ j a b at_a at_b. let e : b ≡ a = cc in let l : b.late ≡ a.late = ap (λ (o : Outcome). o.late) e in omega arith;
  late = λ j a b q tr ft s at_a at_b at_q e f told. let e : b ≡ a = cc in e ∙ later_none a 0 refl;
}

pub late_runs-requires-clause-late : goal.late_runs-requires-clause-late
late_runs-requires-clause-late c = λ j d l.
    let b : Outcome = get_or c.loop-i.o.items j d in
    let at_b : slice_get c.loop-i.o.items j ≡ Some b = slice_get-get_or c.loop-i.o.items j d l in
    let (a, at_a) = slice_get_there c.args.o.now.items j (let long = c.loop-i.invariant.long in omega arith) in
    let grew = c.loop-i.invariant.bound j a b at_a at_b in
    let was : a.late < 4611686018427387904 = at_place (λ a. a.late < 4611686018427387904) c.args.o.now.items j a c.requires.late at_a in
    omega arith

pub loop-i-preserved : goal.loop-i-preserved
loop-i-preserved c =
    let n = c.args.n.now.net in
    let k = c.args.c.now in
    let t : ℕ = c.args.t in
    let i : ℕ = c.loop-i.i in
    let x : ℕ = c.input_count-inputs.result + i in
    let here : length n.inputs + i ≡ x = omega arith in
    let next : i + 1 ≡ suc i = omega arith in
    record {
      long = c.late_runs.ensures.long ∙ c.loop-i.invariant.long;
      same = λ j a b at_a at_b.
          let (m, at_m) = slice_get_there c.loop-i.o.items j (let l = slice_get_within c.args.o.now.items j a at_a in let long = c.loop-i.invariant.long in omega arith) in
          let (q, at_q) = slice_get_there c.args.runs.now j (let l = slice_get_within c.args.o.now.items j a at_a in let long = c.requires.long in omega arith) in
          only_later a m b _ (c.loop-i.invariant.same j a m at_a at_m) (c.late_runs.ensures.late j m b q at_m at_b at_q);
      bound = λ j a b at_a at_b.
          let (m, at_m) = slice_get_there c.loop-i.o.items j (let l = slice_get_within c.args.o.now.items j a at_a in let long = c.loop-i.invariant.long in omega arith) in
          let (q, at_q) = slice_get_there c.args.runs.now j (let l = slice_get_within c.args.o.now.items j a at_a in let long = c.requires.long in omega arith) in
          let before = c.loop-i.invariant.bound j a m at_a at_m in
          let more = ap (λ (o : Outcome). o.late) (c.late_runs.ensures.late j m b q at_m at_b at_q) in
          let few = few_late c.node_words-words.result (is_told_quiet (slice_index q.lasts.items c.part-p.result.0) c.depth.result t) j in
          omega (arith, before, more, few);
      late = λ j a b q tr ft s at_a at_b at_q e f told.
          let (m, at_m) = slice_get_there c.loop-i.o.items j (let l = slice_get_within c.args.o.now.items j a at_a in let long = c.loop-i.invariant.long in omega arith) in
          let before = c.loop-i.invariant.late j a m q tr ft s at_a at_m at_q e f told in
          let more = c.late_runs.ensures.late j m b q at_m at_b at_q in
          let count : late_in_run c.node_words-words.result (is_told_quiet (slice_index q.lasts.items c.part-p.result.0) c.depth.result t) j ≡ late_at k s tr ft t (length n.inputs + i) (part_of k (length n.inputs + i)) =
          late_here k s tr ft t x c.part-p.result.0 c.depth.result j c.node_words-words.result q.lasts.items c.part-p.ensures.part c.part-p.ensures.range c.depth.ensures told (c.node_words-words.ensures t j tr ft e f) ∙ ap (λ (y : ℕ). late_at k s tr ft t y (part_of k y)) (sym here) in
          later_more a m b (late_in n k s tr ft t i) _ (late_in n k s tr ft t (i + 1)) before more
          (ap (λ (y : ℕ). late_in n k s tr ft t i + y) count ∙ ap (late_in n k s tr ft t) (sym next));
    }
