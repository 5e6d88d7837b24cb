use Rattle.std.proofs.Common.{◌≡◌, ◌∙◌, ◌*◌, ◌<◌, ◌≤◌, ℕ, suc, ◌+◌, List, Bool, Some, length, get_or, slice_get, sym, ap, subst, arith}
use Rattle.std.specs.Prelude.{All}
use Rattle.std.proofs.lemmas.Option.{slice_get-get_or, slice_get_within}
use Rattle.flat_net.proofs.Slots.{slice_get_there}
use Rattle.net_simulator.proofs.OneCycle.{before_cycle}
use Rattle.schedule_replay.specs.declared.outcome.Outcome.{Outcome}
use Rattle.schedule_replay.specs.declared.wide_rows.Progress.{Progress}
use Rattle.schedule_replay.specs.Running.{CountsFit}
use Rattle.schedule_replay.proofs.Turns.{at_place}
use Rattle.schedule_replay.proofs.WideLaws.{cycle_counted, cycle_bounded}
use Rattle.schedule_replay.proofs.wide.count_cycle_wide.Goals as goal

pub compare_outputs_wide-requires-clause-differences : goal.compare_outputs_wide-requires-clause-differences
compare_outputs_wide-requires-clause-differences c = λ j d l. let limit = c.requires.limit in let is = (c.requires.bounded j d l).differences in omega arith

pub compare_outputs_wide-requires-clause-wrong : goal.compare_outputs_wide-requires-clause-wrong
compare_outputs_wide-requires-clause-wrong c = λ j d l. let limit = c.requires.limit in let is = (c.requires.bounded j d l).wrong in omega arith

pub compare_nodes_wide-requires-clause-lasts : goal.compare_nodes_wide-requires-clause-lasts
compare_nodes_wide-requires-clause-lasts c =
    let depths = c.args.pair.now.certificate.now.depth in
    subst (λ (ps : List Progress). All (λ q. length q.lasts.items ≡ length depths) ps) (sym c.deref.ensures.value)
    (λ j d l.
    let runs = c.in_ok-advance_runs.ensures.taken in
    let p : Progress = get_or c.advance_runs.new.runs.items j d in
    let at_p : slice_get c.advance_runs.new.runs.items j ≡ Some p = slice_get-get_or c.advance_runs.new.runs.items j d l in
    let (s, at_s) = slice_get_there c.args.list.now j (let long = runs.long in omega arith) in
    (runs.each j s p at_s at_p).lasts)

pub compare_nodes_wide-requires-clause-late : goal.compare_nodes_wide-requires-clause-late
compare_nodes_wide-requires-clause-late c = λ j d l.
    let m : Outcome = get_or c.compare_outputs_wide.new.o.items j d in
    let at_m : slice_get c.compare_outputs_wide.new.o.items j ≡ Some m = slice_get-get_or c.compare_outputs_wide.new.o.items j d l in
    let (a, at_a) = slice_get_there c.args.o.now.items j (let long = c.in_ok-compare_outputs_wide.ensures.long in omega arith) in
    let same = (c.in_ok-compare_outputs_wide.ensures.bounded j a m at_a at_m).late in
    let is : a.late ≤ c.args.t * 12884901885 = (at_place (λ a. CountsFit c.args.t a) c.args.o.now.items j a c.requires.bounded at_a).late in
    let limit = c.requires.limit in
    omega arith

pub returns-clause-bounded : goal.returns-clause-bounded
returns-clause-bounded c = λ j d l.
    let b : Outcome = get_or c.compare_nodes_wide.new.o.items j d in
    let at_b : slice_get c.compare_nodes_wide.new.o.items j ≡ Some b = slice_get-get_or c.compare_nodes_wide.new.o.items j d l in
    let (m, at_m) = slice_get_there c.compare_outputs_wide.new.o.items j (let long = c.compare_nodes_wide.ensures.long in omega arith) in
    let (a, at_a) = slice_get_there c.args.o.now.items j (let long = c.compare_nodes_wide.ensures.long in let more = c.in_ok-compare_outputs_wide.ensures.long in omega arith) in
    let few : length c.args.pair.now.original.now.net.nodes ≤ 4294967295 = omega arith in
    cycle_bounded c.args.t (length c.args.pair.now.original.now.net.nodes) a m b few (at_place (λ a. CountsFit c.args.t a) c.args.o.now.items j a c.requires.bounded at_a)
    (c.in_ok-compare_outputs_wide.ensures.bounded j a m at_a at_m) (c.compare_nodes_wide.ensures.same j m b at_m at_b) (c.compare_nodes_wide.ensures.bound j m b at_m at_b)

pub returns-clause-allowed : goal.returns-clause-allowed
returns-clause-allowed c = λ j a b at_a at_b.
    let l : j < length c.args.o.now.items = slice_get_within c.args.o.now.items j a at_a in
    let (m, at_m) = slice_get_there c.compare_outputs_wide.new.o.items j (let long = c.in_ok-compare_outputs_wide.ensures.long in omega arith) in
    ap (λ (o : Outcome). o.allowed) (c.compare_nodes_wide.ensures.same j m b at_m at_b) ∙ (c.in_ok-compare_outputs_wide.ensures.bounded j a m at_a at_m).allowed

pub returns-clause-counted : goal.returns-clause-counted
returns-clause-counted c = λ j s a b v at_s at_a at_b is before counted.
    let n = c.args.pair.now.original.now.net in
    let h = c.args.pair.now.hardened.now.net in
    let t : ℕ = c.args.t in
    let next : t + 1 ≡ suc t = omega arith in
    let l : j < length c.args.o.now.items = slice_get_within c.args.o.now.items j a at_a in
    let (m, at_m) = slice_get_there c.compare_outputs_wide.new.o.items j (let long = c.in_ok-compare_outputs_wide.ensures.long in omega arith) in
    let (q, at_q) = slice_get_there c.advance_runs.new.runs.items j (let long = c.in_ok-advance_runs.ensures.taken.long in let same = c.requires.long in omega arith) in
    let tr : List (List Bool) = v.original in
    let ft : List (List Bool) = v.hardened in
    let ran = c.in_ok-advance_runs.ensures.ran j s v at_s is before in
    let original = ran.original ∙ ap (before_cycle tr) next in
    let hardened = ran.hardened ∙ ap (before_cycle ft) next in
    let there : slice_get c.deref.result.now j ≡ Some q = ap (λ (ps : List Progress). slice_get ps j) c.deref.ensures.value ∙ at_q in (
      ran,
      cycle_counted n h c.args.pair.now.certificate.now s.upsets tr ft t a m b counted (c.in_ok-compare_outputs_wide.ensures.counts j a m tr ft at_a at_m original hardened) (c.in_ok-compare_outputs_wide.ensures.bounded j a m at_a at_m).late
          (c.compare_nodes_wide.ensures.late j m b q tr ft s.upsets at_m at_b there original hardened (c.in_ok-advance_runs.ensures.quiet j s q at_s at_q)),
    )
