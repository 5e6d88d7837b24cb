use Rattle.std.proofs.Common.{◌≡◌, ℕ, ◌∷◌, [], List, Some, length, get_or, slice_get, refl, sym, ap, subst, arith}
use Rattle.std.proofs.lemmas.List.{length-append}
use Rattle.std.proofs.lemmas.Option.{slice_get_read, slice_get-get_or}
use Rattle.schedule_replay.specs.declared.outcome.Outcome.{Outcome}
use Rattle.schedules.specs.Schedule.{PlainSchedule}
use Rattle.schedule_replay.specs.Wide.{HasBegun}
use Rattle.schedule_replay.proofs.WideLaws.{pushed_each, one_plain_more}
use Rattle.schedule_replay.proofs.wide.start_outcomes.Goals as goal

pub loop-j-preserved : goal.loop-j-preserved
loop-j-preserved c =
    let k = c.args.c.now in
    let list : List PlainSchedule = c.args.list.now in
    let o : Outcome = c.in_ok-outcome.outcome in
    let r : PlainSchedule = c.index-list-j.result in
    let j : ℕ = c.loop-j.j in
    let old : List Outcome = c.loop-j.outcomes.items in
    let listed : slice_get list j ≡ Some r = slice_get_read list (length list) j r refl c.loop-j-test.true c.index-list-j.is in
    let here : slice_get list (length old) ≡ Some r = subst (λ (i : ℕ). slice_get list i ≡ Some r) (sym c.loop-j.invariant.long) listed in
    record {
      long = let same = ap length c.in_ok-push.ensures.items in let before = c.loop-j.invariant.long in omega (arith, same, length-append old (o ∷ []));
      each = pushed_each (λ i p. (s : PlainSchedule) → slice_get list i ≡ Some s → HasBegun k s p) old c.push.new.self.items o c.in_ok-push.ensures.items c.loop-j.invariant.each
          (λ s at. subst (λ (x : PlainSchedule). HasBegun k x o) (let same : r ≡ s = cc in same) c.in_ok-outcome.ensures.begun);
      plain = one_plain_more list j r listed c.in_ok-outcome.ensures.plain c.loop-j.invariant.plain;
    }

pub returns-clause-begun : goal.returns-clause-begun
returns-clause-begun c = record {
  long = let long = c.loop-j.invariant.long in omega arith;
  each = λ j s o at_s at_o. c.loop-j.invariant.each j o at_o s at_s;
}

pub returns-clause-plain : goal.returns-clause-plain
returns-clause-plain c = λ i d l. c.loop-j.invariant.plain i (get_or c.args.list.now i d) (omega arith) (slice_get-get_or c.args.list.now i d l)
