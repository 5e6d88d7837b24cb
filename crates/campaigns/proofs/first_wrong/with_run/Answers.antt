use Rattle.std.proofs.Common.{◌≤◌, ◌∙◌, List, length, get_or, slice_get, sym, ap, arith}
use Rattle.std.proofs.lemmas.Option.{slice_get-get_or}
use Rattle.schedule_replay.specs.declared.outcome.Difference.{Difference}
use Rattle.schedule_replay.specs.declared.outcome.Outcome.{Outcome}
use Rattle.campaigns.proofs.SeekLaws.{one_more, run_seen}
use Rattle.campaigns.proofs.first_wrong.with_run.Goals as goal

pub loop-i-preserved : goal.loop-i-preserved
loop-i-preserved c =
    let outcomes = c.args.outcomes.now in
    let o : Outcome = get_or outcomes c.args.j c.index-outcomes-j.result in
    let there = ap (λ (xs : List Difference). slice_get xs c.loop-i.i) (sym c.as_slice-differences.ensures.value) ∙ c.difference_at-d.ensures in
    one_more outcomes c.args.j c.loop-i.i o c.difference_at-d.result.now (slice_get-get_or outcomes c.args.j c.index-outcomes-j.result c.requires.within) there
    c.loop-i.found c.loop-i.invariant c.with_difference-found.result c.with_difference-found.ensures

pub returns : goal.returns
returns c =
    let outcomes = c.args.outcomes.now in
    let o : Outcome = get_or outcomes c.args.j c.index-outcomes-j.result in
    let all : length o.first.items ≤ c.loop-i.i = omega (arith, c.loop-i-test.false, c.loop-i.auto.i-end, ap length c.as_slice-differences.ensures.value) in
    run_seen outcomes c.args.j c.loop-i.i o c.loop-i.found (slice_get-get_or outcomes c.args.j c.index-outcomes-j.result c.requires.within) all c.loop-i.invariant
