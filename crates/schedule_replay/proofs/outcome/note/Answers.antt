use Rattle.std.proofs.Common.{◌<◌, ◌∙◌, sym, arith}
use Rattle.schedule_replay.specs.Outcome.{count_wrong}
use Rattle.schedule_replay.proofs.Counting.{counts_one, counts_some}
use Rattle.schedule_replay.proofs.outcome.note.Goals as goal

pub returns-then-count-eq1-clause-counts : goal.returns-then-count-eq1-clause-counts
returns-then-count-eq1-clause-counts c = λ ds is. counts_one ds c.args.d c.args.o.now.first.items c.args.o.now.differences c.args.o.now.wrong is c.push_first.new.first.items c.in_ok-push_first.ensures (sym c.count_wrong-count.ensures.value ∙ c.if-count-eq1.true)

pub returns-clause-counts : goal.returns-clause-counts
returns-clause-counts c = λ ds is.
    let more : 1 < count_wrong c.args.d = let value = c.count_wrong-count.ensures.value in omega arith in
    counts_some ds c.args.d c.args.o.now.first.items c.args.o.now.differences c.args.o.now.wrong is c.push_first.new.first.items c.in_ok-push_first.ensures more
