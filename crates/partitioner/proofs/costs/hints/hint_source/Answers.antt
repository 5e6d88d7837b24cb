use Rattle.std.proofs.Common.{slice_index}
use Rattle.partitioner.proofs.HintLaws.{told_more, told_near}
use Rattle.partitioner.proofs.costs.hints.hint_source.Goals as goal

pub returns-clause-near : goal.returns-clause-near
returns-clause-near c =
    told_near c.args.n.now.net c.args.size c.args.p.now c.args.spots.now c.args.hints.now c.loop-q.hints c.args.x c.loop-q.q-iterator c.requires.spots c.requires.source c.requires.wide c.in-None.ensures.steps.0 c.loop-q.invariant

pub loop-q-preserved-then-q-p : goal.loop-q-preserved-then-q-p
loop-q-preserved-then-q-p c =
    told_more c.args.hints.now c.loop-q.hints c.count_once-then-q-p.new.gains c.args.p.now.count c.args.spots.now.free c.args.x (slice_index c.args.p.now.of.items c.args.x) c.in-Some.q.now c.loop-q.q-iterator c.next.new.self c.in-Some.ensures.steps c.loop-q.invariant
    (record {
      counted = c.count_once-then-q-p.ensures.counted;
      from = c.count_once-then-q-p.ensures.from;
      turn = c.count_once-then-q-p.ensures.turn;
      long = c.count_once-then-q-p.ensures.long;
      near = c.count_once-then-q-p.ensures.near;
      last = c.count_once-then-q-p.ensures.last;
      most = c.count_once-then-q-p.ensures.most;
    })
