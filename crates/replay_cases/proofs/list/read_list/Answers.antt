use Rattle.std.proofs.Common.{◌≡◌, length}
use Rattle.std.specs.Prelude.{All}
use Rattle.schedules.specs.Reading.{IsNodeOf}
use Rattle.replay_cases.proofs.Lists.{all_more}
use Rattle.replay_cases.proofs.list.read_list.Goals as goal

pub loop-piece-preserved : goal.loop-piece-preserved
loop-piece-preserved c = record {
  inputs = all_more (λ s. s.inputs ≡ length c.args.n.now.net.inputs) c.loop-piece.list.items c.push.new.list.items c.in_ok-schedule.schedule c.loop-piece.invariant.inputs c.in_ok-schedule.ensures.inputs c.in_ok-push.ensures;
  nodes = all_more (λ s. All (λ u. IsNodeOf c.args.h.now.net u.net.0) s.upsets) c.loop-piece.list.items c.push.new.list.items c.in_ok-schedule.schedule c.loop-piece.invariant.nodes c.in_ok-schedule.ensures.nodes c.in_ok-push.ensures;
}
