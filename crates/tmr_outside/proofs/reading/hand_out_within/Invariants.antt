use Rattle.std.proofs.Common.{◌≡◌, ◌+◌, ℕ}
use Rattle.tmr_outside.specs.Reading.{MovesBytes}
use Rattle.tmr_outside.proofs.reading.hand_out_within.Given as goal

abbrev pub invariant-loop-left : goal.invariant-loop-left
invariant-loop-left g l = record {
  count : ℕ;
  counted : count + l.left ≡ l.limit;
  handed : MovesBytes (g.F.Source.unread l.initial.file) (g.F.Source.unread l.file) (g.T.Taker.stands l.initial.to) (g.T.Taker.stands l.to) (g.T.Taker.room l.initial.to) (g.T.Taker.room l.to) count;
  failed : g.F.Source.failed l.file ≡ g.F.Source.failed l.initial.file;
  starved : g.F.Source.starved l.file ≡ g.F.Source.starved l.initial.file;
}

abbrev pub decreases-loop-left : goal.decreases-loop-left
decreases-loop-left g l = l.left
