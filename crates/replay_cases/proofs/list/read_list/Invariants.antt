use Rattle.std.proofs.Common.{◌≡◌, length}
use Rattle.std.specs.Prelude.{All}
use Rattle.schedules.specs.Reading.{IsNodeOf}
use Rattle.replay_cases.proofs.list.read_list.Given as goal

abbrev pub invariant-loop-piece : goal.invariant-loop-piece
invariant-loop-piece l = record {
  inputs : All (λ s. s.inputs ≡ length l.n.net.inputs) l.list.items;
  nodes : All (λ s. All (λ u. IsNodeOf l.h.net u.net.0) s.upsets) l.list.items;
}
