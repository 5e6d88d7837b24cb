use Rattle.std.proofs.Common.{◌≡◌, ◌<◌, ◌+◌, length}
use Rattle.std.specs.Prelude.{All}
use Rattle.schedule_replay.proofs.BesideLaws.{StandBelow}
use Rattle.schedule_replay.proofs.origins.origins_of.Given as goal

abbrev pub invariant-loop-y : goal.invariant-loop-y
invariant-loop-y l = record {
  long : length l.origins.items ≡ l.y;
  range : All (λ o. o.0 < l.c.original_inputs + length l.c.part) l.origins.items;
  copies : StandBelow l.c l.y l.origins.items;
}
