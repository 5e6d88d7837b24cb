use Rattle.std.proofs.Common.{◌≡◌, ◌<◌, map, length}
use Rattle.std.specs.Prelude.{All}
use Rattle.std.specs.List.{range_with_len}
use Rattle.recovery_depth.specs.Private.ChainEnds.{place_at}
use Rattle.recovery_depth.proofs.copies.place_list.Given as goal

abbrev pub invariant-loop-g : goal.invariant-loop-g
invariant-loop-g l = record {
  places : l.places.items ≡ map (place_at l.h.net l.c) (range_with_len 0 l.g);
  range : All (λ p. p < length l.c.depth) l.places.items;
}
