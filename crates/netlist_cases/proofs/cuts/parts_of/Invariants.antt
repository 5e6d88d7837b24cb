use Rattle.std.proofs.Common.{◌≡◌, ◌<◌, length}
use Rattle.std.specs.Prelude.{All}
use Rattle.netlist_cases.proofs.cuts.parts_of.Given as goal

abbrev pub invariant-loop-i : goal.invariant-loop-i
invariant-loop-i l = record {
  range : All (λ p. p < l.count) l.of.items;
  all : length l.of.items ≡ l.i;
}
