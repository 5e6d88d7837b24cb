use Rattle.std.proofs.Common.{◌≡◌, map, length}
use Rattle.blif_text.specs.Views.{plain_model}
use Rattle.wrapper_chains.specs.Bare.{AreBare}
use Rattle.wrapper_chains.proofs.bare_models.filled_models.Given as goal

abbrev pub invariant-loop-x : goal.invariant-loop-x
invariant-loop-x l = record {
  long : length l.holds.items ≡ length l.models;
  bare : AreBare (map plain_model l.models) l.holds.items;
}
