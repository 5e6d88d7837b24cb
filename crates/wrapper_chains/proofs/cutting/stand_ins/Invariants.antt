use Rattle.std.proofs.Common.{◌≡◌, ◌<◌, ◌≤◌, ℕ, length, map, drop}
use Rattle.std.specs.Vec.Iter.{into_iter_items}
use Rattle.blif_text.specs.Views.{plain_model}
use Rattle.library_faults.specs.Private.Models.{model_at}
use Rattle.wrapper_chains.specs.Private.Ways.{IsShort}
use Rattle.wrapper_chains.proofs.cutting.stand_ins.Given as goal

abbrev pub invariant-loop-model : goal.invariant-loop-model
invariant-loop-model l = record {
  within : length l.found.items ≤ length l.fn.models.items;
  left : into_iter_items l.model-iterator ≡ drop (length l.found.items) l.fn.models.items;
  each : (k : ℕ) → k < length l.found.items → IsShort l.looked.names.keys l.looked.positions.items l.ways k (model_at (map plain_model l.fn.models.items) k) (model_at (map plain_model l.found.items) k);
}
