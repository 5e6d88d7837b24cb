use Rattle.std.proofs.Common.{◌≡◌, length, drop, take, []}
use Rattle.std.specs.Vec.Iter.{into_iter_items}
use Rattle.tmr_outside.specs.Counts.{NoneRose}
use Rattle.tmr_outside.specs.Seen.{IsTold}
use Rattle.tmr_top.specs.Changes.{ChangesOnly}
use Rattle.tmr_top.specs.Private.Saved.{after_saves}
use Rattle.tmr_top.specs.Private.Works.{save_names, save_texts}
use Rattle.tmr_top.proofs.saves.save_all.Given as goal

abbrev pub invariant-loop-save : goal.invariant-loop-save
invariant-loop-save g l = record {
  left : into_iter_items l.save-iterator ≡ drop (length l.yielded) l.fn.saves.items;
  held : (g.F.Files.seen l.files).contents ≡ after_saves (g.F.Files.seen l.initial.files).contents (take (length l.yielded) (save_names l.fn.saves.items)) (save_texts l.fn.saves.items);
  none : IsTold (g.F.Files.seen l.initial.files) → NoneRose (g.F.Files.seen l.initial.files).save_count (g.F.Files.seen l.files).save_count;
  changes : ChangesOnly [] (save_names l.fn.saves.items) (g.F.Files.seen l.initial.files) (g.F.Files.seen l.files);
  steady : g.F.Files.steady l.initial.files → g.F.Files.steady l.files;
}
