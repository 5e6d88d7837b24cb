use Rattle.library_faults.proofs.NameSets.{among_names}
use Rattle.std.proofs.Common.{ap, ◌∙◌}
use Rattle.std.specs.Str.{bytes_eq}
use Rattle.indexmap.specs.IndexSet.{insert_key}
use Rattle.library_faults.proofs.lengths.counting.add_names.Goals as goal

pub loop-name-preserved : goal.loop-name-preserved
loop-name-preserved c = λ name. among_names c.args.set.now.keys c.loop-name.set.keys c.insert.new.self.keys c.args.names.now c.loop-name.name-index c.name-item.result name c.loop-name-test.true c.name-item.is (c.loop-name.invariant name) (c.in_ok-insert.ensures.keys ∙ ap (insert_key bytes_eq c.loop-name.set.keys) c.in_ok-copy.ensures)
