use Rattle.std.proofs.Common.{arith}
use Rattle.std.proofs.lemmas.Grind.{common_steps}
use Rattle.tmr_outside.proofs.ContentsLemmas.{contents_of-insert}
use Rattle.tmr_outside.proofs.stored_files.StoredFiles.insert.Goals as goal

pub returns-clause-ok : goal.returns-clause-ok
returns-clause-ok c = grind (arith, common_steps, c.self.view_is, contents_of-insert c.in_ok-key.key c.in_ok-copy.copy c.self.inside.files c.insert.new.self c.in_ok-insert.ensures.updates)
