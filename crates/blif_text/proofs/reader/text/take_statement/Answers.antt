use Rattle.blif_text.specs.Text.{tokens}
use Rattle.blif_text.proofs.Sound.{taken_sound}
use Rattle.blif_text.proofs.reader.text.take_statement.Goals as goal

pub returns-in-Ok-clause-sound : goal.returns-in-Ok-clause-sound
returns-in-Ok-clause-sound c = taken_sound 0 (tokens c.args.text.now) c.args.progress.now c.take_text.new.progress (c.in-Ok.ensures 0)
