use Rattle.blif_text.proofs.Taken.{after_line, refused_line, joined_line_on, ends_so, joins_so}
use Rattle.blif_text.proofs.reader.text.end_line.Goals as goal

pub returns-in-Ok-clause-ok : goal.returns-in-Ok-clause-ok
returns-in-Ok-clause-ok c = after_line c.args.lines.now c.end_line.new.self c.take_joined.new.lines c.args.progress.now c.take_joined.new.progress
    (ends_so _ _ c.in-Ok-true.ensures.ended c.in-Ok-true.field-0-test) c.in-Ok-true.ensures.ok c.in-Ok.ensures.begun c.in-Ok.ensures.taken

pub returns-in-Err-take_joined-clause-bad : goal.returns-in-Err-take_joined-clause-bad
returns-in-Err-take_joined-clause-bad c = refused_line c.args.lines.now c.end_line.new.self c.args.progress.now c.take_joined.new.progress c.in-Err-take_joined.fault
    (ends_so _ _ c.in-Ok-true.ensures.ended c.in-Ok-true.field-0-test) c.in-Ok-true.ensures.ok c.in-Err-take_joined.ensures.refused

pub returns-in-Ok-false-clause-ok : goal.returns-in-Ok-false-clause-ok
returns-in-Ok-false-clause-ok c = joined_line_on c.args.lines.now c.end_line.new.self c.args.progress.now
    (joins_so _ _ c.in-Ok-false.ensures.ended c.in-Ok-false.field-0-test) c.in-Ok-false.ensures.ok
