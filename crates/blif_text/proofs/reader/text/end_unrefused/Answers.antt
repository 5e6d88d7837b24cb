use Rattle.std.proofs.Common.{subst}
use Rattle.blif_text.specs.Reader.{HasRead}
use Rattle.blif_text.proofs.Taken.{bad_given}
use Rattle.blif_text.proofs.reader.text.end_unrefused.Goals as goal

pub returns-in-Some-clause-reads : goal.returns-in-Some-clause-reads
returns-in-Some-clause-reads c = λ given read.
    bad_given given c.in-Some.fault (subst (λ f. HasRead f c.args.lines.now c.args.progress.now given) c.in-Some.is read)
