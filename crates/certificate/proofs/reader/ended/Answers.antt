use Rattle.certificate.proofs.Endings.{fault_read}
use Rattle.certificate.proofs.reader.ended.Goals as goal

pub returns-in-Some-clause-exact : goal.returns-in-Some-clause-exact
returns-in-Some-clause-exact c = λ given read. fault_read c.args.n.now.net c.args.h.now.net c.args.refused c.args.line c.args.progress given read c.in-Some.fault c.in-Some.is
