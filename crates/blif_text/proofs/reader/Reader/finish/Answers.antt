use Rattle.std.proofs.Common.{sym, subst}
use Rattle.blif_text.specs.Reader.{StandsFor}
use Rattle.blif_text.proofs.reader.Reader.finish.Goals as goal

pub returns-clause-reads : goal.returns-clause-reads
returns-clause-reads c = λ given s. c.finish.ensures.reads given (subst (λ r. StandsFor r given) (sym c.self.view_is) s).read
