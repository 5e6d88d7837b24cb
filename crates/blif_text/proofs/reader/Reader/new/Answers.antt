use Rattle.std.proofs.Common.{arith}
use Rattle.blif_text.proofs.Taken.{stands_new}
use Rattle.blif_text.proofs.reader.Reader.new.Goals as goal

pub returns-clause-stands : goal.returns-clause-stands
returns-clause-stands c = record { size = omega (arith, c.hardened.ensures.is); read = stands_new c.new.result c.new-2.result c.new.ensures c.new-2.ensures }
