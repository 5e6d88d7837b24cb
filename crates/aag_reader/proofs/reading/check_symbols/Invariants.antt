use Rattle.std.proofs.Common.{length}
use Rattle.aag_reader.specs.Private.Sections.{ReadSymbols}
use Rattle.aag_reader.proofs.reading.check_symbols.Given as goal

abbrev pub invariant-loop : goal.invariant-loop
invariant-loop l = ReadSymbols l.h l.fn.lines l.lines

abbrev pub decreases-loop : goal.decreases-loop
decreases-loop l = length l.lines.bytes
