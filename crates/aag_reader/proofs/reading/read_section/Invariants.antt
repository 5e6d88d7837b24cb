use Rattle.aag_reader.specs.Private.Sections.{HasSection}
use Rattle.aag_reader.proofs.reading.read_section.Given as goal

abbrev pub invariant-loop : goal.invariant-loop
invariant-loop g l = HasSection (g.E.Entry.form l.most) l.counter l.fn.lines l.lines l.entries.items
