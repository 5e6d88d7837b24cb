use Rattle.aag_reader.proofs.FileLaws.{file_is}
use Rattle.aag_reader.proofs.reading.aig_of_text.Goals as goal

pub returns-clause-file : goal.returns-clause-file
returns-clause-file c =
    file_is c.args.bytes.now c.in_ok-header.header c.new-lines.result c.next_header.new.lines c.new-lines.ensures c.in_ok-header.ensures.next
    c.read_section.new.lines c.in_ok-inputs.inputs.items c.in_ok-inputs.ensures.section
    c.read_section-2.new.lines c.in_ok-latches.latches.items c.in_ok-latches.ensures.section
    c.read_section-3.new.lines c.in_ok-outputs.outputs.items c.in_ok-outputs.ensures.section
    c.read_section-4.new.lines c.in_ok-gates.gates.items c.in_ok-gates.ensures.section
    c.in_ok-check_symbols.ensures.symbols
