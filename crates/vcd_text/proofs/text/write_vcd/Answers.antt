use Rattle.std.proofs.Common.{arith}
use Rattle.vcd_text.proofs.Spelled.{names_from_index}
use Rattle.vcd_text.proofs.Told.{text_tells, text_repeats_nothing}
use Rattle.vcd_text.proofs.text.write_vcd.Goals as goal

pub returns-clause-at : goal.returns-clause-at
returns-clause-at c = text_tells c.in_ok-bytes.bytes.items c.args.names.now c.args.cycles c.args.values.now (omega (arith, c.ranges.cycles.fits)) (names_from_index c.args.names.now c.know_names.ensures) c.in_ok-bytes.ensures

pub returns-clause-no_repeat : goal.returns-clause-no_repeat
returns-clause-no_repeat c = text_repeats_nothing c.in_ok-bytes.bytes.items c.args.names.now c.args.cycles c.args.values.now (omega (arith, c.ranges.cycles.fits)) (names_from_index c.args.names.now c.know_names.ensures) c.in_ok-bytes.ensures
