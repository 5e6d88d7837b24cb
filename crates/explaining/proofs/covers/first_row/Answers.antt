use Rattle.std.proofs.Common.{arith}
use Rattle.explaining.proofs.Differs.{covers_same}
use Rattle.explaining.proofs.covers.first_row.Goals as goal

pub returns-clause-none : goal.returns-clause-none
returns-clause-none c =
    covers_same c.args.is.now c.args.wanted.now c.loop-row.row c.requires.width c.requires.polarity c.requires.rows (omega (arith, c.row_count-row-end.ensures, c.loop-row-test.false)) c.loop-row.invariant
