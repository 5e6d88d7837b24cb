use Rattle.std.proofs.Common.{get_or, sym, ap, arith}
use Rattle.graph.proofs.ReaderLaws.{passes, notes}
use Rattle.graph.proofs.reversing.note_read.Goals as goal

pub returns-then-count-x : goal.returns-then-count-x
returns-then-count-x c =
    passes c.args.graph.now c.args.y c.args.place (get_or c.row.result.now c.args.place 0) c.args.readers.now c.requires.listed (ap (λ r. get_or r c.args.place 0) (sym c.row.ensures)) (omega (arith, c.requires.count, c.if-count-x.true))

pub returns : goal.returns
returns c =
    notes c.args.graph.now c.args.y c.args.place (get_or c.row.result.now c.args.place 0) c.args.readers.now _ c.requires.listed c.requires.within (ap (λ r. get_or r c.args.place 0) (sym c.row.ensures)) (omega (arith, c.requires.count, c.if-count-x.false)) c.in_ok-add.ensures
