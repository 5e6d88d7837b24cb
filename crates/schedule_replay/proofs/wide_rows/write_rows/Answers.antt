use Rattle.std.proofs.Common.{arith}
use Rattle.net_meaning.specs.Meaning.{row_at}
use Rattle.schedule_replay.proofs.WideRows.{row_words, spread_words}
use Rattle.schedule_replay.proofs.wide_rows.write_rows.Goals as goal

pub returns-clause-row : goal.returns-clause-row
returns-clause-row c = λ j s at. row_words c.args.list.now c.args.t j s c.args.inputs c.write_row.new.row at c.requires.plain (omega arith) (λ i h. c.write_row.ensures j s i at h)

pub returns-clause-spread : goal.returns-clause-spread
returns-clause-spread c = λ j s at.
    spread_words j c.write_row.new.row c.write_spread.new.spread (row_at s.rows c.args.t) (omega arith) c.write_spread.ensures
    (row_words c.args.list.now c.args.t j s c.args.inputs c.write_row.new.row at c.requires.plain (omega arith) (λ i h. c.write_row.ensures j s i at h))
