use Rattle.std.proofs.Common.{arith}
use Rattle.net_meaning.specs.Meaning.{value_at}
use Rattle.schedule_replay.proofs.WideRows.{word_done}
use Rattle.schedule_replay.proofs.wide_rows.write_row.Goals as goal

pub loop-i-preserved : goal.loop-i-preserved
loop-i-preserved c = λ j s k at h. word_done (value_at s.rows c.args.t) c.loop-i.row c.loop-i.i c.input_word.result j k (omega arith) (c.input_word.ensures j s at) (c.loop-i.invariant j s k at) h
