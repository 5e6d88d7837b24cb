use Rattle.std.proofs.Common.{arith}
use Rattle.std.proofs.lemmas.Option.{slice_get_within}
use Rattle.table_cover.proofs.WordLaws.{word_bit_zero}
use Rattle.net_meaning.specs.Meaning.{value_at}
use Rattle.schedule_replay.proofs.WideRows.{bit_done, bit_rest}
use Rattle.schedule_replay.proofs.wide_rows.input_word.Goals as goal

pub loop-j-init : goal.loop-j-init
loop-j-init c = record {
  done = λ i s h at. absurd (omega arith);
  rest = λ i h l. word_bit_zero i;
}

pub loop-j-preserved : goal.loop-j-preserved
loop-j-preserved c = record {
  done = bit_done (λ s. value_at s.rows c.args.t c.args.i) c.args.list.now c.loop-j.word c.with_bit-word.result c.loop-j.j c.index-list-j.result c.input.result c.loop-j-test.true c.requires.few c.index-list-j.is c.input.ensures c.with_bit-word.ensures c.loop-j.invariant.done c.loop-j.invariant.rest;
  rest = bit_rest c.loop-j.word c.with_bit-word.result c.loop-j.j c.input.result c.with_bit-word.ensures c.loop-j.invariant.rest;
}

pub returns : goal.returns
returns c = λ j s at. c.loop-j.invariant.done j s (let w = slice_get_within c.args.list.now j s at in omega arith) at
