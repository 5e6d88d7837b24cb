use Rattle.std.proofs.Common.{◌≡◌, ◌∙◌, List, Bool, length, sym, ap, arith}
use Rattle.std.specs.Option.{unwrap_or}
use Rattle.flat_net.specs.Net.{net_count}
use Rattle.table_cover.specs.Words.{bits_of}
use Rattle.net_simulator.specs.Settled.{marked, number_of_cycle}
use Rattle.net_simulator.proofs.Lanes.{inputs_settled, all_settled, length_bits, bit_of_words}
use Rattle.net_simulator.proofs.cycle.run_cycle.Goals as goal

pub returns : goal.returns
returns c = λ j l.
    let n = c.args.net.now.net in
    let ins : List Bool = bits_of j c.args.given.now.ins.now in
    let before : List Bool = bits_of j c.args.given.now.before.now in
    let long : length ins ≡ length n.inputs = length_bits j c.args.given.now.ins.now ∙ c.requires.ins in
    let wide : length (bits_of j c.set_inputs.new.now) ≡ net_count n = length_bits j c.set_inputs.new.now ∙ (omega arith) in
    let inputs = inputs_settled n ins before (marked c.args.marks.now j) (number_of_cycle c.args.given.now.started) (bits_of j c.set_inputs.new.now) wide long
    (λ x h. bit_of_words j c.set_inputs.new.now x ∙ (c.set_inputs.ensures j x l (let e = length_bits j c.args.given.now.ins.now in omega arith) ∙ ap (unwrap_or (marked c.args.marks.now j x)) (sym (bit_of_words j c.args.given.now.ins.now x)))) in
    all_settled n ins before (marked c.args.marks.now j) c.args.given.now.started (bits_of j c.set_tables.new.now) (c.set_tables.ensures j ins l (c.set_registers.ensures j ins l inputs))
