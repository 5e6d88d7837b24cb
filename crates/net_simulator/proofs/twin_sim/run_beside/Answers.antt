use Rattle.std.proofs.Common.{◌≡◌, ◌∙◌, List, Bool, length, sym, ap, arith}
use Rattle.std.specs.Option.{unwrap_or}
use Rattle.flat_net.specs.Net.{net_count}
use Rattle.table_cover.specs.Words.{bits_of}
use Rattle.net_simulator.specs.Settled.{marked, number_of_cycle, last_of}
use Rattle.net_simulator.proofs.Lanes.{inputs_settled, all_settled, length_bits, bit_of_words, table_within}
use Rattle.net_simulator.proofs.OneCycle.{forced_alike}
use Rattle.net_simulator.proofs.twin_sim.run_beside.Goals as goal

pub returns-clause-cycle : goal.returns-clause-cycle
returns-clause-cycle c = λ j n own forced l twins met are beside same.
    let h = c.args.layout.now.net.now.net in
    let ins : List Bool = bits_of j c.args.given.now.ins.now in
    let before : List Bool = bits_of j c.args.given.now.before.now in
    let long : length ins ≡ length h.inputs = length_bits j c.args.given.now.ins.now ∙ c.requires.ins in
    let wide : length (bits_of j c.set_inputs_beside.new.now) ≡ net_count h = length_bits j c.set_inputs_beside.new.now ∙ (c.set_inputs_beside.ensures.long ∙ c.requires.now) in
    let inputs = inputs_settled h ins before (marked c.args.marks.now j) (number_of_cycle c.args.given.now.started) (bits_of j c.set_inputs_beside.new.now) wide long
    (λ x k. bit_of_words j c.set_inputs_beside.new.now x ∙ (c.set_inputs_beside.ensures.set j x l (let e = length_bits j c.args.given.now.ins.now in omega (arith, e, k)) ∙ ap (unwrap_or (marked c.args.marks.now j x)) (sym (bit_of_words j c.args.given.now.ins.now x)))) in
    let registers = c.set_registers_beside.ensures.settled j ins l inputs in
    let beside_now = c.set_registers_beside.ensures.beside own twins.readers (c.set_inputs_beside.ensures.beside h own twins.readers beside) in
    let cycle = all_settled h ins before (marked c.args.marks.now j) c.args.given.now.started (bits_of j c.set_tables_beside.new.now)
    (c.set_tables_beside.ensures.settled j (number_of_cycle c.args.given.now.started) ins before n own l twins met
    (λ y table.
    let (low, high) = table_within h y table in
    c.set_registers_beside.ensures.tables y table ∙ (c.set_inputs_beside.ensures.others y (omega (arith, low, c.requires.ins)) ∙ are y (omega (arith, high, c.requires.now))))
    beside_now registers) in
    forced_alike h (last_of c.args.given.now.started before) ins (marked c.args.marks.now j) forced (bits_of j c.set_tables_beside.new.now) (λ x k. same x) cycle
