use Rattle.std.proofs.Common.{◌≡◌, ◌∙◌, ◌+◌, Bool, cond, ap, sym, arith, true}
use Rattle.table_cover.specs.Words.{word_bit, bits_of}
use Rattle.net_meaning.specs.Meaning.{bit}
use Rattle.net_simulator.specs.Settled.{marked, number_of_cycle, IsInput, IsHeldAmong, IsNoTable}
use Rattle.net_simulator.specs.Registers.{held_nets}
use Rattle.net_simulator.proofs.Settling.{settled_anyway}
use Rattle.net_simulator.proofs.Lanes.{no_held, all_held, settled_words, bit_of_words}
use Rattle.net_simulator.proofs.Nodes.{register_settles}
use Rattle.net_simulator.proofs.cycle.set_registers.Goals as goal

pub loop-i-init : goal.loop-i-init
loop-i-init c = λ j ins l first.
    settled_anyway c.args.net.now.net (number_of_cycle c.args.started) ins (bits_of j c.args.before.now) (marked c.args.marks.now j) (IsInput c.args.net.now.net) (IsHeldAmong c.args.net.now.net (held_nets c.args.registers.now) 0) (bits_of j c.args.now.now) 0 true
    first (λ y h q. no_held c.args.net.now.net (held_nets c.args.registers.now) y q)

pub loop-i-preserved : goal.loop-i-preserved
loop-i-preserved c = λ j ins l first.
    let n = c.args.net.now.net in
    let r = c.held_at-register.result in
    let own : word_bit j c.register_word-own.result ≡ cond c.args.started (bit (bits_of j c.args.before.now) r.pin.0) r.init =
    c.register_word-own.ensures j l ∙ ap (λ (b : Bool). cond c.args.started b r.init) (sym (bit_of_words j c.args.before.now r.pin.0)) in
    settled_words n (number_of_cycle c.args.started) ins (bits_of j c.args.before.now) (marked c.args.marks.now j) (IsHeldAmong n (held_nets c.args.registers.now) (c.loop-i.i + 1)) c.loop-i.now j r.net.0 c.word.result
    (register_settles n c.args.registers.now c.loop-i.i r c.args.started ins (bits_of j c.args.before.now) (marked c.args.marks.now j) (bits_of j c.loop-i.now) (word_bit j c.register_word-own.result) (word_bit j c.word.result)
    c.held_at-register.ensures.there c.held_at-register.ensures.holds own (c.word.ensures j l) (c.loop-i.invariant j ins l first))

pub returns : goal.returns
returns c = λ j ins l first.
    settled_anyway c.args.net.now.net (number_of_cycle c.args.started) ins (bits_of j c.args.before.now) (marked c.args.marks.now j) (IsHeldAmong c.args.net.now.net (held_nets c.args.registers.now) c.loop-i.i) (IsNoTable c.args.net.now.net) (bits_of j c.loop-i.now) 0 true
    (c.loop-i.invariant j ins l first) (λ y h q. all_held c.args.net.now.net c.args.registers.now c.loop-i.i c.requires.registers (omega arith) y q)
