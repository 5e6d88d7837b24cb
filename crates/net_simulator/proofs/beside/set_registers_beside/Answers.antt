use Rattle.std.proofs.Common.{ℕ, ◌≡◌, ◌∙◌, ◌+◌, Bool, List, length, cond, ap, subst, sym, slice_index, arith, true, refl}
use Rattle.std.proofs.lemmas.List.{length-set, get_or-set_other}
use Rattle.table_cover.specs.Words.{word_bit, bits_of}
use Rattle.flat_net.specs.Net.{node_of, IsTable}
use Rattle.net_meaning.specs.Meaning.{bit}
use Rattle.net_simulator.specs.Settled.{marked, number_of_cycle, IsSettled, IsInput, IsHeldAmong, IsNoTable}
use Rattle.net_simulator.specs.Registers.{held_nets}
use Rattle.net_simulator.proofs.ChangeLaws.{held_no_table}
use Rattle.net_simulator.proofs.Settling.{settled_anyway}
use Rattle.net_simulator.proofs.Lanes.{no_held, all_held, settled_words, bit_of_words}
use Rattle.net_simulator.proofs.Nodes.{register_settles}
use Rattle.net_simulator.proofs.beside.set_registers_beside.Goals as goal

pub loop-i-init : goal.loop-i-init
loop-i-init c = record {
  room = c.requires.room;
  sized = refl;
  long = refl;
  settled = λ j ins l first.
      settled_anyway c.args.net.now.net (number_of_cycle c.args.given.now.started) ins (bits_of j c.args.given.now.before.now) (marked c.args.marks.now j) (IsInput c.args.net.now.net) (IsHeldAmong c.args.net.now.net (held_nets c.args.registers.now) 0) (bits_of j c.args.now.now) 0 true
      first (λ y h q. no_held c.args.net.now.net (held_nets c.args.registers.now) y q);
  tables = λ x t. refl;
  beside = λ own readers is. is;
}

pub loop-i-preserved : goal.loop-i-preserved
loop-i-preserved c =
    let n = c.args.net.now.net in
    let r = c.held_at-register.result in
    record {
      room = c.put.ensures.room;
      sized = c.put.ensures.sized ∙ c.loop-i.invariant.sized;
      long = ap (λ (ws : List ℕ). length ws) c.put.ensures.now ∙ (length-set c.loop-i.now r.net.0 c.word.result ∙ c.loop-i.invariant.long);
      settled = λ j ins l first.
          let own : word_bit j c.register_word-own.result ≡ cond c.args.given.now.started (bit (bits_of j c.args.given.now.before.now) r.pin.0) r.init =
          c.register_word-own.ensures j l ∙ ap (λ (b : Bool). cond c.args.given.now.started b r.init) (sym (bit_of_words j c.args.given.now.before.now r.pin.0)) in
          subst (λ (ws : List ℕ). IsSettled n (number_of_cycle c.args.given.now.started) ins (bits_of j c.args.given.now.before.now) (marked c.args.marks.now j) (IsHeldAmong n (held_nets c.args.registers.now) (c.loop-i.i + 1)) (bits_of j ws)) (sym c.put.ensures.now)
          (settled_words n (number_of_cycle c.args.given.now.started) ins (bits_of j c.args.given.now.before.now) (marked c.args.marks.now j) (IsHeldAmong n (held_nets c.args.registers.now) (c.loop-i.i + 1)) c.loop-i.now j r.net.0 c.word.result
          (register_settles n c.args.registers.now c.loop-i.i r c.args.given.now.started ins (bits_of j c.args.given.now.before.now) (marked c.args.marks.now j) (bits_of j c.loop-i.now) (word_bit j c.register_word-own.result) (word_bit j c.word.result)
          c.held_at-register.ensures.there c.held_at-register.ensures.holds own (c.word.ensures j l) (c.loop-i.invariant.settled j ins l first)));
      tables = λ x t.
          ap (λ (ws : List ℕ). slice_index ws x) c.put.ensures.now
          ∙ (get_or-set_other c.loop-i.now r.net.0 x c.word.result 0 (λ same. held_no_table (node_of n r.net.0) r.init r.pin.0 c.held_at-register.ensures.holds (subst (λ (z : ℕ). IsTable (node_of n z)) same t))
          ∙ c.loop-i.invariant.tables x t);
      beside = λ own readers is. c.put.ensures.beside n c.args.marks.now own readers (c.loop-i.invariant.beside own readers is);
    }

pub returns-clause-settled : goal.returns-clause-settled
returns-clause-settled c = λ j ins l first.
    settled_anyway c.args.net.now.net (number_of_cycle c.args.given.now.started) ins (bits_of j c.args.given.now.before.now) (marked c.args.marks.now j) (IsHeldAmong c.args.net.now.net (held_nets c.args.registers.now) c.loop-i.i) (IsNoTable c.args.net.now.net) (bits_of j c.loop-i.now) 0 true
    (c.loop-i.invariant.settled j ins l first) (λ y h q. all_held c.args.net.now.net c.args.registers.now c.loop-i.i c.requires.registers (omega arith) y q)
