use Rattle.std.proofs.Common.{ℕ, List, ◌≤◌, ◌+◌, ◌∙◌, ap, length, slice_index, true, arith}
use Rattle.std.proofs.lemmas.List.{length-map}
use Rattle.table_cover.specs.Words.{word_bit, bits_of}
use Rattle.net_meaning.specs.Meaning.{bit}
use Rattle.net_simulator.specs.Settled.{marked, number_of_cycle, IsNoTable, IsAmong, IsAnyNet}
use Rattle.net_simulator.specs.Tables.{entry_nets}
use Rattle.net_simulator.specs.Truth.{short_value}
use Rattle.net_simulator.specs.declared.tables.Entry.{Entry}
use Rattle.net_simulator.proofs.Settling.{settled_anyway}
use Rattle.net_simulator.proofs.Lanes.{none_among, all_among, settled_words}
use Rattle.net_simulator.proofs.Nodes.{count_within, rest_after, literals_value, pins_within, pins_after, pins_few, entry_short_value, table_settles}
use Rattle.net_simulator.proofs.cycle.set_tables.Goals as goal

pub loop-i-init : goal.loop-i-init
loop-i-init c = record {
  rest = c.as_slice-rest.ensures.value ∙ c.requires.tables.literals;
  pins = c.as_slice-rest_pins.ensures.value ∙ c.requires.truths.pins;
  settled = λ j ins l first.
      settled_anyway c.args.net.now.net (number_of_cycle c.args.started) ins (bits_of j c.args.before.now) (marked c.args.marks.now j) (IsNoTable c.args.net.now.net) (IsAmong c.args.net.now.net (entry_nets c.args.tables.now.entries.items) 0) (bits_of j c.args.now.now) 0 true
      first (λ y h q. none_among c.args.net.now.net (entry_nets c.args.tables.now.entries.items) y q);
}

pub split_at-requires : goal.split_at-requires
split_at-requires c = count_within c.args.net.now.net c.args.tables.now c.requires.tables c.loop-i.i c.entry_at-entry.result c.entry_at-entry.ensures.there c.loop-i.rest.now c.loop-i.invariant.rest

pub split_at-requires-in-loop-i : goal.split_at-requires-in-loop-i
split_at-requires-in-loop-i c = pins_within c.args.net.now.net c.args.tables.now c.requires.tables c.loop-i.i c.entry_at-entry.result c.entry_at-entry.ensures.there c.args.truths.now c.requires.truths c.loop-i.rest_pins.now c.loop-i.invariant.pins

pub table_word-own-requires : goal.table_word-own-requires
table_word-own-requires c = pins_few c.args.net.now.net c.args.tables.now c.requires.tables c.loop-i.i c.entry_at-entry.result c.entry_at-entry.ensures.there c.args.truths.now c.requires.truths c.loop-i.rest_pins.now c.loop-i.invariant.pins c.split_at-in-loop-i.result.0.now c.split_at-in-loop-i.ensures.front

pub loop-i-preserved : goal.loop-i-preserved
loop-i-preserved c =
    let n = c.args.net.now.net in
    let e = c.entry_at-entry.result in
    let there = c.entry_at-entry.ensures.there in
    record {
      rest = c.split_at.ensures.back ∙ rest_after n c.args.tables.now c.requires.tables c.loop-i.i e there c.loop-i.rest.now c.loop-i.invariant.rest;
      pins = c.split_at-in-loop-i.ensures.back ∙ pins_after n c.args.tables.now c.requires.tables c.loop-i.i e there c.args.truths.now c.requires.truths c.loop-i.rest_pins.now c.loop-i.invariant.pins;
      settled = λ j ins l first.
          settled_words n (number_of_cycle c.args.started) ins (bits_of j c.args.before.now) (marked c.args.marks.now j) (IsAmong n (entry_nets c.args.tables.now.entries.items) (c.loop-i.i + 1)) c.loop-i.now j e.net.0 c.word.result
          (table_settles n c.args.tables.now c.requires.tables c.loop-i.i e there
          (number_of_cycle c.args.started) ins (bits_of j c.args.before.now) (marked c.args.marks.now j) (bits_of j c.loop-i.now) (word_bit j c.table_word-own.result) (word_bit j c.word.result)
          (c.table_word-own.ensures j l
          ∙ (ap (λ (w : ℕ). short_value e w c.split_at-in-loop-i.result.0.now c.split_at.result.0.now (bit (bits_of j c.loop-i.now))) (c.word_at_place-word.ensures ∙ ap (λ (ws : List ℕ). slice_index ws c.loop-i.i) c.deref.ensures.value)
          ∙ entry_short_value n c.args.tables.now c.requires.tables c.loop-i.i e there c.args.truths.now c.requires.truths c.loop-i.rest_pins.now c.loop-i.invariant.pins
          c.split_at-in-loop-i.result.0.now c.split_at.result.0.now (number_of_cycle c.args.started) (bits_of j c.args.before.now) (bits_of j c.loop-i.now) c.split_at-in-loop-i.ensures.front
          (literals_value n c.args.tables.now c.requires.tables c.loop-i.i e there c.loop-i.rest.now c.loop-i.invariant.rest
          c.split_at.result.0.now (number_of_cycle c.args.started) (bits_of j c.args.before.now) (bits_of j c.loop-i.now) c.split_at.ensures.front)))
          (c.word.ensures j l) (c.loop-i.invariant.settled j ins l first));
    }

pub returns : goal.returns
returns c = λ j ins l first.
    let long = length-map c.args.tables.now.entries.items (λ (e : Entry). e.net.0) in
    let all : length (entry_nets c.args.tables.now.entries.items) ≤ c.loop-i.i = omega (arith, long) in
    settled_anyway c.args.net.now.net (number_of_cycle c.args.started) ins (bits_of j c.args.before.now) (marked c.args.marks.now j) (IsAmong c.args.net.now.net (entry_nets c.args.tables.now.entries.items) c.loop-i.i) IsAnyNet (bits_of j c.loop-i.now) 0 true
    (c.loop-i.invariant.settled j ins l first) (λ y h q. all_among c.args.net.now.net (entry_nets c.args.tables.now.entries.items) c.loop-i.i c.requires.tables.order all y)
