use Rattle.std.proofs.Common.{ℕ, Bool, List, ◌≡◌, ◌≤◌, ◌<◌, ◌+◌, ◌∙◌, ap, subst, sym, refl, length, slice_index, true, arith}
use Rattle.std.proofs.lemmas.List.{length-map, get_or-set_other}
use Rattle.table_cover.specs.Words.{word_bit, bits_of}
use Rattle.net_meaning.specs.Meaning.{bit}
use Rattle.net_simulator.specs.Settled.{marked, IsSettled, IsNoTable, IsAmong, IsAnyNet}
use Rattle.net_simulator.specs.Tables.{entry_nets}
use Rattle.net_simulator.specs.Truth.{short_value}
use Rattle.net_simulator.specs.declared.tables.Entry.{Entry}
use Rattle.net_simulator.proofs.ChangeLaws.{by_bit, left_settles, not_due_value, pins_within}
use Rattle.net_simulator.proofs.Settling.{settled_anyway}
use Rattle.net_simulator.proofs.Lanes.{none_among, all_among, settled_words, net_index}
use Rattle.net_simulator.proofs.Nodes.{count_within, rest_after, literals_value, pins_within as count_pins_within, pins_after, pins_few, entry_short_value, table_settles}
use Rattle.net_simulator.proofs.beside.set_tables_beside.Goals as goal

pub loop-i-init : goal.loop-i-init
loop-i-init c = record {
  rest = c.as_slice-rest.ensures.value ∙ c.requires.tables.literals;
  pins = c.as_slice-rest_pins.ensures.value ∙ c.requires.truths.pins;
  room = c.requires.room;
  sized = refl;
  long = refl;
  beside = λ own readers is. is;
  ahead = λ m l h. refl;
  settled = λ j t ins before n own l twins met own_tables beside first.
      settled_anyway c.args.net.now.net t ins before (marked c.args.marks.now j) (IsNoTable c.args.net.now.net) (IsAmong c.args.net.now.net (entry_nets c.args.tables.now.entries.items) 0) (bits_of j c.args.now.now) 0 true
      first (λ y h q. none_among c.args.net.now.net (entry_nets c.args.tables.now.entries.items) y q);
}

pub split_at-requires : goal.split_at-requires
split_at-requires c = count_within c.args.net.now.net c.args.tables.now c.requires.tables c.loop-i.i c.entry_at-entry.result c.entry_at-entry.ensures.there c.loop-i.rest.now c.loop-i.invariant.rest

pub split_at-requires-in-loop-i : goal.split_at-requires-in-loop-i
split_at-requires-in-loop-i c = count_pins_within c.args.net.now.net c.args.tables.now c.requires.tables c.loop-i.i c.entry_at-entry.result c.entry_at-entry.ensures.there c.args.truths.now c.requires.truths c.loop-i.rest_pins.now c.loop-i.invariant.pins

pub visit_table-requires-clause-short : goal.visit_table-requires-clause-short
visit_table-requires-clause-short c = pins_few c.args.net.now.net c.args.tables.now c.requires.tables c.loop-i.i c.entry_at-entry.result c.entry_at-entry.ensures.there c.args.truths.now c.requires.truths c.loop-i.rest_pins.now c.loop-i.invariant.pins c.split_at-in-loop-i.result.0.now c.split_at-in-loop-i.ensures.front

pub loop-i-preserved : goal.loop-i-preserved
loop-i-preserved c =
    let h = c.args.net.now.net in
    let e = c.entry_at-entry.result in
    let x = e.net.0 in
    let there = c.entry_at-entry.ensures.there in
    let nets : List ℕ = entry_nets c.args.tables.now.entries.items in
    let here : slice_index nets c.loop-i.i ≡ x = net_index (λ (f : Entry). f.net.0) c.args.tables.now.entries.items c.loop-i.i e there in
    let all = length-map c.args.tables.now.entries.items (λ (f : Entry). f.net.0) in
    let is_due : Bool = bit c.loop-i.changes.due.items x in
    let kept : c.loop-i.i < length nets = omega (arith, all) in
    record {
      rest = c.split_at.ensures.back ∙ rest_after h c.args.tables.now c.requires.tables c.loop-i.i e there c.loop-i.rest.now c.loop-i.invariant.rest;
      pins = c.split_at-in-loop-i.ensures.back ∙ pins_after h c.args.tables.now c.requires.tables c.loop-i.i e there c.args.truths.now c.requires.truths c.loop-i.rest_pins.now c.loop-i.invariant.pins;
      room = c.visit_table.ensures.room;
      sized = c.visit_table.ensures.sized ∙ c.loop-i.invariant.sized;
      long = c.visit_table.ensures.long ∙ c.loop-i.invariant.long;
      beside = λ own readers is. c.visit_table.ensures.beside h own readers (c.loop-i.invariant.beside own readers is);
      ahead = λ m l k.
          by_bit is_due
          (λ f.
          ap (λ (ws : List ℕ). slice_index ws (slice_index nets m)) (c.visit_table.ensures.written f)
          ∙ (get_or-set_other c.loop-i.now x (slice_index nets m) (slice_index c.visit_table.new.now x) 0 (λ same. c.requires.tables.order.once c.loop-i.i m (omega arith) k (here ∙ sym same))
          ∙ c.loop-i.invariant.ahead m (omega arith) k))
          (λ f. ap (λ (ws : List ℕ). slice_index ws (slice_index nets m)) (c.visit_table.ensures.left f) ∙ c.loop-i.invariant.ahead m (omega arith) k);
      settled = λ j t ins before n own l twins met own_tables beside first.
          let settled_now = c.loop-i.invariant.settled j t ins before n own l twins met own_tables beside first in
          let beside_now = c.loop-i.invariant.beside own twins.readers beside in
          let high : x < length c.loop-i.now = omega (arith, c.loop-i.invariant.long, c.entry_at-entry.ensures.high) in
          by_bit is_due
          (λ f.
          subst (λ (ws : List ℕ). IsSettled h t ins before (marked c.args.marks.now j) (IsAmong h nets (c.loop-i.i + 1)) (bits_of j ws)) (sym (c.visit_table.ensures.written f))
          (settled_words h t ins before (marked c.args.marks.now j) (IsAmong h nets (c.loop-i.i + 1)) c.loop-i.now j x (slice_index c.visit_table.new.now x)
          (table_settles h c.args.tables.now c.requires.tables c.loop-i.i e there t ins before (marked c.args.marks.now j) (bits_of j c.loop-i.now)
          (short_value e c.word_at_place-word.result c.split_at-in-loop-i.result.0.now c.split_at.result.0.now (bit (bits_of j c.loop-i.now))) (word_bit j (slice_index c.visit_table.new.now x))
          (ap (λ (w : ℕ). short_value e w c.split_at-in-loop-i.result.0.now c.split_at.result.0.now (bit (bits_of j c.loop-i.now))) (c.word_at_place-word.ensures ∙ ap (λ (ws : List ℕ). slice_index ws c.loop-i.i) c.deref.ensures.value)
          ∙ entry_short_value h c.args.tables.now c.requires.tables c.loop-i.i e there c.args.truths.now c.requires.truths c.loop-i.rest_pins.now c.loop-i.invariant.pins
          c.split_at-in-loop-i.result.0.now c.split_at.result.0.now t before (bits_of j c.loop-i.now) c.split_at-in-loop-i.ensures.front
          (literals_value h c.args.tables.now c.requires.tables c.loop-i.i e there c.loop-i.rest.now c.loop-i.invariant.rest
          c.split_at.result.0.now t before (bits_of j c.loop-i.now) c.split_at.ensures.front))
          (c.visit_table.ensures.value f j l) settled_now)))
          (λ f.
          let same = ap (slice_index c.loop-i.now) (sym here) ∙ (c.loop-i.invariant.ahead c.loop-i.i (omega arith) kept ∙ (ap (slice_index c.args.now.now) here ∙ own_tables x c.entry_at-entry.ensures.table)) in
          subst (λ (ws : List ℕ). IsSettled h t ins before (marked c.args.marks.now j) (IsAmong h nets (c.loop-i.i + 1)) (bits_of j ws)) (sym (c.visit_table.ensures.left f))
          (left_settles h nets c.loop-i.i x t ins before (bits_of j c.loop-i.now) (marked c.args.marks.now j) here c.entry_at-entry.ensures.table (beside_now.free j x l high f)
          (not_due_value n h c.args.twins.now c.args.marks.now own c.loop-i.now c.loop-i.changes j x twins met beside_now c.entry_at-entry.ensures.table high f same
          (λ i k. pins_within h x i (length c.loop-i.now) c.input_count-inputs.ensures.design.valid (omega (arith, c.loop-i.invariant.long)) k))
          settled_now));
    }

pub returns-clause-settled : goal.returns-clause-settled
returns-clause-settled c = λ j t ins before n own l twins met own_tables beside first.
    let long = length-map c.args.tables.now.entries.items (λ (e : Entry). e.net.0) in
    let all : length (entry_nets c.args.tables.now.entries.items) ≤ c.loop-i.i = omega (arith, long) in
    settled_anyway c.args.net.now.net t ins before (marked c.args.marks.now j) (IsAmong c.args.net.now.net (entry_nets c.args.tables.now.entries.items) c.loop-i.i) IsAnyNet (bits_of j c.loop-i.now) 0 true
    (c.loop-i.invariant.settled j t ins before n own l twins met own_tables beside first) (λ y h q. all_among c.args.net.now.net (entry_nets c.args.tables.now.entries.items) c.loop-i.i c.requires.tables.order all y)
