use Rattle.std.proofs.Common.{rules, ◌≡◌, ◌∙◌, ◌+◌, ℕ, length, take, slice_index, sym, ap, subst, arith}
use Rattle.std.proofs.lemmas.List.{length-map, take_all}
use Rattle.flat_net.specs.Net.{node_of}
use Rattle.net_simulator.specs.Tables.{entry_nets}
use Rattle.net_simulator.specs.Truth.{TellsNode, short_pins, all_short_pins}
use Rattle.net_simulator.specs.declared.tables.Entry.{Entry}
use Rattle.net_simulator.proofs.Lanes.{net_there, net_index}
use Rattle.net_simulator.proofs.Literals.{flat_pushed}
use Rattle.net_simulator.proofs.TruthTables.{words_more, take_next}
use Rattle.net_simulator.proofs.truth.truths_of.Goals as goal

pub loop-i-preserved : goal.loop-i-preserved
loop-i-preserved c =
    let n = c.args.net.now.net in
    let nets = entry_nets c.args.tables.now.entries.items in
    let e = c.entry_at-entry.result in
    let there = net_there (λ (f : Entry). f.net.0) c.args.tables.now.entries.items c.loop-i.i e c.entry_at-entry.ensures.there in
    let here = net_index (λ (f : Entry). f.net.0) c.args.tables.now.entries.items c.loop-i.i e c.entry_at-entry.ensures.there in
    record {
      long = search rules;
      words = words_more (λ (k word : ℕ). TellsNode (node_of n (slice_index nets k)) word) c.loop-i.words.items c.push.new.self.items c.loop-i.i c.word_of_table.result c.loop-i.invariant.long c.in_ok-push.ensures.items c.loop-i.invariant.words
          (subst (λ (x : ℕ). TellsNode (node_of n x) c.word_of_table.result) (sym here) c.word_of_table.ensures);
      pins = flat_pushed (λ (x : ℕ). short_pins (node_of n x)) (take c.loop-i.i nets) (take (c.loop-i.i + 1) nets) e.net.0 c.loop-i.pins.items c.push_pins.new.pins.items c.loop-i.invariant.pins
          (take_next nets c.loop-i.i e.net.0 there) c.in_ok-push_pins.ensures;
    }

pub returns : goal.returns
returns c =
    let nets = entry_nets c.args.tables.now.entries.items in
    let long : length nets ≡ length c.args.tables.now.entries.items = length-map c.args.tables.now.entries.items (λ (f : Entry). f.net.0) in
    record {
      long = c.loop-i.invariant.long ∙ (let m = long in omega (arith, m));
      words = λ k h. c.loop-i.invariant.words k (let m = long in omega (arith, m));
      pins = c.loop-i.invariant.pins ∙ ap (all_short_pins c.args.net.now.net) (take_all c.loop-i.i nets (let m = long in omega (arith, m)));
    }
