use Rattle.std.proofs.Common.{◌≡◌, ◌+◌, ◌<◌, ◌≤◌, ◌∙◌, ℕ, List, [], ◌∷◌, ◌++◌, Vec, Global, length, refl, sym, subst, ap, arith, slice_index}
use Rattle.std.proofs.lemmas.Option.{get_or_from_slice_get}
use Rattle.flat_net.specs.Net.{node_of, IsTable}
use Rattle.flat_net.proofs.Orders.{length-order}
use Rattle.net_simulator.specs.Tables.{entries, literals, entry_nets, node_literals}
use Rattle.net_simulator.specs.declared.tables.Entry.{Entry}
use Rattle.net_simulator.specs.declared.tables.Literal.{Literal}
use Rattle.net_simulator.proofs.Ordering.{HasTables, none_yet, no_table_more, one_table_more, has_all}
use Rattle.net_simulator.proofs.Literals.{entry_pushed, nets_pushed, flat_pushed, net_of_entry}
use Rattle.net_simulator.proofs.tables.tables_of.Goals.{then-is_table+in_ok-entry+in_ok-push, else-is_table}
use Rattle.net_simulator.proofs.tables.tables_of.Goals as goal

pub loop-i-init : goal.loop-i-init
loop-i-init c =
    let none = c.in_ok-entries.ensures.items in
    record {
      has = subst (λ (es : List Entry). HasTables c.args.net.now.net c.args.net.now.order 0 (entry_nets es)) (sym none) (none_yet c.args.net.now.net c.args.net.now.order);
      entries = subst (λ (es : List Entry). es ≡ entries c.args.net.now.net (entry_nets es)) (sym none) refl;
      literals = c.new-literals.ensures.items ∙ ap (λ (es : List Entry). literals c.args.net.now.net (entry_nets es)) (sym none);
    }

pub loop-i-preserved : goal.loop-i-preserved
loop-i-preserved c =
    let n = c.args.net.now.net in
    let order : List ℕ = c.args.net.now.order in
    let x : ℕ = c.ordered-x.result.0 in
    let is_order = c.input_count-inputs.ensures.design.order in
    let there : slice_index order c.loop-i.i ≡ x = get_or_from_slice_get order c.loop-i.i x 0 c.ordered-x.ensures.ordered in
    let within : c.loop-i.i < length order = let long = length-order n order is_order in omega (arith, long) in
    elim c.if-is_table.branch [
      | then-is_table+in_ok-entry+in_ok-push w ↦
          let e : Entry = w.in_ok-entry.entry in
          let net : e.net.0 ≡ x = ap (λ (f : Entry). f.net.0) w.in_ok-entry.ensures.entry ∙ net_of_entry (node_of n x) x in
          let pushed : c.if-is_table.entries.items ≡ c.loop-i.entries.items ++ e ∷ [] = ap (λ (v : Vec Entry Global). v.items) w.entries-is ∙ w.in_ok-push.ensures.items in
          let nets = nets_pushed c.loop-i.entries.items c.if-is_table.entries.items x e net pushed in
          record {
            has = subst (HasTables n order (c.loop-i.i + 1)) (sym nets) (one_table_more n order c.loop-i.i (entry_nets c.loop-i.entries.items) c.loop-i.invariant.has x is_order within there (c.is_table.ensures.yes w.if-is_table.true));
            entries = entry_pushed n c.loop-i.entries.items c.if-is_table.entries.items x e c.loop-i.invariant.entries w.in_ok-entry.ensures.entry net pushed;
            literals = flat_pushed (λ (y : ℕ). node_literals (node_of n y)) (entry_nets c.loop-i.entries.items) (entry_nets c.if-is_table.entries.items) x c.loop-i.literals.items c.if-is_table.literals.items c.loop-i.invariant.literals nets
                (ap (λ (v : Vec Literal Global). v.items) w.literals-is ∙ w.in_ok-entry.ensures.literals);
          }
      | else-is_table w ↦
          let same : c.if-is_table.entries.items ≡ c.loop-i.entries.items = ap (λ (v : Vec Entry Global). v.items) w.entries-is in
          let has = no_table_more n order c.loop-i.i (entry_nets c.loop-i.entries.items) c.loop-i.invariant.has (λ t. let yes = c.is_table.ensures.no (subst (λ (z : ℕ). IsTable (node_of n z)) there t) in absurd (cc)) in
          record {
            has = subst (λ (es : List Entry). HasTables n order (c.loop-i.i + 1) (entry_nets es)) (sym same) has;
            entries = subst (λ (es : List Entry). es ≡ entries n (entry_nets es)) (sym same) c.loop-i.invariant.entries;
            literals = ap (λ (v : Vec Literal Global). v.items) w.literals-is ∙ (c.loop-i.invariant.literals ∙ ap (λ (es : List Entry). literals n (entry_nets es)) (sym same));
          }
    ]

pub returns : goal.returns
returns c =
    let n = c.args.net.now.net in
    let is_order = c.input_count-inputs.ensures.design.order in
    let all : length c.args.net.now.order ≤ c.loop-i.i = let long = length-order n c.args.net.now.order is_order in omega (arith, long) in
    record {
      order = has_all n c.args.net.now.order c.loop-i.i (entry_nets c.loop-i.entries.items) c.loop-i.invariant.has is_order all;
      entries = c.loop-i.invariant.entries;
      literals = c.loop-i.invariant.literals;
      registers = c.in_ok-registers.ensures;
    }
