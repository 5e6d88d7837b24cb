-- One node more has its value.
use Rattle.std.proofs.Common.{◌≡◌, ℕ, ◌+◌, ◌<◌, ◌≤◌, Bool, List, length, map, take, drop, cond, slice_get, slice_index, slice_set, Option, Some, sym, ◌∙◌, ap, subst}
use Rattle.std.specs.Option.{unwrap_or}
use Rattle.std.proofs.lemmas.Option.{slice_get_within}
use Rattle.flat_net.specs.Net.{Net, node_of, net_count, IsTable}
use Rattle.net_meaning.specs.Meaning.{bit}
use Rattle.net_simulator.specs.Settled.{own_value, IsSettled, IsHeldAmong, IsAmong, number_of_cycle}
use Rattle.net_simulator.specs.Registers.{Holds, held_nets}
use Rattle.net_simulator.specs.Tables.{AreTables, entry_nets, entry_of, entry_value, node_literals, literals}
use Rattle.net_simulator.specs.Truth.{number_from, TellsNode, short_pins, all_short_pins, AreTruths, short_value}
use Rattle.net_simulator.specs.declared.truth.Truths.{Truths}
use Rattle.net_simulator.specs.declared.tables.Tables.{Tables}
use Rattle.net_simulator.proofs.TruthTables.{pins_is, short_few, short_tells}
use Rattle.tmr_base.specs.declared.ids.NetId.{NetId}
use Rattle.table_cover.specs.Words.{word_bit}
use Rattle.net_simulator.specs.declared.tables.Entry.{Entry}
use Rattle.net_simulator.specs.declared.tables.Literal.{Literal}
use Rattle.net_simulator.specs.declared.registers.Held.{Held}
use Rattle.net_simulator.proofs.Literals.{entry_is, count_is, entry_fits, front_is, back_is, front_within}
use Rattle.net_simulator.proofs.Settling.{unread_at, among_fewer}
use Rattle.net_simulator.proofs.Lanes.{own_settle, held_within, held_value, held_fewer, no_table_reads_none, net_there, net_index, table_within}

module _ (n : Net) (tables : Tables) (are : AreTables n tables) (k : ℕ) (e : Entry) (there : slice_get tables.entries.items k ≡ Some e) where
  abbrev nets : List ℕ
  nets = entry_nets tables.entries.items

  net_got : slice_get nets k ≡ Some e.net.0
  net_got = net_there (λ (f : Entry). f.net.0) tables.entries.items k e there

  net_is : slice_index nets k ≡ e.net.0
  net_is = net_index (λ (f : Entry). f.net.0) tables.entries.items k e there

  within : k < length nets
  within = slice_get_within nets k e.net.0 net_got

  pub entry_table : IsTable (node_of n e.net.0)
  entry_table = subst (λ (z : ℕ). IsTable (node_of n z)) net_is (are.order.tables k within)

  pub entry_low : length n.inputs ≤ e.net.0
  entry_low = (table_within n e.net.0 entry_table).0

  pub entry_high : e.net.0 < net_count n
  entry_high = (table_within n e.net.0 entry_table).1

  is_entry : e ≡ entry_of (node_of n e.net.0) e.net.0
  is_entry = entry_is n nets tables.entries.items k e.net.0 e are.entries there net_got

  count : e.count ≡ length (node_literals (node_of n e.net.0))
  count = ap (λ (f : Entry). f.count) is_entry ∙ count_is (node_of n e.net.0) e.net.0

  module _ (rest : List Literal) (is : rest ≡ literals n (drop k nets)) where
    pub count_within : e.count ≤ length rest
    count_within = front_within (λ (x : ℕ). node_literals (node_of n x)) rest nets k e.net.0 e.count is net_got count

    pub rest_after : drop e.count rest ≡ literals n (drop (k + 1) nets)
    rest_after = back_is (λ (x : ℕ). node_literals (node_of n x)) rest nets k e.net.0 e.count is net_got count

    own_literals : take e.count rest ≡ node_literals (node_of n e.net.0)
    own_literals = front_is (λ (x : ℕ). node_literals (node_of n x)) rest nets k e.net.0 e.count is net_got count

    -- what its literals give
    pub literals_value : (own : List Literal) (t : ℕ) (before v : List Bool) → own ≡ take e.count rest → entry_value e (bit v) own ≡ own_value (node_of n e.net.0) t before v
    literals_value own t before v front =
        ap (λ (ls : List Literal). entry_value e (bit v) ls) (front ∙ own_literals)
        ∙ (ap (λ (d : Entry). entry_value d (bit v) (node_literals (node_of n e.net.0))) is_entry
        ∙ entry_fits (node_of n e.net.0) e.net.0 t before v entry_table)

  module _ (truths : Truths) (tell : AreTruths n nets truths) (rest : List NetId) (is : rest ≡ all_short_pins n (drop k nets)) where
    pins_count : e.pins ≡ length (short_pins (node_of n e.net.0))
    pins_count = ap (λ (f : Entry). f.pins) is_entry ∙ pins_is (node_of n e.net.0) e.net.0

    pub pins_within : e.pins ≤ length rest
    pins_within = front_within (λ (x : ℕ). short_pins (node_of n x)) rest nets k e.net.0 e.pins is net_got pins_count

    pub pins_after : drop e.pins rest ≡ all_short_pins n (drop (k + 1) nets)
    pins_after = back_is (λ (x : ℕ). short_pins (node_of n x)) rest nets k e.net.0 e.pins is net_got pins_count

    own_pins : take e.pins rest ≡ short_pins (node_of n e.net.0)
    own_pins = front_is (λ (x : ℕ). short_pins (node_of n x)) rest nets k e.net.0 e.pins is net_got pins_count

    pub pins_few : (pins : List NetId) → pins ≡ take e.pins rest → length pins ≤ 6
    pins_few pins front = subst (λ (ps : List NetId). length ps ≤ 6) (sym (front ∙ own_pins)) (short_few (node_of n e.net.0))

    -- what its word gives, or else its literals
    pub entry_short_value : (pins : List NetId) (own : List Literal) (t : ℕ) (before v : List Bool) → pins ≡ take e.pins rest → entry_value e (bit v) own ≡ own_value (node_of n e.net.0) t before v
        → short_value e (slice_index truths.words.items k) pins own (bit v) ≡ own_value (node_of n e.net.0) t before v
    entry_short_value pins own t before v front same =
        ap (λ (ps : List NetId). short_value e (slice_index truths.words.items k) ps own (bit v)) (front ∙ own_pins)
        ∙ (ap (λ (d : Entry). cond d.is_short (word_bit (number_from 0 (map (λ (p : NetId). bit v p.0) (short_pins (node_of n e.net.0)))) (slice_index truths.words.items k)) (entry_value e (bit v) own)) is_entry
        ∙ short_tells (node_of n e.net.0) e.net.0 (slice_index truths.words.items k) t before v (entry_value e (bit v) own) entry_table
        (subst (λ (x : ℕ). TellsNode (node_of n x) (slice_index truths.words.items k)) net_is (tell.words k within)) same)

  -- its value is written
  pub table_settles : (t : ℕ) (ins before : List Bool) (forced : ℕ → Option Bool) (v : List Bool) (value b : Bool)
      → value ≡ own_value (node_of n e.net.0) t before v → b ≡ unwrap_or (forced e.net.0) value
      → IsSettled n t ins before forced (IsAmong n nets k) v → IsSettled n t ins before forced (IsAmong n nets (k + 1)) (slice_set v e.net.0 b)
  table_settles t ins before forced v value b f g settled =
      let (low, high) = table_within n e.net.0 entry_table in
      own_settle n t ins before forced v (IsAmong n nets k) (IsAmong n nets (k + 1)) e.net.0 value b settled low high
      (λ y q apart. among_fewer n nets k y q (λ same. apart (same ∙ net_is)))
      (λ y q i m same. unread_at n nets are.order k within y q i m (same ∙ sym net_is))
      f g

-- a register's value is written
pub register_settles : (n : Net) (rs : List Held) (k : ℕ) (r : Held) (started : Bool) (ins before : List Bool) (forced : ℕ → Option Bool) (v : List Bool) (value b : Bool) → slice_get rs k ≡ Some r → Holds n r
    → value ≡ cond started (bit before r.pin.0) r.init → b ≡ unwrap_or (forced r.net.0) value
    → IsSettled n (number_of_cycle started) ins before forced (IsHeldAmong n (held_nets rs) k) v → IsSettled n (number_of_cycle started) ins before forced (IsHeldAmong n (held_nets rs) (k + 1)) (slice_set v r.net.0 b)
register_settles n rs k r started ins before forced v value b there holds f g settled =
    let (low, high) = held_within n r.net.0 r.init r.pin.0 holds in
    own_settle n (number_of_cycle started) ins before forced v (IsHeldAmong n (held_nets rs) k) (IsHeldAmong n (held_nets rs) (k + 1)) r.net.0 value b settled low high
    (λ y q apart. held_fewer n (held_nets rs) k y q (λ same. apart (same ∙ net_index (λ (h : Held). h.net.0) rs k r there)))
    (λ y q i m. no_table_reads_none n r.net.0 y q.0 i m)
    (f ∙ held_value (node_of n r.net.0) r.init r.pin.0 started before v holds)
    g
