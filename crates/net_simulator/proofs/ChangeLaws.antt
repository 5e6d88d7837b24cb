-- Where a cycle departs from that of another design.
use Rattle.std.proofs.Common.{◌≡◌, ◌≢◌, ℕ, suc, ◌+◌, ◌<◌, ◌⊎◌, inl, inr, Bool, true, false, cond, ◌&&◌, List, [], ◌∷◌, length, map, refl, sym, ◌∙◌, ap, subst, arith, slice_index, slice_set, Option, Some, None}
use Rattle.std.specs.Prelude.{nat_eq}
use Rattle.std.proofs.lemmas.Bool.{ne_eqb}
use Rattle.std.proofs.lemmas.List.{length-set, get_or-set_same, get_or-set_other}
use Rattle.tmr_base.specs.declared.ids.NetId.{NetId}
use Rattle.table_cover.specs.Words.{word_bit, bits_of}
use Rattle.flat_net.specs.Net.{Net, Node, Table, Register, net_count, node_of, pins_at, table_pins, IsTable, IsValid}
use Rattle.flat_net.proofs.Ranges.{pin_in_range}
use Rattle.net_simulator.specs.Registers.{IsHeld}
use Rattle.flat_net.proofs.Slots.{slot_there}
use Rattle.graph.specs.Rows.{row, Stands}
use Rattle.net_meaning.specs.Meaning.{bit}
use Rattle.net_simulator.specs.Beside.{AreReadersOf, AreTwins, AreOwn, IsBeside, origin_of}
use Rattle.net_simulator.specs.Cycle.{forced_in}
use Rattle.net_simulator.specs.Forced.{forced_value}
use Rattle.net_simulator.specs.Settled.{own_value, IsSettled, IsAmong, marked}
use Rattle.net_simulator.specs.Twins.{table_value, AreTablesMet}
use Rattle.net_simulator.specs.declared.marks.Marks.{Marks}
use Rattle.net_simulator.specs.declared.twins.Twins.{Twins}
use Rattle.net_simulator.specs.declared.changes.Changes.{Changes}
use Rattle.net_simulator.proofs.Lanes.{bit_of_words, table_within}
use Rattle.net_simulator.proofs.Settling.{equal_or_not, among_fewer}
use Rattle.net_simulator.proofs.TwinLaws.{own_table_value, table_pins_at}

not_both : {P : Type 0} (b : Bool) → b ≡ true → b ≡ false → P
not_both {P} true e f = absurd cc
not_both {P} false e f = absurd cc

module _ (h : Net) (t : Twins) (m : Marks) (own old : List ℕ) (c d : Changes) (x word : ℕ) (changed : Bool)
    (readers : AreReadersOf h t.readers) (is : IsBeside h t m own old c) (within : x < length old)
    (tells : changed ≡ false → slice_index old x ≡ word)
    (differing : changed ≡ true → bit d.differing.items (origin_of t x) ≡ true)
    (due : changed ≡ true → (y : ℕ) → y < length old → Stands (row t.readers x) y → bit d.due.items y ≡ true)
    (kept_due : (y : ℕ) → bit d.due.items y ≡ false → bit c.due.items y ≡ false)
    (kept_differing : (y : ℕ) → bit d.differing.items y ≡ false → bit c.differing.items y ≡ false) where
  unchanged : changed ≡ false → (z : ℕ) → slice_index (slice_set old x word) z ≡ slice_index old z
  unchanged e z = go (equal_or_not z x)
    where
      go : (z ≡ x) ⊎ (z ≢ x) → slice_index (slice_set old x word) z ≡ slice_index old z
      go (inl same) = ap (slice_index (slice_set old x word)) same ∙ (get_or-set_same old x word 0 within ∙ (sym (tells e) ∙ ap (slice_index old) (sym same)))
      go (inr apart) = get_or-set_other old x z word 0 apart

  before : (y : ℕ) → y < length (slice_set old x word) → y < length old
  before y l = let long = length-set old x word in omega (arith, long)

  same_at : (y : ℕ) → y < length old → bit d.differing.items (origin_of t y) ≡ false → (b : Bool) → changed ≡ b → slice_index (slice_set old x word) y ≡ slice_index own (origin_of t y)
  same_at y l f false e = unchanged e y ∙ is.same y l (kept_differing (origin_of t y) f)
  same_at y l f true e = go (equal_or_not y x)
    where
      go : (y ≡ x) ⊎ (y ≢ x) → slice_index (slice_set old x word) y ≡ slice_index own (origin_of t y)
      go (inl same) = not_both (bit d.differing.items (origin_of t x)) (differing e) (subst (λ (z : ℕ). bit d.differing.items (origin_of t z) ≡ false) same f)
      go (inr apart) = get_or-set_other old x y word 0 apart ∙ is.same y l (kept_differing (origin_of t y) f)

  pin_at : (y i : ℕ) → y < length old → bit d.due.items y ≡ false → i < length (table_pins (node_of h y)) → slice_index (table_pins (node_of h y)) i < length old → (b : Bool) → changed ≡ b
      → slice_index (slice_set old x word) (slice_index (table_pins (node_of h y)) i) ≡ slice_index own (origin_of t (slice_index (table_pins (node_of h y)) i))
  pin_at y i l f k p false e = unchanged e (slice_index (table_pins (node_of h y)) i) ∙ is.pins y i l (kept_due y f) k p
  pin_at y i l f k p true e = go (equal_or_not (slice_index (table_pins (node_of h y)) i) x)
    where
      go : (slice_index (table_pins (node_of h y)) i ≡ x) ⊎ (slice_index (table_pins (node_of h y)) i ≢ x)
          → slice_index (slice_set old x word) (slice_index (table_pins (node_of h y)) i) ≡ slice_index own (origin_of t (slice_index (table_pins (node_of h y)) i))
      go (inl same) = not_both (bit d.due.items y) (due e y l (subst (λ (z : ℕ). Stands (row t.readers z) y) same (readers y i k))) f
      go (inr apart) = get_or-set_other old x (slice_index (table_pins (node_of h y)) i) word 0 apart ∙ is.pins y i l (kept_due y f) k p

  -- a word is written, and noted where it is another one
  pub put_beside : IsBeside h t m own (slice_set old x word) d
  put_beside = record {
    same = λ y l f. same_at y (before y l) f changed refl;
    pins = λ y i l f k p. pin_at y i (before y l) f k (before (slice_index (table_pins (node_of h y)) i) p) changed refl;
    alike = λ y l f. is.alike y (before y l) (kept_due y f);
    free = λ j y k l f. is.free j y k (before y l) (kept_due y f);
  }

false_and : (b c : Bool) → b ≡ false → (b && c) ≡ false
false_and true c e = absurd cc
false_and false c e = refl

-- what no triple names is not forced
pub none_forced : (j y : ℕ) (triples : List (NetId × ℕ × ℕ)) → ((i : ℕ) → i < length triples → slice_index (map (λ f. f.0.0) triples) i ≢ y) → forced_in j triples y ≡ None
none_forced j y [] none = refl
none_forced j y (f ∷ rest) none =
    let apart : f.0.0 ≢ y = none 0 (omega arith) in
    ap (λ (b : Bool). cond b (Some (word_bit j f.2)) (forced_in j rest y)) (false_and (nat_eq f.0.0 y) (word_bit j f.1) (ne_eqb f.0.0 y apart))
    ∙ none_forced j y rest (λ i l. none (suc i) (omega arith))

unforced_value : (o : Option Node) (node : Node) (t : ℕ) (ins before v : List Bool) (x : ℕ) → o ≡ Some node → forced_value o None t ins before v x ≡ own_value o t before v
unforced_value None node t ins before v x e = absurd cc
unforced_value (Some other) node t ins before v x e = refl

-- a table that has its value already
pub left_settles : (n : Net) (nets : List ℕ) (k x t : ℕ) (ins before v : List Bool) (forced : ℕ → Option Bool) → slice_index nets k ≡ x → IsTable (node_of n x) → forced x ≡ None → bit v x ≡ table_value (node_of n x) v
    → IsSettled n t ins before forced (IsAmong n nets k) v → IsSettled n t ins before forced (IsAmong n nets (k + 1)) v
left_settles n nets k x t ins before v forced here table free is_own settled = record { wide = settled.wide; equations = λ y l q. go y l q (equal_or_not y x) }
  where
    at : bit v x ≡ forced_value (node_of n x) (forced x) t ins before v x
    at =
        let (low, high) = table_within n x table in
        let (node, there) = slot_there (length n.inputs) n.nodes x low high in
        is_own ∙ (sym (own_table_value (node_of n x) t before v table)
        ∙ (sym (unforced_value (node_of n x) node t ins before v x there)
        ∙ ap (λ (u : Option Bool). forced_value (node_of n x) u t ins before v x) (sym free)))

    go : (y : ℕ) → y < net_count n → IsAmong n nets (k + 1) y → (y ≡ x) ⊎ (y ≢ x) → bit v y ≡ forced_value (node_of n y) (forced y) t ins before v y
    go y l q (inl same) = subst (λ (z : ℕ). bit v z ≡ forced_value (node_of n z) (forced z) t ins before v z) (sym same) at
    go y l q (inr apart) = settled.equations y l (among_fewer n nets k y q (λ same. apart (same ∙ here)))

-- a table that is not due has the value of the net that it stands for
pub not_due_value : (n h : Net) (t : Twins) (m : Marks) (own now : List ℕ) (c : Changes) (j x : ℕ) → AreTwins n h t → AreTablesMet n (bits_of j own) → IsBeside h t m own now c
    → IsTable (node_of h x) → x < length now → bit c.due.items x ≡ false → slice_index now x ≡ slice_index own (origin_of t x)
    → ((i : ℕ) → i < length (table_pins (node_of h x)) → slice_index (table_pins (node_of h x)) i < length now)
    → bit (bits_of j now) x ≡ table_value (node_of h x) (bits_of j now)
not_due_value n h t m own now c j x twins met is table within left same pins_within =
    let (low, high) = table_within h x table in
    let alike = twins.alike x high table (is.alike x within left) in
    let bit_same : (y : ℕ) → slice_index now y ≡ slice_index own (origin_of t y) → bit (bits_of j now) y ≡ bit (bits_of j own) (origin_of t y) =
    λ y e. bit_of_words j now y ∙ (ap (word_bit j) e ∙ sym (bit_of_words j own (origin_of t y))) in
    bit_same x same ∙ sym (alike (bits_of j now) (bits_of j own) met (λ i l. bit_same (slice_index (table_pins (node_of h x)) i) (is.pins x i within left l (pins_within i l))))

-- what was due stays so
pub kept_off : (due : List Bool) (x y : ℕ) → x < length due → bit (slice_set due x true) y ≡ false → bit due y ≡ false
kept_off due x y within f = go (equal_or_not y x)
  where
    go : (y ≡ x) ⊎ (y ≢ x) → bit due y ≡ false
    go (inl same) = not_both (bit (slice_set due x true) x) (get_or-set_same due x true false within) (subst (λ (z : ℕ). bit (slice_set due x true) z ≡ false) same f)
    go (inr apart) = sym (get_or-set_other due x y true false apart) ∙ f

below_or_last : (k i : ℕ) → k < i + 1 → (k < i) ⊎ (k ≡ i)
below_or_last k i h = grind arith

-- one net more is due
pub one_more_due : (nets : List ℕ) (due : List Bool) (i x y k : ℕ) → slice_index nets i ≡ x → x < length due → bit (slice_set due x true) y ≡ false → k < i + 1 → (k < i → slice_index nets k ≢ y) → slice_index nets k ≢ y
one_more_due nets due i x y k here within f l earlier same = go (below_or_last k i l)
  where
    go : (k < i) ⊎ (k ≡ i) → ⊥
    go (inl h) = earlier h same
    go (inr e) =
        let at : x ≡ y = sym here ∙ (ap (slice_index nets) (sym e) ∙ same) in
        not_both (bit (slice_set due x true) x) (get_or-set_same due x true false within) (subst (λ (z : ℕ). bit (slice_set due x true) z ≡ false) (sym at) f)

pub by_bit : {P : Type 0} (b : Bool) → (b ≡ true → P) → (b ≡ false → P) → P
by_bit {P} true p q = p refl
by_bit {P} false p q = q refl

-- a register is no table
pub held_no_table : (o : Option Node) (init : Bool) (pin : ℕ) → IsHeld o init pin → IsTable o → ⊥
held_no_table None init pin is table = is
held_no_table (Some (Table name cover pins)) init pin is table = is
held_no_table (Some (Register name value q)) init pin is table = table

-- the pins of a table are nets
pub pins_within : (h : Net) (x i count : ℕ) → IsValid h → count ≡ net_count h → i < length (table_pins (node_of h x)) → slice_index (table_pins (node_of h x)) i < count
pins_within h x i count valid all l =
    let pins : table_pins (node_of h x) ≡ pins_at (node_of h x) = table_pins_at (node_of h x) i l in
    let within = pin_in_range h x i (slice_index (table_pins (node_of h x)) i) valid (subst (λ (ps : List ℕ). i < length ps) pins l) (ap (λ (ps : List ℕ). slice_index ps i) pins) in
    omega (arith, within, all)

-- a cycle begins
pub begun : (h : Net) (t : Twins) (m : Marks) (own now : List ℕ) (c : Changes) (triples : List (NetId × ℕ × ℕ)) → ((j x : ℕ) → j < 64 → marked m j x ≡ forced_in j triples x) → AreOwn t own now
    → ((y : ℕ) → bit c.due.items y ≡ false → bit t.unlike.items y ≡ false) → ((j y : ℕ) → bit c.due.items y ≡ false → forced_in j triples y ≡ None) → IsBeside h t m own now c
begun h t m own now c triples forced are unlike free = record {
  same = λ y l f. are y l;
  pins = λ y i l f k p. are (slice_index (table_pins (node_of h y)) i) p;
  alike = λ y l f. unlike y f;
  free = λ j y k l f. forced j y k ∙ free j y f;
}
