-- What is written in words, in each run.
use Rattle.std.proofs.Common.{◌≡◌, ◌≢◌, ℕ, zero, suc, ◌+◌, ◌<◌, ◌≤◌, ◌⊎◌, inl, inr, Bool, true, false, List, [], ◌∷◌, ◌++◌, length, map, refl, sym, ◌∙◌, ap, subst, arith, get_or, cond, slice_index, slice_get, slice_set, Option, Some, None}
use Rattle.std.specs.Prelude.{option_map, All}
use Rattle.std.proofs.lemmas.List.Elements.{All-append}
use Rattle.std.proofs.lemmas.Option.{get_or_from_slice_get, slice_get-map}
use Rattle.std.proofs.lemmas.List.{map-set, length-map, map-append, length-append, get_or_append_left}
use Rattle.std.proofs.Math.Seq.{get_or-append_seam}
use Rattle.std.proofs.Math.ListN.{get_or-map}
use Rattle.table_cover.specs.Words.{word_bit, bits_of}
use Rattle.table_cover.proofs.WordLaws.{word_bit_zero}
use Rattle.flat_net.specs.Kinds.{kind_of}
use Rattle.flat_net.specs.declared.kind.Kind.TheVariants as kind
use Rattle.flat_net.specs.Net.{Net, Node, Table, Register, net_count, node_of, pins_at, table_pins, IsTable, IsRegister, IsInitOf}
use Rattle.flat_net.proofs.Slots.{slot_there, slot_within, slot_none_below}
use Rattle.net_meaning.specs.Meaning.{bit}
use Rattle.std.specs.Option.{unwrap_or}
use Rattle.net_simulator.specs.Forced.{forced_value}
use Rattle.net_simulator.specs.Cycle.{IsCycle}
use Rattle.net_simulator.specs.Settled.{IsSettled, IsInput, IsHeldAmong, IsNoTable, IsAmong, IsAnyNet, number_of_cycle, last_of, own_value}
use Rattle.net_simulator.specs.Registers.{IsHeld, Holds, held_nets, AreRegisters}
use Rattle.net_simulator.specs.Tables.{IsTableOrder}
use Rattle.net_simulator.specs.declared.registers.Held.{Held}
use Rattle.net_simulator.proofs.Settling.{settle, equal_or_not}

-- the bit of a net in run j
pub bit_of_words : (j : ℕ) (words : List ℕ) (x : ℕ) → bit (bits_of j words) x ≡ word_bit j (slice_index words x)
bit_of_words j words x = subst (λ (b : Bool). get_or (map (word_bit j) words) x b ≡ word_bit j (get_or words x 0)) (word_bit_zero j) (get_or-map (word_bit j) words x 0)

-- what a node's equation and its mark give
node_has_value : (o : Option Node) (node : Node) (u : Option Bool) (t : ℕ) (ins before v : List Bool) (x : ℕ) (b : Bool) → o ≡ Some node → b ≡ own_value o t before v → unwrap_or u b ≡ forced_value o u t ins before v x
node_has_value None node u t ins before v x b e same = absurd (cc)
node_has_value (Some other) node u t ins before v x b e same = ap (unwrap_or u) same

module _ (n : Net) (t : ℕ) (ins before : List Bool) (forced : ℕ → Option Bool) (v : List Bool) (P Q : ℕ → Type 0) (x : ℕ) (own b : Bool) where
  -- net x has what is forced on it, or else what its equation gives
  pub own_settle : IsSettled n t ins before forced P v → length n.inputs ≤ x → x < net_count n → ((y : ℕ) → Q y → y ≢ x → P y)
      → ((y : ℕ) → Q y → (i : ℕ) → i < length (table_pins (node_of n y)) → slice_index (table_pins (node_of n y)) i ≢ x)
      → own ≡ own_value (node_of n x) t before v
      → b ≡ unwrap_or (forced x) own
      → IsSettled n t ins before forced Q (slice_set v x b)
  own_settle is low high fewer unread e f =
      let (node, there) = slot_there (length n.inputs) n.nodes x low high in
      settle n t ins before forced P Q v x b is high fewer unread (f ∙ node_has_value (node_of n x) node (forced x) t ins before v x own there e)

-- a word is written, and so its bit in each run
pub settled_words : (n : Net) (t : ℕ) (ins before : List Bool) (forced : ℕ → Option Bool) (Q : ℕ → Type 0) (words : List ℕ) (j x w : ℕ)
    → IsSettled n t ins before forced Q (slice_set (bits_of j words) x (word_bit j w)) → IsSettled n t ins before forced Q (bits_of j (slice_set words x w))
settled_words n t ins before forced Q words j x w is = subst (λ (v : List Bool). IsSettled n t ins before forced Q v) (sym (map-set (word_bit j) words x w)) is

pub register_there : (o : Option Node) → kind.Register ≡ kind_of o → IsRegister o
register_there None e = absurd cc
register_there (Some (Table name cover pins)) e = absurd cc
register_there (Some (Register name init pin)) e = tt

pub table_there : (o : Option Node) → kind.Table ≡ kind_of o → IsTable o
table_there None e = absurd cc
table_there (Some (Table name cover pins)) e = tt
table_there (Some (Register name init pin)) e = absurd cc

pub kind_of_register : (o : Option Node) → IsRegister o → kind_of o ≡ kind.Register
kind_of_register None is = absurd is
kind_of_register (Some (Table name cover pins)) is = absurd is
kind_of_register (Some (Register name init pin)) is = refl

pub kind_of_table : (o : Option Node) → IsTable o → kind_of o ≡ kind.Table
kind_of_table None is = absurd is
kind_of_table (Some (Table name cover pins)) is = refl
kind_of_table (Some (Register name init pin)) is = absurd is

pub ruleset kinds = (register_there, table_there, kind_of_register, kind_of_table)

-- a table is a node
pub table_within : (n : Net) (y : ℕ) → IsTable (node_of n y) → (length n.inputs ≤ y) × (y < net_count n)
table_within n y table = go (node_of n y) refl table
  where
    go : (o : Option Node) → node_of n y ≡ o → IsTable o → (length n.inputs ≤ y) × (y < net_count n)
    go None e table = absurd table
    go (Some node) e table = slot_within (length n.inputs) n.nodes y node e

-- what a register's node has
pub register_is_held : (o : Option Node) (init : Bool) (pin : ℕ) → IsRegister o → IsInitOf o init → pin ≡ slice_index (pins_at o) 0 → IsHeld o init pin
register_is_held None init pin is i p = is
register_is_held (Some (Table name cover pins)) init pin is i p = is
register_is_held (Some (Register name other q)) init pin is i p = (i, sym p)

pub ruleset holding = (register_is_held)

-- such a net is a node
pub held_within : (n : Net) (x : ℕ) (init : Bool) (pin : ℕ) → IsHeld (node_of n x) init pin → (length n.inputs ≤ x) × (x < net_count n)
held_within n x init pin is = go (node_of n x) refl is
  where
    go : (o : Option Node) → node_of n x ≡ o → IsHeld o init pin → (length n.inputs ≤ x) × (x < net_count n)
    go None e is = absurd is
    go (Some node) e is = slot_within (length n.inputs) n.nodes x node e

-- what a register's equation gives it
pub held_value : (o : Option Node) (init : Bool) (pin : ℕ) (started : Bool) (before v : List Bool) → IsHeld o init pin → cond started (bit before pin) init ≡ own_value o (number_of_cycle started) before v
held_value None init pin started before v is = absurd is
held_value (Some (Table name cover pins)) init pin started before v is = absurd is
held_value (Some (Register name other q)) init pin true before v is = ap (bit before) (sym is.1)
held_value (Some (Register name other q)) init pin false before v is = sym is.0

-- the registers below a net
abbrev pub Known : Net → List Held → ℕ → Type 0
Known n rs bound = (y : ℕ) → y < bound → IsRegister (node_of n y) → (k : ℕ) × (k < length rs) × (slice_index (held_nets rs) k ≡ y)

below_or_at : (y x : ℕ) → y < x + 1 → (y < x) ⊎ (y ≡ x)
below_or_at y x h = grind arith

-- no register is below the first node
pub none_known : (n : Net) (rs : List Held) (bound : ℕ) → bound ≡ length n.inputs → Known n rs bound
none_known n rs bound same y h is = absurd (go (node_of n y) refl is)
  where
    go : (o : Option Node) → node_of n y ≡ o → IsRegister o → ⊥
    go None e r = r
    go (Some node) e r = let (low, high) = slot_within (length n.inputs) n.nodes y node e in absurd (omega arith)

pub none_held : (n : Net) (rs : List Held) → rs ≡ [] → All (λ r. Holds n r) rs
none_held n rs none k d h = absurd (let e : length rs ≡ 0 = ap length none in omega arith)

pub one_held_more : (n : Net) (rs new : List Held) (r : Held) → All (λ q. Holds n q) rs → Holds n r → new ≡ rs ++ r ∷ [] → All (λ q. Holds n q) new
one_held_more n rs new r are holds pushed =
    let one : All (λ q. Holds n q) (r ∷ []) = only in
    subst (λ (l : List Held). All (λ q. Holds n q) l) (sym pushed) (All-append (λ (q : Held). Holds n q) rs (r ∷ []) are one)
  where
    only : All (λ q. Holds n q) (r ∷ [])
    only zero d h = holds
    only (suc k) d h = absurd (omega arith)

pub no_register_more : (n : Net) (rs : List Held) (x : ℕ) → Known n rs x → (IsRegister (node_of n x) → ⊥) → Known n rs (x + 1)
no_register_more n rs x known other y h is = go (below_or_at y x h)
  where
    go : (y < x) ⊎ (y ≡ x) → (k : ℕ) × (k < length rs) × (slice_index (held_nets rs) k ≡ y)
    go (inl l) = known y l is
    go (inr e) = absurd (other (subst (λ (z : ℕ). IsRegister (node_of n z)) e is))

pub one_register_more : (n : Net) (rs : List Held) (r : Held) (x : ℕ) → Known n rs x → r.net.0 ≡ x → Known n (rs ++ r ∷ []) (x + 1)
one_register_more n rs r x known net y h is = go (below_or_at y x h)
  where
    long : length (rs ++ r ∷ []) ≡ length rs + 1
    long = length-append rs (r ∷ [])

    nets : held_nets (rs ++ r ∷ []) ≡ held_nets rs ++ r.net.0 ∷ []
    nets = map-append (λ (q : Held). q.net.0) rs (r ∷ [])

    same : length (held_nets rs) ≡ length rs
    same = length-map rs (λ (q : Held). q.net.0)

    go : (y < x) ⊎ (y ≡ x) → (k : ℕ) × (k < length (rs ++ r ∷ [])) × (slice_index (held_nets (rs ++ r ∷ [])) k ≡ y)
    go (inl l) =
        let (k, below, here) = known y l is in
        (k, (let b : k < length (rs ++ r ∷ []) = let w = long in omega arith in b), ap (λ (ns : List ℕ). slice_index ns k) nets ∙ (get_or_append_left (held_nets rs) (r.net.0 ∷ []) 0 k (let w = same in omega arith) ∙ here))
    go (inr e) = (
      length (held_nets rs),
      (let b : length (held_nets rs) < length (rs ++ r ∷ []) = let w = long in let v = same in omega arith in b),
      ap (λ (ns : List ℕ). slice_index ns (length (held_nets rs))) nets ∙ (get_or-append_seam (held_nets rs) r.net.0 [] 0 ∙ (net ∙ sym e)),
    )

pub all_known : (n : Net) (rs : List Held) (bound : ℕ) → net_count n ≤ bound → Known n rs bound → (y : ℕ) → IsRegister (node_of n y) → (k : ℕ) × (k < length rs) × (slice_index (held_nets rs) k ≡ y)
all_known n rs bound all known y is = go (node_of n y) refl is
  where
    go : (o : Option Node) → node_of n y ≡ o → IsRegister o → (k : ℕ) × (k < length rs) × (slice_index (held_nets rs) k ≡ y)
    go None e r = absurd r
    go (Some node) e r = known y (let (low, high) = slot_within (length n.inputs) n.nodes y node e in omega arith) is

-- the net of entry i
pub net_there : {A : Type 0} (net : A → ℕ) (xs : List A) (i : ℕ) (x : A) → slice_get xs i ≡ Some x → slice_get (map net xs) i ≡ Some (net x)
net_there {A} net xs i x e = slice_get-map net xs i ∙ ap (option_map net) e

pub net_index : {A : Type 0} (net : A → ℕ) (xs : List A) (i : ℕ) (x : A) → slice_get xs i ≡ Some x → slice_index (map net xs) i ≡ net x
net_index {A} net xs i x e = get_or_from_slice_get (map net xs) i (net x) 0 (net_there net xs i x e)

-- none of the registers has its value yet
pub no_held : (n : Net) (nets : List ℕ) (y : ℕ) → IsHeldAmong n nets 0 y → IsInput n y
no_held n nets y (other, among) = (other, λ r. let (i, below, here) = among r in absurd (let b : i < 0 = below in omega arith))

-- one has its value now
pub held_fewer : (n : Net) (nets : List ℕ) (k y : ℕ) → IsHeldAmong n nets (k + 1) y → y ≢ slice_index nets k → IsHeldAmong n nets k y
held_fewer n nets k y (other, among) apart = (other, λ r. let (i, below, here) = among r in (i, at i below here (equal_or_not i k), here))
  where
    at : (i : ℕ) → i < k + 1 → slice_index nets i ≡ y → (i ≡ k) ⊎ (i ≢ k) → i < k
    at i below here (inl e) = absurd (apart (sym here ∙ ap (slice_index nets) e))
    at i below here (inr e) = omega arith

-- all have theirs
pub all_held : (n : Net) (rs : List Held) (count : ℕ) → AreRegisters n rs → length rs ≤ count → (y : ℕ) → IsNoTable n y → IsHeldAmong n (held_nets rs) count y
all_held n rs count are most y other = (other, λ r. let (k, below, here) = are.complete y r in (k, (let b : k < count = omega arith in b), here))

table_pins_of_other : (o : Option Node) → (IsTable o → ⊥) → length (table_pins o) ≡ 0
table_pins_of_other None other = refl
table_pins_of_other (Some (Table name cover pins)) other = absurd (other tt)
table_pins_of_other (Some (Register name init pin)) other = refl

-- what is no table reads no net in its own cycle
pub no_table_reads_none : (n : Net) (x y : ℕ) → IsNoTable n y → (i : ℕ) → i < length (table_pins (node_of n y)) → slice_index (table_pins (node_of n y)) i ≢ x
no_table_reads_none n x y other i l same = absurd (let none = table_pins_of_other (node_of n y) other in omega arith)

-- inputs and registers come before all tables
pub none_among : (n : Net) (nets : List ℕ) (y : ℕ) → IsAmong n nets 0 y → IsNoTable n y
none_among n nets y among table = let (i, below, here) = among table in absurd (let b : i < 0 = below in omega arith)

-- at last each table is among those of the order
pub all_among : (n : Net) (nets : List ℕ) (count : ℕ) → IsTableOrder n nets → length nets ≤ count → (y : ℕ) → IsAmong n nets count y
all_among n nets count is most y table = let (i, below, here) = is.complete y table in (i, (let b : i < count = omega arith in b), here)

module _ (n : Net) (ins before : List Bool) (forced : ℕ → Option Bool) where
  -- at first the inputs alone are settled
  pub inputs_settled : (t : ℕ) (v : List Bool) → length v ≡ net_count n → length ins ≡ length n.inputs → ((x : ℕ) → x < length ins → bit v x ≡ unwrap_or (forced x) (bit ins x)) → IsSettled n t ins before forced (IsInput n) v
  inputs_settled t v wide long same = record { wide = wide; equations = λ x h r. go x h (node_of n x) refl r }
    where
      go : (x : ℕ) → x < net_count n → (o : Option Node) → node_of n x ≡ o → (IsTable o → ⊥) × (IsRegister o → ⊥) → bit v x ≡ forced_value (node_of n x) (forced x) t ins before v x
      go x h None e r = subst (λ (o : Option Node). bit v x ≡ forced_value o (forced x) t ins before v x) (sym e) (same x (let low = slot_none_below (length n.inputs) n.nodes x e h in omega arith))
      go x h (Some (Table name cover pins)) e r = absurd (r.0 tt)
      go x h (Some (Register name init pin)) e r = absurd (r.1 tt)

  first_value : (o : Option Node) (u : Option Bool) (v : List Bool) (x : ℕ) → forced_value o u 0 ins before v x ≡ forced_value o u 0 ins [] v x
  first_value None u v x = refl
  first_value (Some (Table name cover pins)) u v x = refl
  first_value (Some (Register name init pin)) u v x = refl

  -- a cycle in which all nets are settled
  pub all_settled : (started : Bool) (v : List Bool) → IsSettled n (number_of_cycle started) ins before forced IsAnyNet v → IsCycle n (last_of started before) ins forced v
  all_settled true v is = record { wide = is.wide; equations = λ x h. is.equations x h tt }
  all_settled false v is = record { wide = is.wide; equations = λ x h. is.equations x h tt ∙ first_value (node_of n x) (forced x) v x }

pub length_bits : (j : ℕ) (words : List ℕ) → length (bits_of j words) ≡ length words
length_bits j words = length-map words (word_bit j)
