-- Only private functions cite this: the tables of few pins, each as one word that tells its values.
use Rattle.std.specs.Prelude.{◌≡◌, ℕ, ◌+◌, ◌-◌, ◌*◌, ◌<◌, ◌≤◌, Bool, nat_le, List, [], ◌∷◌, length, map, slice_index, Option, Some, None, if◌then◌else◌}
use Rattle.std.specs.List.{flat_map}
use Rattle.tmr_base.specs.declared.ids.NetId.{NetId}
use Rattle.table_cover.specs.Cover.{PlainCover, cover_value}
use Rattle.table_cover.specs.Words.{word_bit}
use Rattle.flat_net.specs.Net.{Net, Node, Table, Register, node_of}
use Rattle.net_simulator.specs.Tables.{entry_value}
use Rattle.net_simulator.specs.declared.tables.Entry.{Entry}
use Rattle.net_simulator.specs.declared.tables.Literal.{Literal}
use Rattle.net_simulator.specs.declared.truth.Truths.{Truths}

-- the number whose binary digits are those of `high`, and then these bits
abbrev pub number_from : ℕ → List Bool → ℕ
number_from high [] = high
number_from high (b ∷ bits) = number_from (2 * high + (if b then 1 else 0)) bits

-- bit k of these six words, the highest first, are the binary digits of k
abbrev pub places : List ℕ
places = 18446744069414584320 ∷ 18446462603027742720 ∷ 18374966859414961920 ∷ 17361641481138401520
    ∷ 14757395258967641292 ∷ 12297829382473034410 ∷ []

-- what two neighbours of a word's bits leave of a pin with this word, by the number that they are
abbrev pub ends_of : ℕ → List ℕ
ends_of x = 0 ∷ (18446744073709551615 - x) ∷ x ∷ 18446744073709551615 ∷ []

-- the value on some bits is the word's bit at their number
abbrev pub Tells : PlainCover → ℕ → ℕ → Type 0
Tells cover pins word = (bits : List Bool) → length bits ≡ pins → word_bit (number_from 0 bits) word ≡ cover_value cover bits

-- the same of a node, if it is a table of at most six pins
abbrev pub TellsNode : Option Node → ℕ → Type 0
TellsNode None word = Unit {0}
TellsNode (Some (Table name cover pins)) word = length pins ≤ 6 → Tells cover (length pins) word
TellsNode (Some (Register name init pin)) word = Unit {0}

abbrev pub ids_of : List ℕ → List NetId
ids_of pins = map (λ p. record { 0 = p }) pins

-- the pins of a table, if they are at most six
abbrev pub short_pins : Option Node → List NetId
short_pins None = []
short_pins (Some (Table name cover pins)) = if nat_le (length pins) 6 then ids_of pins else []
short_pins (Some (Register name init pin)) = []

abbrev pub all_short_pins : Net → List ℕ → List NetId
all_short_pins n nets = flat_map (λ x. short_pins (node_of n x)) nets

-- a word for each of these tables, and the pins of those that it tells
pub record AreTruths (n : Net) (nets : List ℕ) (t : Truths) : Type 0 where
  pub long : length t.words.items ≡ length nets
  pub words : (k : ℕ) → k < length nets → TellsNode (node_of n (slice_index nets k)) (slice_index t.words.items k)
  pub pins : t.pins.items ≡ all_short_pins n nets

-- the value of a table, by its word or by its literals
abbrev pub short_value : Entry → ℕ → List NetId → List Literal → (ℕ → Bool) → Bool
short_value e word pins literals v = if e.is_short then word_bit (number_from 0 (map (λ p. v p.0) pins)) word else entry_value e v literals
