-- Only private functions cite this: the tables as one list of literals, in the order of evaluation.
use Rattle.std.specs.Prelude.{◌≡◌, ◌≢◌, ℕ, ◌<◌, slice_index, Bool, true, false, not, ◌&&◌, ◌||◌}
use Rattle.std.specs.Prelude.{nat_eq, nat_le, List, [], ◌∷◌, ◌++◌, length, map, Option, Some, None, if◌then◌else◌}
use Rattle.std.specs.List.{list_any, flat_map}
use Rattle.flat_net.specs.Net.{Net, Node, Table, Register, node_of, IsTable}
use Rattle.flat_net.specs.Private.ByPlace.{ComesBefore}
use Rattle.net_simulator.specs.declared.tables.Literal.{Literal}
use Rattle.net_simulator.specs.declared.tables.Entry.{Entry}
use Rattle.net_simulator.specs.declared.tables.Tables.{Tables}
use Rattle.net_simulator.specs.Registers.{AreRegisters}

-- the value that a mark wants of its pin; a dash wants none
abbrev pub wanted : ℕ → Option Bool
wanted mark = if nat_eq mark 48 then Some false else if nat_eq mark 49 then Some true else None

abbrev pub is_wanting : Option Bool → Bool
is_wanting None = false
is_wanting (Some value) = true

-- the literal of one mark; it begins the row, where none stands before it
abbrev pub mark_literals : Option Bool → ℕ → Bool → List Literal
mark_literals None pin begun = []
mark_literals (Some value) pin begun = record { net = record { 0 = pin }; is_on = value; is_first = not begun } ∷ []

abbrev pub row_literals : Bool → List ℕ → List ℕ → List Literal
row_literals begun [] pins = []
row_literals begun (mark ∷ row) [] = []
row_literals begun (mark ∷ row) (pin ∷ pins) = mark_literals (wanted mark) pin begun ++ row_literals (begun || is_wanting (wanted mark)) row pins

-- whether a row has a literal, or had one before
abbrev pub has_literal : Bool → List ℕ → List ℕ → Bool
has_literal begun [] pins = begun
has_literal begun (mark ∷ row) [] = begun
has_literal begun (mark ∷ row) (pin ∷ pins) = has_literal (begun || is_wanting (wanted mark)) row pins

abbrev pub rows_literals : List (List ℕ) → List ℕ → List Literal
rows_literals [] pins = []
rows_literals (row ∷ rows) pins = row_literals false row pins ++ rows_literals rows pins

-- some row has no literal, and so fits always
abbrev pub some_always : List (List ℕ) → List ℕ → Bool
some_always rows pins = list_any (λ row. not (has_literal false row pins)) rows

abbrev pub node_literals : Option Node → List Literal
node_literals None = []
node_literals (Some (Table name cover pins)) = rows_literals cover.rows pins
node_literals (Some (Register name init pin)) = []

-- what stands beside a table's literals
abbrev pub entry_of : Option Node → ℕ → Entry
entry_of None x = record { net = record { 0 = x }; is_on = true; always = false; is_short = false; pins = 0; count = 0 }
entry_of (Some (Table name cover pins)) x = record {
  net = record { 0 = x };
  is_on = cover.is_on;
  always = some_always cover.rows pins;
  is_short = nat_le (length pins) 6;
  pins = if nat_le (length pins) 6 then length pins else 0;
  count = length (rows_literals cover.rows pins);
}
entry_of (Some (Register name init pin)) x = record { net = record { 0 = x }; is_on = true; always = false; is_short = false; pins = 0; count = 0 }

abbrev pub entries : Net → List ℕ → List Entry
entries n nets = map (λ x. entry_of (node_of n x) x) nets

abbrev pub literals : Net → List ℕ → List Literal
literals n nets = flat_map (λ x. node_literals (node_of n x)) nets

abbrev pub entry_nets : List Entry → List ℕ
entry_nets es = map (λ e. e.net.0) es

-- all tables, each once, each behind those that it reads
pub record IsTableOrder (n : Net) (nets : List ℕ) : Type 0 where
  pub tables : (k : ℕ) → k < length nets → IsTable (node_of n (slice_index nets k))
  pub complete : (x : ℕ) → IsTable (node_of n x) → (k : ℕ) × (k < length nets) × (slice_index nets k ≡ x)
  pub once : (j k : ℕ) → j < k → k < length nets → slice_index nets j ≢ slice_index nets k
  pub after : (k i : ℕ) → k < length nets → ComesBefore n nets k i

-- the tables of the design with their literals, and its registers
pub record AreTables (n : Net) (t : Tables) : Type 0 where
  pub order : IsTableOrder n (entry_nets t.entries.items)
  pub entries : t.entries.items ≡ entries n (entry_nets t.entries.items)
  pub literals : t.literals.items ≡ literals n (entry_nets t.entries.items)
  pub registers : AreRegisters n t.registers.items

-- the literal fits the value of its net
abbrev pub literal_fits : (ℕ → Bool) → Literal → Bool
literal_fits v l = if l.is_on then v l.net.0 else not (v l.net.0)

-- some row fits, where `earlier` tells of the rows before the one that is open, and `present` of that one so far
abbrev pub some_fits : (ℕ → Bool) → Bool → Bool → List Literal → Bool
some_fits v earlier present [] = earlier || present
some_fits v earlier present (l ∷ ls) =
    if l.is_first then some_fits v (earlier || present) (literal_fits v l) ls else some_fits v earlier (present && literal_fits v l) ls

-- the value of a table with these literals
abbrev pub entry_value : Entry → (ℕ → Bool) → List Literal → Bool
entry_value e v ls = if e.is_on then some_fits v e.always false ls else not (some_fits v e.always false ls)
