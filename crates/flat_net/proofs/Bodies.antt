-- What the body of a node tells of it.
use Rattle.std.proofs.Common.{◌≡◌, ℕ, ◌<◌, ◌≤◌, Bool, Option, Some, None, [], refl, length, arith}
use Rattle.table_cover.specs.Cover.{PlainCover}
use Rattle.flat_net.specs.declared.kind.Kind.TheVariants as kind
use Rattle.flat_net.specs.declared.nodes.Body.TheVariants.{TableBody, RegisterBody}
use Rattle.flat_net.specs.Kinds.{kind_of}
use Rattle.flat_net.specs.Net.{Net, Node, Table, Register, node_of, IsTable, IsRegister, IsCoverOf, IsInitOf, table_pins, pins_at}
use Rattle.flat_net.specs.Private.Bodies.{IsBodyOf}
use Rattle.flat_net.proofs.Slots.{slot_below}
use Rattle.flat_net.proofs.Ranges.{some_node_within, table_within, register_within}

pub input_kind : (n : Net) (x : ℕ) → x < length n.inputs → kind.Input ≡ kind_of (node_of n x)
input_kind n x h = rw (slot_below (length n.inputs) n.nodes x h) refl

pub table_kind : (o : Option Node) (k : PlainCover) → IsBodyOf o (TableBody k) → kind.Table ≡ kind_of o
table_kind None k is = absurd is
table_kind (Some (Table name cover pins)) k is = refl
table_kind (Some (Register name init pin)) k is = absurd is

pub register_kind : (o : Option Node) (b : Bool) → IsBodyOf o (RegisterBody b) → kind.Register ≡ kind_of o
register_kind None b is = absurd is
register_kind (Some (Table name cover pins)) b is = absurd is
register_kind (Some (Register name init pin)) b is = refl

pub cover_body : (o : Option Node) (k : PlainCover) → IsBodyOf o (TableBody k) → IsCoverOf o k
cover_body None k is = absurd is
cover_body (Some (Table name cover pins)) k is = is
cover_body (Some (Register name init pin)) k is = absurd is

pub init_body : (o : Option Node) (b : Bool) → IsBodyOf o (RegisterBody b) → IsInitOf o b
init_body None b is = absurd is
init_body (Some (Table name cover pins)) b is = absurd is
init_body (Some (Register name init pin)) b is = is

pub no_table : (o : Option Node) (b : Bool) → IsBodyOf o (RegisterBody b) → IsTable o → ⊥
no_table None b is t = is
no_table (Some (Table name cover pins)) b is t = is
no_table (Some (Register name init pin)) b is t = t

pub no_register : (o : Option Node) (k : PlainCover) → IsBodyOf o (TableBody k) → IsRegister o → ⊥
no_register None k is t = is
no_register (Some (Table name cover pins)) k is t = t
no_register (Some (Register name init pin)) k is t = is

pub table_reads : (o : Option Node) (k : PlainCover) → IsBodyOf o (TableBody k) → table_pins o ≡ pins_at o
table_reads None k is = absurd is
table_reads (Some (Table name cover pins)) k is = refl
table_reads (Some (Register name init pin)) k is = absurd is

pub register_reads : (o : Option Node) (b : Bool) → IsBodyOf o (RegisterBody b) → table_pins o ≡ []
register_reads None b is = absurd is
register_reads (Some (Table name cover pins)) b is = absurd is
register_reads (Some (Register name init pin)) b is = refl

pub ruleset kinds = (input_kind, table_kind, register_kind)

pub ruleset covers = (cover_body, no_table)

pub ruleset inits = (init_body, no_register)

-- what the kind of a net tells
pub table_from_kind : (o : Option Node) → kind_of o ≡ kind.Table → IsTable o
table_from_kind None e = absurd (cc)
table_from_kind (Some (Table name cover pins)) e = tt
table_from_kind (Some (Register name init pin)) e = absurd (cc)

pub register_from_kind : (o : Option Node) → kind_of o ≡ kind.Register → IsRegister o
register_from_kind None e = absurd (cc)
register_from_kind (Some (Table name cover pins)) e = absurd (cc)
register_from_kind (Some (Register name init pin)) e = tt

pub node_from_table : (n : Net) (x : ℕ) → kind_of (node_of n x) ≡ kind.Table → length n.inputs ≤ x
node_from_table n x e = (table_within n x (table_from_kind (node_of n x) e)).0

pub node_from_register : (n : Net) (x : ℕ) → kind_of (node_of n x) ≡ kind.Register → length n.inputs ≤ x
node_from_register n x e = (register_within n x (register_from_kind (node_of n x) e)).0

pub ruleset from_kind = (table_from_kind, register_from_kind, node_from_table, node_from_register)

-- what has a pin is a node
pub node_from_pins : (n : Net) (x j : ℕ) → j < length (pins_at (node_of n x)) → length n.inputs ≤ x
node_from_pins n x j h = go (node_of n x) refl h
  where
    go : (o : Option Node) → node_of n x ≡ o → j < length (pins_at o) → length n.inputs ≤ x
    go None e h = absurd (omega arith)
    go (Some node) e h = (some_node_within n x node e).0

-- an input has no pins
pub no_pins : (n : Net) (x : ℕ) → x < length n.inputs → length (pins_at (node_of n x)) ≡ 0
no_pins n x h = rw (slot_below (length n.inputs) n.nodes x h) refl
