-- Each loop of reads inside a partition goes through a register.
use Rattle.std.proofs.Common.{◌≡◌, ℕ, zero, suc, ◌+◌, ◌<◌, Bool, true, false, List, [], length, get_or, refl, sym, ◌∙◌, ap, subst, arith}
use Rattle.std.specs.Prelude.{Option, Some, None}
use Rattle.tmr_base.specs.Parts.{PlainParts}
use Rattle.flat_net.specs.Net.{Net, Node, Table, Register, node_of, pins_at, table_pins, IsTable, IsOrder, IsValid}
use Rattle.flat_net.specs.Private.ByPlace.{IsOrderByPlace}
use Rattle.flat_net.proofs.ByPlace.{by_place}
use Rattle.flat_net.proofs.Slots.{slot_there}
use Rattle.graph.specs.Lists.{Leads, alone, longer}
use Rattle.graph.proofs.Places.{leads_map, leads_join}
use Rattle.graph.proofs.Decisions.{no_absurd}
use Rattle.feedback_cut.specs.Inner.{node_pins, ReadsInside, inner_rows}
use Rattle.feedback_cut.specs.Components.{ReadsNode}
use Rattle.feedback_cut.specs.Registers.{is_some_register, is_register_at}
use Rattle.feedback_cut.specs.Cut.{ClosesRegister}
use Rattle.feedback_cut.proofs.InnerLaws.{inner_long, read_to}

-- node y, a table, reads node x
pub record TableReads (n : Net) (parts : PlainParts) (x y : ℕ) : Type 0 where
  pub pin : ℕ
  pub reads : ReadsInside n parts y pin x
  pub table : is_register_at n y ≡ false

-- node y reads node x through a pin that is not that of a register on a loop
pub record Passes (n : Net) (parts : PlainParts) (x y : ℕ) : Type 0 where
  pub pin : ℕ
  pub reads : ReadsInside n parts y pin x
  pub passes : ClosesRegister n parts y pin → ⊥

module _ (n : Net) (parts : PlainParts) (valid : IsValid n) where
  -- a node that is no register is a table
  table_there : (y : ℕ) → y < length n.nodes → is_register_at n y ≡ false → IsTable (node_of n (length n.inputs + y))
  table_there y l e = go (slot_there (length n.inputs) n.nodes (length n.inputs + y) (omega arith) (omega (arith, l)))
    where
      go : (node : Node) × (node_of n (length n.inputs + y) ≡ Some node) → IsTable (node_of n (length n.inputs + y))
      go (Table name cover pins, at) = subst IsTable (sym at) tt
      go (Register name init pin, at) = absurd (no_absurd (sym (ap is_some_register at) ∙ e))

  same_pins : (x : ℕ) → IsTable (node_of n x) → table_pins (node_of n x) ≡ pins_at (node_of n x)
  same_pins x is = go (node_of n x) is
    where
      go : (o : Option Node) → IsTable o → table_pins o ≡ pins_at o
      go None is = refl
      go (Some (Table name cover pins)) is = refl
      go (Some (Register name init pin)) is = absurd is

  -- what a table reads is a table where it has a reader's place in a list of tables
  last_table : (a b : ℕ) → Leads (TableReads n parts) a b → is_register_at n a ≡ false → is_register_at n b ≡ false
  last_table _ _ (alone a) e = e
  last_table _ _ (longer a b c l next) e = next.table

  module _ (order : List ℕ) (places : IsOrderByPlace n order) where
    -- a table that another one reads stands before it
    stands_before : (k x y : ℕ) → k < length order → get_or order k 0 ≡ length n.inputs + y → is_register_at n x ≡ false → TableReads n parts x y → (i : ℕ) × (i < k) × (get_or order i 0 ≡ length n.inputs + x)
    stands_before k x y h at e u = go (places.after k u.pin h within is_table)
      where
        own : (y < length n.nodes) × (u.pin < length (get_or (inner_rows n parts) y [])) × (get_or (get_or (inner_rows n parts) y []) u.pin 0 ≡ x) × (x < length (inner_rows n parts))
        own = read_to n parts valid y u.pin x u.reads

        pins : table_pins (node_of n (get_or order k 0)) ≡ node_pins n y
        pins = ap (λ z. table_pins (node_of n z)) at ∙ same_pins (length n.inputs + y) (table_there y own.0 u.table)

        within : u.pin < length (table_pins (node_of n (get_or order k 0)))
        within = omega (arith, ap length pins, u.reads.pin)

        is : get_or (table_pins (node_of n (get_or order k 0))) u.pin 0 ≡ length n.inputs + x
        is = ap (λ ps. get_or ps u.pin 0) pins ∙ u.reads.is

        is_table : IsTable (node_of n (get_or (table_pins (node_of n (get_or order k 0))) u.pin 0))
        is_table = subst (λ z. IsTable (node_of n z)) (sym is) (table_there x (omega (arith, own.3, inner_long n parts)) e)

        go : (i : ℕ) × (i < k) × (get_or order i 0 ≡ get_or (table_pins (node_of n (get_or order k 0))) u.pin 0) → (i : ℕ) × (i < k) × (get_or order i 0 ≡ length n.inputs + x)
        go (i, l, same) = (i, l, same ∙ is)

    none_sooner : (k x : ℕ) → ((i : ℕ) → i < k → get_or order i 0 ≡ length n.inputs + x → ⊥) → (i : ℕ) × (i < k) × (get_or order i 0 ≡ length n.inputs + x) → ⊥
    none_sooner k x none (i, l, is) = none i l is

    -- no table at a place below the bound ends a loop of tables
    none_below : (bound k y a : ℕ) → k < bound → k < length order → get_or order k 0 ≡ length n.inputs + y → Leads (TableReads n parts) a y → TableReads n parts y a → ⊥
    none_below zero k y a below h at leads closes = absurd (omega arith)
    none_below (suc bound) k _ _ below h at (alone a) closes =
        none_sooner k a (λ i l is. none_below bound i a a (omega arith) (omega arith) is (alone a) closes) (stands_before k a a h at closes.table closes)
    none_below (suc bound) k _ _ below h at (longer a b y l next) closes =
        none_sooner k b (λ i under is. none_below bound i b y (omega arith) (omega arith) is (leads_join (TableReads n parts) y a b (longer y y a (alone y) closes) l) next) (stands_before k b y h at (last_table a b l closes.table) next)

    none_closes : (x y : ℕ) → Leads (TableReads n parts) x y → TableReads n parts y x → ⊥
    none_closes x y leads closes = go (places.complete (length n.inputs + y) (omega arith) (let r = read_to n parts valid x closes.pin y closes.reads in omega (arith, r.3, inner_long n parts)))
      where
        go : (k : ℕ) × (k < length order) × (get_or order k 0 ≡ length n.inputs + y) → ⊥
        go (k, l, is) = none_below (suc k) k y x (omega arith) l is leads closes

  node_of_pass : (x y : ℕ) → Passes n parts x y → ReadsNode n parts x y
  node_of_pass x y u = record { pin = u.pin; reads = u.reads }

  -- on a loop a register's pin does not pass
  pass_table : (x y : ℕ) → Passes n parts x y → Leads (ReadsNode n parts) y x → TableReads n parts x y
  pass_table x y u leads = record { pin = u.pin; reads = u.reads; table = go (is_register_at n y) refl }
    where
      go : (b : Bool) → is_register_at n y ≡ b → is_register_at n y ≡ false
      go false e = e
      go true e = absurd (u.passes (record { register = e; read = x; reads = u.reads; leads = leads }))

  tables_alone : (a b : ℕ) → Leads (Passes n parts) a b → Leads (ReadsNode n parts) b a → Leads (TableReads n parts) a b
  tables_alone _ _ (alone a) back = alone a
  tables_alone _ _ (longer a b c l next) back =
      longer a b c (tables_alone a b l (leads_join (ReadsNode n parts) b c a (longer b b c (alone b) (node_of_pass b c next)) back))
      (pass_table b c next (leads_join (ReadsNode n parts) c a b back (leads_map (Passes n parts) (ReadsNode n parts) node_of_pass a b l)))

  -- reads that go around the pins of registers on loops make no loop
  pub no_loop : (x y : ℕ) → Leads (Passes n parts) x y → Passes n parts y x → ⊥
  no_loop x y leads closes = go valid.ordered
    where
      go : (order : List ℕ) × IsOrder n order → ⊥
      go (order, is) =
          none_closes order (by_place n order is) x y
          (tables_alone x y leads (longer y y x (alone y) (node_of_pass y x closes)))
          (pass_table y x closes (leads_map (Passes n parts) (ReadsNode n parts) node_of_pass x y leads))
