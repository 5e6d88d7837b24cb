-- Where nodes are.
use Rattle.std.proofs.Common.{◌≡◌, ℕ, zero, suc, ◌-◌, ◌<◌, ◌≤◌, sym, [], ◌∷◌, length, refl, ap, get_or, ◌∙◌, Option, Some, None, subst, slice_index, slice_get, arith}
use Rattle.std.proofs.lemmas.Option.{slice_get_within, get_or_from_slice_get}
use Rattle.flat_net.specs.Net.{Net, Node, Table, Register, node_of, net_count, pins_at, pins_of, pin_total, IsTable, IsRegister, IsValid, IsCoverOf, Design, IsDesign}
use Rattle.table_cover.specs.Cover.{PlainCover}
use Rattle.flat_net.proofs.Slots.{slot_within, slot_at}
use Rattle.std.proofs.lemmas.List.Sums.{get_or-le-sum_by}

pub some_node_within : (n : Net) (x : ℕ) (node : Node) → node_of n x ≡ Some node → (length n.inputs ≤ x) × (x < net_count n)
some_node_within n x node e = slot_within _ _ x node e

pub table_within : (n : Net) (x : ℕ) → IsTable (node_of n x) → (length n.inputs ≤ x) × (x < net_count n)
table_within n x is = go (node_of n x) refl is
  where
    go : (o : Option Node) → node_of n x ≡ o → IsTable o → (length n.inputs ≤ x) × (x < net_count n)
    go None e is = absurd is
    go (Some node) e is = some_node_within n x node e

pub register_within : (n : Net) (x : ℕ) → IsRegister (node_of n x) → (length n.inputs ≤ x) × (x < net_count n)
register_within n x is = go (node_of n x) refl is
  where
    go : (o : Option Node) → node_of n x ≡ o → IsRegister o → (length n.inputs ≤ x) × (x < net_count n)
    go None e is = absurd is
    go (Some node) e is = some_node_within n x node e

-- a pin is a net
pub pin_in_range : (n : Net) (x j y : ℕ) → IsValid n → j < length (pins_at (node_of n x)) → y ≡ slice_index (pins_at (node_of n x)) j → y < net_count n
pin_in_range n x j y valid l e = go (node_of n x) refl l e
  where
    go : (o : Option Node) → node_of n x ≡ o → j < length (pins_at o) → y ≡ slice_index (pins_at o) j → y < net_count n
    go None is l e = absurd (omega arith)
    go (Some (Table name cover pins)) is l e = let wired = (valid.unordered.wired x _ is).0 j 0 l in rw e wired
    go (Some (Register name init pin)) is l e = pin_lt j l e (valid.unordered.wired x _ is)
      where
        pin_lt : (j : ℕ) → j < length (pin ∷ []) → y ≡ slice_index (pin ∷ []) j → pin < net_count n → y < net_count n
        pin_lt zero l e wired = omega arith
        pin_lt (suc j) l e wired = absurd (omega arith)

-- a table has as many pins as its cover is wide
pub cover_width : (n : Net) (x : ℕ) (k : PlainCover) → IsValid n → IsCoverOf (node_of n x) k → length (pins_at (node_of n x)) ≡ k.width
cover_width n x k valid is = go (node_of n x) refl is
  where
    go : (o : Option Node) → node_of n x ≡ o → IsCoverOf o k → length (pins_at o) ≡ k.width
    go None e is = absurd is
    go (Some (Table name cover pins)) e is = (valid.unordered.wired x _ e).1 ∙ ap (λ (w : PlainCover). w.width) is
    go (Some (Register name init pin)) e is = absurd is

-- an output is a net
pub output_in_range : (n : Net) (k x : ℕ) → IsValid n → slice_get n.outputs k ≡ Some x → x < net_count n
output_in_range n k x valid e =
    subst (λ (y : ℕ). y < net_count n) (get_or_from_slice_get n.outputs k x 0 e) (valid.unordered.outputs_in_range k 0 (slice_get_within n.outputs k x e))

-- a node has no more pins than all nodes together
pub pins_few : (n : Net) (x : ℕ) (node : Node) → pin_total n < 4294967295 → node_of n x ≡ Some node → length (pins_of node) < 4294967295
pins_few n x node few e =
    let within = some_node_within n x node e in
    let here : slice_get n.nodes (x - length n.inputs) ≡ Some node = sym (slot_at (length n.inputs) n.nodes x within.0) ∙ e in
    let most = get_or-le-sum_by (λ m. length (pins_of m)) n.nodes (x - length n.inputs) node (omega (arith, within)) in
    let same = get_or_from_slice_get n.nodes (x - length n.inputs) node node here in
    let le : length (pins_of node) ≤ pin_total n = subst (λ (m : Node). length (pins_of m) ≤ pin_total n) same most in
    omega arith

pub pins_at_few : (n : Net) (x : ℕ) → pin_total n < 4294967295 → length (pins_at (node_of n x)) < 4294967295
pins_at_few n x few = go (node_of n x) refl
  where
    go : (o : Option Node) → node_of n x ≡ o → length (pins_at o) < 4294967295
    go None e = omega arith
    go (Some node) e = pins_few n x node few e

-- what stands in the order is a node
pub ordered_in_range : (d : Design) (i x : ℕ) → IsDesign d → slice_get d.order i ≡ Some x → (length d.net.inputs ≤ x) × (x < net_count d.net)
ordered_in_range d i x is e =
    let at : get_or d.order i 0 ≡ x = get_or_from_slice_get d.order i x 0 e in
    rw at at (is.order.nodes i 0 (slice_get_within d.order i x e))
