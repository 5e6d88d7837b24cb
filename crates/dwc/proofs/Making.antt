-- One node more of the guarded design.
use Rattle.std.proofs.Common.{◌≡◌, ℕ, ◌+◌, ◌-◌, ◌*◌, ◌<◌, ◌≤◌, List, [], ◌∷◌, ◌++◌, length, map, take, get_or, Option, Some, None, slice_get, refl, sym, ap, ◌∙◌, subst, arith, Bool}
use Rattle.std.specs.Prelude.{slice_index, sum_by, codes}
use Rattle.std.specs.List.{range_with_len}
use Rattle.std.specs.Str.{bytes_eq}
use Rattle.std.proofs.lemmas.List.{length-append, length-map, map-append, take_more, take_all, take_at, length-take-le, get_or_append_left, get_or-append-add, get_or-map}
use Rattle.std.proofs.lemmas.List.Sums.{sum_by-append, sum_by-cons, sum_by-take-drop, count_by-le-length}
use Rattle.std.proofs.lemmas.Option.{get_or_from_slice_get, slice_get_within}
use Rattle.table_cover.specs.Cover.{PlainCover}
use Rattle.indexmap.specs.IndexSet.{insert_key}
use Rattle.flat_net.specs.Net.{Net, Node, Table, Register, net_count, node_of, node_name, net_names, name_of, pins_of, pins_at, is_register, IsTable, IsRegister, IsCoverOf, IsInitOf, IsValid}
use Rattle.flat_net.specs.Kinds.{kind_of}
use Rattle.flat_net.specs.declared.kind.Kind.TheVariants as kind
use Rattle.flat_net.specs.declared.nodes.PackedNodes.{PackedNodes}
use Rattle.flat_net.specs.Nodes.{number_of}
use Rattle.flat_net.specs.Packs.{Packs}
use Rattle.flat_net.specs.Draft.{AreDistinct}
use Rattle.flat_net.proofs.Names.{insert_next}
use Rattle.flat_net.proofs.PackedLaws.{total-nodes_from}
use Rattle.flat_net.proofs.Slots.{slot_at, slot_there, slice_get_there}
use Rattle.dwc.specs.declared.made.Made.{Made}
use Rattle.dwc.specs.Guard.{twin, twin_text, node_twin, differ_cover, comparator, any_cover, alarm, guard_net}
use Rattle.dwc.specs.Making.{PacksMore, IsMade}
use Rattle.dwc.proofs.Nodes.{name_of_node, twin_named, twin_get}

-- ---- names

-- the names of a valid design differ
pub names_distinct : (g : Net) → IsValid g → AreDistinct (net_names g)
names_distinct g valid j k less h e =
    let long : length (net_names g) ≡ net_count g = length-append g.inputs (map node_name g.nodes) ∙ ap (λ m. length g.inputs + m) (length-map g.nodes node_name) in
    let same : j ≡ k = valid.unordered.names_differ j k (omega (arith, less, h, long)) (omega (arith, h, long)) e in
    omega (arith, less, same)

pub inputs_distinct : (g : Net) → IsValid g → AreDistinct g.inputs
inputs_distinct g valid j k less h e =
    let a = get_or_append_left g.inputs (map node_name g.nodes) [] j (omega (arith, less, h)) in
    let b = get_or_append_left g.inputs (map node_name g.nodes) [] k h in
    names_distinct g valid j k less (omega (arith, h, length-append g.inputs (map node_name g.nodes))) (a ∙ (e ∙ sym b))

-- ---- one node more

next_name : (g : Net) (k : ℕ) (node : Node) → slice_get g.nodes k ≡ Some node → get_or (net_names g) (length g.inputs + k) [] ≡ node_name node
next_name g k node at =
    get_or-append-add g.inputs (map node_name g.nodes) k [] ∙ (get_or-map node_name g.nodes k node [] (slice_get_within g.nodes k node at) ∙ ap node_name (get_or_from_slice_get g.nodes k node node at))

next_within : (g : Net) (k : ℕ) (node : Node) → slice_get g.nodes k ≡ Some node → length g.inputs + k < length (net_names g)
next_within g k node at = omega (arith, slice_get_within g.nodes k node at, length-append g.inputs (map node_name g.nodes), length-map g.nodes node_name)

next_nodes : (g : Net) (k : ℕ) (node : Node) → slice_get g.nodes k ≡ Some node → take (k + 1) g.nodes ≡ take k g.nodes ++ node ∷ []
next_nodes g k node at = take_more g.nodes k node (slice_get_within g.nodes k node at) ∙ ap (λ (m : Node). take k g.nodes ++ m ∷ []) (get_or_from_slice_get g.nodes k node node at)

pub made_more : (g : Net) (k : ℕ) (node : Node) (old new : Made) → IsValid g → slice_get g.nodes k ≡ Some node → IsMade g k old → new.names.keys ≡ insert_key bytes_eq old.names.keys (node_name node) → PacksMore old.nodes new.nodes node → IsMade g (k + 1) new
made_more g k node old new valid at made names packs = record {
  named =
      let next : length g.inputs + k + 1 ≡ length g.inputs + (k + 1) = omega arith in
      names ∙ (ap (λ (xs : List (List ℕ)). insert_key bytes_eq xs (node_name node)) made.named
      ∙ (ap (insert_key bytes_eq (take (length g.inputs + k) (net_names g))) (sym (next_name g k node at))
      ∙ (insert_next (net_names g) (length g.inputs + k) (names_distinct g valid) (next_within g k node at) ∙ ap (λ m. take m (net_names g)) next)));
  packed =
      let nodes = next_nodes g k node at in
      let named : map node_name (take (k + 1) g.nodes) ≡ map node_name (take k g.nodes) ++ node_name node ∷ [] = ap (map node_name) nodes ∙ map-append node_name (take k g.nodes) (node ∷ []) in
      rw (named, nodes) (packs (map node_name (take k g.nodes)) (take k g.nodes) made.packed);
}

-- nothing but the inputs' names is made
pub made_none : (g : Net) (made : Made) → made.names.keys ≡ g.inputs → Packs [] made.nodes [] → IsMade g 0 made
made_none g made names packs = record {
  named =
      let z : length g.inputs + 0 ≡ length g.inputs = omega arith in
      names ∙ (sym (take_at g.inputs (map node_name g.nodes) (length g.inputs) refl) ∙ ap (λ m. take m (net_names g)) (sym z));
  packed = packs;
}

-- all is made
pub made_names : (g : Net) (k : ℕ) (made : Made) → IsMade g k made → k ≡ length g.nodes → made.names.keys ≡ net_names g
made_names g k made is e = is.named ∙ take_all (length g.inputs + k) (net_names g) (omega (arith, e, length-append g.inputs (map node_name g.nodes), length-map g.nodes node_name))

pub made_nodes : (g : Net) (k : ℕ) (made : Made) → IsMade g k made → k ≡ length g.nodes → Packs (map node_name g.nodes) made.nodes g.nodes
made_nodes g k made is e = subst (λ (nodes : List Node). Packs (map node_name nodes) made.nodes nodes) (take_all k g.nodes (omega (arith, e))) is.packed

-- ---- room

packs_total : (names : List (List ℕ)) (packed : PackedNodes) (nodes : List Node) → Packs names packed nodes → sum_by (λ node. length (pins_of node)) nodes ≡ length packed.pins.items
packs_total names packed nodes k =
    let long = length-map packed.pins.items number_of in
    ap (sum_by (λ node. length (pins_of node))) (sym k.is) ∙ (total-nodes_from names packed.bodies.items packed.ends.items (map number_of packed.pins.items) k.named (rw long k.cut) ∙ long)

pub room_for_pins : (g : Net) (k : ℕ) (node : Node) (made : Made) → IsValid g → slice_get g.nodes k ≡ Some node → IsMade g k made → length made.nodes.pins.items + length (pins_of node) < 4294967296
room_for_pins g k node made valid at is =
    let f : Node → ℕ = λ node. length (pins_of node) in
    omega (arith, valid.unordered.few_pins, sum_by-take-drop f g.nodes (k + 1), ap (sum_by f) (next_nodes g k node at), sum_by-append f (take k g.nodes) (node ∷ []), sum_by-cons f node [], packs_total (map node_name (take k g.nodes)) made.nodes (take k g.nodes) is.packed)

pub room_for_registers : (g : Net) (k : ℕ) (node : Node) (made : Made) → IsValid g → slice_get g.nodes k ≡ Some node → IsMade g k made → made.nodes.registers + 1 < 4294967296
room_for_registers g k node made valid at is =
    omega (arith, valid.unordered.few, slice_get_within g.nodes k node at, is.packed.registers, count_by-le-length is_register (take k g.nodes), length-take-le k g.nodes (omega (arith, slice_get_within g.nodes k node at)))

-- ---- the copy of a node

pub twin_pins_long : (node : Node) (c : ℕ) → length (pins_of (node_twin node c)) ≡ length (pins_of node)
twin_pins_long (Table name cover pins) c = length-map pins (twin c)
twin_pins_long (Register name init pin) c = refl

pub table_twin : (o : Option Node) (node : Node) (c : ℕ) (nets : List ℕ) (k : PlainCover) → o ≡ Some node → IsTable o → IsCoverOf o k → nets ≡ map (twin c) (pins_at o) → Table (node_name (node_twin node c)) k nets ≡ node_twin node c
table_twin None node c nets k at is cover e = absurd is
table_twin (Some (Table name cover pins)) (Table name' cover' pins') c nets k at is same e =
    let own : Table name cover pins ≡ Table name' cover' pins' = some_is _ _ at in
    ap (λ (m : Node). Table (node_name (node_twin m c)) k nets) (sym own) ∙ (rw (← same, e) refl ∙ ap (λ (m : Node). node_twin m c) own)
  where
    some_is : (a b : Node) → Some a ≡ Some b → a ≡ b
    some_is a b e = cc
table_twin (Some (Table name cover pins)) (Register name' init' pin') c nets k at is same e = absurd (cc)
table_twin (Some (Register name init pin)) node c nets k at is cover e = absurd is

pub register_twin : (o : Option Node) (node : Node) (c : ℕ) (b : Bool) (v : ℕ) → o ≡ Some node → IsRegister o → IsInitOf o b → v ≡ twin c (slice_index (pins_at o) 0) → Register (node_name (node_twin node c)) b v ≡ node_twin node c
register_twin None node c b v at is init e = absurd is
register_twin (Some (Table name cover pins)) node c b v at is init e = absurd is
register_twin (Some (Register name init pin)) (Table name' cover' pins') c b v at is same e = absurd (cc)
register_twin (Some (Register name init pin)) (Register name' init' pin') c b v at is same e =
    let own : Register name init pin ≡ Register name' init' pin' = some_is _ _ at in
    ap (λ (m : Node). Register (node_name (node_twin m c)) b v) (sym own) ∙ (rw (← same, e) refl ∙ ap (λ (m : Node). node_twin m c) own)
  where
    some_is : (a b : Node) → Some a ≡ Some b → a ≡ b
    some_is a b e = cc

pub node_is_no_input : (n : Net) (x : ℕ) → length n.inputs ≤ x → x < net_count n → kind.Input ≡ kind_of (node_of n x) → ⊥
node_is_no_input n x low high e = go (slot_there (length n.inputs) n.nodes x low high)
  where
    differs : (node : Node) → kind.Input ≡ kind_of (Some node) → ⊥
    differs (Table name cover pins) f = cc
    differs (Register name init pin) f = cc

    go : (node : Node) × (node_of n x ≡ Some node) → ⊥
    go (node, at) = differs node (e ∙ ap kind_of at)

-- ---- the node that comes next

pub comparator_is : (n : Net) (y p q : ℕ) (k : PlainCover) → k ≡ differ_cover → p ≡ twin 0 y → q ≡ twin 1 y → Table (name_of n y ++ codes "~e") k (p ∷ q ∷ []) ≡ comparator n y
comparator_is n y p q k a b c = rw (a, b, c) refl

pub alarm_is : (n : Net) (ps : List ℕ) (k : PlainCover) → k ≡ any_cover (length n.outputs) → ps ≡ range_with_len (2 * net_count n) (length n.outputs) → Table (codes "alarm~z") k ps ≡ alarm n
alarm_is n ps k a b = rw (a, b) refl

-- node i of a design, by its place and by its number
pub record NodeAt (n : Net) (i x : ℕ) : Type 0 where
  pub node : Node
  pub listed : slice_get n.nodes i ≡ Some node
  pub is : node_of n x ≡ Some node

pub node_at : (n : Net) (i x : ℕ) → i < length n.nodes → x ≡ length n.inputs + i → NodeAt n i x
node_at n i x h e =
    let (node, at) = slice_get_there n.nodes i h in
    let back : x - length n.inputs ≡ i = omega (arith, e) in
    record { node = node; listed = at; is = slot_at (length n.inputs) n.nodes x (omega (arith, e)) ∙ (ap (slice_get n.nodes) back ∙ at) }

pub twin_room : (n : Net) (i x c : ℕ) (made : Made) → i < length n.nodes → x ≡ length n.inputs + i → c < 2 → IsValid (guard_net n) → IsMade (guard_net n) (2 * i + c) made → length made.nodes.pins.items + length (pins_at (node_of n x)) < 4294967296
twin_room n i x c made h e l valid is =
    let p = node_at n i x h e in
    omega (arith, room_for_pins (guard_net n) (2 * i + c) (node_twin p.node c) made valid (twin_get n i c p.node p.listed l) is, twin_pins_long p.node c, ap (λ (o : Option Node). length (pins_at o)) p.is)

pub twin_more : (n : Net) (i x c : ℕ) (old new : Made) (name : List ℕ) → i < length n.nodes → x ≡ length n.inputs + i → c < 2 → IsValid (guard_net n) → IsMade (guard_net n) (2 * i + c) old → name ≡ twin_text (name_of n x) c → new.names.keys ≡ insert_key bytes_eq old.names.keys name
    → ((node : Node) → node_of n x ≡ Some node → PacksMore old.nodes new.nodes (node_twin node c)) → IsMade (guard_net n) (2 * i + c + 1) new
twin_more n i x c old new name h e l valid is named keys packs =
    let p = node_at n i x h e in
    let own : name ≡ node_name (node_twin p.node c) = named ∙ (ap (λ (a : List ℕ). twin_text a c) (name_of_node n x p.node p.is) ∙ sym (twin_named p.node c)) in
    made_more (guard_net n) (2 * i + c) (node_twin p.node c) old new valid (twin_get n i c p.node p.listed l) is (keys ∙ ap (insert_key bytes_eq old.names.keys) own) (packs p.node p.is)

-- a table more, which is this node
pub table_more : (g : Net) (k : ℕ) (node : Node) (old new : Made) (name : List ℕ) (cover : PlainCover) (pins : List ℕ) → IsValid g → slice_get g.nodes k ≡ Some node → IsMade g k old → Table name cover pins ≡ node → new.names.keys ≡ insert_key bytes_eq old.names.keys name → PacksMore old.nodes new.nodes (Table name cover pins) → IsMade g (k + 1) new
table_more g k node old new name cover pins valid at is same keys packs =
    made_more g k node old new valid at is (keys ∙ ap (λ (m : Node). insert_key bytes_eq old.names.keys (node_name m)) same) (subst (λ (m : Node). PacksMore old.nodes new.nodes m) same packs)
