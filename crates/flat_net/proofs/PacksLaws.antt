-- One node more that is packed.
use Rattle.std.proofs.Common.{◌≡◌, ℕ, ◌+◌, List, [], ◌∷◌, ◌++◌, length, map, take, drop, refl, sym, ap, ◌∙◌, subst, arith, if◌then◌else◌}
use Rattle.std.specs.Prelude.{count_by}
use Rattle.std.proofs.lemmas.List.{length-map, length-append, map-append, length_push, take_at, drop_at}
use Rattle.flat_net.specs.declared.nodes.Body.{Body}
use Rattle.flat_net.specs.declared.nodes.PackedNodes.{PackedNodes}
use Rattle.flat_net.specs.Nodes.{number_of}
use Rattle.tmr_base.specs.declared.ids.NetId.{NetId}
use Rattle.flat_net.specs.Net.{Net, Node, is_register, register_count, node_name, net_names, IsUnordered}
use Rattle.flat_net.specs.declared.wiring.Wiring.TheInside.{Inside}
use Rattle.flat_net.specs.View.{net_of, IsWiring}
use Rattle.flat_net.specs.Packed.{node_from, nodes_from, HasPins}
use Rattle.flat_net.specs.Packs.{Packs}
use Rattle.flat_net.proofs.WiredLaws.{AreEnds-push, nodes_from-push, count_push}
use Rattle.flat_net.proofs.Packing.{same_net}

-- what one node more changes
pub record IsPushed (old new : PackedNodes) (body : Body) (row : List NetId) (count : ℕ) : Type 0 where
  pub bodies : new.bodies.items ≡ old.bodies.items ++ body ∷ []
  pub pins : new.pins.items ≡ old.pins.items ++ row
  pub ends : new.ends.items ≡ old.ends.items ++ length new.pins.items ∷ []
  pub registers : new.registers ≡ old.registers + count

pub packs_more : (old new : PackedNodes) (body : Body) (row : List NetId) (count : ℕ) → IsPushed old new body row count → ((n : ℕ) → HasPins body n (n + length row)) →
    (names : List (List ℕ)) (name : List ℕ) (nodes : List Node) → (if is_register (node_from name body (map number_of row)) then 1 else 0) ≡ count → Packs names old nodes → Packs (names ++ name ∷ []) new (nodes ++ node_from name body (map number_of row) ∷ [])
packs_more old new body row count p has names name nodes is k = record {
  named = omega (arith, length_push names name, k.named, ap length p.bodies, length_push old.bodies.items body);
  cut = rw (p.bodies, p.ends, total) (AreEnds-push 0 old.bodies.items body old.ends.items (length old.pins.items) (length row) k.cut (has (length old.pins.items)));
  is = rw (p.bodies, p.ends, total, p.pins, map-append number_of old.pins.items row) pushed;
  registers = p.registers ∙ (ap (λ m. m + count) k.registers ∙ (ap (λ m. count_by is_register nodes + m) (sym is) ∙ sym (count_push nodes (node_from name body (map number_of row)))));
}
  where
    total : length new.pins.items ≡ length old.pins.items + length row
    total = ap length p.pins ∙ length-append old.pins.items row

    all : length (map number_of old.pins.items) ≡ length old.pins.items
    all = length-map old.pins.items number_of

    one : length (map number_of row) ≡ length row
    one = length-map row number_of

    pushed : nodes_from 0 (names ++ name ∷ []) (old.bodies.items ++ body ∷ []) (old.ends.items ++ (length old.pins.items + length row) ∷ []) (map number_of old.pins.items ++ map number_of row) ≡ nodes ++ node_from name body (map number_of row) ∷ []
    pushed =
        let e = nodes_from-push 0 names name old.bodies.items body old.ends.items (map number_of old.pins.items) (map number_of row) k.named (rw all k.cut) in
        let f : length (map number_of old.pins.items) + length (map number_of row) ≡ length old.pins.items + length row = omega (arith, all, one) in
        ap (λ m. nodes_from 0 (names ++ name ∷ []) (old.bodies.items ++ body ∷ []) (old.ends.items ++ m ∷ []) (map number_of old.pins.items ++ map number_of row)) (sym f) ∙ (e ∙ ap (λ (xs : List Node). xs ++ node_from name body (map number_of row) ∷ []) k.is)

-- what the fields of a packed design are made of
pub record IsAssembled (n : Net) (w : Inside) : Type 0 where
  pub model : w.model ≡ n.model
  pub names : w.names.keys ≡ net_names n
  pub inputs : w.inputs ≡ length n.inputs
  pub nodes : Packs (map node_name n.nodes) w.nodes n.nodes
  pub outputs : map number_of w.outputs.items ≡ n.outputs
  pub clock : w.clock ≡ n.clock

pub net_assembled : (n : Net) (w : Inside) → IsAssembled n w → net_of w ≡ n
net_assembled n w p = same_net w.model n.model (take w.inputs w.names.keys) n.inputs (nodes_from 0 (drop w.inputs w.names.keys) w.nodes.bodies.items w.nodes.ends.items (map number_of w.nodes.pins.items)) n.nodes (map number_of w.outputs.items) n.outputs w.clock n.clock
    p.model
    (rw (p.names, p.inputs) (take_at n.inputs (map node_name n.nodes) (length n.inputs) refl))
    (rw (p.names, p.inputs, drop_at n.inputs (map node_name n.nodes) (length n.inputs) refl) p.nodes.is)
    p.outputs
    p.clock

pub wiring_assembled : (n : Net) (w : Inside) → IsAssembled n w → IsUnordered n → IsWiring w
wiring_assembled n w p valid = record {
  named = rw (p.names, p.inputs) (length-append n.inputs (map node_name n.nodes) ∙ ap (λ k. length n.inputs + k) p.nodes.named);
  cut = p.nodes.cut;
  registers = p.nodes.registers ∙ ap register_count (sym (net_assembled n w p));
  net = subst (λ (m : Net). IsUnordered m) (sym (net_assembled n w p)) valid;
}
