-- Nodes that are kept as lists side by side.
use Rattle.std.proofs.Common.{◌≡◌, ℕ, zero, suc, ◌+◌, ◌-◌, ◌<◌, ◌≤◌, Bool, List, [], ◌∷◌, ◌++◌, length, map, get_or, take, drop, refl, sym, ap, ◌∙◌, arith, Some, slice_get}
use Rattle.std.specs.Prelude.{slice_range, slice_index, sum_by}
use Rattle.std.specs.List.{flat_map}
use Rattle.std.proofs.lemmas.List.{length-take, length-drop, drop-drop, take-append-drop, drop_all, length-map}
use Rattle.std.proofs.lemmas.List.Concat.{length-flat_map}
use Rattle.flat_net.specs.declared.wiring.Wiring.TheInside.{Inside}
use Rattle.flat_net.specs.View.{net_of, IsWiring}
use Rattle.flat_net.specs.Nodes.{number_of}
use Rattle.flat_net.proofs.Slots.{slot_at, slice_get_there}
use Rattle.flat_net.specs.declared.nodes.Body.{Body}
use Rattle.flat_net.specs.declared.nodes.Body.TheVariants.{TableBody, RegisterBody}
use Rattle.flat_net.specs.Net.{node_name, pins_of, net_names, node_of, all_pins, pin_total, pins_at}
use Rattle.flat_net.specs.Packed.{node_from, nodes_from, HasPins, AreEnds}
use Rattle.flat_net.specs.Private.Bodies.{start_of, IsBodyOf}

pub length-ends : (from : ℕ) (bodies : List Body) (ends : List ℕ) (count : ℕ) → AreEnds from bodies ends count → length ends ≡ length bodies
length-ends from [] [] count a = refl
length-ends from [] (end ∷ ends) count a = absurd a
length-ends from (body ∷ bodies) [] count a = absurd a
length-ends from (body ∷ bodies) (end ∷ ends) count a = ap suc (length-ends end bodies ends count a.2)

pub from_le_count : (from : ℕ) (bodies : List Body) (ends : List ℕ) (count : ℕ) → AreEnds from bodies ends count → from ≤ count
from_le_count from [] [] count a = omega arith
from_le_count from [] (end ∷ ends) count a = absurd a
from_le_count from (body ∷ bodies) [] count a = absurd a
from_le_count from (body ∷ bodies) (end ∷ ends) count a = omega (arith, from_le_count end bodies ends count a.2, a.0)

-- the pins of node i begin before their end, which is within the list
pub part_within : (from : ℕ) (bodies : List Body) (ends : List ℕ) (count i : ℕ) → AreEnds from bodies ends count → i < length ends → (start_of from ends i ≤ get_or ends i 0) × (get_or ends i 0 ≤ count)
part_within from [] [] count i a h = absurd (omega arith)
part_within from [] (end ∷ ends) count i a h = absurd a
part_within from (body ∷ bodies) [] count i a h = absurd a
part_within from (body ∷ bodies) (end ∷ ends) count zero a h = (a.0, from_le_count end bodies ends count a.2)
part_within from (body ∷ bodies) (end ∷ ends) count (suc zero) a h = part_within end bodies ends count zero a.2 (omega arith)
part_within from (body ∷ bodies) (end ∷ ends) count (suc (suc i)) a h = part_within end bodies ends count (suc i) a.2 (omega arith)

-- a register's part is one pin long
pub part_of_register : (from : ℕ) (bodies : List Body) (ends : List ℕ) (count i : ℕ) (init : Bool) → AreEnds from bodies ends count → slice_get bodies i ≡ Some (RegisterBody init) → get_or ends i 0 ≡ start_of from ends i + 1
part_of_register from [] ends count i init a h = absurd (cc)
part_of_register from (body ∷ bodies) [] count i init a h = absurd a
part_of_register from (TableBody cover ∷ bodies) (end ∷ ends) count zero init a h = absurd (cc)
part_of_register from (RegisterBody b ∷ bodies) (end ∷ ends) count zero init a h = a.1
part_of_register from (body ∷ bodies) (end ∷ ends) count (suc zero) init a h = part_of_register end bodies ends count zero init a.2 h
part_of_register from (body ∷ bodies) (end ∷ ends) count (suc (suc i)) init a h = part_of_register end bodies ends count (suc i) init a.2 h

pub length-nodes_from : (from : ℕ) (names : List (List ℕ)) (bodies : List Body) (ends pins : List ℕ) → length names ≡ length bodies → length ends ≡ length bodies → length (nodes_from from names bodies ends pins) ≡ length bodies
length-nodes_from from names [] ends pins n e = refl
length-nodes_from from [] (body ∷ bodies) ends pins n e = absurd (omega arith)
length-nodes_from from (name ∷ names) (body ∷ bodies) [] pins n e = absurd (omega arith)
length-nodes_from from (name ∷ names) (body ∷ bodies) (end ∷ ends) pins n e = ap suc (length-nodes_from end names bodies ends pins (omega arith) (omega arith))

-- node i
pub slice_get-nodes_from : (from : ℕ) (names : List (List ℕ)) (bodies : List Body) (ends pins : List ℕ) (i : ℕ) (body : Body) → length names ≡ length bodies → length ends ≡ length bodies → slice_get bodies i ≡ Some body → slice_get (nodes_from from names bodies ends pins) i ≡ Some (node_from (get_or names i []) body (slice_range pins (start_of from ends i) (get_or ends i 0)))
slice_get-nodes_from from names [] ends pins i body n e h = absurd (cc)
slice_get-nodes_from from [] (b ∷ bodies) ends pins i body n e h = absurd (omega arith)
slice_get-nodes_from from (name ∷ names) (b ∷ bodies) [] pins i body n e h = absurd (omega arith)
slice_get-nodes_from from (name ∷ names) (b ∷ bodies) (end ∷ ends) pins zero body n e h = let same : b ≡ body = cc in ap (λ (k : Body). Some (node_from name k (slice_range pins from end))) same
slice_get-nodes_from from (name ∷ names) (b ∷ bodies) (end ∷ ends) pins (suc zero) body n e h = slice_get-nodes_from end names bodies ends pins zero body (omega arith) (omega arith) h
slice_get-nodes_from from (name ∷ names) (b ∷ bodies) (end ∷ ends) pins (suc (suc i)) body n e h = slice_get-nodes_from end names bodies ends pins (suc i) body (omega arith) (omega arith) h

node_name-node_from : (name : List ℕ) (body : Body) (pins : List ℕ) → node_name (node_from name body pins) ≡ name
node_name-node_from name (TableBody cover) pins = refl
node_name-node_from name (RegisterBody init) pins = refl

pub names-nodes_from : (from : ℕ) (names : List (List ℕ)) (bodies : List Body) (ends pins : List ℕ) → length names ≡ length bodies → length ends ≡ length bodies → map node_name (nodes_from from names bodies ends pins) ≡ names
names-nodes_from from [] [] ends pins n e = refl
names-nodes_from from (name ∷ names) [] ends pins n e = absurd (omega arith)
names-nodes_from from [] (body ∷ bodies) ends pins n e = absurd (omega arith)
names-nodes_from from (name ∷ names) (body ∷ bodies) [] pins n e = absurd (omega arith)
names-nodes_from from (name ∷ names) (body ∷ bodies) (end ∷ ends) pins n e =
    let here = node_name-node_from name body (slice_range pins from end) in
    let rest = names-nodes_from end names bodies ends pins (omega arith) (omega arith) in
    cc

one_long : (xs : List ℕ) → length xs ≡ 1 → slice_index xs 0 ∷ [] ≡ xs
one_long [] e = absurd (omega arith)
one_long (x ∷ []) e = refl
one_long (x ∷ y ∷ xs) e = absurd (omega arith)

length-part : (from end : ℕ) (pins : List ℕ) → from ≤ end → end ≤ length pins → length (slice_range pins from end) ≡ end - from
length-part from end pins f h = omega (arith, length-take (end - from) (drop from pins), length-drop from pins)

-- a node's pins are its part of the list
pub pins_of-node_from : (name : List ℕ) (body : Body) (pins : List ℕ) (from end : ℕ) → HasPins body from end → from ≤ end → end ≤ length pins → pins_of (node_from name body (slice_range pins from end)) ≡ slice_range pins from end
pins_of-node_from name (TableBody cover) pins from end has f h = refl
pins_of-node_from name (RegisterBody init) pins from end has f h = one_long (slice_range pins from end) (omega (arith, length-part from end pins f h, has))

-- all pins, node by node, are the list
pub pins-nodes_from : (from : ℕ) (names : List (List ℕ)) (bodies : List Body) (ends pins : List ℕ) → length names ≡ length bodies → AreEnds from bodies ends (length pins) → flat_map pins_of (nodes_from from names bodies ends pins) ≡ drop from pins
pins-nodes_from from names [] [] pins n a = sym (drop_all from pins (omega arith))
pins-nodes_from from names [] (end ∷ ends) pins n a = absurd a
pins-nodes_from from [] (body ∷ bodies) ends pins n a = absurd (omega arith)
pins-nodes_from from (name ∷ names) (body ∷ bodies) [] pins n a = absurd a
pins-nodes_from from (name ∷ names) (body ∷ bodies) (end ∷ ends) pins n a =
    let here = pins_of-node_from name body pins from end a.1 a.0 (from_le_count end bodies ends (length pins) a.2) in
    let rest = pins-nodes_from end names bodies ends pins (omega arith) a.2 in
    rw (here, rest) (joined)
  where
    joined : slice_range pins from end ++ drop end pins ≡ drop from pins
    joined =
        let skip : from + (end - from) ≡ end = omega (arith, a.0) in
        let e : drop (end - from) (drop from pins) ≡ drop end pins = drop-drop (end - from) from pins ∙ ap (λ k. drop k pins) skip in
        ap (λ (ys : List ℕ). slice_range pins from end ++ ys) (sym e) ∙ take-append-drop (end - from) (drop from pins)

pub total-nodes_from : (names : List (List ℕ)) (bodies : List Body) (ends pins : List ℕ) → length names ≡ length bodies → AreEnds 0 bodies ends (length pins) → sum_by (λ node. length (pins_of node)) (nodes_from 0 names bodies ends pins) ≡ length pins
total-nodes_from names bodies ends pins n a = sym (length-flat_map pins_of (nodes_from 0 names bodies ends pins)) ∙ ap length (pins-nodes_from 0 names bodies ends pins n a)

-- ---- the nodes of a design that is kept so

module _ (w : Inside) (is : IsWiring w) where
  rest_named : length (drop w.inputs w.names.keys) ≡ length w.nodes.bodies.items
  rest_named = omega (arith, length-drop w.inputs w.names.keys, is.named)

  pub ends_fit : length w.nodes.ends.items ≡ length w.nodes.bodies.items
  ends_fit = length-ends 0 w.nodes.bodies.items w.nodes.ends.items (length w.nodes.pins.items) is.cut

  cut_pins : AreEnds 0 w.nodes.bodies.items w.nodes.ends.items (length (map number_of w.nodes.pins.items))
  cut_pins = rw (length-map w.nodes.pins.items number_of) is.cut

  pub length-inputs : length (net_of w).inputs ≡ w.inputs
  length-inputs = omega (arith, length-take w.inputs w.names.keys, is.named)

  pub length-nodes : length (net_of w).nodes ≡ length w.nodes.bodies.items
  length-nodes = length-nodes_from 0 (drop w.inputs w.names.keys) w.nodes.bodies.items w.nodes.ends.items (map number_of w.nodes.pins.items) rest_named ends_fit

  pub names_kept : net_names (net_of w) ≡ w.names.keys
  names_kept = ap (λ (xs : List (List ℕ)). take w.inputs w.names.keys ++ xs) (names-nodes_from 0 (drop w.inputs w.names.keys) w.nodes.bodies.items w.nodes.ends.items (map number_of w.nodes.pins.items) rest_named ends_fit) ∙ take-append-drop w.inputs w.names.keys

  pub pins_kept : all_pins (net_of w) ≡ map number_of w.nodes.pins.items
  pins_kept = pins-nodes_from 0 (drop w.inputs w.names.keys) w.nodes.bodies.items w.nodes.ends.items (map number_of w.nodes.pins.items) rest_named cut_pins

  pub total_kept : pin_total (net_of w) ≡ length w.nodes.pins.items
  total_kept = total-nodes_from (drop w.inputs w.names.keys) w.nodes.bodies.items w.nodes.ends.items (map number_of w.nodes.pins.items) rest_named cut_pins ∙ length-map w.nodes.pins.items number_of

  -- the node with the number x
  pub node_kept : (x : ℕ) (body : Body) → w.inputs ≤ x → slice_get w.nodes.bodies.items (x - w.inputs) ≡ Some body → node_of (net_of w) x ≡ Some (node_from (get_or (drop w.inputs w.names.keys) (x - w.inputs) []) body (slice_range (map number_of w.nodes.pins.items) (start_of 0 w.nodes.ends.items (x - w.inputs)) (get_or w.nodes.ends.items (x - w.inputs) 0)))
  node_kept x body low here =
      slot_at (length (net_of w).inputs) (net_of w).nodes x (omega (arith, length-inputs))
      ∙ (ap (λ k. slice_get (net_of w).nodes (x - k)) length-inputs
      ∙ slice_get-nodes_from 0 (drop w.inputs w.names.keys) w.nodes.bodies.items w.nodes.ends.items (map number_of w.nodes.pins.items) (x - w.inputs) body rest_named ends_fit here)

  pub body_kept : (x : ℕ) (body : Body) → w.inputs ≤ x → slice_get w.nodes.bodies.items (x - w.inputs) ≡ Some body → IsBodyOf (node_of (net_of w) x) body
  body_kept x body low here = rw (node_kept x body low here) (go body)
    where
      go : (body : Body) → IsBodyOf (Some (node_from (get_or (drop w.inputs w.names.keys) (x - w.inputs) []) body (slice_range (map number_of w.nodes.pins.items) (start_of 0 w.nodes.ends.items (x - w.inputs)) (get_or w.nodes.ends.items (x - w.inputs) 0)))) body
      go (TableBody cover) = refl
      go (RegisterBody init) = refl

  -- where the pins of the node with the number x stand
  pub part_kept : (x : ℕ) → w.inputs ≤ x → x - w.inputs < length w.nodes.bodies.items → (start_of 0 w.nodes.ends.items (x - w.inputs) ≤ get_or w.nodes.ends.items (x - w.inputs) 0) × (get_or w.nodes.ends.items (x - w.inputs) 0 ≤ length w.nodes.pins.items)
  part_kept x low high = part_within 0 w.nodes.bodies.items w.nodes.ends.items (length w.nodes.pins.items) (x - w.inputs) is.cut (rw ends_fit high)

  pub pins_at_kept : (x : ℕ) → w.inputs ≤ x → x - w.inputs < length w.nodes.bodies.items → pins_at (node_of (net_of w) x) ≡ slice_range (map number_of w.nodes.pins.items) (start_of 0 w.nodes.ends.items (x - w.inputs)) (get_or w.nodes.ends.items (x - w.inputs) 0)
  pins_at_kept x low high = let (body, here) = slice_get_there w.nodes.bodies.items (x - w.inputs) high in go body here
    where
      go : (body : Body) → slice_get w.nodes.bodies.items (x - w.inputs) ≡ Some body → pins_at (node_of (net_of w) x) ≡ slice_range (map number_of w.nodes.pins.items) (start_of 0 w.nodes.ends.items (x - w.inputs)) (get_or w.nodes.ends.items (x - w.inputs) 0)
      go (TableBody cover) here = rw (node_kept x (TableBody cover) low here) refl
      go (RegisterBody init) here =
          let part = part_kept x low high in
          let one = part_of_register 0 w.nodes.bodies.items w.nodes.ends.items (length w.nodes.pins.items) (x - w.inputs) init is.cut here in
          rw (node_kept x (RegisterBody init) low here) (one_long _ (length-part (start_of 0 w.nodes.ends.items (x - w.inputs)) (get_or w.nodes.ends.items (x - w.inputs) 0) (map number_of w.nodes.pins.items) part.0 (omega (arith, length-map w.nodes.pins.items number_of, part.1)) ∙ (omega arith)))

pub ruleset kept = (length-inputs, length-nodes, names_kept, pins_kept, total_kept)
