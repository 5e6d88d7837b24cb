-- What a valid design gives to its text.
use Rattle.std.proofs.Common.{◌≡◌, Bool, ℕ, suc, ◌+◌, ◌<◌, true, false, List, [], ◌∷◌, ◌++◌, length, map, get_or, Option, Some, None, sym, subst, ◌∙◌, arith}
use Rattle.std.specs.Prelude.{All}
use Rattle.std.proofs.lemmas.List.{length-append, length-map, append-nil, get_or-map, get_or_default}
use Rattle.std.proofs.lemmas.List.Elements.{All-head, All-tail}
use Rattle.tmr_base.specs.Names.{is_name}
use Rattle.tmr_base.specs.declared.ids.Edge.{Edge}
use Rattle.flat_net.specs.Net.{Net, Node, Table, Register, IsValid, IsWired, IsClockOf, net_count, net_names, name_of, node_of, node_name}
use Rattle.blif_writer.specs.Text.{with_marks, net_words, clock_words}
use Rattle.blif_writer.proofs.Clean.{AreNames, names_join}
use Rattle.blif_writer.proofs.KindLaws.{IsControl, IsSpelled, AreSpelled, IsText}
use Rattle.blif_writer.proofs.NodeLines.{input_name, node_at, name_is}
use Rattle.blif_writer.proofs.Differing.{AreApart, other_from, apart_from, differ_from, apart_put, apart_left}

pub names_long : (n : Net) → length (net_names n) ≡ net_count n
names_long n = simp (length-append, length-map)

names_from : (ws : List (List ℕ)) → ((k : ℕ) → k < length ws → is_name (get_or ws k []) ≡ true) → AreNames ws
names_from [] each = tt
names_from (w ∷ ws) each = (each 0 (omega arith), names_from ws (λ k lt. each (suc k) (omega arith)))

-- names of nets
pub net_names_are : (n : Net) (nets : List ℕ) → IsValid n → All (λ x. x < net_count n) nets → AreNames (net_words n nets)
net_names_are n [] v all = tt
net_names_are n (x ∷ nets) v all = (v.unordered.names_are_names x (All-head (λ y. y < net_count n) x nets all), net_names_are n nets v (All-tail (λ y. y < net_count n) x nets all))

-- the clock's name
pub control_is : (n : Net) → IsValid n → IsControl n.clock
control_is n v = go n.clock v.unordered.clock
  where
    go : (c : Option (Edge × List ℕ)) → IsClockOf n c → IsControl c
    go None h = tt
    go (Some (edge, name)) h = (h.0, h.1)

clock_names : (clock : Option (Edge × List ℕ)) → IsControl clock → AreNames (clock_words clock)
clock_names None c = tt
clock_names (Some (edge, name)) c = (c.0, tt)

inputs_are : (n : Net) → IsValid n → AreNames n.inputs
inputs_are n v = names_from n.inputs (λ k lt. subst (λ (w : List ℕ). is_name w ≡ true) (input_name n k lt) (v.unordered.names_are_names k (omega arith)))

-- the names of all nets differ
pub nets_apart : (n : Net) → IsValid n → AreApart (net_names n)
nets_apart n v = apart_from (net_names n) (λ i j less lt e. let long = names_long n in let same = v.unordered.names_differ i j (omega arith) (omega arith) e in absurd (omega arith))

-- and the clock's name is none of them
pub whole_apart : (n : Net) → IsValid n → AreApart ((n.inputs ++ clock_words n.clock) ++ map node_name n.nodes)
whole_apart n v = go n.clock v.unordered.clock
  where
    go : (c : Option (Edge × List ℕ)) → IsClockOf n c → AreApart ((n.inputs ++ clock_words c) ++ map node_name n.nodes)
    go None h = subst (λ (ws : List (List ℕ)). AreApart (ws ++ map node_name n.nodes)) (sym (append-nil n.inputs)) (nets_apart n v)
    go (Some (edge, name)) h = apart_put name n.inputs (map node_name n.nodes) (nets_apart n v) (other_from name (net_names n) (λ k lt e. h.2 (k, lt, get_or_default (net_names n) k name [] lt ∙ e)))

outputs_apart : (n : Net) → IsValid n → AreApart (net_words n n.outputs)
outputs_apart n v = apart_from (net_words n n.outputs) (λ i j less lt e.
    let long : length (net_words n n.outputs) ≡ length n.outputs = length-map n.outputs (name_of n) in
    let i_in : i < length n.outputs = omega arith in
    let j_in : j < length n.outputs = omega arith in
    let at_i : get_or (net_words n n.outputs) i [] ≡ name_of n (get_or n.outputs i 0) = get_or-map (name_of n) n.outputs i 0 [] i_in in
    let at_j : get_or (net_words n n.outputs) j [] ≡ name_of n (get_or n.outputs j 0) = get_or-map (name_of n) n.outputs j 0 [] j_in in
    v.unordered.outputs_differ i j less j_in (v.unordered.names_differ (get_or n.outputs i 0) (get_or n.outputs j 0) (v.unordered.outputs_in_range i 0 i_in) (v.unordered.outputs_in_range j 0 j_in) (sym at_i ∙ (e ∙ at_j))))

-- ---- nodes

-- a property of each node
abbrev pub EachNode : (Node → Type 0) → List Node → Type 0
EachNode P [] = Unit {0}
EachNode P (node ∷ nodes) = P node × EachNode P nodes

any_node : Node
any_node = Register [] false 0

each_from : (P : Node → Type 0) (nodes : List Node) → ((i : ℕ) → i < length nodes → P (get_or nodes i any_node)) → EachNode P nodes
each_from P [] each = tt
each_from P (node ∷ nodes) each = (each 0 (omega arith), each_from P nodes (λ i lt. each (suc i) (omega arith)))

-- what holds of each node by its number holds of all nodes
pub each_node : (n : Net) (P : Node → Type 0) → ((x : ℕ) (node : Node) → x < net_count n → node_of n x ≡ Some node → P node) → EachNode P n.nodes
each_node n P each = each_from P n.nodes (λ i lt. each (length n.inputs + i) (get_or n.nodes i any_node) (omega arith) (node_at n i any_node lt))

spelled_node : (n : Net) (node : Node) → IsValid n → is_name (node_name node) ≡ true → IsWired (net_count n) node → IsSpelled n node
spelled_node n (Table name cover pins) v e wired = (net_names_are n pins v wired.0, e, wired.1, wired.2)
spelled_node n (Register name init pin) v e wired = (v.unordered.names_are_names pin wired, e, control_is n v)

-- a property of each node that stands there with its mark
abbrev pub EachMarked : (Node → Type 0) → List (Node × Bool) → Type 0
EachMarked P [] = Unit {0}
EachMarked P (node ∷ nodes) = P node.0 × EachMarked P nodes

pub each_marked : (P : Node → Type 0) (free : List Bool) (nodes : List Node) → EachNode P nodes → EachMarked P (with_marks free nodes)
unfolding with_marks
each_marked P [] [] each = tt
each_marked P (bit ∷ free) [] each = tt
each_marked P [] (node ∷ nodes) each = (each.0, each_marked P [] nodes each.1)
each_marked P (bit ∷ free) (node ∷ nodes) each = (each.0, each_marked P free nodes each.1)

spelled_nodes : (n : Net) (nodes : List (Node × Bool)) → EachMarked (IsSpelled n) nodes → AreSpelled n nodes
spelled_nodes n [] each = tt
spelled_nodes n (node ∷ nodes) each = (each.0, spelled_nodes n nodes each.1)

-- a valid design has a text
pub valid_text : (n : Net) (free : List Bool) → IsValid n → IsText n free
valid_text n free v = record {
  model = v.unordered.model_is_name;
  inputs = names_join n.inputs (clock_words n.clock) (inputs_are n v) (clock_names n.clock (control_is n v));
  inputs_differ = differ_from (n.inputs ++ clock_words n.clock) (apart_left (n.inputs ++ clock_words n.clock) (map node_name n.nodes) (whole_apart n v));
  outputs = net_names_are n n.outputs v v.unordered.outputs_in_range;
  outputs_differ = differ_from (net_words n n.outputs) (outputs_apart n v);
  nodes = spelled_nodes n (with_marks free n.nodes) (each_marked (IsSpelled n) free n.nodes (each_node n (IsSpelled n) (λ x node lt at. spelled_node n node v (subst (λ (w : List ℕ). is_name w ≡ true) (name_is n x node at) (v.unordered.names_are_names x lt)) (v.unordered.wired x node at))));
}
