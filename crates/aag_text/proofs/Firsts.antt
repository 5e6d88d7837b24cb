-- The first literals of nets.
use Rattle.std.proofs.Common.{◌≡◌, ℕ, suc, ◌+◌, ◌<◌, ◌≤◌, Bool, true, false, List, [], ◌∷◌, ◌++◌, length, drop, get_or, take, refl, sym, ◌∙◌, ap, subst, arith, cond, drop-cons, append_assoc, zero, ◌⊎◌, inl, inr, ◌-◌}
use Rattle.std.specs.Prelude.{if◌then◌else◌}
use Rattle.std.specs.Prelude.{count_by}
use Rattle.std.proofs.lemmas.List.Sums.{sum_by-cons}
use Rattle.std.proofs.lemmas.List.{nil_from_length, length-drop, append-nil, take_all}
use Rattle.std.proofs.lemmas.List.{length-append, get_or_append_left, get_or-append-add}
use Rattle.std.proofs.lemmas.List.FromFn.{length-map-range_with_len, get_or-map-range_with_len}
use Rattle.std.proofs.lemmas.List.FromFn.{map-range_with_len_more}
use Rattle.flat_net.specs.Net.{net_count, register_count, Net, Node, Table, Register, node_of, is_register}
use Rattle.blif_writer.proofs.NodeLines.{node_at}
use Rattle.aag_text.specs.declared.aig.Literal.{Literal}
use Rattle.aag_text.specs.Private.Nets.{is_register_at, node_literals, input_literals, first_literals}
use Rattle.aag_text.specs.Aig.{positive}

pub inputs_more : (i : ℕ) (out : List Literal) → out ≡ input_literals i → out ++ positive (i + 1) ∷ [] ≡ input_literals (i + 1)
inputs_more i out e = ap (λ (o : List Literal). o ++ positive (i + 1) ∷ []) e ∙ sym (map-range_with_len_more (λ k. positive (k + 1)) 0 i i (omega arith))

nodes_more : (next i : ℕ) (nodes : List Node) (d : Node) → i < length nodes → node_literals next (drop i nodes) ≡ positive (if is_register (get_or nodes i d) then next else 0) ∷ node_literals (if is_register (get_or nodes i d) then next + 1 else next) (drop (i + 1) nodes)
nodes_more next i nodes d l =
    let here : drop i nodes ≡ get_or nodes i d ∷ drop (i + 1) nodes = drop-cons nodes i d l ∙ ap (λ (k : ℕ). get_or nodes i d ∷ drop k nodes) (let e : suc i ≡ i + 1 = omega arith in e) in
    ap (node_literals next) here

pub firsts_more : (n : Net) (i next later : ℕ) (out total : List Literal) (b : Bool) (v : ℕ) → i < length n.nodes → b ≡ is_register_at (node_of n (length n.inputs + i)) → v ≡ (if b then next else 0) → later ≡ (if b then next + 1 else next) → out ++ node_literals next (drop i n.nodes) ≡ total → (out ++ positive v ∷ []) ++ node_literals later (drop (i + 1) n.nodes) ≡ total
firsts_more n i next later out total b v l is value after e =
    let d : Node = Register [] false 0 in
    let same : b ≡ is_register (get_or n.nodes i d) = is ∙ ap is_register_at (node_at n i d l) in
    let first : v ≡ (if is_register (get_or n.nodes i d) then next else 0) = value ∙ ap (λ (c : Bool). if c then next else 0) same in
    let following : later ≡ (if is_register (get_or n.nodes i d) then next + 1 else next) = after ∙ ap (λ (c : Bool). if c then next + 1 else next) same in
    append_assoc out (positive v ∷ []) (node_literals later (drop (i + 1) n.nodes))
    ∙ (ap (λ (w : ℕ). out ++ (positive w ∷ node_literals later (drop (i + 1) n.nodes))) first
    ∙ (ap (λ (w : ℕ). out ++ (positive (if is_register (get_or n.nodes i d) then next else 0) ∷ node_literals w (drop (i + 1) n.nodes))) following
    ∙ (ap (λ (t : List Literal). out ++ t) (sym (nodes_more next i n.nodes d l)) ∙ e)))

length-nodes : (next : ℕ) (nodes : List Node) → length (node_literals next nodes) ≡ length nodes
length-nodes next [] = refl
length-nodes next (node ∷ nodes) = ap suc (length-nodes (if is_register node then next + 1 else next) nodes)

pub length-firsts : (n : Net) → length (first_literals n) ≡ net_count n
length-firsts n = length-append (input_literals (length n.inputs)) (node_literals (length n.inputs + 1) n.nodes) ∙ (let i = length-map-range_with_len (λ k. positive (k + 1)) 0 (length n.inputs) in let m = length-nodes (length n.inputs + 1) n.nodes in omega (arith, i, m))

nodes_below : (next : ℕ) (nodes : List Node) → 0 < next → (k : ℕ) (d : Literal) → k < length nodes → (get_or (node_literals next nodes) k d).variable < next + count_by is_register nodes
nodes_below next [] z k d l = absurd (omega arith)
nodes_below next (Table name cover pins ∷ nodes) z zero d l =
    let e : (get_or (node_literals next (Table name cover pins ∷ nodes)) zero d).variable ≡ 0 = refl in
    omega (arith, z, e)
nodes_below next (Table name cover pins ∷ nodes) z (suc k) d l =
    let h = nodes_below next nodes z k d (omega (arith, l)) in
    let e : (get_or (node_literals next (Table name cover pins ∷ nodes)) (suc k) d).variable ≡ (get_or (node_literals next nodes) k d).variable = refl in
    let c = sum_by-cons (λ node. cond (is_register node) 1 0) (Table name cover pins) nodes in
    omega (arith, h, e, c)
nodes_below next (Register name init pin ∷ nodes) z zero d l =
    let e : (get_or (node_literals next (Register name init pin ∷ nodes)) zero d).variable ≡ next = refl in
    let c = sum_by-cons (λ node. cond (is_register node) 1 0) (Register name init pin) nodes in
    omega (arith, e, c)
nodes_below next (Register name init pin ∷ nodes) z (suc k) d l =
    let h = nodes_below (next + 1) nodes (omega arith) k d (omega (arith, l)) in
    let e : (get_or (node_literals next (Register name init pin ∷ nodes)) (suc k) d).variable ≡ (get_or (node_literals (next + 1) nodes) k d).variable = refl in
    let c = sum_by-cons (λ node. cond (is_register node) 1 0) (Register name init pin) nodes in
    omega (arith, h, e, c)

pub firsts_below : (n : Net) (top k : ℕ) (d : Literal) → top ≡ length n.inputs + register_count n + 1 → k < net_count n → (get_or (first_literals n) k d).variable < top
firsts_below n top k d e l = go (cases k (length n.inputs))
  where
    len : length (input_literals (length n.inputs)) ≡ length n.inputs
    len = length-map-range_with_len (λ i. positive (i + 1)) 0 (length n.inputs)

    cases : (a b : ℕ) → (a < b) ⊎ (b ≤ a)
    cases a b = grind arith

    go : (k < length n.inputs) ⊎ (length n.inputs ≤ k) → (get_or (first_literals n) k d).variable < top
    go (inl lt) =
        let left = get_or_append_left (input_literals (length n.inputs)) (node_literals (length n.inputs + 1) n.nodes) d k (omega (arith, lt, len)) in
        let value = get_or-map-range_with_len (λ i. positive (i + 1)) 0 (length n.inputs) k k d lt (omega arith) in
        let is : (get_or (first_literals n) k d).variable ≡ k + 1 = ap (λ (x : Literal). x.variable) (left ∙ value) in
        omega (arith, is, lt, e)
    go (inr ge) =
        let right = get_or-append-add (input_literals (length n.inputs)) (node_literals (length n.inputs + 1) n.nodes) (k - length n.inputs) d in
        let place : length (input_literals (length n.inputs)) + (k - length n.inputs) ≡ k = omega (arith, len, ge) in
        let below = nodes_below (length n.inputs + 1) n.nodes (omega arith) (k - length n.inputs) d (omega (arith, ge, l)) in
        let is : (get_or (first_literals n) k d).variable ≡ (get_or (node_literals (length n.inputs + 1) n.nodes) (k - length n.inputs) d).variable = ap (λ (x : Literal). x.variable) (ap (λ (m : ℕ). get_or (first_literals n) m d) (sym place) ∙ right) in
        omega (arith, is, below, e)

pub all_below : (n : Net) (top : ℕ) (literals : List Literal) → literals ≡ first_literals n → top ≡ length n.inputs + register_count n + 1 → (k : ℕ) (d : Literal) → k < length literals → (get_or literals k d).variable < top
all_below n top literals e t k d l = subst (λ (ls : List Literal). (get_or ls k d).variable < top) (sym e) (firsts_below n top k d t (let s = length-firsts n in let q : length literals ≡ length (first_literals n) = ap length e in omega (arith, l, s, q)))

pub at_node : (n : Net) (i inputs : ℕ) (b : Bool) → inputs ≡ length n.inputs → b ≡ is_register_at (node_of n (inputs + i)) → b ≡ is_register_at (node_of n (length n.inputs + i))
at_node n i inputs b e is = is ∙ ap (λ (m : ℕ). is_register_at (node_of n (m + i))) e

pub chosen_bound : (b : Bool) (next later base i : ℕ) → later ≡ (if b then next + 1 else next) → next ≤ base + i → later ≤ base + (i + 1)
chosen_bound true next later base i e l = omega (arith, e, l)
chosen_bound false next later base i e l = omega (arith, e, l)

-- a list that was written over another of the same length
pub whole : {A : Type 0} (len : ℕ) (new items : List A) → length new ≡ length items → length new ≡ len → take len (new ++ drop (length new) items) ≡ new
whole len new items same long =
    let none : drop (length new) items ≡ [] = nil_from_length (drop (length new) items) (omega (arith, same, length-drop (length new) items)) in
    ap (λ (t : List _). take len (new ++ t)) none ∙ (ap (take len) (append-nil new) ∙ take_all len new (omega (arith, long)))
