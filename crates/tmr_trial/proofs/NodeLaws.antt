-- The nodes that are drawn.
use Rattle.std.proofs.Common.{◌≡◌, ◌≢◌, ℕ, zero, suc, ◌+◌, ◌*◌, ◌<◌, ◌≤◌, Bool, true, false, List, [], ◌∷◌, length, map, Some, slice_get, refl, sym, ap, ◌∙◌, subst, arith, All, if◌then◌else◌}
use Rattle.std.specs.Prelude.{◌==◌, sum_by, slice_index}
use Rattle.std.specs.List.{range_with_len}
use Rattle.std.proofs.lemmas.List.Sums.{sum_by-cons}
use Rattle.std.proofs.lemmas.List.Elements.{All-head, All-tail}
use Rattle.std.proofs.lemmas.List.FromFn.{get_or-map-range_with_len, length-map-range_with_len}
use Rattle.std.proofs.lemmas.Option.{slice_get-get_or}
use Rattle.table_cover.specs.Cover.{PlainCover, IsCover, IsRow}
use Rattle.flat_net.specs.Net.{Node, Table, Register, node_name, pins_of, table_pins, IsWired}
use Rattle.std.proofs.lemmas.Bool.{eq-eqb, ne_eqb, cond-true, cond-false}
use Rattle.tmr_trial.specs.Numbers.{next_state, drawn, draw}
use Rattle.tmr_trial.specs.Designs.{and_cover, or_cover, xor_cover, nand_cover, gate, draws_register, node_text, node_drawn, node_at, nodes_drawn, state_at}
use Rattle.tmr_trial.proofs.Drawing.{drawn_below}

gate_cases : (P : PlainCover → Type 0) → P and_cover → P or_cover → P xor_cover → P nand_cover → (k : ℕ) → P (gate k)
unfolding gate
gate_cases P both some one few k = go (k == 0) (k == 1) (k == 2)
  where
    go : (b c d : Bool) → P (if b then and_cover else if c then or_cover else if d then xor_cover else nand_cover)
    go true c d = both
    go false true d = some
    go false false true = one
    go false false false = few

one_row : (on : Bool) (row : List ℕ) → IsRow 2 row → IsCover (record { width = 2; is_on = on; rows = row ∷ [] })
one_row on row is = record {
  rows = rows;
  few = omega arith;
  empty_is_on = λ e. absurd (cc);
}
  where
    rows : All (IsRow 2) (row ∷ [])
    rows zero d h = is
    rows (suc k) d h = absurd (omega arith)

xor_is_cover : IsCover xor_cover
xor_is_cover = record {
  rows = rows;
  few = omega arith;
  empty_is_on = λ e. refl;
}
  where
    rows : All (IsRow 2) (xor_cover.rows)
    rows zero d h = (refl, refl)
    rows (suc zero) d h = (refl, refl)
    rows (suc (suc k)) d h = absurd (omega arith)

gate_is_cover : (k : ℕ) → IsCover (gate k)
gate_is_cover = gate_cases IsCover (one_row true _ (refl, refl)) (one_row false _ (refl, refl)) xor_is_cover (one_row false _ (refl, refl))

gate_width : (k : ℕ) → (gate k).width ≡ 2
gate_width = gate_cases (λ (c : PlainCover). c.width ≡ 2) refl refl refl refl

-- a node is a register or a table
node_cases : (P : Node → Type 0) (nodes i s : ℕ) → ((b : Bool) (x : ℕ) → x < 8 + nodes → P (Register (node_text i) b x)) → ((k : ℕ) (x y : ℕ) → x < 8 + i → y < 8 + i → P (Table (node_text i) (gate k) (x ∷ y ∷ []))) → P (node_drawn nodes i s)
unfolding node_drawn
node_cases P nodes i s register table = go (draws_register s)
  where
    go : (b : Bool) → P (if b then Register (node_text i) (draw s 1 2 == 1) (draw s 2 (8 + nodes)) else Table (node_text i) (gate (draw s 3 4)) (draw s 1 (8 + i) ∷ draw s 2 (8 + i) ∷ []))
    go true = register (draw s 1 2 == 1) (draw s 2 (8 + nodes)) (drawn_below _ (8 + nodes) (omega arith))
    go false = table (draw s 3 4) (draw s 1 (8 + i)) (draw s 2 (8 + i)) (drawn_below _ (8 + i) (omega arith)) (drawn_below _ (8 + i) (omega arith))

pub node_named : (nodes i s : ℕ) → node_name (node_drawn nodes i s) ≡ node_text i
node_named nodes i s = node_cases (λ (node : Node). node_name node ≡ node_text i) nodes i s (λ b x h. refl) (λ k x y h g. refl)

pub node_wired : (nodes i s : ℕ) → i < nodes → IsWired (8 + nodes) (node_drawn nodes i s)
node_wired nodes i s h = node_cases (IsWired (8 + nodes)) nodes i s (λ b x l. l) (λ k x y l m. (pins x y l m, sym (gate_width k), gate_is_cover k))
  where
    pins : (x y : ℕ) → x < 8 + i → y < 8 + i → All (λ z. z < 8 + nodes) (x ∷ y ∷ [])
    pins x y l m zero d g = omega arith
    pins x y l m (suc zero) d g = omega arith
    pins x y l m (suc (suc k)) d g = absurd (omega arith)

pub node_pins_few : (nodes i s : ℕ) → length (pins_of (node_drawn nodes i s)) ≤ 2
node_pins_few nodes i s = node_cases (λ (node : Node). length (pins_of node) ≤ 2) nodes i s (λ b x l. omega arith) (λ k x y l m. omega arith)

-- a table reads nets before it
pub table_reads_before : (nodes i s j : ℕ) → j < length (table_pins (Some (node_drawn nodes i s))) → slice_index (table_pins (Some (node_drawn nodes i s))) j < 8 + i
table_reads_before nodes i s = node_cases (λ (node : Node). (j : ℕ) → j < length (table_pins (Some node)) → slice_index (table_pins (Some node)) j < 8 + i) nodes i s (λ b x l j h. absurd (omega arith)) (λ k x y l m. pins x y l m)
  where
    pins : (x y : ℕ) → x < 8 + i → y < 8 + i → (j : ℕ) → j < length (x ∷ y ∷ []) → slice_index (x ∷ y ∷ []) j < 8 + i
    pins x y l m zero h = l
    pins x y l m (suc zero) h = m
    pins x y l m (suc (suc j)) h = absurd (omega arith)

-- node i of the list
pub node_there : (number nodes i : ℕ) → i < nodes → slice_get (nodes_drawn number nodes nodes) i ≡ Some (node_at number nodes i)
node_there number nodes i h =
    slice_get-get_or (nodes_drawn number nodes nodes) i (Register [] false 0) (omega (arith, h, length-map-range_with_len (node_at number nodes) 0 nodes))
    ∙ ap Some (get_or-map-range_with_len (node_at number nodes) 0 nodes i i (Register [] false 0) h (omega arith))

names_same : (number nodes : ℕ) (is : List ℕ) → map node_name (map (node_at number nodes) is) ≡ map node_text is
names_same number nodes [] = refl
names_same number nodes (i ∷ is) =
    let here = node_named nodes i (state_at number i) in
    let there = names_same number nodes is in
    cc

pub nodes_named : (number nodes count : ℕ) → map node_name (nodes_drawn number nodes count) ≡ map node_text (range_with_len 0 count)
nodes_named number nodes count = names_same number nodes (range_with_len 0 count)

abbrev pin_count : Node → ℕ
pin_count node = length (pins_of node)

few_in : (xs : List Node) → All (λ node. length (pins_of node) ≤ 2) xs → sum_by pin_count xs ≤ 2 * length xs
few_in [] h = omega arith
few_in (x ∷ xs) h =
    let here = All-head (λ (node : Node). length (pins_of node) ≤ 2) x xs h in
    omega (arith, here, sum_by-cons pin_count x xs, few_in xs (All-tail (λ (node : Node). length (pins_of node) ≤ 2) x xs h))

pub pins_few : (number nodes : ℕ) → sum_by (λ node. length (pins_of node)) (nodes_drawn number nodes nodes) ≤ 2 * nodes
pins_few number nodes = omega (arith, few_in (nodes_drawn number nodes nodes) all, long)
  where
    long : length (nodes_drawn number nodes nodes) ≡ nodes
    long = length-map-range_with_len (node_at number nodes) 0 nodes

    all : All (λ node. length (pins_of node) ≤ 2) (nodes_drawn number nodes nodes)
    all i d h =
        let at = get_or-map-range_with_len (node_at number nodes) 0 nodes i i d (omega (arith, h, long)) (omega arith) in
        subst (λ (node : Node). length (pins_of node) ≤ 2) (sym at) (node_pins_few nodes i (state_at number i))

-- what the draws of a register give
pub register_same : (name : List ℕ) (s s1 first pin m : ℕ) → first ≡ drawn (next_state s) 2 → s1 ≡ next_state s → pin ≡ drawn (next_state s1) m → Register name (first == 1) pin ≡ Register name (draw s 0 2 == 1) (draw s 1 m)
register_same name s s1 first pin m a b e = cc

-- what those of a table give
pub table_same : (name : List ℕ) (cover : PlainCover) (s s1 s2 x y k m : ℕ) → x ≡ drawn (next_state s) m → s1 ≡ next_state s → y ≡ drawn (next_state s1) m → s2 ≡ next_state s1 → k ≡ drawn (next_state s2) 4 → cover ≡ gate k → Table name cover (x ∷ y ∷ []) ≡ Table name (gate (draw s 2 4)) (draw s 0 m ∷ draw s 1 m ∷ [])
table_same name cover s s1 s2 x y k m a b e f g h = cc

pub drawn_register : (nodes i s s1 first : ℕ) (name : List ℕ) → first ≡ drawn (next_state s) 4 → first ≡ 0 → s1 ≡ next_state s → name ≡ node_text i → Register name (draw s1 0 2 == 1) (draw s1 1 (8 + nodes)) ≡ node_drawn nodes i s
unfolding node_drawn
drawn_register nodes i s s1 first name is none at named =
    let register : draws_register s ≡ true = eq-eqb (drawn (next_state s) 4) 0 (sym is ∙ none) in
    let same : Register name (draw s1 0 2 == 1) (draw s1 1 (8 + nodes)) ≡ Register (node_text i) (draw s 1 2 == 1) (draw s 2 (8 + nodes)) = cc in
    same ∙ sym (cond-true (draws_register s) (Register (node_text i) (draw s 1 2 == 1) (draw s 2 (8 + nodes))) (Table (node_text i) (gate (draw s 3 4)) (draw s 1 (8 + i) ∷ draw s 2 (8 + i) ∷ [])) register)

pub drawn_table : (nodes i s s1 first : ℕ) (name : List ℕ) → first ≡ drawn (next_state s) 4 → first ≢ 0 → s1 ≡ next_state s → name ≡ node_text i → Table name (gate (draw s1 2 4)) (draw s1 0 (8 + i) ∷ draw s1 1 (8 + i) ∷ []) ≡ node_drawn nodes i s
unfolding node_drawn
drawn_table nodes i s s1 first name is some at named =
    let register : draws_register s ≡ false = ne_eqb (drawn (next_state s) 4) 0 (λ e. some (is ∙ e)) in
    let same : Table name (gate (draw s1 2 4)) (draw s1 0 (8 + i) ∷ draw s1 1 (8 + i) ∷ []) ≡ Table (node_text i) (gate (draw s 3 4)) (draw s 1 (8 + i) ∷ draw s 2 (8 + i) ∷ []) = cc in
    same ∙ sym (cond-false (draws_register s) (Register (node_text i) (draw s 1 2 == 1) (draw s 2 (8 + nodes))) (Table (node_text i) (gate (draw s 3 4)) (draw s 1 (8 + i) ∷ draw s 2 (8 + i) ∷ [])) register)
