-- A sum over an order is the sum over the nodes.
use Rattle.std.proofs.Common.{◌≡◌, ◌≢◌, ℕ, zero, suc, ◌+◌, ◌-◌, ◌<◌, ◌≤◌, ◌⊎◌, inl, inr, false, List, [], ◌∷◌, length, drop, get_or, set, slice_get, Option, Some, refl, sym, ◌∙◌, ap, subst, arith}
use Rattle.std.specs.Prelude.{sum_by}
use Rattle.std.proofs.lemmas.List.{get_or-set_other, get_or-set_same, length-set, nil_from_length, length-drop}
use Rattle.std.proofs.lemmas.List.Sums.{sum_by-set, sum_by-cons}
use Rattle.flat_net.specs.Net.{Net, Node, Register, node_of, IsOrder}
use Rattle.flat_net.proofs.ByPlace.{by_place}
use Rattle.blif_writer.proofs.NodeLines.{node_at}

unfoldable pub no_node : Node
no_node = Register [] false 0

-- the sum of what these have
abbrev pub total : (ℕ → ℕ) → List ℕ → ℕ
total f [] = 0
total f (x ∷ xs) = f x + total f xs

total_same : (f g : ℕ → ℕ) (xs : List ℕ) → ((k : ℕ) → k < length xs → f (get_or xs k 0) ≡ g (get_or xs k 0)) → total f xs ≡ total g xs
total_same f g [] e = refl
total_same f g (x ∷ xs) e =
    let here : f x ≡ g x = e 0 (omega arith) in
    let rest : total f xs ≡ total g xs = total_same f g xs (λ k l. e (suc k) (omega (arith, l))) in
    omega (arith, here, rest)

some_is : (a b : ℕ) → Some a ≡ Some b → a ≡ b
some_is a b e = cc

-- one place more
pub total_more : (f : ℕ → ℕ) (xs : List ℕ) (i x : ℕ) → slice_get xs i ≡ Some x → total f (drop i xs) ≡ f x + total f (drop (i + 1) xs)
total_more f [] i x at = absurd (cc)
total_more f (y ∷ xs) zero x at = ap (λ (z : ℕ). f z + total f xs) (some_is y x at)
total_more f (y ∷ xs) (suc i) x at =
    let later : suc i + 1 ≡ suc (i + 1) = omega arith in
    total_more f xs i x at ∙ ap (λ (k : ℕ). f x + total f (drop k (y ∷ xs))) (sym later)

-- no place is left
pub total_end : (f : ℕ → ℕ) (xs : List ℕ) (i : ℕ) → length xs ≤ i → total f (drop i xs) ≡ 0
total_end f xs i le = ap (total f) (nil_from_length (drop i xs) (omega (arith, length-drop i xs, le)))

-- the nodes of these numbers are taken out, where the first node has number start
abbrev without : ℕ → List Node → List ℕ → List Node
without start nodes [] = nodes
without start nodes (x ∷ xs) = without start (set nodes (x - start) no_node) xs

length-without : (start : ℕ) (nodes : List Node) (xs : List ℕ) → length (without start nodes xs) ≡ length nodes
length-without start nodes [] = refl
length-without start nodes (x ∷ xs) = length-without start (set nodes (x - start) no_node) xs ∙ length-set nodes (x - start) no_node

same_or_not : (y x : ℕ) → (y ≡ x) ⊎ (y ≢ x)
same_or_not y x = grind arith

-- what is taken out stays out
out_still : (nodes : List Node) (i j : ℕ) → j < length nodes → (j ≡ i) ⊎ (get_or nodes j no_node ≡ no_node) → get_or (set nodes i no_node) j no_node ≡ no_node
out_still nodes i j l (inl e) = subst (λ (k : ℕ). get_or (set nodes k no_node) j no_node ≡ no_node) e (get_or-set_same nodes j no_node no_node l)
out_still nodes i j l (inr out) = go (same_or_not j i)
  where
    go : (j ≡ i) ⊎ (j ≢ i) → get_or (set nodes i no_node) j no_node ≡ no_node
    go (inl e) = subst (λ (k : ℕ). get_or (set nodes k no_node) j no_node ≡ no_node) e (get_or-set_same nodes j no_node no_node l)
    go (inr ne) = get_or-set_other nodes i j no_node no_node ne ∙ out

out_kept : (start : ℕ) (nodes : List Node) (xs : List ℕ) (j : ℕ) → j < length nodes → get_or nodes j no_node ≡ no_node → get_or (without start nodes xs) j no_node ≡ no_node
out_kept start nodes [] j l out = out
out_kept start nodes (x ∷ xs) j l out = out_kept start (set nodes (x - start) no_node) xs j (omega (arith, l, length-set nodes (x - start) no_node)) (out_still nodes (x - start) j l (inr out))

out_all : (start : ℕ) (nodes : List Node) (xs : List ℕ) (j k : ℕ) → j < length nodes → k < length xs → get_or xs k 0 ≡ start + j → get_or (without start nodes xs) j no_node ≡ no_node
out_all start nodes [] j k l h e = absurd (omega (arith, h))
out_all start nodes (x ∷ xs) j zero l h e =
    out_kept start (set nodes (x - start) no_node) xs j (omega (arith, l, length-set nodes (x - start) no_node)) (out_still nodes (x - start) j l (inl (omega (arith, e))))
out_all start nodes (x ∷ xs) j (suc k) l h e = out_all start (set nodes (x - start) no_node) xs j k (omega (arith, l, length-set nodes (x - start) no_node)) (omega (arith, h)) e

module _ (f : Node → ℕ) (nothing : f no_node ≡ 0) where
  -- what net x has, where the first node has number start
  abbrev own : ℕ → List Node → ℕ → ℕ
  own start nodes x = f (get_or nodes (x - start) no_node)

  all_out : (nodes : List Node) → ((j : ℕ) → j < length nodes → get_or nodes j no_node ≡ no_node) → sum_by f nodes ≡ 0
  all_out [] out = refl
  all_out (node ∷ nodes) out =
      let here : f node ≡ 0 = ap f (out 0 (omega arith)) ∙ nothing in
      let rest = all_out nodes (λ j l. out (suc j) (omega (arith, l))) in
      omega (arith, here, rest, sum_by-cons f node nodes)

  -- without the node of x, the others have the same
  others_same : (start x : ℕ) (nodes : List Node) (xs : List ℕ) → ((k : ℕ) → k < length xs → (start ≤ get_or xs k 0) × (get_or xs k 0 ≢ x)) → start ≤ x → total (own start nodes) xs ≡ total (own start (set nodes (x - start) no_node)) xs
  others_same start x nodes xs other at = total_same (own start nodes) (own start (set nodes (x - start) no_node)) xs (λ k l.
      let (low, apart) = other k l in
      ap f (sym (get_or-set_other nodes (x - start) (get_or xs k 0 - start) no_node no_node (λ e. apart (omega (arith, low, at, e))))))

  -- some nodes, each once, have what all have but those that are left
  some_nodes : (start : ℕ) (nodes : List Node) (xs : List ℕ) → ((k : ℕ) → k < length xs → (start ≤ get_or xs k 0) × (get_or xs k 0 < start + length nodes)) → ((j k : ℕ) → j < k → k < length xs → get_or xs j 0 ≢ get_or xs k 0)
      → total (own start nodes) xs + sum_by f (without start nodes xs) ≡ sum_by f nodes
  some_nodes start nodes [] low once = omega arith
  some_nodes start nodes (x ∷ xs) low once =
      let (at, high) = low 0 (omega arith) in
      let less : List Node = set nodes (x - start) no_node in
      let long : length less ≡ length nodes = length-set nodes (x - start) no_node in
      let same = others_same start x nodes xs (λ k l. ((low (suc k) (omega (arith, l))).0, λ e. once 0 (suc k) (omega arith) (omega (arith, l)) (sym e))) at in
      let rest = some_nodes start less xs
      (λ k l. let (a, b) = low (suc k) (omega (arith, l)) in (a, omega (arith, b, long)))
      (λ j k below l. once (suc j) (suc k) (omega (arith, below)) (omega (arith, l))) in
      let taken = sum_by-set f nodes (x - start) no_node no_node (omega (arith, at, high)) in
      omega (arith, same, rest, taken, nothing)

  module _ (g : Option Node → ℕ) (is : (node : Node) → g (Some node) ≡ f node) where
    -- an order has each node once
    pub order_total : (n : Net) (order : List ℕ) → IsOrder n order → total (λ x. g (node_of n x)) order ≡ sum_by f n.nodes
    order_total n order is_order =
        let places = by_place n order is_order in
        let each : (k : ℕ) → k < length order → g (node_of n (get_or order k 0)) ≡ own (length n.inputs) n.nodes (get_or order k 0) = λ k l.
        let (low, high) = places.nodes k l in
        let here = node_at n (get_or order k 0 - length n.inputs) no_node (omega (arith, low, high)) in
        let place : length n.inputs + (get_or order k 0 - length n.inputs) ≡ get_or order k 0 = omega (arith, low) in
        ap (λ (x : ℕ). g (node_of n x)) (sym place) ∙ (ap g here ∙ is _) in
        let same = total_same (λ x. g (node_of n x)) (own (length n.inputs) n.nodes) order each in
        let all = some_nodes (length n.inputs) n.nodes order (λ k l. let (low, high) = places.nodes k l in (low, omega (arith, high))) places.once in
        let left = all_out (without (length n.inputs) n.nodes order) (λ j l.
        let within : j < length n.nodes = omega (arith, l, length-without (length n.inputs) n.nodes order) in
        let (k, h, e) = places.complete (length n.inputs + j) (omega arith) (omega (arith, within)) in
        out_all (length n.inputs) n.nodes order j k within h e) in
        omega (arith, same, all, left)
