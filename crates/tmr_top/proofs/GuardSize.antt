-- The flat text of a guarded design has at most 36 times the bytes of its original's.
use Rattle.std.proofs.Common.{◌≡◌, ℕ, zero, suc, ◌+◌, ◌*◌, ◌<◌, ◌≤◌, Bool, false, List, [], ◌∷◌, ◌++◌, length, map, slice_get, get_or, Option, Some, None, refl, ap, subst, arith}
use Rattle.std.specs.Prelude.{All, codes, count_by, ◌==◌}
use Rattle.std.specs.List.{sum_by, flat_map, range_with_len}
use Rattle.std.specs.Option.{option_map}
use Rattle.std.proofs.lemmas.List.{length-append}
use Rattle.std.proofs.lemmas.List.Sums.{sum_by-cons, sum_by-append, sum_by-le-sum_by}
use Rattle.std.proofs.lemmas.Option.{get_or_from_slice_get, slice_get_within}
use Rattle.tmr_base.specs.declared.ids.Edge.{Edge}
use Rattle.tmr_base.specs.Names.{clock_text}
use Rattle.flat_net.specs.Net.{Net, Node, Table, Register, net_count, name_of, node_of, IsValid}
use Rattle.library_faults.specs.FlatText.{spaced, all_spaced, rows_length, control_length}
use Rattle.blif_writer.specs.Text.{clock_words}
use Rattle.blif_writer.specs.Length.{nets_length, node_length, flat_length}
use Rattle.hardened_size.proofs.Sums.{sum_times, sum_of_lists, sum_by_number, sum_by_place}
use Rattle.hardened_size.proofs.Readers.{node_there}
use Rattle.hardened_size.proofs.Original.{limit_kept}
use Rattle.dwc.specs.Guard.{twin, twin_text, twofold, node_twin, differ_cover, comparator, any_cover, alarm, alarm_net, guard_net}
use Rattle.dwc.proofs.Texts.{twin_tailed, comparator_tailed, alarm_tailed}
use Rattle.dwc.proofs.Nodes.{twin_name, comparator_name, alarm_name}
use Rattle.limits.specs.declared.Limits.{Limits}
use Rattle.limits.specs.Most.{most_original, most_hardened}
use Rattle.limits.proofs.MostLaws.{hardened_is}
use Rattle.tmr_top.specs.Private.FlatWithin.{IsFlatWithin}

-- ---- the parts of a guarded design

nodes_are : (n : Net) → (guard_net n).nodes ≡ flat_map (λ node. twofold (node_twin node)) n.nodes ++ (map (comparator n) n.outputs ++ alarm n ∷ [])
unfolding guard_net
nodes_are n = refl

inputs_are : (n : Net) → (guard_net n).inputs ≡ flat_map (λ name. twofold (twin_text name)) n.inputs
unfolding guard_net
inputs_are n = refl

outputs_are : (n : Net) → (guard_net n).outputs ≡ flat_map (λ y. twofold (λ c. twin c y)) n.outputs ++ alarm_net n ∷ []
unfolding guard_net
outputs_are n = refl

clock_is : (n : Net) → (guard_net n).clock ≡ option_map (λ c. (c.0, clock_text c.1)) n.clock
unfolding guard_net
clock_is n = refl

model_is : (n : Net) → (guard_net n).model ≡ n.model
unfolding guard_net
model_is n = refl

-- ---- names

twin_text_long : (x : List ℕ) (c : ℕ) → length (twin_text x c) ≡ length x + 2
twin_text_long x c = length-append x (126 ∷ (48 + c) ∷ [])

control_long : (c : Option (Edge × List ℕ)) → control_length (option_map (λ (e : Edge × List ℕ). (e.0, clock_text e.1)) c) ≤ 3 * control_length c
control_long None = omega arith
control_long (Some (edge, name)) = omega (arith, length-append name (126 ∷ 107 ∷ []))

clock_long : (c : Option (Edge × List ℕ)) → all_spaced (clock_words (option_map (λ (e : Edge × List ℕ). (e.0, clock_text e.1)) c)) ≤ 3 * all_spaced (clock_words c)
clock_long None = omega arith
clock_long (Some (edge, name)) = omega (arith, sum_by-cons spaced (clock_text name) [], sum_by-cons spaced name [], length-append name (126 ∷ 107 ∷ []))

any_rows : (m : ℕ) → rows_length (any_cover m) ≤ m + 3
any_rows zero = omega arith
any_rows (suc m) = let some : (suc m == 0) ≡ false = grind arith in rw some (omega arith)

-- each name has a blank before it
nets_some : (n : Net) (ys : List ℕ) → length ys ≤ nets_length n ys
nets_some n [] = omega arith
nets_some n (y ∷ ys) = omega (arith, sum_by-cons (λ x. spaced (name_of n x)) y ys, nets_some n ys)

two_spaced : (name : List ℕ) → all_spaced (twofold (twin_text name)) ≤ 6 * spaced name
two_spaced name =
    let two : all_spaced (twofold (twin_text name)) ≡ spaced (twin_text name 0) + spaced (twin_text name 1) = omega arith in
    omega (arith, two, twin_text_long name 0, twin_text_long name 1)

module _ (n : Net) (valid : IsValid n) where
  twin_long : (x c : ℕ) → x < net_count n → c < 2 → spaced (name_of (guard_net n) (twin c x)) ≡ spaced (name_of n x) + 2
  twin_long x c high l = omega (arith, ap length (twin_name n x c high l), ap length (twin_tailed (name_of n x) c), twin_text_long (name_of n x) c)

  twins_long : (xs : List ℕ) (c : ℕ) → c < 2 → All (λ x. x < net_count n) xs → nets_length (guard_net n) (map (twin c) xs) ≤ 3 * nets_length n xs
  twins_long [] c l all = omega arith
  twins_long (x ∷ xs) c l all =
      omega (
        arith,
        sum_by-cons (λ y. spaced (name_of (guard_net n) y)) (twin c x) (map (twin c) xs),
        sum_by-cons (λ y. spaced (name_of n y)) x xs,
        twin_long x c (all 0 0 (omega arith)) l,
        twins_long xs c l (λ i d h. all (suc i) d (omega (arith, h))),
      )

  -- ---- nodes

  node_twin_long : (x : ℕ) (node : Node) (c : ℕ) → node_of n x ≡ Some node → c < 2 → node_length (guard_net n) (node_twin node c) ≤ 3 * node_length n node
  node_twin_long x (Table name cover pins) c e l =
      let wired = valid.unordered.wired x (Table name cover pins) e in
      omega (arith, twins_long pins c l wired.0, twin_text_long name c)
  node_twin_long x (Register name init pin) c e l =
      let wired = valid.unordered.wired x (Register name init pin) e in
      omega (arith, twin_long pin c wired l, twin_text_long name c, ap control_length (clock_is n), control_long n.clock)

  two_nodes : (i : ℕ) (node other : Node) → slice_get n.nodes i ≡ Some node → slice_get n.nodes i ≡ Some other → sum_by (node_length (guard_net n)) (twofold (node_twin node)) ≤ 6 * node_length n other
  two_nodes i node other e eo =
      let same : node ≡ other = cc in
      let there = node_there n i node e in
      let two : sum_by (node_length (guard_net n)) (twofold (node_twin node)) ≡ node_length (guard_net n) (node_twin node 0) + node_length (guard_net n) (node_twin node 1) = omega arith in
      omega (arith, two, node_twin_long (length n.inputs + i) node 0 there (omega arith), node_twin_long (length n.inputs + i) node 1 there (omega arith), ap (node_length n) same)

  all_twins : sum_by (node_length (guard_net n)) (flat_map (λ node. twofold (node_twin node)) n.nodes) ≤ 6 * sum_by (node_length n) n.nodes
  all_twins =
      let each = sum_by_place (λ node. sum_by (node_length (guard_net n)) (twofold (node_twin node))) (λ node. 6 * node_length n node) n.nodes n.nodes refl two_nodes in
      omega (arith, sum_of_lists (node_length (guard_net n)) (λ node. twofold (node_twin node)) n.nodes, each, sum_times 6 (node_length n) n.nodes)

  comparator_long : (y : ℕ) → y < net_count n → node_length (guard_net n) (comparator n y) ≤ 26 * spaced (name_of n y)
  comparator_long y high =
      let pins : nets_length (guard_net n) (twofold (λ c. twin c y)) ≡ 2 * (spaced (name_of n y) + 2) = omega (arith, twin_long y 0 high (omega arith), twin_long y 1 high (omega arith)) in
      let rows : rows_length differ_cover ≡ 10 = refl in
      omega (arith, pins, rows, length-append (name_of n y) (codes "~e"))

  comparators_long : (ys : List ℕ) → All (λ x. x < net_count n) ys → sum_by (node_length (guard_net n)) (map (comparator n) ys) ≤ 26 * nets_length n ys
  comparators_long [] all = omega arith
  comparators_long (y ∷ ys) all =
      omega (
        arith,
        sum_by-cons (node_length (guard_net n)) (comparator n y) (map (comparator n) ys),
        sum_by-cons (λ x. spaced (name_of n x)) y ys,
        comparator_long y (all 0 0 (omega arith)),
        comparators_long ys (λ i d h. all (suc i) d (omega (arith, h))),
      )

  -- the names of all comparators
  read_by_alarm : nets_length (guard_net n) (range_with_len (2 * net_count n) (length n.outputs)) ≤ 3 * nets_length n n.outputs
  read_by_alarm =
      let names = sum_by_number (λ y. 3 * spaced (name_of n y)) (λ x. spaced (name_of (guard_net n) x)) (2 * net_count n) n.outputs
      (λ k y e. omega (arith, ap length (comparator_name n k y e), ap length (comparator_tailed (name_of n y)), length-append (name_of n y) (codes "~e"))) in
      omega (arith, names, sum_times 3 (λ y. spaced (name_of n y)) n.outputs)

  alarm_long : node_length (guard_net n) (alarm n) ≤ 18 + 4 * nets_length n n.outputs
  alarm_long = omega (arith, read_by_alarm, any_rows (length n.outputs), nets_some n n.outputs)

  nodes_long : sum_by (node_length (guard_net n)) (guard_net n).nodes ≤ 6 * sum_by (node_length n) n.nodes + 30 * nets_length n n.outputs + 18
  nodes_long =
      omega (
        arith,
        ap (sum_by (node_length (guard_net n))) (nodes_are n),
        sum_by-append (node_length (guard_net n)) (flat_map (λ node. twofold (node_twin node)) n.nodes) (map (comparator n) n.outputs ++ alarm n ∷ []),
        sum_by-append (node_length (guard_net n)) (map (comparator n) n.outputs) (alarm n ∷ []),
        sum_by-cons (node_length (guard_net n)) (alarm n) [],
        all_twins,
        comparators_long n.outputs valid.unordered.outputs_in_range,
        alarm_long,
      )

  -- ---- ports

  inputs_long : all_spaced (guard_net n).inputs ≤ 6 * all_spaced n.inputs
  inputs_long =
      let two = sum_by-le-sum_by (λ name. all_spaced (twofold (twin_text name))) (λ name. 6 * spaced name) n.inputs two_spaced in
      omega (arith, ap all_spaced (inputs_are n), sum_of_lists spaced (λ name. twofold (twin_text name)) n.inputs, two, sum_times 6 spaced n.inputs)

  two_outputs : (i x z : ℕ) → slice_get n.outputs i ≡ Some x → slice_get n.outputs i ≡ Some z → nets_length (guard_net n) (twofold (λ c. twin c x)) ≤ 6 * spaced (name_of n z)
  two_outputs i x z e ez =
      let same : x ≡ z = cc in
      let at : get_or n.outputs i 0 ≡ x = get_or_from_slice_get n.outputs i x 0 e in
      let high : x < net_count n = subst (λ y. y < net_count n) at (valid.unordered.outputs_in_range i 0 (slice_get_within n.outputs i x e)) in
      let two : nets_length (guard_net n) (twofold (λ c. twin c x)) ≡ spaced (name_of (guard_net n) (twin 0 x)) + spaced (name_of (guard_net n) (twin 1 x)) = omega arith in
      omega (arith, two, twin_long x 0 high (omega arith), twin_long x 1 high (omega arith), ap (λ y. length (name_of n y)) same)

  outputs_long : nets_length (guard_net n) (guard_net n).outputs ≤ 6 * nets_length n n.outputs + 8
  outputs_long =
      let f : ℕ → ℕ = λ y. spaced (name_of (guard_net n) y) in
      let two = sum_by_place (λ x. nets_length (guard_net n) (twofold (λ c. twin c x))) (λ x. 6 * spaced (name_of n x)) n.outputs n.outputs refl two_outputs in
      let last : spaced (name_of (guard_net n) (alarm_net n)) ≡ 8 = omega (arith, ap length (alarm_name n), ap length alarm_tailed) in
      omega (
        arith,
        ap (sum_by f) (outputs_are n),
        sum_by-append f (flat_map (λ y. twofold (λ c. twin c y)) n.outputs) (alarm_net n ∷ []),
        sum_by-cons f (alarm_net n) [],
        sum_of_lists f (λ y. twofold (λ c. twin c y)) n.outputs,
        two,
        sum_times 6 (λ y. spaced (name_of n y)) n.outputs,
        last,
      )

  guarded_long : flat_length (guard_net n) ≤ 36 * flat_length n
  unfolding flat_length
  guarded_long = omega (arith, ap spaced (model_is n), inputs_long, ap (λ (c : Option (Edge × List ℕ)). all_spaced (clock_words c)) (clock_is n), clock_long n.clock, outputs_long, nodes_long)

-- the flat text of a guarded design keeps the limit of its file, where the original was flattened within its own
pub guarded_within : (l : Limits) (n : Net) (f : List Bool) → IsValid n → IsFlatWithin (most_original l) n f → flat_length (guard_net n) ≤ most_hardened l
guarded_within l n f valid within = omega (arith, guarded_long n valid, hardened_is l, limit_kept within.library (most_original l) (count_by (λ bit. bit) f) n within.flat.flat)
