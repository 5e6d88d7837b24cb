-- How large the hardened design is.
use Rattle.std.proofs.Common.{◌≡◌, ◌≢◌, ℕ, zero, suc, ◌+◌, ◌-◌, ◌*◌, ◌<◌, ◌≤◌, ◌⊎◌, inl, inr, List, [], ◌∷◌, ◌++◌, length, map, refl, sym, ap, ◌∙◌, arith, append-nil, Bool, true, false, if◌then◌else◌, get_or, take, set, filter, replicate, cond, All, Any, eqb, ltb, Option, Some}
use Rattle.std.specs.Prelude.{sum_by, count_by}
use Rattle.std.specs.List.{flat_map, range_with_len}
use Rattle.std.proofs.lemmas.Bool.{cases_lt, cases_eq, ne_eqb, eq-eqb, eqb-true, ltb-true, lt-ltb, false≢true}
use Rattle.std.proofs.lemmas.Map.Keys.{IsDistinct-from_apart}
use Rattle.std.proofs.lemmas.Map.Steps.{length-le_from_distinct_below}
use Rattle.std.proofs.lemmas.List.Folds.{Any-from_list_any}
use Rattle.std.proofs.lemmas.List.{length-append, map-append, get_or_default, length_push, take_all, length-replicate}
use Rattle.std.proofs.lemmas.List.FromFn.{length-map-range_with_len}
use Rattle.std.proofs.lemmas.List.Sums.{sum_by-append, sum_by-cons, sum_by_push, sum_by_more, sum_by-set}
use Rattle.std.specs.Prelude.{slice_index}
use Rattle.feedback_cut.specs.Inner.{node_pins}
use Rattle.node_reads.specs.Noting.{noted, ends_in}
use Rattle.tmr_base.specs.declared.copies.CopyNo.{CopyNo}
use Rattle.tmr_base.specs.declared.copies.CopyNo.TheVariants.{First, Second, Third}
use Rattle.triplicate.specs.Private.Noted.{pin_noted, pins_noted, nodes_noted, parts_noted, members}
use Rattle.triplicate.proofs.VoterRows.{length-pins_noted, length-parts_noted, rows_listed, none_listed, pin_in_range}
use Rattle.std.proofs.lemmas.List.Concat.{flat_map-append}
use Rattle.node_reads.proofs.Numbers.{numbers_more}
use Rattle.tmr_base.specs.Parts.{PlainParts}
use Rattle.flat_net.specs.Net.{Net, Node, Table, Register, net_count, node_of, pins_of, pins_at, pin_total, IsValid}
use Rattle.flat_net.proofs.Slots.{slot_there}
use Rattle.certificate.specs.declared.role.Role.{Role}
use Rattle.certificate.specs.declared.role.Role.TheVariants.{Copy}
use Rattle.triplicate.specs.Voting.{voting_parts}
use Rattle.triplicate.specs.Blocks.{copies_of, voters_for, block, hardened_roles}
use Rattle.triplicate.specs.Construction.{pin_net, node_copy, hardened_net, role_node}
use Rattle.triplicate.specs.Result.{is_voter_role}
use Rattle.triplicate.proofs.Lists.{blocks_more}
use Rattle.triplicate.proofs.PinSums.{all_pins}
use Rattle.triplicate.proofs.Numbering.{copies_of_node, copies_of_input, block_length}

-- ---- sums

empty_total : (k : ℕ) → sum_by length (replicate {A = List ℕ} k []) ≡ 0
empty_total zero = refl
empty_total (suc k) = omega (arith, sum_by-cons length [] (replicate {A = List ℕ} k []), empty_total k)

part_of_sum : (g : ℕ → ℕ) (p : ℕ → Bool) (xs : List ℕ) → sum_by g (filter p xs) ≤ sum_by g xs
part_of_sum g p [] = omega arith
part_of_sum g p (x ∷ xs) = go (p x) (part_of_sum g p xs)
  where
    go : (b : Bool) → sum_by g (filter p xs) ≤ sum_by g xs → sum_by g (cond b (x ∷ filter p xs) (filter p xs)) ≤ sum_by g (x ∷ xs)
    go true ih = omega (arith, sum_by-cons g x (filter p xs), sum_by-cons g x xs)
    go false ih = omega (arith, sum_by-cons g x xs)

-- the entries whose number is below k + 1 are those below k and those at k
lower_more : (g of : ℕ → ℕ) (k : ℕ) (xs : List ℕ) → sum_by g (filter (λ y. ltb (of y) (suc k)) xs) ≡ sum_by g (filter (λ y. ltb (of y) k) xs) + sum_by g (filter (λ y. eqb (of y) k) xs)
lower_more g of k [] = refl
lower_more g of k (x ∷ xs) = go (ltb (of x) k) refl (eqb (of x) k) refl (ltb (of x) (suc k)) refl (lower_more g of k xs)
  where
    go : (a : Bool) → ltb (of x) k ≡ a → (b : Bool) → eqb (of x) k ≡ b → (c : Bool) → ltb (of x) (suc k) ≡ c → sum_by g (filter (λ y. ltb (of y) (suc k)) xs) ≡ sum_by g (filter (λ y. ltb (of y) k) xs) + sum_by g (filter (λ y. eqb (of y) k) xs) →
        sum_by g (filter (λ y. ltb (of y) (suc k)) (x ∷ xs)) ≡ sum_by g (filter (λ y. ltb (of y) k) (x ∷ xs)) + sum_by g (filter (λ y. eqb (of y) k) (x ∷ xs))
    go true ea true eb c ec ih = absurd (omega (arith, ltb-true (of x) k ea, eqb-true (of x) k eb))
    go true ea false eb true ec ih = rw (ea, eb, ec) (omega (arith, ih, sum_by-cons g x (filter (λ y. ltb (of y) (suc k)) xs), sum_by-cons g x (filter (λ y. ltb (of y) k) xs)))
    go true ea false eb false ec ih = absurd (false≢true (sym ec ∙ lt-ltb (of x) (suc k) (omega (arith, ltb-true (of x) k ea))))
    go false ea true eb true ec ih = rw (ea, eb, ec) (omega (arith, ih, sum_by-cons g x (filter (λ y. ltb (of y) (suc k)) xs), sum_by-cons g x (filter (λ y. eqb (of y) k) xs)))
    go false ea true eb false ec ih = absurd (false≢true (sym ec ∙ lt-ltb (of x) (suc k) (omega (arith, eqb-true (of x) k eb))))
    go false ea false eb true ec ih = absurd (split (cases_lt (of x) k) (cases_eq (of x) k))
      where
        split : (of x < k) ⊎ (k ≤ of x) → (of x ≡ k) ⊎ (of x ≡ k → ⊥) → ⊥
        split (inl l) any = false≢true (sym ea ∙ lt-ltb (of x) k l)
        split (inr l) (inl e) = false≢true (sym eb ∙ eq-eqb (of x) k e)
        split (inr l) (inr ne) = ne (omega (arith, l, ltb-true (of x) (suc k) ec))
    go false ea false eb false ec ih = rw (ea, eb, ec) ih

-- ---- how many voters there are

count_app : (xs ys : List Role) → count_by is_voter_role (xs ++ ys) ≡ count_by is_voter_role xs + count_by is_voter_role ys
count_app xs ys = sum_by-append (λ r. if is_voter_role r then 1 else 0) xs ys

three_counted : (x p : ℕ) → count_by is_voter_role (voters_for x p) ≡ 3
three_counted x p = refl

voters_counted : (x : ℕ) (ps : List ℕ) → count_by is_voter_role (flat_map (voters_for x) ps) ≡ length (flat_map (voters_for x) ps)
voters_counted x [] = refl
voters_counted x (p ∷ ps) = count_app (voters_for x p) (flat_map (voters_for x) ps) ∙ (omega (arith, three_counted x p, voters_counted x ps))

copies_counted : (n : Net) (x : ℕ) → count_by is_voter_role (copies_of n x) ≡ 0
copies_counted n x = go (cases_lt x (length n.inputs))
  where
    go : (x < length n.inputs) ⊎ (length n.inputs ≤ x) → count_by is_voter_role (copies_of n x) ≡ 0
    go (inl l) = ap (count_by is_voter_role) (copies_of_input n x l)
    go (inr l) = ap (count_by is_voter_role) (copies_of_node n x l)

copies_long : (n : Net) (x : ℕ) → 3 * (x - length n.inputs) + length (copies_of n x) ≡ 3 * (suc x - length n.inputs)
copies_long n x = go (cases_lt x (length n.inputs))
  where
    go : (x < length n.inputs) ⊎ (length n.inputs ≤ x) → 3 * (x - length n.inputs) + length (copies_of n x) ≡ 3 * (suc x - length n.inputs)
    go (inl l) = omega (arith, ap length (copies_of_input n x l))
    go (inr l) = omega (arith, ap length (copies_of_node n x l))

-- as many pins as its node
pub copy_pins : (n : Net) (parts : PlainParts) (voted : ℕ → ℕ → Bool) (x : ℕ) (c : CopyNo) → length n.inputs ≤ x → x < net_count n → length (pins_of (role_node n parts voted (Copy (record { 0 = x }) c))) ≡ length (pins_at (node_of n x))
copy_pins n parts voted x c low high = go (slot_there (length n.inputs) n.nodes x low high)
  where
    as_many : (node : Node) → length (pins_of (node_copy n parts voted (x - length n.inputs) c (Some node))) ≡ length (pins_of node)
    as_many (Table name cover pins) = length-map-range_with_len (λ j. pin_net n parts voted (x - length n.inputs) c j (slice_index pins j)) 0 (length pins)
    as_many (Register name init pin) = refl

    go : (node : Node) × (node_of n x ≡ Some node) → length (pins_of (role_node n parts voted (Copy (record { 0 = x }) c))) ≡ length (pins_at (node_of n x))
    go (node, e) = ap (λ (o : Option Node). length (pins_of (node_copy n parts voted (x - length n.inputs) c o))) e ∙ (as_many node ∙ sym (ap (λ (o : Option Node). length (pins_at o)) e))

module _ (n : Net) (parts : PlainParts) (voted : ℕ → ℕ → Bool) where
  block_counted : (x : ℕ) → length (block n parts voted x) ≡ length (copies_of n x) + count_by is_voter_role (block n parts voted x)
  block_counted x = omega (arith, length-append (copies_of n x) (flat_map (voters_for x) (voting_parts n parts voted x)), count_app (copies_of n x) (flat_map (voters_for x) (voting_parts n parts voted x)), copies_counted n x, voters_counted x (voting_parts n parts voted x))

  blocks_counted : (k : ℕ) → length (flat_map (block n parts voted) (range_with_len 0 k)) ≡ 3 * (k - length n.inputs) + count_by is_voter_role (flat_map (block n parts voted) (range_with_len 0 k))
  blocks_counted zero = omega arith
  blocks_counted (suc k) =
      let more : count_by is_voter_role (flat_map (block n parts voted) (range_with_len 0 (suc k))) ≡ count_by is_voter_role (flat_map (block n parts voted) (range_with_len 0 k)) + count_by is_voter_role (block n parts voted k) = ap (λ (xs : List ℕ). count_by is_voter_role (flat_map (block n parts voted) xs)) (numbers_more k) ∙ (ap (count_by is_voter_role) (flat_map-append (block n parts voted) (range_with_len 0 k) (k ∷ [])) ∙ (count_app (flat_map (block n parts voted) (range_with_len 0 k)) (block n parts voted k ++ []) ∙ ap (λ (rs : List Role). count_by is_voter_role (flat_map (block n parts voted) (range_with_len 0 k)) + count_by is_voter_role rs) (append-nil (block n parts voted k)))) in
      omega (arith, more, blocks_more (block n parts voted) k, blocks_counted k, block_counted k, copies_long n k)

  pub roles_counted : length (hardened_roles n parts voted) ≡ 3 * length n.nodes + count_by is_voter_role (hardened_roles n parts voted)
  unfolding hardened_roles
  roles_counted = omega (arith, blocks_counted (net_count n))

  -- ---- how much noting adds

  noted_adds : (rows : List (List ℕ)) (x k : ℕ) → x < length rows → sum_by length (noted rows x k) ≤ sum_by length rows + 1
  noted_adds rows x k h = go (ends_in (get_or rows x []) k)
    where
      go : (b : Bool) → sum_by length (if b then rows else set rows x (get_or rows x [] ++ k ∷ [])) ≤ sum_by length rows + 1
      go true = omega arith
      go false = omega (arith, sum_by-set length rows x (get_or rows x [] ++ k ∷ []) [] h, length_push (get_or rows x []) k)

  pins_add : (y j : ℕ) (rows : List (List ℕ)) → j ≤ length (node_pins n y) → ((i : ℕ) → i < length (node_pins n y) → slice_index (node_pins n y) i < length rows) → sum_by length (pins_noted n parts voted y j rows) ≤ sum_by length rows + j
  unfolding pins_noted pin_noted
  pins_add y zero rows h below = omega arith
  pins_add y (suc j) rows h below = go (voted y j) (pins_add y j rows (omega arith) below)
    where
      go : (v : Bool) → sum_by length (pins_noted n parts voted y j rows) ≤ sum_by length rows + j → sum_by length (if v then noted (pins_noted n parts voted y j rows) (slice_index (node_pins n y) j) (slice_index parts.of y) else pins_noted n parts voted y j rows) ≤ sum_by length rows + suc j
      go true ih = omega (arith, noted_adds (pins_noted n parts voted y j rows) (slice_index (node_pins n y) j) (slice_index parts.of y) (omega (arith, below j (omega arith), length-pins_noted n parts voted y j rows)))
      go false ih = omega arith

  nodes_add : (ys : List ℕ) (rows : List (List ℕ)) → ((y i : ℕ) → i < length (node_pins n y) → slice_index (node_pins n y) i < length rows) → sum_by length (nodes_noted n parts voted ys rows) ≤ sum_by length rows + sum_by (λ y. length (node_pins n y)) ys
  unfolding nodes_noted
  nodes_add [] rows below = omega arith
  nodes_add (y ∷ ys) rows below =
      let long = length-pins_noted n parts voted y (length (node_pins n y)) rows in
      omega (arith, nodes_add ys (pins_noted n parts voted y (length (node_pins n y)) rows) (λ z i h. omega (arith, long, below z i h)), pins_add y (length (node_pins n y)) rows (omega arith) (below y), sum_by-cons (λ y. length (node_pins n y)) y ys)

  parts_add : (k : ℕ) (rows : List (List ℕ)) → ((y i : ℕ) → i < length (node_pins n y) → slice_index (node_pins n y) i < length rows) → sum_by length (parts_noted n parts voted k rows) ≤ sum_by length rows + sum_by (λ y. length (node_pins n y)) (filter (λ y. ltb (slice_index parts.of y) k) (range_with_len 0 (length n.nodes)))
  unfolding parts_noted
  parts_add zero rows below = omega arith
  parts_add (suc p) rows below =
      let long = length-parts_noted n parts voted p rows in
      omega (arith, parts_add p rows below, nodes_add (members n parts p) (parts_noted n parts voted p rows) (λ y i h. omega (arith, long, below y i h)), lower_more (λ y. length (node_pins n y)) (λ y. slice_index parts.of y) p (range_with_len 0 (length n.nodes)))

  -- ---- bounds

  voters_listed : (rows : List (List ℕ)) (k : ℕ) → length rows ≡ net_count n → ((x : ℕ) → x < net_count n → get_or rows x [] ≡ voting_parts n parts voted x) → k ≤ net_count n → count_by is_voter_role (flat_map (block n parts voted) (range_with_len 0 k)) ≡ 3 * sum_by length (take k rows)
  voters_listed rows zero long row h = refl
  voters_listed rows (suc k) long row h =
      let more : count_by is_voter_role (flat_map (block n parts voted) (range_with_len 0 (suc k))) ≡ count_by is_voter_role (flat_map (block n parts voted) (range_with_len 0 k)) + count_by is_voter_role (block n parts voted k) = ap (λ (xs : List ℕ). count_by is_voter_role (flat_map (block n parts voted) xs)) (numbers_more k) ∙ (ap (count_by is_voter_role) (flat_map-append (block n parts voted) (range_with_len 0 k) (k ∷ [])) ∙ (count_app (flat_map (block n parts voted) (range_with_len 0 k)) (block n parts voted k ++ []) ∙ ap (λ (rs : List Role). count_by is_voter_role (flat_map (block n parts voted) (range_with_len 0 k)) + count_by is_voter_role rs) (append-nil (block n parts voted k)))) in
      let e : suc k ≡ k + 1 = omega arith in
      omega (arith, more, block_counted k, block_length n parts voted k, ap (λ j. sum_by length (take j rows)) e, sum_by_more length rows k [] (omega arith), ap length (row k (omega arith)), voters_listed rows k long row (omega arith))

  -- each voter is needed by a pin of its own
  pub few_voters : IsValid n → count_by is_voter_role (hardened_roles n parts voted) ≤ 3 * pin_total n
  unfolding hardened_roles
  few_voters valid =
      let start = replicate (net_count n) [] in
      let rows = parts_noted n parts voted parts.count start in
      let lists = rows_listed n parts voted parts.count start (pin_in_range n valid) (none_listed n parts voted) in
      let long : length rows ≡ net_count n = lists.long in
      let all : sum_by length (take (net_count n) rows) ≡ sum_by length rows = ap (sum_by length) (take_all (net_count n) rows (omega arith)) in
      let none : sum_by length start ≡ 0 = empty_total (net_count n) in
      omega (arith, voters_listed rows (net_count n) long lists.row (omega arith), all, parts_add parts.count start (λ y i h. omega (arith, pin_in_range n valid y i h, length-replicate {A = List ℕ} (net_count n) [])), none, part_of_sum (λ y. length (node_pins n y)) (λ y. ltb (slice_index parts.of y) parts.count) (range_with_len 0 (length n.nodes)), all_pins n)

  -- ---- the pins of the hardened design

  voter_pins : (x : ℕ) (ps : List ℕ) → sum_by (λ node. length (pins_of node)) (map (role_node n parts voted) (flat_map (voters_for x) ps)) ≡ 3 * length (flat_map (voters_for x) ps)
  voter_pins x [] = refl
  voter_pins x (p ∷ ps) =
      ap (sum_by (λ node. length (pins_of node))) (map-append (role_node n parts voted) (voters_for x p) (flat_map (voters_for x) ps))
      ∙ (sum_by-append (λ node. length (pins_of node)) (map (role_node n parts voted) (voters_for x p)) (map (role_node n parts voted) (flat_map (voters_for x) ps)) ∙ (omega (arith, voter_pins x ps)))

  copies_pins : (x : ℕ) → x < net_count n → sum_by (λ node. length (pins_of node)) (map (role_node n parts voted) (copies_of n x)) + 3 * sum_by (λ y. length (node_pins n y)) (range_with_len 0 (x - length n.inputs)) ≡ 3 * sum_by (λ y. length (node_pins n y)) (range_with_len 0 (suc x - length n.inputs))
  copies_pins x h = go (cases_lt x (length n.inputs))
    where
      go : (x < length n.inputs) ⊎ (length n.inputs ≤ x) → sum_by (λ node. length (pins_of node)) (map (role_node n parts voted) (copies_of n x)) + 3 * sum_by (λ y. length (node_pins n y)) (range_with_len 0 (x - length n.inputs)) ≡ 3 * sum_by (λ y. length (node_pins n y)) (range_with_len 0 (suc x - length n.inputs))
      go (inl l) =
          let a : x - length n.inputs ≡ 0 = omega arith in
          let b : suc x - length n.inputs ≡ 0 = omega arith in
          rw (copies_of_input n x l, a, b) refl
      go (inr l) =
          let y = x - length n.inputs in
          let e : suc x - length n.inputs ≡ suc (x - length n.inputs) = omega arith in
          let back : length n.inputs + (x - length n.inputs) ≡ x = omega arith in
          let f : Node → ℕ = λ m. length (pins_of m) in
          let g : ℕ → ℕ = λ y. length (node_pins n y) in
          let three : sum_by f (map (role_node n parts voted) (copies_of n x)) ≡ f (role_node n parts voted (Copy (record { 0 = x }) First)) + f (role_node n parts voted (Copy (record { 0 = x }) Second)) + f (role_node n parts voted (Copy (record { 0 = x }) Third)) = ap (λ (rs : List Role). sum_by f (map (role_node n parts voted) rs)) (copies_of_node n x l) ∙ (omega arith) in
          omega (arith, three, copy_pins n parts voted x First l h, copy_pins n parts voted x Second l h, copy_pins n parts voted x Third l h, ap (λ k. sum_by g (range_with_len 0 k)) e, ap (sum_by g) (numbers_more (x - length n.inputs)), sum_by_push g (range_with_len 0 (x - length n.inputs)) (x - length n.inputs), ap (λ z. length (pins_at (node_of n z))) back)

  blocks_pins : (k : ℕ) → k ≤ net_count n → sum_by (λ node. length (pins_of node)) (map (role_node n parts voted) (flat_map (block n parts voted) (range_with_len 0 k))) ≡ 3 * sum_by (λ y. length (node_pins n y)) (range_with_len 0 (k - length n.inputs)) + 3 * count_by is_voter_role (flat_map (block n parts voted) (range_with_len 0 k))
  blocks_pins zero h = let e : 0 - length n.inputs ≡ 0 = omega arith in rw e refl
  blocks_pins (suc k) h =
      let f : Node → ℕ = λ m. length (pins_of m) in
      let B : List Role = flat_map (block n parts voted) (range_with_len 0 k) in
      let split : flat_map (block n parts voted) (range_with_len 0 (suc k)) ≡ B ++ block n parts voted k = ap (flat_map (block n parts voted)) (numbers_more k) ∙ (flat_map-append (block n parts voted) (range_with_len 0 k) (k ∷ []) ∙ ap (λ (rs : List Role). B ++ rs) (append-nil (block n parts voted k))) in
      let sums : sum_by f (map (role_node n parts voted) (flat_map (block n parts voted) (range_with_len 0 (suc k)))) ≡ sum_by f (map (role_node n parts voted) B) + sum_by f (map (role_node n parts voted) (block n parts voted k)) = ap (λ (rs : List Role). sum_by f (map (role_node n parts voted) rs)) split ∙ (ap (sum_by f) (map-append (role_node n parts voted) B (block n parts voted k)) ∙ sum_by-append f (map (role_node n parts voted) B) (map (role_node n parts voted) (block n parts voted k))) in
      let own : sum_by f (map (role_node n parts voted) (block n parts voted k)) ≡ sum_by f (map (role_node n parts voted) (copies_of n k)) + sum_by f (map (role_node n parts voted) (flat_map (voters_for k) (voting_parts n parts voted k))) = ap (sum_by f) (map-append (role_node n parts voted) (copies_of n k) (flat_map (voters_for k) (voting_parts n parts voted k))) ∙ sum_by-append f (map (role_node n parts voted) (copies_of n k)) (map (role_node n parts voted) (flat_map (voters_for k) (voting_parts n parts voted k))) in
      let counts : count_by is_voter_role (flat_map (block n parts voted) (range_with_len 0 (suc k))) ≡ count_by is_voter_role B + count_by is_voter_role (block n parts voted k) = ap (count_by is_voter_role) split ∙ count_app B (block n parts voted k) in
      omega (arith, sums, own, counts, voter_pins k (voting_parts n parts voted k), copies_pins k (omega arith), blocks_pins k (omega arith), block_counted k, length-append (copies_of n k) (flat_map (voters_for k) (voting_parts n parts voted k)))

  -- copies have their nodes' pins, and voters three
  pub few_hardened_pins : IsValid n → pin_total (hardened_net n parts voted) ≤ 3 * pin_total n + 3 * count_by is_voter_role (hardened_roles n parts voted)
  unfolding hardened_net hardened_roles
  few_hardened_pins valid =
      let e : net_count n - length n.inputs ≡ length n.nodes = omega arith in
      omega (arith, blocks_pins (net_count n) (omega arith), ap (λ k. sum_by (λ y. length (node_pins n y)) (range_with_len 0 k)) e, all_pins n)

pub outputs_few : (n : Net) → IsValid n → length n.outputs ≤ net_count n
outputs_few n valid = few_apart n.outputs (net_count n) valid.unordered.outputs_differ valid.unordered.outputs_in_range
  where
    few_apart : (xs : List ℕ) (m : ℕ) → ((j k : ℕ) → j < k → k < length xs → get_or xs j 0 ≢ get_or xs k 0) → All (λ x. x < m) xs → length xs ≤ m
    few_apart xs m apart below = length-le_from_distinct_below xs m (IsDistinct-from_apart eqb xs (λ j k b jk h. ne_eqb _ _ (λ e. apart j k jk h (get_or_default xs j 0 b (omega arith) ∙ (e ∙ get_or_default xs k b 0 h))))) (λ q t. go q (Any-from_list_any (eqb q) xs t))
      where
        go : (q : ℕ) → Any (λ x. eqb q x ≡ true) xs → q < m
        go q (k, v, l, at, h) = let b = below k v l in omega (arith, b, eqb-true q v h, at)
