-- Which role the numbers of copies and voters have, and which number each role has.
use Rattle.std.proofs.Common.{◌≡◌, ℕ, ◌+◌, ◌-◌, ◌*◌, ◌<◌, ◌≤◌, ◌⊎◌, inl, inr, List, [], length, Some, slice_get, refl, sym, ap, ◌∙◌, subst, arith, Bool, true}
use Rattle.std.specs.List.{flat_map, range_with_len}
use Rattle.std.proofs.lemmas.Bool.{cases_lt}
use Rattle.std.proofs.lemmas.Bool.Decides.{nat_tests}
use Rattle.std.proofs.lemmas.List.{length-append}
use Rattle.std.proofs.lemmas.Option.{slice_get_within}
use Rattle.tmr_base.specs.declared.copies.CopyNo.{CopyNo}
use Rattle.tmr_base.specs.Copies.{copy_number}
use Rattle.tmr_base.specs.Parts.{PlainParts}
use Rattle.flat_net.specs.Net.{Net, net_count, slot}
use Rattle.flat_net.proofs.Slots.{slot_at, slot_within, slice_get_there}
use Rattle.certificate.specs.declared.role.Role.{Role}
use Rattle.certificate.specs.declared.role.Role.TheVariants.{Copy, Voter}
use Rattle.triplicate.specs.Voting.{needs_voter, voting_parts}
use Rattle.triplicate.specs.Blocks.{threefold, copies_of, voters_for, block, hardened_roles}
use Rattle.triplicate.specs.Numbers.{block_start, copy_net, voter_net, voter_rank}
use Rattle.triplicate.proofs.Lists.{get_before, get_after, block_at, place_of, threefold_at, copy_number_few, copy_numbered, length-threes, threes_at, in_threes, passing_at, passing_place, blocks_rise}

-- where a role stands
abbrev pub HasNumber : Net → PlainParts → (ℕ → ℕ → Bool) → Role → ℕ → Type 0
HasNumber n parts voted (Copy x c) g = (length n.inputs ≤ x.0) × (x.0 < net_count n) × (g ≡ copy_net n parts voted x.0 c)
HasNumber n parts voted (Voter x p c) g = (x.0 < net_count n) × (p.0 < parts.count) × (needs_voter n parts voted x.0 p.0 ≡ true) × (g ≡ voter_net n parts voted x.0 p.0 c)

-- the net that a role stands for
abbrev pub owner : Role → ℕ
owner (Copy x c) = x.0
owner (Voter x p c) = x.0

pub copies_of_node : (n : Net) (x : ℕ) → length n.inputs ≤ x → copies_of n x ≡ threefold (λ c. Copy (record { 0 = x }) c)
copies_of_node n x h = grind (arith, nat_tests)

pub copies_of_input : (n : Net) (x : ℕ) → x < length n.inputs → copies_of n x ≡ []
copies_of_input n x h = grind (arith, nat_tests)

module _ (n : Net) (parts : PlainParts) (voted : ℕ → ℕ → Bool) where
  pub copy_net_node : (x : ℕ) (c : CopyNo) → length n.inputs ≤ x → copy_net n parts voted x c ≡ block_start n parts voted x + copy_number c
  unfolding copy_net
  copy_net_node x c h = grind (arith, nat_tests)

  pub copy_net_input : (x : ℕ) (c : CopyNo) → x < length n.inputs → copy_net n parts voted x c ≡ 3 * x + copy_number c
  unfolding copy_net
  copy_net_input x c h = grind (arith, nat_tests)

  pub voter_net_is : (x p : ℕ) (c : CopyNo) → voter_net n parts voted x p c ≡ block_start n parts voted x + (length (copies_of n x) + (3 * voter_rank n parts voted x p + copy_number c))
  unfolding voter_net
  voter_net_is x p c = omega arith

  pub block_length : (x : ℕ) → length (block n parts voted x) ≡ length (copies_of n x) + 3 * length (voting_parts n parts voted x)
  block_length x = length-append (copies_of n x) (flat_map (voters_for x) (voting_parts n parts voted x)) ∙ ap (λ k. length (copies_of n x) + k) (length-threes (λ p c. Voter (record { 0 = x }) (record { 0 = p }) c) (voting_parts n parts voted x))

  -- entry i of what stands for net x
  pub role_in_block : (x i : ℕ) → x < net_count n → i < length (block n parts voted x) → slot (3 * length n.inputs) (hardened_roles n parts voted) (block_start n parts voted x + i) ≡ slice_get (block n parts voted x) i
  unfolding hardened_roles block_start
  role_in_block x i h l =
      let e : (3 * length n.inputs + length (flat_map (block n parts voted) (range_with_len 0 x)) + i) - 3 * length n.inputs ≡ length (flat_map (block n parts voted) (range_with_len 0 x)) + i = omega arith in
      slot_at (3 * length n.inputs) (flat_map (block n parts voted) (range_with_len 0 (net_count n))) (3 * length n.inputs + length (flat_map (block n parts voted) (range_with_len 0 x)) + i) (omega arith)
      ∙ (ap (slice_get (flat_map (block n parts voted) (range_with_len 0 (net_count n)))) e
      ∙ block_at (block n parts voted) x (net_count n) i h l)

  pub copy_role : (x : ℕ) (c : CopyNo) → length n.inputs ≤ x → x < net_count n → slot (3 * length n.inputs) (hardened_roles n parts voted) (copy_net n parts voted x c) ≡ Some (Copy (record { 0 = x }) c)
  copy_role x c low high =
      let three : copies_of n x ≡ threefold (λ d. Copy (record { 0 = x }) d) = copies_of_node n x low in
      let long : length (copies_of n x) ≡ 3 = ap length three in
      let few = copy_number_few c in
      let whole = block_length x in
      ap (slot (3 * length n.inputs) (hardened_roles n parts voted)) (copy_net_node x c low)
      ∙ (role_in_block x (copy_number c) high (omega arith)
      ∙ (get_before (copies_of n x) (flat_map (voters_for x) (voting_parts n parts voted x)) (copy_number c) (omega arith)
      ∙ (ap (λ (rs : List Role). slice_get rs (copy_number c)) three ∙ threefold_at (λ d. Copy (record { 0 = x }) d) c)))

  pub voter_role : (x p : ℕ) (c : CopyNo) → x < net_count n → p < parts.count → needs_voter n parts voted x p ≡ true → slot (3 * length n.inputs) (hardened_roles n parts voted) (voter_net n parts voted x p c) ≡ Some (Voter (record { 0 = x }) (record { 0 = p }) c)
  voter_role x p c high below needs =
      let there = passing_at (needs_voter n parts voted x) p parts.count below needs in
      let rank : voter_rank n parts voted x p < length (voting_parts n parts voted x) = slice_get_within (voting_parts n parts voted x) (voter_rank n parts voted x p) p there in
      let few = copy_number_few c in
      let whole = block_length x in
      ap (slot (3 * length n.inputs) (hardened_roles n parts voted)) (voter_net_is x p c)
      ∙ (role_in_block x (length (copies_of n x) + (3 * voter_rank n parts voted x p + copy_number c)) high (omega arith)
      ∙ (get_after (copies_of n x) (flat_map (voters_for x) (voting_parts n parts voted x)) (3 * voter_rank n parts voted x p + copy_number c)
      ∙ threes_at (λ q d. Voter (record { 0 = x }) (record { 0 = q }) d) (voting_parts n parts voted x) (voter_rank n parts voted x p) p c there))

  -- an entry of what stands for net x, and its number
  pub in_block : (x i : ℕ) (r : Role) → x < net_count n → slice_get (block n parts voted x) i ≡ Some r → HasNumber n parts voted r (block_start n parts voted x + i) × (owner r ≡ x)
  in_block x i r high at = go (cases_lt i (length (copies_of n x))) (cases_lt x (length n.inputs))
    where
      within : i < length (block n parts voted x)
      within = slice_get_within (block n parts voted x) i r at

      go : (i < length (copies_of n x)) ⊎ (length (copies_of n x) ≤ i) → (x < length n.inputs) ⊎ (length n.inputs ≤ x) → HasNumber n parts voted r (block_start n parts voted x + i) × (owner r ≡ x)
      go (inl l) (inl input) = absurd (omega (arith, ap length (copies_of_input n x input)))
      go (inl l) (inr node) =
          let three : copies_of n x ≡ threefold (λ d. Copy (record { 0 = x }) d) = copies_of_node n x node in
          let (c, e) = copy_numbered i (omega (arith, ap length three)) in
          let here : slice_get (copies_of n x) i ≡ Some (Copy (record { 0 = x }) c) = ap (λ (rs : List Role). slice_get rs i) three ∙ (ap (slice_get (threefold (λ d. Copy (record { 0 = x }) d))) (sym e) ∙ threefold_at (λ d. Copy (record { 0 = x }) d) c) in
          let is : Copy (record { 0 = x }) c ≡ r = (let f : Some (Copy (record { 0 = x }) c) ≡ Some r = sym here ∙ (sym (get_before (copies_of n x) (flat_map (voters_for x) (voting_parts n parts voted x)) i l) ∙ at) in cc) in
          subst (λ (s : Role). HasNumber n parts voted s (block_start n parts voted x + i) × (owner s ≡ x)) is ((node, high, ap (λ k. block_start n parts voted x + k) (sym e) ∙ sym (copy_net_node x c node)), refl)
      go (inr l) any =
          let j = i - length (copies_of n x) in
          let shift : i ≡ length (copies_of n x) + j = omega arith in
          let place = in_threes (length (voting_parts n parts voted x)) j (omega (arith, block_length x, within)) in
          let (p, there) = slice_get_there (voting_parts n parts voted x) place.triple place.below in
          let passed = passing_place (needs_voter n parts voted x) parts.count place.triple p there in
          let at' : slice_get (flat_map (voters_for x) (voting_parts n parts voted x)) j ≡ Some r = sym (get_after (copies_of n x) (flat_map (voters_for x) (voting_parts n parts voted x)) j) ∙ (ap (slice_get (block n parts voted x)) (sym shift) ∙ at) in
          let here : slice_get (flat_map (voters_for x) (voting_parts n parts voted x)) j ≡ Some (Voter (record { 0 = x }) (record { 0 = p }) place.copy) = ap (slice_get (flat_map (voters_for x) (voting_parts n parts voted x))) place.is ∙ threes_at (λ q d. Voter (record { 0 = x }) (record { 0 = q }) d) (voting_parts n parts voted x) place.triple p place.copy there in
          let is : Voter (record { 0 = x }) (record { 0 = p }) place.copy ≡ r = (let f : Some (Voter (record { 0 = x }) (record { 0 = p }) place.copy) ≡ Some r = sym here ∙ at' in cc) in
          let number : block_start n parts voted x + i ≡ voter_net n parts voted x p place.copy = omega (arith, voter_net_is x p place.copy, place.is, passed.rank, shift) in
          subst (λ (s : Role). HasNumber n parts voted s (block_start n parts voted x + i) × (owner s ≡ x)) is ((high, passed.below, passed.passes, number), refl)

  -- the block in which a number stands
  pub record InBlock (g : ℕ) (r : Role) : Type 0 where
    pub net : ℕ
    pub offset : ℕ
    pub below : net < net_count n
    pub within : offset < length (block n parts voted net)
    pub number : g ≡ block_start n parts voted net + offset
    pub entry : slice_get (block n parts voted net) offset ≡ Some r

  pub block_of_role : (g : ℕ) (r : Role) → slot (3 * length n.inputs) (hardened_roles n parts voted) g ≡ Some r → InBlock g r
  unfolding hardened_roles block_start
  block_of_role g r at =
      let (low, high) = slot_within (3 * length n.inputs) (hardened_roles n parts voted) g r at in
      let p = place_of (block n parts voted) (net_count n) (g - 3 * length n.inputs) (omega arith) in
      let e : g ≡ block_start n parts voted p.block + p.offset = omega (arith, p.is) in
      let here = role_in_block p.block p.offset p.below p.within in
      record { net = p.block; offset = p.offset; below = p.below; within = p.within; number = e; entry = sym here ∙ (ap (slot (3 * length n.inputs) (hardened_roles n parts voted)) (sym e) ∙ at) }

  -- where a role stands
  pub number_of_role : (g : ℕ) (r : Role) → slot (3 * length n.inputs) (hardened_roles n parts voted) g ≡ Some r → HasNumber n parts voted r g
  number_of_role g r at =
      let b = block_of_role g r at in
      subst (λ (k : ℕ). HasNumber n parts voted r k) (sym b.number) ((in_block b.net b.offset r b.below b.entry).0)

  -- blocks do not overlap
  pub block_apart : (x y : ℕ) → x < y → block_start n parts voted x + length (block n parts voted x) ≤ block_start n parts voted y
  unfolding block_start
  block_apart x y h = omega (arith, blocks_rise (block n parts voted) x y h)

  pub start_behind : (x : ℕ) → 3 * length n.inputs ≤ block_start n parts voted x
  unfolding block_start
  start_behind x = omega arith

  -- each number stands in one block, at one place
  pub one_block : (x y i j : ℕ) → i < length (block n parts voted x) → j < length (block n parts voted y) → block_start n parts voted x + i ≡ block_start n parts voted y + j → (x ≡ y) × (i ≡ j)
  one_block x y i j h g e = go (cases_lt x y) (cases_lt y x)
    where
      go : (x < y) ⊎ (y ≤ x) → (y < x) ⊎ (x ≤ y) → (x ≡ y) × (i ≡ j)
      go (inl l) any = absurd (omega (arith, block_apart x y l, h, e))
      go (inr l) (inl k) = absurd (omega (arith, block_apart y x k, g, e))
      go (inr l) (inr k) = let same : x ≡ y = omega arith in (same, omega (arith, e, ap (block_start n parts voted) same))
