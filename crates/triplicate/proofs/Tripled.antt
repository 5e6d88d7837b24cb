-- The nodes of the hardened design, and what their pins read.
use Rattle.std.proofs.Common.{◌≡◌, ℕ, ◌+◌, ◌-◌, ◌*◌, ◌<◌, ◌≤◌, ◌⊎◌, inl, inr, List, length, map, get_or, Some, None, refl, sym, ap, ◌∙◌, subst, arith, Bool, true, eqb, Any}
use Rattle.std.specs.Prelude.{slice_index, ◌&&◌}
use Rattle.std.specs.List.{range_with_len, list_any}
use Rattle.std.specs.Option.{option_map}
use Rattle.std.proofs.lemmas.Bool.{cases_lt, eq-eqb, and_from, and_parts, eqb-true}
use Rattle.std.proofs.lemmas.List.FromFn.{get_or-range_with_len, length-range_with_len}
use Rattle.std.proofs.lemmas.List.Folds.{list_any-from_Any, Any-from_list_any}
use Rattle.std.proofs.lemmas.Option.{slice_get-map, slice_get-get_or, get_or_from_slice_get}
use Rattle.tmr_base.specs.declared.copies.CopyNo.{CopyNo}
use Rattle.tmr_base.specs.declared.copies.CopyNo.TheVariants.{First, Second, Third}
use Rattle.tmr_base.specs.Copies.{of_copy}
use Rattle.tmr_base.specs.Names.{copy_text}
use Rattle.tmr_base.specs.Parts.{PlainParts}
use Rattle.flat_net.specs.Net.{Net, net_count, slot, node_of}
use Rattle.flat_net.proofs.Slots.{slot_at, slot_below, slot_within, slot_map_read}
use Rattle.certificate.specs.declared.role.Role.{Role}
use Rattle.certificate.specs.declared.role.Role.TheVariants.{Copy, Voter}
use Rattle.certificate.specs.Cert.{role_of, part_of, copy_of, label_of, three_or_input}
use Rattle.feedback_cut.specs.Inner.{node_pins}
use Rattle.triplicate.specs.Labels.{Labeling}
use Rattle.triplicate.specs.Voting.{ReadsNet, votes_for, needs_voter}
use Rattle.triplicate.specs.Blocks.{hardened_roles, hardened_inputs}
use Rattle.triplicate.specs.Numbers.{copy_net, voter_net}
use Rattle.triplicate.specs.Construction.{role_node, hardened_net, hardened_cert, three_copies, three_labels}
use Rattle.triplicate.proofs.Lists.{length-threes, copy_number_few}
use Rattle.triplicate.proofs.Numbering.{copy_net_input, copy_role, voter_role, number_of_role, HasNumber}

pub slot_of_map : {A B : Type 0} (f : A → B) (start : ℕ) (xs : List A) (x : ℕ) (a : A) → slot start xs x ≡ Some a → slot start (map f xs) x ≡ Some (f a)
slot_of_map f start xs x a h =
    let (low, high) = slot_within start xs x a h in
    slot_at start (map f xs) x low ∙ (slice_get-map f xs (x - start) ∙ ap (option_map f) (sym (slot_at start xs x low) ∙ h))

-- some number below a bound passes
pub any_below : (p : ℕ → Bool) (n x : ℕ) → x < n → p x ≡ true → list_any p (range_with_len 0 n) ≡ true
any_below p n x h e =
    let zero_add : 0 + x ≡ x = omega arith in
    list_any-from_Any p (range_with_len 0 n) (x, x, omega (arith, length-range_with_len 0 n), get_or-range_with_len 0 n x x h ∙ zero_add, e)

pub any_found : (p : ℕ → Bool) (n : ℕ) → list_any p (range_with_len 0 n) ≡ true → (x : ℕ) × (x < n) × (p x ≡ true)
any_found p n e = go (Any-from_list_any p (range_with_len 0 n) e)
  where
    go : Any (λ x. p x ≡ true) (range_with_len 0 n) → (x : ℕ) × (x < n) × (p x ≡ true)
    go (k, x, l, at, h) =
        let below : k < n = omega (arith, length-range_with_len 0 n, l) in
        let same : x ≡ k = sym at ∙ (get_or-range_with_len 0 n k x below ∙ (omega arith)) in
        (k, below, subst (λ y. p y ≡ true) same h)

-- a voted pin needs a voter
pub needs_from_pin : (n : Net) (parts : PlainParts) (voted : ℕ → ℕ → Bool) (y j x : ℕ) → y < length n.nodes → ReadsNet n y j x → voted y j ≡ true → needs_voter n parts voted x (slice_index parts.of y) ≡ true
unfolding needs_voter
needs_from_pin n parts voted y j x h reads v =
    any_below (λ z. eqb (slice_index parts.of z) (slice_index parts.of y) && list_any (votes_for n voted x z) (range_with_len 0 (length (node_pins n z)))) (length n.nodes) y h
    (and_from _ _ (eq-eqb (slice_index parts.of y) (slice_index parts.of y) refl) (any_below (votes_for n voted x y) (length (node_pins n y)) j reads.pin (and_from _ _ v (eq-eqb (slice_index (node_pins n y) j) x reads.is))))

-- where a voter is needed, a voted pin reads
pub record IsVotedIn (n : Net) (parts : PlainParts) (voted : ℕ → ℕ → Bool) (x p : ℕ) : Type 0 where
  pub node : ℕ
  pub pin : ℕ
  pub is_node : node < length n.nodes
  pub reads : ReadsNet n node pin x
  pub partition : slice_index parts.of node ≡ p
  pub is_voted : voted node pin ≡ true

pub pin_from_needs : (n : Net) (parts : PlainParts) (voted : ℕ → ℕ → Bool) (x p : ℕ) → needs_voter n parts voted x p ≡ true → IsVotedIn n parts voted x p
unfolding needs_voter
pin_from_needs n parts voted x p e =
    let (y, below, both) = any_found (λ z. eqb (slice_index parts.of z) p && list_any (votes_for n voted x z) (range_with_len 0 (length (node_pins n z)))) (length n.nodes) e in
    let (own, some) = and_parts _ _ both in
    let (j, within, votes) = any_found (votes_for n voted x y) (length (node_pins n y)) some in
    let (v, is) = and_parts _ _ votes in
    record { node = y; pin = j; is_node = below; reads = record { pin = within; is = eqb-true _ _ is }; partition = eqb-true _ _ own; is_voted = v }

pub length-hardened_inputs : (n : Net) → length (hardened_inputs n) ≡ 3 * length n.inputs
length-hardened_inputs n = length-threes copy_text n.inputs

module _ (n : Net) (parts : PlainParts) (voted : ℕ → ℕ → Bool) (t : Labeling) where
  -- the node of a role
  pub node_of_role : (g : ℕ) (r : Role) → role_of (hardened_cert n parts voted t) g ≡ Some r → node_of (hardened_net n parts voted) g ≡ Some (role_node n parts voted r)
  unfolding hardened_cert hardened_net
  node_of_role g r h =
      ap (λ k. slot k (map (role_node n parts voted) (hardened_roles n parts voted)) g) (length-hardened_inputs n)
      ∙ slot_of_map (role_node n parts voted) (3 * length n.inputs) (hardened_roles n parts voted) g r h

  pub number_of : (g : ℕ) (r : Role) → role_of (hardened_cert n parts voted t) g ≡ Some r → HasNumber n parts voted r g
  unfolding hardened_cert
  number_of g r h = number_of_role n parts voted g r h

  pub role_of_copy : (x : ℕ) (c : CopyNo) → length n.inputs ≤ x → x < net_count n → role_of (hardened_cert n parts voted t) (copy_net n parts voted x c) ≡ Some (Copy (record { 0 = x }) c)
  unfolding hardened_cert
  role_of_copy x c low high = copy_role n parts voted x c low high

  pub role_of_input_copy : (x : ℕ) (c : CopyNo) → x < length n.inputs → role_of (hardened_cert n parts voted t) (copy_net n parts voted x c) ≡ None
  unfolding hardened_cert
  role_of_input_copy x c h = slot_below (3 * length n.inputs) (hardened_roles n parts voted) (copy_net n parts voted x c) (omega (arith, copy_net_input n parts voted x c h, copy_number_few c))

  pub role_of_voter : (x p : ℕ) (c : CopyNo) → x < net_count n → p < parts.count → needs_voter n parts voted x p ≡ true → role_of (hardened_cert n parts voted t) (voter_net n parts voted x p c) ≡ Some (Voter (record { 0 = x }) (record { 0 = p }) c)
  unfolding hardened_cert
  role_of_voter x p c high below needs = voter_role n parts voted x p c high below needs

  pub part_of_node : (x p : ℕ) → part_of (hardened_cert n parts voted t) x ≡ Some p → slice_index parts.of (x - length n.inputs) ≡ p
  unfolding hardened_cert
  part_of_node x p h =
      let (low, high) = slot_within (length n.inputs) parts.of x p h in
      get_or_from_slice_get parts.of (x - length n.inputs) p 0 (sym (slot_at (length n.inputs) parts.of x low) ∙ h)

  pub part_at_node : length parts.of ≡ length n.nodes → (x : ℕ) → length n.inputs ≤ x → x < net_count n → part_of (hardened_cert n parts voted t) x ≡ Some (slice_index parts.of (x - length n.inputs))
  unfolding hardened_cert
  part_at_node long x low high = slot_at (length n.inputs) parts.of x low ∙ slice_get-get_or parts.of (x - length n.inputs) 0 (omega arith)

  -- copy c of a net, as the certificate lists it
  pub copy_listed : (x : ℕ) (c : CopyNo) → x < net_count n → copy_of (hardened_cert n parts voted t) x c ≡ copy_net n parts voted x c
  unfolding hardened_cert
  copy_listed x c h = go (cases_lt x (length n.inputs))
    where
      listed : (d : CopyNo) → of_copy (three_copies n parts voted x) d ≡ copy_net n parts voted x d
      listed First = refl
      listed Second = refl
      listed Third = refl

      go : (x < length n.inputs) ⊎ (length n.inputs ≤ x) → three_or_input (slot (length n.inputs) (map (three_copies n parts voted) (range_with_len (length n.inputs) (length n.nodes))) x) x c ≡ copy_net n parts voted x c
      go (inl l) = rw (slot_below (length n.inputs) (map (three_copies n parts voted) (range_with_len (length n.inputs) (length n.nodes))) x l) (sym (copy_net_input n parts voted x c l))
      go (inr r) =
          let long = length-range_with_len (length n.inputs) (length n.nodes) in
          let at : get_or (range_with_len (length n.inputs) (length n.nodes)) (x - length n.inputs) 0 ≡ x = get_or-range_with_len (length n.inputs) (length n.nodes) (x - length n.inputs) 0 (omega arith) ∙ (omega arith) in
          rw (slot_map_read (three_copies n parts voted) (length n.inputs) (range_with_len (length n.inputs) (length n.nodes)) x 0 r (omega arith), at) (listed c)

  pub label_listed : (y : ℕ) (c : CopyNo) → y < length t.labels → label_of (hardened_cert n parts voted t) (length n.inputs + y) c ≡ slice_index t.labels y
  unfolding hardened_cert
  label_listed y c h =
      let e : (length n.inputs + y) - length n.inputs ≡ y = omega arith in
      rw (slot_map_read three_labels (length n.inputs) t.labels (length n.inputs + y) 0 (omega arith) (omega arith), e) (listed c)
    where
      listed : (d : CopyNo) → of_copy (three_labels (slice_index t.labels y)) d ≡ slice_index t.labels y
      listed First = refl
      listed Second = refl
      listed Third = refl
