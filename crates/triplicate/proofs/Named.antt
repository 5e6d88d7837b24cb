-- The names of the hardened design's nets differ.
use Rattle.std.proofs.Common.{◌≡◌, ℕ, ◌+◌, ◌-◌, ◌*◌, ◌^◌, ◌<◌, ◌≤◌, ◌⊎◌, inl, inr, Bool, true, List, [], length, map, get_or, Some, slice_get, sym, ap, ◌∙◌, arith}
use Rattle.std.proofs.lemmas.Bool.{cases_lt}
use Rattle.std.proofs.lemmas.List.{length-map, get_or_append_left}
use Rattle.std.proofs.lemmas.Option.{slice_get-get_or, get_or_from_slice_get, slice_get_within}
use Rattle.tmr_base.specs.declared.copies.CopyNo.{CopyNo}
use Rattle.tmr_base.specs.Copies.{copy_number}
use Rattle.tmr_base.specs.Names.{is_name, copy_text, voter_text}
use Rattle.tmr_base.specs.Parts.{PlainParts}
use Rattle.flat_net.specs.Net.{Net, net_count, node_name, name_of}
use Rattle.flat_net.proofs.Slots.{slot_at, slot_within, slot_there}
use Rattle.certificate.specs.declared.role.Role.{Role}
use Rattle.certificate.specs.declared.role.Role.TheVariants.{Copy, Voter}
use Rattle.certificate.specs.Cert.{role_of}
use Rattle.triplicate.specs.Labels.{Labeling}
use Rattle.triplicate.specs.Blocks.{hardened_roles, hardened_inputs, role_name}
use Rattle.triplicate.specs.Numbers.{copy_net, voter_net}
use Rattle.triplicate.specs.Construction.{role_node, hardened_net, hardened_cert}
use Rattle.triplicate.specs.Given.{IsGiven}
use Rattle.triplicate.proofs.Lists.{threes_at, in_threes}
use Rattle.triplicate.proofs.Numbering.{HasNumber, copy_net_input}
use Rattle.triplicate.proofs.Tripled.{node_of_role, number_of, length-hardened_inputs}
use Rattle.triplicate.proofs.Formed.{name_of_node, names_of_roles}
use Rattle.triplicate.proofs.Texts.{copies_differ, copy_is_no_voter, voters_differ, copy_is_name, voter_is_name}

-- net g is a copy of a net, with its name
pub record IsCopyNet (n : Net) (parts : PlainParts) (voted : ℕ → ℕ → Bool) (g : ℕ) : Type 0 where
  pub net : ℕ
  pub copy : CopyNo
  pub below : net < net_count n
  pub number : g ≡ copy_net n parts voted net copy
  pub name : name_of (hardened_net n parts voted) g ≡ copy_text (name_of n net) copy

-- net g is a voter of a net, with its name
pub record IsVoterNet (n : Net) (parts : PlainParts) (voted : ℕ → ℕ → Bool) (g : ℕ) : Type 0 where
  pub net : ℕ
  pub part : ℕ
  pub copy : CopyNo
  pub below : net < net_count n
  pub in_parts : part < parts.count
  pub number : g ≡ voter_net n parts voted net part copy
  pub name : name_of (hardened_net n parts voted) g ≡ voter_text (name_of n net) part copy

module _ (n : Net) (parts : PlainParts) (voted : ℕ → ℕ → Bool) (t : Labeling) (is : IsGiven n parts voted t) where
  pub hardened_count : net_count (hardened_net n parts voted) ≡ 3 * length n.inputs + length (hardened_roles n parts voted)
  unfolding hardened_net
  hardened_count = omega (arith, length-hardened_inputs n, length-map (hardened_roles n parts voted) (role_node n parts voted))

  -- the role of a node
  pub role_there : (g : ℕ) → 3 * length n.inputs ≤ g → g < net_count (hardened_net n parts voted) → (r : Role) × (role_of (hardened_cert n parts voted t) g ≡ Some r)
  unfolding hardened_cert
  role_there g low high = slot_there (3 * length n.inputs) (hardened_roles n parts voted) g low (omega (arith, hardened_count))

  pub name_of_role : (g : ℕ) (r : Role) → role_of (hardened_cert n parts voted t) g ≡ Some r → name_of (hardened_net n parts voted) g ≡ role_name n r
  unfolding hardened_cert
  name_of_role g r at =
      let low = (slot_within (3 * length n.inputs) (hardened_roles n parts voted) g r at).0 in
      name_of_node (hardened_net n parts voted) g (role_node n parts voted r) (node_of_role n parts voted t g r at)
      ∙ names_of_roles n parts voted t is (g - 3 * length n.inputs) r (sym (slot_at (3 * length n.inputs) (hardened_roles n parts voted) g low) ∙ at)

  pub input_name : (i : ℕ) (c : CopyNo) → i < length n.inputs → name_of (hardened_net n parts voted) (3 * i + copy_number c) ≡ copy_text (name_of n i) c
  unfolding hardened_net
  input_name i c h =
      let here = slice_get-get_or n.inputs i [] h in
      let at : slice_get (hardened_inputs n) (3 * i + copy_number c) ≡ Some (copy_text (get_or n.inputs i []) c) = threes_at copy_text n.inputs i (get_or n.inputs i []) c here in
      let within : 3 * i + copy_number c < length (hardened_inputs n) = slice_get_within (hardened_inputs n) (3 * i + copy_number c) (copy_text (get_or n.inputs i []) c) at in
      get_or_append_left (hardened_inputs n) (map node_name (map (role_node n parts voted) (hardened_roles n parts voted))) [] (3 * i + copy_number c) within
      ∙ (get_or_from_slice_get (hardened_inputs n) (3 * i + copy_number c) (copy_text (get_or n.inputs i []) c) [] at
      ∙ ap (λ (name : List ℕ). copy_text name c) (sym (get_or_append_left n.inputs (map node_name n.nodes) [] i h)))

  -- each net is a copy or a voter
  pub stands_for : (g : ℕ) → g < net_count (hardened_net n parts voted) → IsCopyNet n parts voted g ⊎ IsVoterNet n parts voted g
  stands_for g h = go (cases_lt g (3 * length n.inputs))
    where
      by_role : (r : Role) → role_of (hardened_cert n parts voted t) g ≡ Some r → HasNumber n parts voted r g → IsCopyNet n parts voted g ⊎ IsVoterNet n parts voted g
      by_role (Copy x c) at place = inl (record { net = x.0; copy = c; below = place.1; number = place.2; name = name_of_role g (Copy x c) at })
      by_role (Voter x p c) at place = inr (record { net = x.0; part = p.0; copy = c; below = place.0; in_parts = place.1; number = place.3; name = name_of_role g (Voter x p c) at })

      go : (g < 3 * length n.inputs) ⊎ (3 * length n.inputs ≤ g) → IsCopyNet n parts voted g ⊎ IsVoterNet n parts voted g
      go (inl l) =
          let place = in_threes (length n.inputs) g l in
          inl (record { net = place.triple; copy = place.copy; below = omega (arith, place.below); number = place.is ∙ sym (copy_net_input n parts voted place.triple place.copy place.below); name = ap (name_of (hardened_net n parts voted)) place.is ∙ input_name place.triple place.copy place.below })
      go (inr l) = let (r, at) = role_there g l h in by_role r at (number_of n parts voted t g r at)

  few_part : (p : ℕ) → p < parts.count → p < 2 ^ 64
  few_part p h = omega (arith, is.few_parts)

  pub names_differ : (g h : ℕ) → g < net_count (hardened_net n parts voted) → h < net_count (hardened_net n parts voted) → name_of (hardened_net n parts voted) g ≡ name_of (hardened_net n parts voted) h → g ≡ h
  names_differ g h l m e = go (stands_for g l) (stands_for h m)
    where
      go : IsCopyNet n parts voted g ⊎ IsVoterNet n parts voted g → IsCopyNet n parts voted h ⊎ IsVoterNet n parts voted h → g ≡ h
      go (inl a) (inl b) =
          let same = copies_differ (name_of n a.net) (name_of n b.net) a.copy b.copy (sym a.name ∙ (e ∙ b.name)) in
          let net : a.net ≡ b.net = is.valid.unordered.names_differ a.net b.net a.below b.below same.0 in
          let copy : a.copy ≡ b.copy = same.1 in
          a.number ∙ (ap (λ x. copy_net n parts voted x a.copy) net ∙ (ap (copy_net n parts voted b.net) copy ∙ sym b.number))
      go (inl a) (inr b) = absurd (copy_is_no_voter (name_of n a.net) (name_of n b.net) b.part a.copy b.copy (sym a.name ∙ (e ∙ b.name)))
      go (inr a) (inl b) = absurd (copy_is_no_voter (name_of n b.net) (name_of n a.net) a.part b.copy a.copy (sym b.name ∙ (sym e ∙ a.name)))
      go (inr a) (inr b) =
          let same = voters_differ (name_of n a.net) (name_of n b.net) a.part b.part a.copy b.copy (few_part a.part a.in_parts) (few_part b.part b.in_parts) (sym a.name ∙ (e ∙ b.name)) in
          let net : a.net ≡ b.net = is.valid.unordered.names_differ a.net b.net a.below b.below same.0 in
          let part : a.part ≡ b.part = same.1 in
          let copy : a.copy ≡ b.copy = same.2 in
          a.number ∙ (ap (λ x. voter_net n parts voted x a.part a.copy) net ∙ (ap (λ p. voter_net n parts voted b.net p a.copy) part ∙ (ap (voter_net n parts voted b.net b.part) copy ∙ sym b.number)))

  pub names_are_names : (g : ℕ) → g < net_count (hardened_net n parts voted) → is_name (name_of (hardened_net n parts voted) g) ≡ true
  names_are_names g l = go (stands_for g l)
    where
      go : IsCopyNet n parts voted g ⊎ IsVoterNet n parts voted g → is_name (name_of (hardened_net n parts voted) g) ≡ true
      go (inl a) = ap is_name a.name ∙ copy_is_name (name_of n a.net) a.copy (is.valid.unordered.names_are_names a.net a.below)
      go (inr a) = ap is_name a.name ∙ voter_is_name (name_of n a.net) a.part a.copy (few_part a.part a.in_parts) (is.valid.unordered.names_are_names a.net a.below)
