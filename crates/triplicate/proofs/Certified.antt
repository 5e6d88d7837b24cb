-- The hardened design's certificate is one, and it fits.
use Rattle.std.proofs.Common.{◌≡◌, ℕ, ◌<◌, ◌≤◌, ◌⊎◌, inl, inr, length, refl, sym, ap, ◌∙◌, arith, Bool, true, false, All, ◌^◌}
use Rattle.std.proofs.lemmas.Bool.{cases_lt, false≢true}
use Rattle.std.proofs.lemmas.List.{length-map}
use Rattle.std.proofs.lemmas.List.Elements.{All-map}
use Rattle.std.proofs.lemmas.List.FromFn.{length-map-range_with_len}
use Rattle.tmr_base.specs.Parts.{PlainParts}
use Rattle.flat_net.specs.Net.{Net, net_count}
use Rattle.certificate.specs.declared.role.Role.{Role}
use Rattle.certificate.specs.declared.role.Role.TheVariants.{Copy, Voter}
use Rattle.certificate.specs.Cert.{role_of, RoleIsInRange, IsCert, Fits}
use Rattle.triplicate.specs.Labels.{Labeling}
use Rattle.triplicate.specs.Form.{version_of}
use Rattle.triplicate.specs.Blocks.{hardened_roles}
use Rattle.triplicate.specs.Voting.{needs_voter}
use Rattle.triplicate.specs.Construction.{hardened_net, hardened_cert, three_copies, three_labels, role_node}
use Rattle.triplicate.specs.Given.{IsGiven}
use Rattle.triplicate.proofs.Numbering.{HasNumber}
use Rattle.triplicate.proofs.Tripled.{pin_from_needs, number_of, role_of_copy, copy_listed, length-hardened_inputs}

first_version : (inputs : Bool) → version_of inputs ≡ 1 → inputs ≡ false
first_version false one = refl
first_version true one = absurd (omega arith)

known_versions : (inputs : Bool) → (version_of inputs ≡ 1) ⊎ (version_of inputs ≡ 2)
known_versions false = inl refl
known_versions true = inr refl

module _ (n : Net) (parts : PlainParts) (voted : ℕ → ℕ → Bool) (t : Labeling) (is : IsGiven n parts voted t) where
  -- in version 1 only nodes have voters
  pub voted_is_node : t.inputs ≡ false → (x p : ℕ) → needs_voter n parts voted x p ≡ true → length n.inputs ≤ x
  voted_is_node one x p needs = go (cases_lt x (length n.inputs))
    where
      go : (x < length n.inputs) ⊎ (length n.inputs ≤ x) → length n.inputs ≤ x
      go (inl l) =
          let v = pin_from_needs n parts voted x p needs in
          absurd (false≢true (sym (is.votes.at_inputs v.node v.pin x v.reads l ∙ one) ∙ v.is_voted))
      go (inr r) = r

  in_range : (g : ℕ) (r : Role) → HasNumber n parts voted r g → RoleIsInRange (hardened_cert n parts voted t) r
  unfolding hardened_cert
  in_range g (Copy x c) h = (h.0, omega (arith, h.1, is.parts_long))
  in_range g (Voter x p c) h = (λ one. voted_is_node (first_version t.inputs one) x.0 p.0 h.2, omega (arith, h.0, is.parts_long), omega (arith, h.1, is.labels.parts_long))

  cert_lengths : (length (hardened_cert n parts voted t).copies ≡ length (hardened_cert n parts voted t).part) × (length (hardened_cert n parts voted t).labels ≡ length (hardened_cert n parts voted t).part)
  unfolding hardened_cert
  cert_lengths = (length-map-range_with_len (three_copies n parts voted) (length n.inputs) (length n.nodes) ∙ sym is.parts_long, length-map t.labels three_labels ∙ (is.labels.nodes ∙ sym is.parts_long))

  pub cert_fits : Fits n (hardened_net n parts voted) (hardened_cert n parts voted t)
  unfolding hardened_cert hardened_net
  cert_fits = record {
    original_inputs = refl;
    original_nodes = is.parts_long;
    hardened_inputs = sym (length-hardened_inputs n);
    hardened_nodes = sym (length-map (hardened_roles n parts voted) (role_node n parts voted));
  }

  pub is_cert : All (λ l. l < 2 ^ 32) t.labels → All (λ d. d < 2 ^ 32) t.depths → IsCert (hardened_cert n parts voted t)
  unfolding hardened_cert
  is_cert small_labels small_depths = record {
    known_version = known_versions t.inputs;
    few_parts = omega (arith, is.labels.parts_long, is.few_parts);
    few_original = omega (arith, is.valid.unordered.few, is.parts_long);
    few_hardened = is.few;
    small_depths = small_depths;
    small_labels = All-map (λ k. (k.first < 2 ^ 32) × (k.second < 2 ^ 32) × (k.third < 2 ^ 32)) three_labels t.labels (λ i d h. (small_labels i d h, small_labels i d h, small_labels i d h));
    parts_in_range = λ i d h. omega (arith, is.in_range.in_range i d h, is.labels.parts_long);
    copies_long = cert_lengths.0;
    labels_long = cert_lengths.1;
    roles_in_range = λ h r at. in_range h r (number_of n parts voted t h r at);
    copies_have_roles = λ x c low high. let below : x < net_count n = omega (arith, high, is.parts_long) in ap (role_of (hardened_cert n parts voted t)) (copy_listed n parts voted t x c below) ∙ role_of_copy n parts voted t x c low below;
    roles_are_copies = λ h x c at. let (low, high, e) = number_of n parts voted t h (Copy (record { 0 = x }) c) at in copy_listed n parts voted t x c high ∙ sym e;
  }
