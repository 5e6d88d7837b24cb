-- The names of what pins and outputs of the hardened design read.
use Rattle.std.proofs.Common.{◌≡◌, ℕ, ◌<◌, ◌≤◌, ◌⊎◌, inl, inr, Bool, true, false, List, length, refl, sym, ap, ◌∙◌}
use Rattle.std.specs.Prelude.{slice_index, if◌then◌else◌}
use Rattle.std.proofs.lemmas.Bool.{cases_lt}
use Rattle.tmr_base.specs.declared.copies.CopyNo.{CopyNo}
use Rattle.tmr_base.specs.Names.{copy_text, voter_text}
use Rattle.tmr_base.specs.Parts.{PlainParts}
use Rattle.flat_net.specs.Net.{Net, net_count, name_of}
use Rattle.certificate.specs.declared.role.Role.TheVariants.{Copy, Voter}
use Rattle.triplicate.specs.Voting.{ReadsNet}
use Rattle.triplicate.specs.Construction.{pin_net, hardened_net}
use Rattle.triplicate.specs.Given.{IsGiven}
use Rattle.triplicate.specs.Labels.{Labeling}
use Rattle.triplicate.specs.Numbers.{copy_net, voter_net}
use Rattle.triplicate.proofs.Named.{name_of_role, input_name}
use Rattle.triplicate.proofs.Numbering.{copy_net_input}
use Rattle.triplicate.proofs.Reading.{voted_role}
use Rattle.triplicate.proofs.Tripled.{role_of_copy}

module _ (n : Net) (parts : PlainParts) (voted : ℕ → ℕ → Bool) (t : Labeling) (is : IsGiven n parts voted t) where
  -- copy c of net x
  pub copy_named : (x : ℕ) (c : CopyNo) → x < net_count n → name_of (hardened_net n parts voted) (copy_net n parts voted x c) ≡ copy_text (name_of n x) c
  copy_named x c high = go (cases_lt x (length n.inputs))
    where
      go : (x < length n.inputs) ⊎ (length n.inputs ≤ x) → name_of (hardened_net n parts voted) (copy_net n parts voted x c) ≡ copy_text (name_of n x) c
      go (inl low) = ap (name_of (hardened_net n parts voted)) (copy_net_input n parts voted x c low) ∙ input_name n parts voted t is x c low
      go (inr node) = name_of_role n parts voted t is (copy_net n parts voted x c) (Copy (record { 0 = x }) c) (role_of_copy n parts voted t x c node high)

  -- what copy c of node y reads at pin j
  pub pin_named : (y j x : ℕ) (c : CopyNo) → y < length n.nodes → x < net_count n → ReadsNet n y j x →
      name_of (hardened_net n parts voted) (pin_net n parts voted y c j x) ≡ (if voted y j then voter_text (name_of n x) (slice_index parts.of y) c else copy_text (name_of n x) c)
  pin_named y j x c node high reads = go (voted y j) refl
    where
      told : Bool → List ℕ
      told b = if b then voter_text (name_of n x) (slice_index parts.of y) c else copy_text (name_of n x) c

      number : Bool → ℕ
      number b = if b then voter_net n parts voted x (slice_index parts.of y) c else copy_net n parts voted x c

      go : (b : Bool) → voted y j ≡ b → name_of (hardened_net n parts voted) (number (voted y j)) ≡ told (voted y j)
      go true e =
          name_of_role n parts voted t is (pin_net n parts voted y c j x) (Voter (record { 0 = x }) (record { 0 = slice_index parts.of y }) c) (voted_role n parts voted t is y j x c node reads e)
          ∙ ap told (sym e)
      go false e = ap (λ (b : Bool). name_of (hardened_net n parts voted) (number b)) e ∙ (copy_named x c high ∙ ap told (sym e))
