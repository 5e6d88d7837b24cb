-- The pins that hardening votes are those that have to be.
use Rattle.std.proofs.Common.{◌≡◌, ◌≢◌, ℕ, ◌+◌, ◌-◌, ◌<◌, ◌≤◌, length, sym, ap, ◌∙◌, arith, Bool, true, not, eqb, ◌||◌}
use Rattle.std.specs.Prelude.{slice_index}
use Rattle.std.proofs.lemmas.Bool.{ne_eqb, eq-eqb}
use Rattle.std.proofs.lemmas.Bool.Decides.{nat_tests}
use Rattle.tmr_base.specs.Parts.{PlainParts}
use Rattle.flat_net.specs.Net.{Net}
use Rattle.recovery_depth.specs.Depths.{PlainDepths, AreDepths}
use Rattle.recovery_depth.specs.Extra.{is_extra, is_cut_or_extra}
use Rattle.recovery_depth.proofs.Alike.{depths_alike}
use Rattle.triplicate.specs.declared.form.Form.{Form}
use Rattle.triplicate.specs.Choices.{IsCutOf}
use Rattle.triplicate.specs.Voting.{ReadsNet, VotesFor}
use Rattle.triplicate.specs.Pins.{PlainVotes, read_is_voted, pin_is_voted}

read_input : (n : Net) (parts : PlainParts) (inputs : Bool) (y : ℕ) (c : Bool) (x : ℕ) → x < length n.inputs → read_is_voted n parts inputs y c x ≡ inputs
read_input n parts inputs y c x h = grind (arith, nat_tests)

read_node : (n : Net) (parts : PlainParts) (inputs : Bool) (y : ℕ) (c : Bool) (x : ℕ) → read_is_voted n parts inputs y c (length n.inputs + x) ≡ (not (eqb (slice_index parts.of x) (slice_index parts.of y)) || c)
read_node n parts inputs y c x =
    let back : (length n.inputs + x) - length n.inputs ≡ x = omega arith in
    node (length n.inputs + x) (omega arith) ∙ ap (λ z. not (eqb (slice_index parts.of z) (slice_index parts.of y)) || c) back
  where
    node : (z : ℕ) → length n.inputs ≤ z → read_is_voted n parts inputs y c z ≡ (not (eqb (slice_index parts.of (z - length n.inputs)) (slice_index parts.of y)) || c)
    node z h = grind (arith, nat_tests)

module _ (kind : Form) (n : Net) (parts : PlainParts) (vs : PlainVotes) (meets : IsCutOf kind n parts vs.cut) where
  at_node : (y j x : ℕ) → ReadsNet n y j (length n.inputs + x) → pin_is_voted n parts vs y j ≡ (not (eqb (slice_index parts.of x) (slice_index parts.of y)) || is_cut_or_extra vs.cut vs.marks y j)
  unfolding pin_is_voted
  at_node y j x reads = ap (read_is_voted n parts vs.inputs y (is_cut_or_extra vs.cut vs.marks y j)) reads.is ∙ read_node n parts vs.inputs y (is_cut_or_extra vs.cut vs.marks y j) x

  at_input : (y j x : ℕ) → ReadsNet n y j x → x < length n.inputs → pin_is_voted n parts vs y j ≡ vs.inputs
  unfolding pin_is_voted
  at_input y j x reads h = ap (read_is_voted n parts vs.inputs y (is_cut_or_extra vs.cut vs.marks y j)) reads.is ∙ read_input n parts vs.inputs y (is_cut_or_extra vs.cut vs.marks y j) x h

  together : (y j x : ℕ) → ReadsNet n y j (length n.inputs + x) → slice_index parts.of x ≡ slice_index parts.of y → pin_is_voted n parts vs y j ≡ is_cut_or_extra vs.cut vs.marks y j
  together y j x reads e = at_node y j x reads ∙ ap (λ b. not b || is_cut_or_extra vs.cut vs.marks y j) (eq-eqb (slice_index parts.of x) (slice_index parts.of y) e)

  apart : (y j x : ℕ) → ReadsNet n y j (length n.inputs + x) → slice_index parts.of x ≢ slice_index parts.of y → pin_is_voted n parts vs y j ≡ true
  apart y j x reads ne = at_node y j x reads ∙ ap (λ b. not b || is_cut_or_extra vs.cut vs.marks y j) (ne_eqb (slice_index parts.of x) (slice_index parts.of y) ne)

  pub votes : VotesFor kind n parts vs.inputs vs.cut (is_extra vs.marks) (pin_is_voted n parts vs)
  votes = record {
    at_inputs = at_input;
    foreign = apart;
    meets = meets;
    own = λ y j x inside. together y j x (record { pin = inside.pin; is = inside.is }) inside.together;
  }

  pub labels : (t : PlainDepths) → AreDepths n parts (is_cut_or_extra vs.cut vs.marks) t → AreDepths n parts (pin_is_voted n parts vs) t
  labels t d = depths_alike n parts (is_cut_or_extra vs.cut vs.marks) (pin_is_voted n parts vs) t (λ y j x inside. sym (votes.own y j x inside)) d
