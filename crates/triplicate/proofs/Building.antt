-- What a plan is made of is what a hardened design can be made from.
use Rattle.std.proofs.Common.{◌≡◌, ◌+◌, ◌≤◌, length, arith}
use Rattle.limits.specs.Most.{widest_nets}
use Rattle.tmr_base.specs.Parts.{PlainParts, AreParts}
use Rattle.flat_net.specs.Net.{Net, net_count, pin_total, IsValid}
use Rattle.recovery_depth.specs.Depths.{PlainDepths, AreDepths}
use Rattle.recovery_depth.specs.Extra.{is_extra, is_cut_or_extra}
use Rattle.triplicate.specs.declared.form.Form.{Form}
use Rattle.triplicate.specs.Choices.{IsCutOf}
use Rattle.triplicate.specs.Labels.{labeling}
use Rattle.triplicate.specs.Pins.{PlainVotes, pin_is_voted}
use Rattle.triplicate.specs.Given.{IsGiven}
use Rattle.triplicate.proofs.Votes.{votes, labels}
use Rattle.triplicate.proofs.Sizes.{roles_counted, few_voters, few_hardened_pins, outputs_few}

abbrev pub given_of : (kind : Form) (n : Net) (parts : PlainParts) (vs : PlainVotes) (t : PlainDepths) → IsValid n → net_count n + pin_total n ≤ widest_nets → length parts.of ≡ length n.nodes → AreParts parts → parts.count ≤ 4294967295
    → IsCutOf kind n parts vs.cut → AreDepths n parts (is_cut_or_extra vs.cut vs.marks) t → IsGiven n parts (pin_is_voted n parts vs) (labeling vs.inputs t)
given_of kind n parts vs t valid few long range few_parts meets depths = record {
  valid = valid;
  in_range = range;
  parts_long = long;
  few_parts = few_parts;
  kind = kind;
  cut = vs.cut;
  extra = is_extra vs.marks;
  votes = votes kind n parts vs meets;
  labels = labels kind n parts vs meets t depths;
  few_outputs = omega (arith, outputs_few n valid, few);
  few_pins = omega (arith, few_hardened_pins n parts (pin_is_voted n parts vs) valid, few_voters n parts (pin_is_voted n parts vs) valid, few);
  few = omega (arith, roles_counted n parts (pin_is_voted n parts vs), few_voters n parts (pin_is_voted n parts vs) valid, few);
}
