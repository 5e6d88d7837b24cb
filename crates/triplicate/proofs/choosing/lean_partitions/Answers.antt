use Rattle.std.proofs.Common.{◌≡◌, ◌⊎◌, inl, inr, ℕ, sym, ap, subst, arith}
use Rattle.tmr_base.specs.Parts.{PlainParts}
use Rattle.flat_net.specs.Net.{Net}
use Rattle.partitioner.specs.declared.refinement.refining.Refined.{Refined}
use Rattle.partitioner.specs.Cost.{cost}
use Rattle.partitioner.specs.Sizes.{plain_parts, KeepsSize}
use Rattle.partitioner.specs.Refining.{refined}
use Rattle.partitioner.proofs.PlainLaws.{plain_keeps_size}
use Rattle.partitioner.proofs.RefineLaws.{refined_keeps}
use Rattle.triplicate.specs.Private.Chosen.{AreTold}
use Rattle.triplicate.proofs.choosing.lean_partitions.Goals as goal

refined_size : (n : Net) (size : ℕ) (start parts : PlainParts) → parts ≡ refined n size start 8 → KeepsSize n size start → KeepsSize n size parts
refined_size n size start parts e keeps = subst (KeepsSize n size) (sym e) (refined_keeps n size start 8 keeps)

one_told : (n : Net) (size : ℕ) (first second chosen : Refined) → AreTold n size first → AreTold n size second → (chosen ≡ first) ⊎ (chosen ≡ second) → AreTold n size chosen
one_told n size first second chosen a b (inl e) = subst (AreTold n size) (sym e) a
one_told n size first second chosen a b (inr e) = subst (AreTold n size) (sym e) b

pub returns-clause-chosen : goal.returns-clause-chosen
returns-clause-chosen c =
    let n = c.args.n.now.net in
    let size = c.args.size in
    let standard = c.in_ok-first.ensures.chosen in
    let plain_told : AreTold n size c.in_ok-first.first.refined = record { keeps = refined_size n size (plain_parts n size) c.in_ok-first.first.refined.parts standard.parts (plain_keeps_size n size c.requires.size); range = standard.range; pairs = standard.pairs; minimal = standard.minimal } in
    let other = one_told n size c.in_ok-first.first.refined c.in_ok-lean.lean.refined c.cheaper-other.result plain_told c.in_ok-lean.ensures.told c.cheaper-other.ensures.given in
    let told = one_told n size c.in_ok-fast.fast.refined c.cheaper-other.result c.within-chosen.result c.in_ok-fast.ensures.told other c.within-chosen.ensures.given in
    record {
      parts = record {
        keeps = told.keeps;
        cheap = omega (arith, c.within-chosen.ensures.most, told.pairs, standard.pairs, ap (cost n) standard.parts);
      };
      long = told.keeps.each;
      range = told.range;
      pairs = told.pairs;
      plain_pairs = standard.plain_pairs;
      minimal = told.minimal;
    }
