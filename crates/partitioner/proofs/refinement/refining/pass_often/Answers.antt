use Rattle.std.proofs.Common.{◌≡◌, ◌-◌, ◌+◌, ◌∙◌, ℕ, sym, ap, arith}
use Rattle.std.proofs.lemmas.Bool.{false≢true}
use Rattle.partitioner.specs.Refining.{pass, refined}
use Rattle.partitioner.specs.Private.Tracking.{held_parts}
use Rattle.partitioner.proofs.RefineLaws.{refined_none, refined_more, refined_fixed}
use Rattle.partitioner.proofs.refinement.refining.pass_often.Goals as goal

pub loop-left-init : goal.loop-left-init
loop-left-init c =
    let none : 0 ≡ c.args.passes - c.args.passes = omega arith in
    (c.requires.ready, sym (refined_none c.args.n.now.net c.args.size (held_parts c.args.p.now)) ∙ ap (λ (k : ℕ). refined c.args.n.now.net c.args.size (held_parts c.args.p.now) k) none, omega arith, c.requires.rests)

pub returns-then-not-branch-clause-parts : goal.returns-then-not-branch-clause-parts
returns-then-not-branch-clause-parts c =
    let n = c.args.n.now.net in
    let before = held_parts c.args.p.now in
    let k = c.args.passes - c.loop-left.left in
    let still = c.in_ok-pass_once.ensures.still c.if-not-branch.true in
    let fixed : pass n c.args.size (refined n c.args.size before k) ≡ refined n c.args.size before k =
    ap (pass n c.args.size) (sym c.loop-left.invariant.1) ∙ (sym c.in_ok-pass_once.ensures.parts ∙ (still ∙ c.loop-left.invariant.1)) in
    still ∙ (c.loop-left.invariant.1 ∙ sym (refined_fixed n c.args.size before k c.args.passes (omega arith) fixed))

pub loop-left-preserved : goal.loop-left-preserved
loop-left-preserved c =
    let n = c.args.n.now.net in
    let before = held_parts c.args.p.now in
    let more : (c.args.passes - c.loop-left.left) + 1 ≡ c.args.passes - (c.loop-left.left - 1) = omega (arith, c.loop-left.invariant.2, c.loop-left-test.true) in (
      c.in_ok-pass_once.ensures.ready,
      c.in_ok-pass_once.ensures.parts ∙ (ap (pass n c.args.size) c.loop-left.invariant.1 ∙ (sym (refined_more n c.args.size before (c.args.passes - c.loop-left.left)) ∙ ap (λ (k : ℕ). refined n c.args.size before k) more)),
      omega (arith, c.loop-left.invariant.2),
      c.in_ok-pass_once.ensures.rests,
    )

pub returns : goal.returns
returns c =
    let all : c.args.passes - c.loop-left.left ≡ c.args.passes = omega (arith, c.loop-left-test.false) in
    record {
      ready = c.loop-left.invariant.0;
      rests = c.loop-left.invariant.3;
      parts = c.loop-left.invariant.1 ∙ ap (λ (k : ℕ). refined c.args.n.now.net c.args.size (held_parts c.args.p.now) k) all;
      minimal = λ h. absurd (false≢true h);
    }
