use Rattle.std.proofs.Common.{ℕ, ◌≤◌, ◌<◌, ◌⊎◌, arith, rules, below_more, inl, inr}
use Rattle.certificate.specs.Rules.{Rule8}
use Rattle.validator.proofs.OutputLaws.{rule_8_past, rule_8_missing}
use Rattle.validator.proofs.outputs.first_bad_output.Goals as goal

pub loop-j-preserved : goal.loop-j-preserved
loop-j-preserved c =
    let here : Rule8 c.args.n.now.net c.args.h.now.net c.args.c.now c.loop-j.j = search rules in
    below_more _ _ c.loop-j.invariant here

pub returns-then-from : goal.returns-then-from
returns-then-from c =
    (rule_8_missing c.args.n.now.net c.args.h.now.net c.args.c.now c.output_count-count.result (omega arith) (omega arith), λ j l. c.loop-j.invariant j (omega arith))

pub returns : goal.returns
returns c i = go (cases i c.loop-j.j)
  where
    cases : (a b : ℕ) → (a < b) ⊎ (b ≤ a)
    cases a b = grind arith

    go : (i < c.loop-j.j) ⊎ (c.loop-j.j ≤ i) → Rule8 c.args.n.now.net c.args.h.now.net c.args.c.now i
    go (inl l) = c.loop-j.invariant i l
    go (inr past) = rule_8_past c.args.n.now.net c.args.h.now.net c.args.c.now i (omega arith) (omega arith)
