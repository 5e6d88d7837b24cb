use Rattle.std.proofs.Common.{◌-◌, ◌∙◌, ℕ, ap, arith}
use Rattle.std.specs.Prelude.{slice_index}
use Rattle.sweep.proofs.CountLaws.{copies_more}
use Rattle.sweep.proofs.counting.count_copies.Goals as goal

pub returns-then-x-inputs : goal.returns-then-x-inputs
returns-then-x-inputs c =
    copies_more c.args.n.now.net c.args.plan.now c.args.x c.of-part.result c.args.counts.now c.requires.parts (omega (arith, c.if-x-inputs.true, c.input_count-inputs.ensures.count)) c.requires.net
    (c.of-part.ensures.value ∙ ap (λ (i : ℕ). slice_index c.args.plan.now.parts.of (c.args.x - i)) c.input_count-inputs.ensures.count) (omega (arith, c.of-part.ensures.range, c.requires.long))
