use Rattle.std.proofs.Common.{◌-◌, sym, ◌∙◌, ap, arith}
use Rattle.std.specs.Prelude.{cond, length}
use Rattle.flat_net.proofs.Slots.{slot_below}
use Rattle.recovery_depth.specs.Hardened.{is_copy}
use Rattle.recovery_depth.proofs.copies.copied.Goals as goal

pub returns-then-f-inputs : goal.returns-then-f-inputs
returns-then-f-inputs c =
    c.nodes_of-past.ensures.count ∙ sym (ap (λ o. cond (is_copy o) (c.args.f.0 - length c.args.h.now.net.inputs) (length c.args.h.now.net.nodes)) (slot_below c.args.c.now.hardened_inputs c.args.c.now.roles c.args.f.0 (omega (arith, c.if-f-inputs.true, c.input_count-inputs.ensures.count, c.requires.fits.hardened_inputs))))
