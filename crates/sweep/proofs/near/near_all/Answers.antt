use Rattle.std.proofs.Common.{◌+◌, ◌∙◌, ℕ, length, ap, sym, arith}
use Rattle.std.specs.List.{sum_by, range_with_len}
use Rattle.triplicate.specs.Planned.{cert_in}
use Rattle.exposure.specs.Counts.{near_in, near_inputs}
use Rattle.exposure.proofs.Bounds.{total_fits}
use Rattle.sweep.proofs.SweepLaws.{depths_are}
use Rattle.sweep.proofs.near.near_all.Goals as goal

pub overflow_add-result : goal.overflow_add-result
overflow_add-result c = omega (arith, total_fits (cert_in c.args.n.now.net c.args.plan.now) (length c.args.depths.now) c.near_inputs-inputs.result c.near_parts-parts.result c.requires.cert c.near_inputs-inputs.ensures c.near_parts-parts.ensures)

pub returns : goal.returns
returns c =
    let count = ap length (c.requires.depths ∙ sym (depths_are c.args.n.now.net c.args.plan.now)) in
    ap (λ (i : ℕ). i + c.near_parts-parts.result) c.near_inputs-inputs.ensures
    ∙ (ap (λ (p : ℕ). near_inputs (cert_in c.args.n.now.net c.args.plan.now) + p) (c.near_parts-parts.ensures ∙ ap (λ (m : ℕ). sum_by (near_in (cert_in c.args.n.now.net c.args.plan.now)) (range_with_len 0 m)) count))
