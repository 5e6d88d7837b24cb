use Rattle.std.proofs.Common.{◌∙◌, ◌<◌, ◌+◌, ℕ, length, subst, sym, arith}
use Rattle.schedule_replay.proofs.BesideLaws.{input_without_role, role_net_within, role_net_of_copy}
use Rattle.schedule_replay.proofs.origins.origin_of.Goals as goal

pub returns-then-y-inputs-clause-copy : goal.returns-then-y-inputs-clause-copy
returns-then-y-inputs-clause-copy c = λ x d role. absurd (input_without_role c.args.c.now c.args.y.0 x d (let e = c.requires.inputs in let t = c.if-y-inputs.true in omega arith) role)

pub returns-else-y-inputs-clause-range : goal.returns-else-y-inputs-clause-range
returns-else-y-inputs-clause-range c =
    let k = c.args.c.now in
    subst (λ (m : ℕ). m < k.original_inputs + length k.part) (sym c.net_of_role.ensures) (role_net_within k c.role.result c.role.ensures.range)

pub returns-else-y-inputs-clause-copy : goal.returns-else-y-inputs-clause-copy
returns-else-y-inputs-clause-copy c = λ x d role. c.net_of_role.ensures ∙ role_net_of_copy c.args.c.now c.args.y.0 x d c.role.result c.role.ensures.role role
