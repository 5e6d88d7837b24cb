use Rattle.std.proofs.Common.{[], ◌∷◌, ◌++◌, ◌∙◌, ap, arith}
use Rattle.graph.proofs.EndLaws.{rows_kept, rows_added}
use Rattle.graph.proofs.rows.Graph.push.Goals as goal

pub invariant_of-self-in-Ok : goal.invariant_of-self-in-Ok
invariant_of-self-in-Ok c =
    rows_kept c.self.inside.ends c.self.inside.reads.items c.args.row.now c.len-from.result _ c.self.invariant (let e = c.len-from.ensures in omega arith) (omega arith) c.push.new.self c.extend_from_slice.new.self.items c.in-Ok.ensures.more c.in_ok-extend_from_slice.ensures.items

pub returns-in-Ok : goal.returns-in-Ok
returns-in-Ok c =
    rows_added c.self.inside.ends c.self.inside.reads.items c.args.row.now c.len-from.result _ c.self.invariant (let e = c.len-from.ensures in omega arith) (omega arith) c.push.new.self c.extend_from_slice.new.self.items c.in-Ok.ensures.more c.in_ok-extend_from_slice.ensures.items ∙ ap (λ rows. rows ++ c.args.row.now ∷ []) c.self.view_is
