use Rattle.std.proofs.Common.{rules}
use Rattle.hierarchy.specs.Flatten.{IsFlat}
use Rattle.hierarchy.proofs.OneAnswer.{one_flat}
use Rattle.hierarchy.proofs.Marks.{flat_marked}
use Rattle.hierarchy.proofs.design.flattening.flatten.Goals as goal

pub returns-in-Ok-clause-ok_only : goal.returns-in-Ok-clause-ok_only
returns-in-Ok-clause-ok_only c = λ n open_values is.
    let told : IsFlat c.args.lib.now c.args.limit c.unmarked.result.net.net c.unmarked.result.assumed = search rules in
    one_flat c.args.lib.now c.args.limit c.unmarked.result.net.net n c.unmarked.result.assumed open_values told is

pub returns-in-Err-clause-ok_only : goal.returns-in-Err-clause-ok_only
returns-in-Err-clause-ok_only c = λ n open_values is. c.in-Err.ensures.ok_only n _ (flat_marked c.args.lib.now c.args.limit n open_values is)
