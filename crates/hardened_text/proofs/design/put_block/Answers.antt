use Rattle.std.proofs.Common.{◌∙◌}
use Rattle.triplicate.specs.Planned.{plan_votes}
use Rattle.hardened_text.proofs.BlockPuts.{block_put}
use Rattle.hardened_text.proofs.design.put_block.Goals as goal

pub returns : goal.returns
returns c =
    block_put c.args.n.now.net c.args.plan.now.parts (plan_votes c.args.n.now.net c.args.plan.now) c.args.free c.args.x c.bytes.result.now c.args.out.now.items c.put_own_copies.new.out.items c.put_voters.new.out.items c.row.result.now
    (c.bytes.ensures.bytes ∙ c.name.ensures) (c.row.ensures ∙ c.requires.voters.row c.args.x c.requires.net) c.in_ok-put_own_copies.ensures c.in_ok-put_voters.ensures
