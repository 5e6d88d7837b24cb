use Rattle.tmr_top.proofs.GuardSize.{guarded_within}
use Rattle.tmr_top.proofs.commands.guard.text_keeps_limit.Goals as goal

pub returns : goal.returns
returns c = guarded_within c.args.words.now.limits _ _ c.checked_nodes-original.ensures.valid c.requires
