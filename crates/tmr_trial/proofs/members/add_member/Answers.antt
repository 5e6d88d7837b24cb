use Rattle.tmr_base.specs.declared.copies.CopyNo.TheVariants.{First, Second, Third}
use Rattle.tmr_trial.proofs.members.add_member.Goals as goal

pub add-requires : goal.add-requires
add-requires c = c.requires First

pub add-requires-in-Second : goal.add-requires-in-Second
add-requires-in-Second c = c.requires Second

pub add-requires-in-Third : goal.add-requires-in-Third
add-requires-in-Third c = c.requires Third
