use Rattle.std.proofs.Common.{◌∙◌}
use Rattle.guarded_text.proofs.Wholes.{guarded_whole, text_length, text_again}
use Rattle.guarded_text.proofs.text.GuardedText.in_pieces.Goals as goal

pub returns-in_err-control-clause-length : goal.returns-in_err-control-clause-length
returns-in_err-control-clause-length c = text_length c.args.n.now c.requires c.input_count-inputs.ensures.design

pub returns-in_err-control-clause-again : goal.returns-in_err-control-clause-again
returns-in_err-control-clause-again c = text_again c.args.n.now c.requires c.input_count-inputs.ensures.design

pub returns-in_err-control-clause-guards : goal.returns-in_err-control-clause-guards
returns-in_err-control-clause-guards c = c.guarded_designs_tell.ensures c.args.n.now.net c.input_count-inputs.ensures.design.valid

pub returns-clause-text : goal.returns-clause-text
returns-clause-text c = c.new-2.ensures ∙ guarded_whole c.args.n.now.net c.input_count-inputs.ensures.design.valid

pub returns-clause-length : goal.returns-clause-length
returns-clause-length c = text_length c.args.n.now c.requires c.input_count-inputs.ensures.design

pub returns-clause-again : goal.returns-clause-again
returns-clause-again c = text_again c.args.n.now c.requires c.input_count-inputs.ensures.design

pub returns-clause-guards : goal.returns-clause-guards
returns-clause-guards c = c.guarded_designs_tell.ensures c.args.n.now.net c.input_count-inputs.ensures.design.valid
