use Rattle.std.proofs.Common.{◌∙◌}
use Rattle.hardened_text.proofs.Wholes.{design_whole}
use Rattle.hardened_text.proofs.design_text.DesignText.in_pieces.Goals as goal

pub returns : goal.returns
returns c = c.new-2.ensures ∙ design_whole c.args.n.now c.args.form.now c.requires
