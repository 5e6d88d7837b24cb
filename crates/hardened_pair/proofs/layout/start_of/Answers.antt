use Rattle.std.proofs.Common.{◌∙◌, arith}
use Rattle.std.proofs.lemmas.List.{get_or_default}
use Rattle.hardened_pair.proofs.layout.start_of.Goals as goal

pub returns : goal.returns
returns c = c.index.ensures ∙ (get_or_default c.args.layout.now.starts.items c.args.x c.index.result.now 0 (omega (arith, c.requires.net, c.requires.layout.starts.long)) ∙ c.requires.layout.starts.each c.args.x c.requires.net)
