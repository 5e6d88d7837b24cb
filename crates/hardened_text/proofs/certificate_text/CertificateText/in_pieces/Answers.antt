use Rattle.std.proofs.Common.{◌∙◌}
use Rattle.hardened_text.proofs.Wholes.{certificate_whole}
use Rattle.hardened_text.proofs.certificate_text.CertificateText.in_pieces.Goals as goal

pub returns : goal.returns
returns c = c.new-2.ensures ∙ certificate_whole c.args.n.now c.args.form.now c.requires
