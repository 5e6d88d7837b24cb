use Rattle.std.proofs.Common.{sym, ◌∙◌}
use Rattle.certificate.specs.Text.{cert_text}
use Rattle.certificate.proofs.Lengths.{text_length}
use Rattle.certificate.proofs.RoundTrip.{fold_of_text_again}
use Rattle.certificate.proofs.Same.{same_reading}
use Rattle.certificate.proofs.Stepping.{all_left}
use Rattle.certificate.proofs.cert_text.CertText.in_pieces.Goals as goal

pub returns-clause-text : goal.returns-clause-text
returns-clause-text c = c.new.ensures ∙ all_left c.args.n.now.net c.args.h.now.net c.args.k.now

pub returns-clause-read : goal.returns-clause-read
returns-clause-read c =
    let n = c.args.n.now.net in
    let h = c.args.h.now.net in
    sym (same_reading n h (cert_text n h c.args.k.now))
    ∙ fold_of_text_again n h c.args.k.now c.input_count.ensures.design.valid c.input_count-2.ensures.design.valid c.parts.ensures.cert c.requires

pub returns-clause-length : goal.returns-clause-length
returns-clause-length c = text_length c.args.n.now.net c.args.h.now.net c.args.k.now c.parts.ensures.cert
