use Rattle.std.proofs.Common.{Result}
use Rattle.certificate.specs.Cert.{PlainCert}
use Rattle.certificate.specs.Gives as certificate
use Rattle.certificate.specs.Reading.{cert_of_text}
use Rattle.certificate.specs.declared.fault.CertFault.{CertFault}
use Rattle.tmr_top.specs.Loads.{Load}
use Rattle.tmr_top.specs.Private.Opened.{bytes_file}
use Rattle.tmr_top.specs.Private.PairFiles.{ReadsCertificate}
use Rattle.tmr_top.proofs.LimitLaws.{opened_within}
use Rattle.tmr_top.proofs.LoadLaws.{opens_one}
use Rattle.tmr_top.proofs.loads.load_certificate.Goals as goal

pub returns-clause-opens : goal.returns-clause-opens
returns-clause-opens g c =
    let took = c.take_certificate.ensures in
    let n = c.args.n.now.net in
    let h = c.args.h.now.net in
    let name = c.args.words.now.certificate.now in
    opened_within name c.hardened.result _ (λ (load : Load) (read : Result PlainCert CertFault) held. ReadsCertificate held load n h read) _ _ _ _ c.take_certificate.result c.hardened.ensures.is
    (opens_one (bytes_file name c.hardened.result) (λ (read : Result PlainCert CertFault) bytes. certificate.Gives (λ k. k) read (cert_of_text n h bytes)) _ _ _ _ c.take_certificate.result took.stays took.changes took.steady took.read took.quiet took.stop took.steady_stop)
