use Rattle.tmr_top.specs.Files.{IsFine}
use Rattle.tmr_top.specs.Loads.{Load, Bytes}
use Rattle.tmr_top.specs.Private.Opened.{bytes_file}
use Rattle.tmr_top.proofs.LimitLaws.{opened_within}
use Rattle.tmr_top.proofs.LoadLaws.{opens_passed}
use Rattle.tmr_top.proofs.loads.pass_certificate.Goals as goal

pub returns : goal.returns
returns g c =
    let took = c.take_pieces.ensures in
    opened_within c.args.words.now.certificate.now c.hardened-limit.result _ (λ (load : Load) x held. IsFine held load) _ _ _ _ c.take_pieces.result c.hardened-limit.ensures.is
    (opens_passed (bytes_file c.args.words.now.certificate.now c.hardened-limit.result) _ _ _ _ _ _ _ _ c.take_pieces.result took.stays took.changes took.steady took.taken took.quiet (took.stop Bytes) (λ s. took.steady_stop s Bytes))
