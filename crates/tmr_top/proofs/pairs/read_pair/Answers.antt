use Rattle.std.proofs.Common.{◌≢◌}
use Rattle.certificate.specs.declared.fault.CertFault.TheVariants.{Memory}
use Rattle.tmr_texts.specs.Reasons.{cert_reason}
use Rattle.tmr_words.specs.FileWords.{pair_in}
use Rattle.tmr_top.specs.Validated.{IsPairUnread}
use Rattle.tmr_top.specs.Private.PairFiles.{IsBeforePair}
use Rattle.tmr_top.proofs.LoadLaws.{is_refusal}
use Rattle.tmr_top.proofs.PairLaws.{given_pair, given_fault, given_fit}
use Rattle.tmr_top.proofs.pairs.read_pair.Goals as goal

pub returns-in-Ok-clause-gives : goal.returns-in-Ok-clause-gives
returns-in-Ok-clause-gives c = given_pair (pair_in c.args.words.now) c.args.designs c.args.read c.in-Ok.certificate _ c.in-Ok.is c.join_pair.ensures.original c.join_pair.ensures.hardened c.join_pair.ensures.certificate

pub returns-in-Ok-clause-fit : goal.returns-in-Ok-clause-fit
returns-in-Ok-clause-fit c = given_fit c.args.words.now.limits c.args.designs c.args.read c.in-Ok.certificate _ c.in-Ok.is c.join_pair.ensures.original c.join_pair.ensures.hardened c.join_pair.ensures.certificate c.requires.fits c.requires.within.few

pub returns-in-Err-clause-gives : goal.returns-in-Err-clause-gives
returns-in-Err-clause-gives c =
    let p = pair_in c.args.words.now in
    is_refusal p.certificate c.cert_reason.result (cert_reason c.in-Err.fault) (c.in-Err.fault ≢ Memory) (IsBeforePair p c.args.designs c.args.read) (λ line held. IsPairUnread p held line) _ c.refuse_for.ensures c.cert_reason.ensures.reason c.cert_reason.ensures.caused
    (λ line held says caused before. given_fault p c.args.designs c.args.read c.in-Err.fault line held c.in-Err.is caused says before)
