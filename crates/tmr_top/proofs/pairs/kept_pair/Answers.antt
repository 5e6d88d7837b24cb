use Rattle.std.proofs.Common.{[], ◌∷◌}
use Rattle.tmr_words.specs.FileWords.{pair_in}
use Rattle.tmr_top.specs.Loads.{certificate_file}
use Rattle.tmr_top.specs.Pairs.{HoldsPair}
use Rattle.tmr_top.specs.Validated.{IsPairUnread}
use Rattle.tmr_top.specs.Private.Opened.{Keeps}
use Rattle.tmr_top.specs.Private.PairFiles.{AreDesigns, ReadsCertificate, IsBeforePair, pair_of}
use Rattle.tmr_top.proofs.LoadLaws.{opens_kept}
use Rattle.tmr_top.proofs.PairLaws.{before_pair}
use Rattle.tmr_top.proofs.pairs.kept_pair.Goals as goal

pub returns-in-Ok-clause-opens : goal.returns-in-Ok-clause-opens
returns-in-Ok-clause-opens g c =
    let p = pair_in c.args.words.now in
    let load = certificate_file p.limits p.certificate in
    opens_kept (load ∷ []) (λ read held. ReadsCertificate held load c.net-n.result.now.net c.net-h.result.now.net read) (IsBeforePair p c.args.designs c.in-Ok.read) (λ read held. HoldsPair held p (pair_of read)) (λ line held. IsPairUnread p held line)
    (λ kept held. AreDesigns p.limits p.original p.hardened c.args.designs held → Keeps (λ read held. HoldsPair held p (pair_of read)) (λ line held. IsPairUnread p held line) kept held) _ _ _ _ c.in-Ok.read c.read_pair.result c.keep.result c.keep.ensures c.in-Ok.ensures.opens c.read_pair.ensures.gives
    (λ kept held there keeps are. keeps (before_pair p c.args.designs _ _ c.in-Ok.read held c.net-n.ensures.net c.net-h.ensures.net are there))
