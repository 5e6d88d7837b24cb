use Rattle.std.proofs.Common.{[], ◌∷◌}
use Rattle.tmr_words.specs.FileWords.{pair_in}
use Rattle.tmr_top.specs.Loads.{original_file, hardened_file, certificate_file}
use Rattle.tmr_top.specs.Pairs.{HoldsPair}
use Rattle.tmr_top.specs.Validated.{IsPairUnread}
use Rattle.tmr_top.specs.declared.pair_files.PairRead.{PairRead}
use Rattle.tmr_top.specs.Private.Opened.{Keeps}
use Rattle.tmr_top.specs.Private.PairFiles.{AreDesigns, pair_of}
use Rattle.tmr_top.specs.Private.Refused.{AreRefused}
use Rattle.tmr_top.proofs.LoadLaws.{opens_then, stops_first, kept_read, kept_refused}
use Rattle.tmr_top.proofs.pairs.load_pair.Goals as goal

pub returns-in-Ok-Ok-clause-opens : goal.returns-in-Ok-Ok-clause-opens
returns-in-Ok-Ok-clause-opens g c =
    let p = pair_in c.args.words.now in
    let one = original_file p.limits p.original in
    let other = hardened_file p.limits p.hardened in
    opens_then (one ∷ other ∷ []) (certificate_file p.limits p.certificate ∷ []) _ _ (Keeps (λ (read : PairRead) held. HoldsPair held p (pair_of read)) (λ line held. IsPairUnread p held line)) _ _ _ _ _ _ c.in-Ok-Ok.field-0 c.kept_pair.result c.in-Ok-Ok.ensures.opens
    (λ kept held designs then. then (kept_read (AreDesigns p.limits p.original p.hardened) (AreRefused one other) c.in-Ok-Ok.field-0 c.in-Ok-Ok.designs held c.in-Ok-Ok.field-0-is designs))
    c.kept_pair.ensures.opens

pub returns-in-Ok-Err-clause-opens : goal.returns-in-Ok-Err-clause-opens
returns-in-Ok-Err-clause-opens g c =
    let p = pair_in c.args.words.now in
    let one = original_file p.limits p.original in
    let other = hardened_file p.limits p.hardened in
    opens_then (one ∷ other ∷ []) (certificate_file p.limits p.certificate ∷ []) _ _ (Keeps (λ (read : PairRead) held. HoldsPair held p (pair_of read)) (λ line held. IsPairUnread p held line)) _ _ _ _ _ _ c.in-Ok-Err.field-0 c.kept_refusal.result c.in-Ok-Err.ensures.opens
    (λ kept held designs then. then (kept_refused (AreDesigns p.limits p.original p.hardened) (AreRefused one other) c.in-Ok-Err.field-0 c.in-Ok-Err.line held c.in-Ok-Err.field-0-is designs))
    c.kept_refusal.ensures.opens

pub returns-in-Err-clause-opens : goal.returns-in-Err-clause-opens
returns-in-Err-clause-opens g c =
    let p = pair_in c.args.words.now in
    stops_first (original_file p.limits p.original ∷ hardened_file p.limits p.hardened ∷ []) (certificate_file p.limits p.certificate ∷ []) _ _ _ _ _ _ _ c.in-Err.ensures.opens
