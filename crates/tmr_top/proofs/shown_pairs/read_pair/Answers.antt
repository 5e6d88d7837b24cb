use Rattle.std.proofs.Common.{ℕ, List, subst, sym}
use Rattle.tmr_words.specs.FileWords.{pair_in}
use Rattle.tmr_top.specs.Explained.{IsPairShown}
use Rattle.tmr_top.specs.Loads.{original_file, hardened_file, certificate_file}
use Rattle.tmr_top.specs.Private.Opened.{HoldsBytes}
use Rattle.tmr_top.specs.Private.Shown.{AreDesignBytes, ArePairBytes, AreShown, IsShownCertificate}
use Rattle.tmr_top.proofs.LoadLaws.{refusal_more}
use Rattle.tmr_top.proofs.PairLaws.{pair_read, fit_pair}
use Rattle.tmr_top.proofs.ShownLaws.{designs_shown, certificate_shown}
use Rattle.tmr_top.proofs.shown_pairs.read_pair.Goals as goal

pub returns-in-Ok-read_certificate-clause-gives : goal.returns-in-Ok-read_certificate-clause-gives
returns-in-Ok-read_certificate-clause-gives c = λ held loaded.
    let p = pair_in c.args.words.now in
    let bytes = subst (λ (b : List ℕ). HoldsBytes held (certificate_file p.limits p.certificate) b) (sym c.deref.ensures.value) loaded.certificate_loaded in
    pair_read p held c.in-Ok.designs c.in-Ok-read_certificate.certificate _ c.join_pair.ensures.original c.join_pair.ensures.hardened c.join_pair.ensures.certificate
    (c.in-Ok.ensures.gives held loaded.designs) (c.in-Ok-read_certificate.ensures.gives held bytes)

pub returns-in-Ok-clause-gives : goal.returns-in-Ok-clause-gives
returns-in-Ok-clause-gives c =
    let p = pair_in c.args.words.now in
    let d = c.in-Ok.designs in
    refusal_more (λ held. HoldsBytes held (certificate_file p.limits p.certificate) c.deref.result.now) (ArePairBytes p c.args.loaded) (IsShownCertificate p.limits p.certificate d.original.design.net d.hardened.design.net) (λ text held. IsPairShown p held text) _ c.in-Err-read_certificate.ensures.gives
    (λ held loaded. subst (λ (b : List ℕ). HoldsBytes held (certificate_file p.limits p.certificate) b) (sym c.deref.ensures.value) loaded.certificate_loaded)
    (λ text held loaded shown. certificate_shown p text held d (c.in-Ok.ensures.gives held loaded.designs) shown)

pub returns-clause-gives : goal.returns-clause-gives
returns-clause-gives c =
    let p = pair_in c.args.words.now in
    refusal_more (AreDesignBytes p.limits p.original p.hardened c.args.loaded.designs) (ArePairBytes p c.args.loaded) (AreShown (original_file p.limits p.original) (hardened_file p.limits p.hardened)) (λ text held. IsPairShown p held text) _ c.in-Err.ensures.gives (λ held loaded. loaded.designs)
    (λ text held loaded shown. designs_shown p text held shown)

pub returns-in-Ok-read_certificate-clause-fit : goal.returns-in-Ok-read_certificate-clause-fit
returns-in-Ok-read_certificate-clause-fit c = fit_pair c.args.words.now.limits c.in-Ok.designs c.in-Ok-read_certificate.certificate _ c.join_pair.ensures.original c.join_pair.ensures.hardened c.join_pair.ensures.certificate c.in-Ok-read_certificate.ensures.fits c.in-Ok.ensures.within.few
