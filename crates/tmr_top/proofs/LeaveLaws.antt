-- What `harden` leaves in its files.
use Rattle.std.proofs.Common.{◌≡◌, ◌≢◌, ℕ, List, [], ◌∷◌, Option, Some, None, refl, ap, subst, ◌∙◌}
use Rattle.std.specs.Prelude.{IfSome, IsSomeAnd, count_by}
use Rattle.std.specs.FinMap.{get, insert}
use Rattle.blif_writer.specs.Text.{free_text}
use Rattle.certificate.specs.Text.{cert_text}
use Rattle.tmr_outside.specs.Contents.{Contents}
use Rattle.tmr_outside.specs.Seen.{FilesSeen}
use Rattle.tmr_outside.proofs.ContentsLemmas.{get-insert_other, get-insert_same}
use Rattle.tmr_words.specs.Line.{Command, Hardening, Harden, Validate}
use Rattle.tmr_top.specs.Loads.{original_file, hardened_file, certificate_file}
use Rattle.tmr_top.specs.Designs.{HoldsDesign}
use Rattle.tmr_top.specs.Pairs.{ReadPair, HoldsPair, HoldsCertificate}
use Rattle.tmr_texts.specs.Texts.{accepted_line}
use Rattle.tmr_top.specs.Causes.{Where, Succeeds}
use Rattle.tmr_top.specs.Saves.{with_texts, IsDone, Completes}
use Rattle.tmr_top.specs.HardenedFiles.{written_pair, LeavesHardened}

module _ (w : Hardening) (held now : Contents) (text : List ℕ) (differ : w.hardened ≢ w.certificate) (is : IsDone (Harden w) held (Some now) text) where
  abbrev design : List ℕ
  design = free_text is.outcome.hardened is.outcome.marks

  abbrev certificate : List ℕ
  certificate = cert_text is.outcome.original is.outcome.hardened is.outcome.certificate

  abbrev first : Contents
  first = insert held w.hardened design

  saved : now ≡ insert first w.certificate certificate
  saved =
      let same : now ≡ with_texts held (w.hardened ∷ w.certificate ∷ []) is.saved = let e = is.whole in cc in
      same ∙ ap (with_texts held (w.hardened ∷ w.certificate ∷ [])) is.outcome.saves

  certificate_there : get now w.certificate ≡ Some certificate
  certificate_there = ap (λ (m : Contents). get m w.certificate) saved ∙ get-insert_same first w.certificate certificate

  hardened_there : get now w.hardened ≡ Some design
  hardened_there =
      ap (λ (m : Contents). get m w.hardened) saved
      ∙ (get-insert_other first w.certificate certificate w.hardened differ ∙ get-insert_same held w.hardened design)

  hardened_read : HoldsDesign now (hardened_file w.limits w.hardened) is.outcome.hardened is.outcome.marks
  hardened_read = record { bytes = design; there = hardened_there; short = is.outcome.read.design_short; fact = is.outcome.read.design_read }

  certificate_read : HoldsCertificate now (certificate_file w.limits w.certificate) is.outcome.original is.outcome.hardened is.outcome.certificate
  certificate_read = record { bytes = certificate; there = certificate_there; short = is.outcome.read.certificate_short; fact = is.outcome.read.certificate_read }

  module _ (one : w.original ≢ w.hardened) (other : w.original ≢ w.certificate) where
    original_there : get now w.original ≡ Some is.outcome.holds.bytes
    original_there =
        ap (λ (m : Contents). get m w.original) saved
        ∙ (get-insert_other first w.certificate certificate w.original other
        ∙ (get-insert_other held w.hardened design w.original one ∙ is.outcome.holds.there))

    original_read : HoldsDesign now (original_file w.limits w.original) is.outcome.original is.outcome.free
    original_read = record { bytes = is.outcome.holds.bytes; there = original_there; short = is.outcome.holds.short; fact = is.outcome.holds.fact }

    abbrev pair : ReadPair
    pair = record {
      original = is.outcome.original;
      free = is.outcome.free;
      hardened = is.outcome.hardened;
      hardened_free = is.outcome.marks;
      certificate = is.outcome.certificate;
    }

    holds : HoldsPair now (written_pair w) pair
    holds = record { original_read = original_read; hardened_read = hardened_read; certificate_read = certificate_read }

    validates : Succeeds (Validate (written_pair w)) now
    validates = record {
      fine = (
        record { bytes = original_read.bytes; there = original_read.there; short = original_read.short; fact = tt },
        (
          record { bytes = design; there = hardened_there; short = is.outcome.read.design_short; fact = tt },
          (record { bytes = certificate; there = certificate_there; short = is.outcome.read.certificate_short; fact = tt }, tt),
        ),
      );
      saved = [];
      text = accepted_line is.outcome.certificate (count_by (λ bit. bit) is.outcome.free) (count_by (λ bit. bit) is.outcome.marks);
      outcome = (record { pair = pair; holds = holds; accepts = is.outcome.form.form.corresponds; says = refl }, refl);
    }

  whole : LeavesHardened w held now
  whole = record {
    original = is.outcome.original;
    free = is.outcome.free;
    original_held = is.outcome.holds;
    hardened = is.outcome.hardened;
    marks = is.outcome.marks;
    certificate = is.outcome.certificate;
    form = is.outcome.form;
    hardened_read = hardened_read;
    certificate_read = certificate_read;
    validates = validates;
  }

-- the same, whatever is told
leaves_hardened : (w : Hardening) (held now : Option Contents) → w.hardened ≢ w.certificate → IfSome held (λ h. Completes (Harden w) h now) → IfSome held (λ h. IsSomeAnd now (LeavesHardened w h))
leaves_hardened w None now differ is = tt
leaves_hardened w (Some h) None differ is = let e = is.is_done.whole in absurd cc
leaves_hardened w (Some h) (Some m) differ is = whole w h m is.text differ is.is_done

-- the same, where the words mean a hardening
pub leaves : (line : Option Command) (w : Hardening) (old new : FilesSeen) → line ≡ Some (Harden w) → w.hardened ≢ w.certificate → Where line old (λ c held. Completes c held new.contents) → IfSome old.contents (λ h. IsSomeAnd new.contents (LeavesHardened w h))
leaves line w old new is differ done = leaves_hardened w old.contents new.contents differ (subst (λ (l : Option Command). Where l old (λ c held. Completes c held new.contents)) is done)
