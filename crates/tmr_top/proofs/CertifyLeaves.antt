-- What `certify` leaves in its file.
use Rattle.std.proofs.Common.{◌≡◌, ◌≢◌, ℕ, List, [], ◌∷◌, Option, Some, None, refl, sym, ap, subst, ◌∙◌}
use Rattle.std.specs.Prelude.{IfSome, IsSomeAnd, count_by}
use Rattle.std.specs.FinMap.{get, insert}
use Rattle.certificate.specs.Text.{cert_text}
use Rattle.tmr_outside.specs.Contents.{Contents}
use Rattle.tmr_outside.specs.Seen.{FilesSeen}
use Rattle.tmr_outside.proofs.ContentsLemmas.{get-insert_other, get-insert_same}
use Rattle.tmr_words.specs.Line.{Command, Certifying, Certify, Validate}
use Rattle.tmr_top.specs.Loads.{original_file, hardened_file, certificate_file}
use Rattle.tmr_top.specs.Designs.{HoldsDesign}
use Rattle.tmr_top.specs.Pairs.{ReadPair, HoldsPair, HoldsCertificate}
use Rattle.tmr_texts.specs.Texts.{accepted_line}
use Rattle.tmr_top.specs.Causes.{Where, Succeeds}
use Rattle.tmr_top.specs.Saves.{with_texts, IsDone, Completes}
use Rattle.tmr_top.specs.Certified.{certified_pair}
use Rattle.tmr_top.specs.HardenedFiles.{LeavesCertified}

module _ (w : Certifying) (held now : Contents) (text : List ℕ) (one : w.certificate ≢ w.original) (other : w.certificate ≢ w.hardened) (is : IsDone (Certify w) held (Some now) text) where
  abbrev certificate : List ℕ
  certificate = cert_text is.outcome.designs.original is.outcome.designs.hardened is.outcome.certificate

  saved : now ≡ insert held w.certificate certificate
  saved =
      let same : now ≡ with_texts held (w.certificate ∷ []) is.saved = let e = is.whole in cc in
      same ∙ ap (with_texts held (w.certificate ∷ [])) is.outcome.saves

  certificate_there : get now w.certificate ≡ Some certificate
  certificate_there = ap (λ (m : Contents). get m w.certificate) saved ∙ get-insert_same held w.certificate certificate

  certificate_read : HoldsCertificate now (certificate_file w.limits w.certificate) is.outcome.designs.original is.outcome.designs.hardened is.outcome.certificate
  certificate_read = record { bytes = certificate; there = certificate_there; short = is.outcome.short; fact = is.outcome.read }

  original_there : get now w.original ≡ Some is.outcome.designs.original_read.bytes
  original_there =
      ap (λ (m : Contents). get m w.original) saved
      ∙ (get-insert_other held w.certificate certificate w.original (λ same. one (sym same)) ∙ is.outcome.designs.original_read.there)

  hardened_there : get now w.hardened ≡ Some is.outcome.designs.hardened_read.bytes
  hardened_there =
      ap (λ (m : Contents). get m w.hardened) saved
      ∙ (get-insert_other held w.certificate certificate w.hardened (λ same. other (sym same)) ∙ is.outcome.designs.hardened_read.there)

  original_read : HoldsDesign now (original_file w.limits w.original) is.outcome.designs.original is.outcome.designs.free
  original_read = record {
    bytes = is.outcome.designs.original_read.bytes;
    there = original_there;
    short = is.outcome.designs.original_read.short;
    fact = is.outcome.designs.original_read.fact;
  }

  hardened_read : HoldsDesign now (hardened_file w.limits w.hardened) is.outcome.designs.hardened is.outcome.designs.hardened_free
  hardened_read = record {
    bytes = is.outcome.designs.hardened_read.bytes;
    there = hardened_there;
    short = is.outcome.designs.hardened_read.short;
    fact = is.outcome.designs.hardened_read.fact;
  }

  abbrev pair : ReadPair
  pair = record {
    original = is.outcome.designs.original;
    free = is.outcome.designs.free;
    hardened = is.outcome.designs.hardened;
    hardened_free = is.outcome.designs.hardened_free;
    certificate = is.outcome.certificate;
  }

  holds : HoldsPair now (certified_pair w) pair
  holds = record { original_read = original_read; hardened_read = hardened_read; certificate_read = certificate_read }

  validates : Succeeds (Validate (certified_pair w)) now
  validates = record {
    fine = (
      record { bytes = original_read.bytes; there = original_read.there; short = original_read.short; fact = tt },
      (
        record { bytes = hardened_read.bytes; there = hardened_read.there; short = hardened_read.short; fact = tt },
        (record { bytes = certificate; there = certificate_there; short = is.outcome.short; fact = tt }, tt),
      ),
    );
    saved = [];
    text = accepted_line is.outcome.certificate (count_by (λ bit. bit) pair.free) (count_by (λ bit. bit) pair.hardened_free);
    outcome = (record { pair = pair; holds = holds; accepts = is.outcome.accepted.rules; says = refl }, refl);
  }

  whole : LeavesCertified w held now
  whole = record {
    designs = is.outcome.designs;
    certificate = is.outcome.certificate;
    accepted = is.outcome.accepted;
    certificate_read = certificate_read;
    validates = validates;
  }

-- the same, whatever is told
leaves_certified : (w : Certifying) (held now : Option Contents) → (w.certificate ≢ w.original) × (w.certificate ≢ w.hardened) → IfSome held (λ h. Completes (Certify w) h now) → IfSome held (λ h. IsSomeAnd now (LeavesCertified w h))
leaves_certified w None now apart is = tt
leaves_certified w (Some h) None apart is = let e = is.is_done.whole in absurd cc
leaves_certified w (Some h) (Some m) apart is = whole w h m is.text apart.0 apart.1 is.is_done

-- the same, where the words mean a search for a certificate
pub certifies : (line : Option Command) (w : Certifying) (old new : FilesSeen) → line ≡ Some (Certify w) → (w.certificate ≢ w.original) × (w.certificate ≢ w.hardened) → Where line old (λ c held. Completes c held new.contents) → IfSome old.contents (λ h. IsSomeAnd new.contents (LeavesCertified w h))
certifies line w old new is apart done = leaves_certified w old.contents new.contents apart (subst (λ (l : Option Command). Where l old (λ c held. Completes c held new.contents)) is done)
