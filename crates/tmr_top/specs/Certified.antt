-- `certify ORIG HARD CERT`: what it comes to.
use Rattle.std.specs.Prelude.{◌≡◌, ◌<◌, ◌≤◌, ◌≢◌, ℕ, ◌⊎◌, Bool, List, [], ◌∷◌, length, Ok, count_by}
use Rattle.flat_net.specs.Net.{Net}
use Rattle.certificate.specs.Cert.{PlainCert}
use Rattle.certificate.specs.Reading.{cert_of_text}
use Rattle.certificate.specs.Text.{cert_text}
use Rattle.certifying.specs.declared.cause.NoCertificate.{NoCertificate}
use Rattle.certifying.specs.declared.cause.NoCertificate.TheVariants.{Memory}
use Rattle.certifying.specs.Causes.{IsPlaced}
use Rattle.certifying.specs.Certified.{IsAccepted}
use Rattle.certifying.specs.Finest.{IsFinest}
use Rattle.certifying.specs.Least.{AreLeastLabels}
use Rattle.certifying.specs.Lines.{no_certificate_text}
use Rattle.limits.specs.Most.{most_hardened}
use Rattle.tmr_outside.specs.Contents.{Contents}
use Rattle.tmr_top.specs.declared.decision.Verdict.{Verdict}
use Rattle.tmr_top.specs.declared.decision.Verdict.TheVariants.{Done, NotAccepted, Refused}
use Rattle.tmr_words.specs.Line.{Pair, Certifying}
use Rattle.tmr_top.specs.Loads.{original_file, hardened_file}
use Rattle.tmr_top.specs.Designs.{HoldsDesign}
use Rattle.tmr_top.specs.Validated.{IsOriginalUnread, IsHardenedUnread}
use Rattle.tmr_texts.specs.Texts.{accepted_line, certificate_too_long}

-- the same three files, with the same limits
abbrev pub certified_pair : Certifying → Pair
certified_pair w = record { original = w.original; hardened = w.hardened; certificate = w.certificate; limits = w.limits }

-- both designs, each with its marks, as the two files hold them
pub record HeldDesigns (w : Certifying) (held : Contents) : Type 0 where
  pub original : Net
  pub free : List Bool
  pub original_read : HoldsDesign held (original_file w.limits w.original) original free
  pub hardened : Net
  pub hardened_free : List Bool
  pub hardened_read : HoldsDesign held (hardened_file w.limits w.hardened) hardened hardened_free

-- done: both designs are read, and a certificate of the version asked for is saved. The eight rules hold of it, it is the finest for its
-- roles, and no labels and depths are smaller. Its text is within the limit of a certificate, and is read back as it. What `validate` would
-- print of the three files is printed
pub record IsCertified (w : Certifying) (held : Contents) (saved : List (List ℕ)) (text : List ℕ) : Type 0 where
  pub designs : HeldDesigns w held
  pub certificate : PlainCert
  pub accepted : IsAccepted designs.original designs.free designs.hardened designs.hardened_free w.version certificate
  pub finest : IsFinest designs.original designs.free designs.hardened designs.hardened_free certificate
  pub least : AreLeastLabels designs.hardened certificate
  pub saves : saved ≡ cert_text designs.original designs.hardened certificate ∷ []
  pub short : length (cert_text designs.original designs.hardened certificate) ≤ most_hardened w.limits
  pub read : cert_of_text designs.original designs.hardened (cert_text designs.original designs.hardened certificate) ≡ Ok certificate
  pub says : text ≡ accepted_line certificate (count_by (λ bit. bit) designs.free) (count_by (λ bit. bit) designs.hardened_free)

-- a certificate is found, and its text is longer than a certificate may be
pub record IsTooLong (w : Certifying) (held : Contents) (text : List ℕ) : Type 0 where
  pub designs : HeldDesigns w held
  pub certificate : PlainCert
  pub accepted : IsAccepted designs.original designs.free designs.hardened designs.hardened_free w.version certificate
  pub long : most_hardened w.limits < length (cert_text designs.original designs.hardened certificate)
  pub says : text ≡ certificate_too_long

-- none is found, and the line names a place
pub record IsNotFound (w : Certifying) (held : Contents) (text : List ℕ) : Type 0 where
  pub designs : HeldDesigns w held
  pub cause : NoCertificate
  pub caused : cause ≢ Memory
  pub placed : IsPlaced designs.original designs.hardened cause
  pub says : text ≡ no_certificate_text designs.original designs.hardened cause

abbrev pub Certified : Certifying → Contents → Verdict → List (List ℕ) → List ℕ → Type 0
Certified w held Done saved text = IsCertified w held saved text
Certified w held NotAccepted saved text = IsNotFound w held text ⊎ IsTooLong w held text
Certified w held Refused saved text = IsOriginalUnread (certified_pair w) held text ⊎ IsHardenedUnread (certified_pair w) held text
