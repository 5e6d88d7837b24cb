-- What `harden`, `guard` and `certify` leave in their files.
use Rattle.std.specs.Prelude.{◌≢◌, Bool, List}
use Rattle.flat_net.specs.Net.{Net}
use Rattle.certificate.specs.Cert.{PlainCert}
use Rattle.triplicate.specs.Form.{BoundedForm}
use Rattle.dwc.specs.Guard.{guard_net}
use Rattle.tmr_outside.specs.Contents.{Contents}
use Rattle.certifying.specs.Certified.{IsAccepted}
use Rattle.tmr_words.specs.Line.{Pair, Hardening, Guarding, Certifying, Validate, CheckGuard}
use Rattle.tmr_top.specs.Loads.{original_file, hardened_file, certificate_file}
use Rattle.tmr_top.specs.Designs.{HoldsDesign}
use Rattle.tmr_top.specs.Pairs.{HoldsCertificate}
use Rattle.tmr_top.specs.Certified.{certified_pair, HeldDesigns}
use Rattle.tmr_top.specs.Causes.{Succeeds}

-- the same three files, with the same limits
abbrev pub written_pair : Hardening → Pair
written_pair w = record { original = w.original; hardened = w.hardened; certificate = w.certificate; limits = w.limits }

-- ORIG held a design, and HARD and CERT now hold a hardened form of it; where ORIG is neither HARD nor CERT, `validate` of the three
-- files comes to Done
pub record LeavesHardened (w : Hardening) (held now : Contents) : Type 0 where
  pub original : Net
  pub free : List Bool
  pub original_held : HoldsDesign held (original_file w.limits w.original) original free
  pub hardened : Net
  pub marks : List Bool
  pub certificate : PlainCert
  pub form : BoundedForm w.form original free w.size w.version w.most hardened marks certificate
  pub hardened_read : HoldsDesign now (hardened_file w.limits w.hardened) hardened marks
  pub certificate_read : HoldsCertificate now (certificate_file w.limits w.certificate) original hardened certificate
  pub validates : w.original ≢ w.hardened → w.original ≢ w.certificate → Succeeds (Validate (written_pair w)) now

-- ORIG held a design, and GUARDED now holds the guarded design of it, within the limit of such a file; where ORIG is not GUARDED,
-- `guarded` of the two files comes to Done
pub record LeavesGuarded (w : Guarding) (held now : Contents) : Type 0 where
  pub original : Net
  pub free : List Bool
  pub original_held : HoldsDesign held (original_file w.limits w.original) original free
  pub marks : List Bool
  pub guarded_read : HoldsDesign now (hardened_file w.limits w.guarded) (guard_net original) marks
  pub checks : w.original ≢ w.guarded → Succeeds (CheckGuard w) now

-- ORIG and HARD held two designs, and CERT now holds a certificate of them that the eight rules accept; `validate` of the three files comes
-- to Done
pub record LeavesCertified (w : Certifying) (held now : Contents) : Type 0 where
  pub designs : HeldDesigns w held
  pub certificate : PlainCert
  pub accepted : IsAccepted designs.original designs.free designs.hardened designs.hardened_free w.version certificate
  pub certificate_read : HoldsCertificate now (certificate_file w.limits w.certificate) designs.original designs.hardened certificate
  pub validates : Succeeds (Validate (certified_pair w)) now
