-- A pair of designs and its certificate, as files hold them, and the headline.
use Rattle.std.specs.Prelude.{◌≡◌, Bool, List, Ok, Err}
use Rattle.flat_net.specs.Net.{Net}
use Rattle.certificate.specs.Cert.{PlainCert}
use Rattle.certificate.specs.Reading.{cert_of_text}
use Rattle.certificate.specs.Rules.{FreeCorresponds}
use Rattle.certificate.specs.Starts.{counted}
use Rattle.certificate.specs.declared.fault.CertFault.{CertFault}
use Rattle.net_meaning.specs.Meaning.{FreeTracesAreUnique}
use Rattle.validator.specs.Masking.{Masks, FreeMasks}
use Rattle.tmr_outside.specs.Contents.{Contents}
use Rattle.tmr_words.specs.Line.{Pair}
use Rattle.tmr_top.specs.Loads.{Load, original_file, hardened_file, certificate_file}
use Rattle.tmr_top.specs.Files.{Holds}
use Rattle.tmr_top.specs.Designs.{HoldsDesign}

-- the original and the hardened design, each with its marks, and the certificate
pub record ReadPair : Type 0 where
  pub original : Net
  pub free : List Bool
  pub hardened : Net
  pub hardened_free : List Bool
  pub certificate : PlainCert

-- the file holds this certificate of two designs
abbrev pub HoldsCertificate : Contents → Load → Net → Net → PlainCert → Type 0
HoldsCertificate held load n h k = Holds held load (λ bytes. cert_of_text n h bytes ≡ Ok k)

-- the file holds no certificate of them, and this is the first fault
abbrev pub HoldsNoCertificate : Contents → Load → Net → Net → CertFault → Type 0
HoldsNoCertificate held load n h fault = Holds held load (λ bytes. cert_of_text n h bytes ≡ Err fault)

-- the three files hold these
pub record HoldsPair (held : Contents) (p : Pair) (r : ReadPair) : Type 0 where
  pub original_read : HoldsDesign held (original_file p.limits p.original) r.original r.free
  pub hardened_read : HoldsDesign held (hardened_file p.limits p.hardened) r.hardened r.hardened_free
  pub certificate_read : HoldsCertificate held (certificate_file p.limits p.certificate) r.original r.hardened r.certificate

-- the eight rules hold
abbrev pub Accepts : ReadPair → Type 0
Accepts r = FreeCorresponds r.original r.free r.hardened r.hardened_free r.certificate

-- every allowed schedule of upsets is masked, over all input rows and free initial values, and each run is the only one of its
-- inputs, free values and upsets; the first speaks of the case without upsets of inputs and with every free value 0
pub record IsMasking (r : ReadPair) : Type 0 where
  pub masks : Masks r.original r.hardened r.certificate
  pub free_masks : FreeMasks r.original r.free r.hardened r.hardened_free r.certificate
  pub original_runs : FreeTracesAreUnique r.original (counted r.certificate r.free)
  pub hardened_runs : FreeTracesAreUnique r.hardened (counted r.certificate r.hardened_free)

-- the files hold a pair of designs and their certificate, the eight rules hold, and the pair masks
pub record Masked (held : Contents) (p : Pair) : Type 0 where
  pub pair : ReadPair
  pub holds : HoldsPair held p pair
  pub accepts : Accepts pair
  pub is_masking : IsMasking pair
