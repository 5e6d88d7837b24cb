-- `validate ORIG HARD CERT`: what it comes to. It saves nothing.
use Rattle.std.specs.Prelude.{◌≡◌, ℕ, ◌⊎◌, Bool, List, [], count_by}
use Rattle.flat_net.specs.Net.{Net}
use Rattle.certificate.specs.Rules.{IsFirstFreeFailure}
use Rattle.certificate.specs.declared.fault.CertFault.{CertFault}
use Rattle.tmr_outside.specs.Contents.{Contents}
use Rattle.tmr_top.specs.declared.decision.Verdict.{Verdict}
use Rattle.tmr_top.specs.declared.decision.Verdict.TheVariants.{Done, NotAccepted, Refused}
use Rattle.tmr_words.specs.Line.{Pair}
use Rattle.tmr_top.specs.Loads.{original_file, hardened_file, certificate_file}
use Rattle.tmr_top.specs.Designs.{HoldsDesign, HoldsNoDesign}
use Rattle.tmr_top.specs.Pairs.{ReadPair, HoldsPair, HoldsNoCertificate, Accepts}
use Rattle.tmr_texts.specs.Reasons.{cert_reason}
use Rattle.tmr_texts.specs.Texts.{accepted_line, not_accepted_line, refused_line}

-- done: all three files are read, and the eight rules hold
pub record IsAccepted (p : Pair) (held : Contents) (text : List ℕ) : Type 0 where
  pub pair : ReadPair
  pub holds : HoldsPair held p pair
  pub accepts : Accepts pair
  pub says : text ≡ accepted_line pair.certificate (count_by (λ bit. bit) pair.free) (count_by (λ bit. bit) pair.hardened_free)

-- not accepted: all three files are read, and some rule fails; the least rule is told, and for it the least place
pub record IsNotAccepted (p : Pair) (held : Contents) (text : List ℕ) : Type 0 where
  pub pair : ReadPair
  pub holds : HoldsPair held p pair
  pub rule : ℕ
  pub place : ℕ
  pub first : IsFirstFreeFailure pair.original pair.free pair.hardened pair.hardened_free pair.certificate rule place
  pub says : text ≡ not_accepted_line pair.hardened rule place

-- the original is no design
pub record IsOriginalUnread (p : Pair) (held : Contents) (text : List ℕ) : Type 0 where
  pub reason : List ℕ
  pub unread : HoldsNoDesign held (original_file p.limits p.original) reason
  pub says : text ≡ refused_line p.original reason

-- the original is read, and the hardened file is no design
pub record IsHardenedUnread (p : Pair) (held : Contents) (text : List ℕ) : Type 0 where
  pub original : Net
  pub free : List Bool
  pub original_read : HoldsDesign held (original_file p.limits p.original) original free
  pub reason : List ℕ
  pub unread : HoldsNoDesign held (hardened_file p.limits p.hardened) reason
  pub says : text ≡ refused_line p.hardened reason

-- both designs are read, and the certificate is none of them
pub record IsCertificateUnread (p : Pair) (held : Contents) (text : List ℕ) : Type 0 where
  pub original : Net
  pub free : List Bool
  pub original_read : HoldsDesign held (original_file p.limits p.original) original free
  pub hardened : Net
  pub hardened_free : List Bool
  pub hardened_read : HoldsDesign held (hardened_file p.limits p.hardened) hardened hardened_free
  pub fault : CertFault
  pub unread : HoldsNoCertificate held (certificate_file p.limits p.certificate) original hardened fault
  pub says : text ≡ refused_line p.certificate (cert_reason fault)

-- refused: the first file that is not read is told
abbrev pub IsPairUnread : Pair → Contents → List ℕ → Type 0
IsPairUnread p held text = IsOriginalUnread p held text ⊎ IsHardenedUnread p held text ⊎ IsCertificateUnread p held text

abbrev pub Validated : Pair → Contents → Verdict → List (List ℕ) → List ℕ → Type 0
Validated p held Done saved text = IsAccepted p held text × (saved ≡ [])
Validated p held NotAccepted saved text = IsNotAccepted p held text
Validated p held Refused saved text = IsPairUnread p held text
