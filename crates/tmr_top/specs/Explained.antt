-- `explain ORIG HARD CERT`: what it comes to. It saves nothing.
use Rattle.std.specs.Prelude.{◌≡◌, ℕ, ◌⊎◌, List, [], ◌++◌, codes, Result, Ok, Err}
use Rattle.blif_text.specs.Kind.{Bad}
use Rattle.blif_text.specs.Models.{PlainModel}
use Rattle.blif_text.specs.Reading.{reading}
use Rattle.certificate.specs.Starts.{counted}
use Rattle.certificate.specs.declared.fault.CertFault.{CertFault}
use Rattle.certificate.specs.declared.fault.CertFault.TheVariants as fault
use Rattle.explaining.specs.Explained.{IsExplanation}
use Rattle.explaining.specs.Lines.{shown_line}
use Rattle.tmr_outside.specs.Contents.{Contents}
use Rattle.tmr_top.specs.declared.decision.Verdict.{Verdict}
use Rattle.tmr_top.specs.declared.decision.Verdict.TheVariants.{Done, NotAccepted, Refused}
use Rattle.tmr_words.specs.Line.{Pair}
use Rattle.tmr_top.specs.Files.{Holds}
use Rattle.tmr_top.specs.Loads.{original_file, hardened_file, certificate_file}
use Rattle.tmr_top.specs.Pairs.{ReadPair, HoldsPair, Accepts}
use Rattle.tmr_top.specs.Validated.{IsAccepted, IsOriginalUnread, IsHardenedUnread, IsCertificateUnread}

-- not accepted: all three files are read, some rule fails, and every place at which one does is told
pub record IsExplained (p : Pair) (held : Contents) (text : List ℕ) : Type 0 where
  pub pair : ReadPair
  pub holds : HoldsPair held p pair
  pub fails : Accepts pair → ⊥
  pub says : IsExplanation pair.original (counted pair.certificate pair.free) pair.hardened (counted pair.certificate pair.hardened_free) pair.certificate text

-- line `number` of the bytes, as it stands, cut at 200 bytes, and a line feed
abbrev pub line_shown : List ℕ → ℕ → List ℕ
line_shown bytes number = shown_line bytes number ++ codes "\n"

-- what stands behind the refusal of a netlist that was read so: its bad line; nothing where no line is bad, and its models give no design
abbrev pub behind_reading : List ℕ → Result (List PlainModel) Bad → List ℕ
behind_reading bytes (Ok models) = []
behind_reading bytes (Err bad) = line_shown bytes bad.line

abbrev pub behind_netlist : List ℕ → List ℕ
behind_netlist bytes = behind_reading bytes (reading bytes)

-- the number of the line that the fault of a certificate names. No text has the fault Memory
abbrev pub faulty_line : CertFault → ℕ
faulty_line (fault.Line n) = n
faulty_line (fault.UnknownNet n) = n
faulty_line (fault.Order n) = n
faulty_line (fault.Range n) = n
faulty_line (fault.Doubled n) = n
faulty_line fault.Memory = 0

-- the original is refused as `validate` refuses it, and behind that stands the line of it that the refusal names
pub record IsOriginalShown (p : Pair) (held : Contents) (text : List ℕ) : Type 0 where
  pub refusal : List ℕ
  pub unread : IsOriginalUnread p held refusal
  pub shows : Holds held (original_file p.limits p.original) (λ bytes. text ≡ refusal ++ behind_netlist bytes)

-- the same of the hardened file
pub record IsHardenedShown (p : Pair) (held : Contents) (text : List ℕ) : Type 0 where
  pub refusal : List ℕ
  pub unread : IsHardenedUnread p held refusal
  pub shows : Holds held (hardened_file p.limits p.hardened) (λ bytes. text ≡ refusal ++ behind_netlist bytes)

-- the same of the certificate
pub record IsCertificateShown (p : Pair) (held : Contents) (text : List ℕ) : Type 0 where
  pub refusal : List ℕ
  pub unread : IsCertificateUnread p held refusal
  pub shows : Holds held (certificate_file p.limits p.certificate) (λ bytes. text ≡ refusal ++ line_shown bytes (faulty_line unread.fault))

-- refused: what `validate` prints, and behind it the line that it names, where it names one
abbrev pub IsPairShown : Pair → Contents → List ℕ → Type 0
IsPairShown p held text = IsOriginalShown p held text ⊎ IsHardenedShown p held text ⊎ IsCertificateShown p held text

-- where the rules hold it prints what `validate` prints
abbrev pub Explained : Pair → Contents → Verdict → List (List ℕ) → List ℕ → Type 0
Explained p held Done saved text = IsAccepted p held text × (saved ≡ [])
Explained p held NotAccepted saved text = IsExplained p held text
Explained p held Refused saved text = IsPairShown p held text
