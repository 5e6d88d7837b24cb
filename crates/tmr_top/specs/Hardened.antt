-- `harden ORIG HARD CERT`: what it comes to.
use Rattle.std.specs.Prelude.{◌≡◌, ◌↔◌, ◌<◌, ◌≤◌, nat_eq, ℕ, Bool, List, [], ◌∷◌, length, Ok, IsTrue, count_by}
use Rattle.flat_net.specs.Net.{Net}
use Rattle.blif_writer.specs.NetOf.{IsFreeNetOf}
use Rattle.blif_writer.specs.Text.{free_text}
use Rattle.certificate.specs.Cert.{PlainCert}
use Rattle.certificate.specs.Reading.{cert_of_text}
use Rattle.certificate.specs.Text.{cert_text}
use Rattle.partitioner.specs.Refining.{IsMinimal}
use Rattle.certificate.specs.Starts.{counted}
use Rattle.hardened_size.specs.Size.{AreShort}
use Rattle.triplicate.specs.Form.{HasForm, BoundedForm, parts_of}
use Rattle.triplicate.specs.Voting.{none_extra}
use Rattle.limits.specs.declared.Limits.{Limits}
use Rattle.limits.specs.Most.{most_hardened}
use Rattle.tmr_outside.specs.Contents.{Contents}
use Rattle.tmr_top.specs.declared.decision.Verdict.{Verdict}
use Rattle.tmr_top.specs.declared.decision.Verdict.TheVariants.{Done, NotAccepted, Refused}
use Rattle.tmr_words.specs.Line.{Hardening}
use Rattle.tmr_top.specs.Loads.{original_file}
use Rattle.tmr_top.specs.Designs.{HoldsDesign, HoldsNoDesign}
use Rattle.tmr_texts.specs.FormText.{form_numbers, hardened_lines}
use Rattle.tmr_texts.specs.Texts.{refused_line}

-- the texts of a design and its certificate are within the limits of their files, and are read as these
pub record AreRead (l : Limits) (design_text certificate_text : List ℕ) (original hardened : Net) (marks : List Bool) (k : PlainCert) : Type 0 where
  pub design_short : length design_text ≤ most_hardened l
  pub design_read : IsFreeNetOf design_text (most_hardened l) hardened marks
  pub certificate_short : length certificate_text ≤ most_hardened l
  pub certificate_read : cert_of_text original hardened certificate_text ≡ Ok k

-- no pin is voted but those that have to be
abbrev pub HasNoExtra : Hardening → Net → List Bool → Net → List Bool → PlainCert → Type 0
HasNoExtra w n f h g k = HasForm w.form n (counted k f) w.size h (counted k g) k (nat_eq w.version 2) none_extra

-- done: the original is a design, the two texts of one hardened form of it are saved, which are read as it, and that form is told of. A
-- bound above the number of nodes adds no voters, and without `--depth` it is above: it is 4,294,967,295 then. Both texts have at most 128
-- times the bytes of the original's flat text. `minimal` says whether no single move of a node lowers the cost of its partitions
pub record IsHardened (w : Hardening) (held : Contents) (saved : List (List ℕ)) (text : List ℕ) : Type 0 where
  pub original : Net
  pub free : List Bool
  pub holds : HoldsDesign held (original_file w.limits w.original) original free
  pub hardened : Net
  pub marks : List Bool
  pub certificate : PlainCert
  pub form : BoundedForm w.form original free w.size w.version w.most hardened marks certificate
  pub few : length original.nodes < 4294967295
  pub unbounded : length original.nodes < w.most → HasNoExtra w original free hardened marks certificate
  pub short : AreShort original hardened certificate
  pub saves : saved ≡ free_text hardened marks ∷ cert_text original hardened certificate ∷ []
  pub read : AreRead w.limits (free_text hardened marks) (cert_text original hardened certificate) original hardened marks certificate
  pub minimal : Bool
  pub is_minimal : IsTrue minimal ↔ IsMinimal original w.size (parts_of certificate)
  pub says : text ≡ hardened_lines (form_numbers original w.size hardened certificate minimal) certificate.version (count_by (λ bit. bit) free)

-- refused: the original is no design
pub record IsUnhardened (w : Hardening) (held : Contents) (text : List ℕ) : Type 0 where
  pub reason : List ℕ
  pub unread : HoldsNoDesign held (original_file w.limits w.original) reason
  pub says : text ≡ refused_line w.original reason

abbrev pub Hardened : Hardening → Contents → Verdict → List (List ℕ) → List ℕ → Type 0
Hardened w held Done saved text = IsHardened w held saved text
Hardened w held NotAccepted saved text = ⊥
Hardened w held Refused saved text = IsUnhardened w held text
