-- `guard ORIG GUARDED` and `guarded ORIG GUARDED`: what they come to.
use Rattle.std.specs.Prelude.{◌≡◌, ◌≤◌, ◌⊎◌, ℕ, Bool, List, [], ◌∷◌, length, count_by}
use Rattle.flat_net.specs.Net.{Net}
use Rattle.blif_writer.specs.NetOf.{IsNetOf}
use Rattle.blif_writer.specs.Text.{flat_text}
use Rattle.dwc.specs.Answer.{BreaksFirst}
use Rattle.dwc.specs.Guard.{guard_net}
use Rattle.dwc.specs.Tells.{Guards}
use Rattle.limits.specs.Most.{most_hardened}
use Rattle.tmr_outside.specs.Contents.{Contents}
use Rattle.tmr_top.specs.declared.decision.Verdict.{Verdict}
use Rattle.tmr_top.specs.declared.decision.Verdict.TheVariants.{Done, NotAccepted, Refused}
use Rattle.tmr_words.specs.Line.{Guarding}
use Rattle.tmr_top.specs.Loads.{original_file, hardened_file}
use Rattle.tmr_top.specs.Designs.{HoldsDesign, HoldsNoDesign}
use Rattle.tmr_texts.specs.Texts.{guard_line, guarded_line, not_guarded_line, refused_line}

-- `guard` is done: the original is a design, the text of its guarded design is saved, whose alarm tells, and it is told of; the text keeps
-- the limit of its file, and is read as that design
pub record IsGuarded (w : Guarding) (held : Contents) (saved : List (List ℕ)) (text : List ℕ) : Type 0 where
  pub original : Net
  pub free : List Bool
  pub holds : HoldsDesign held (original_file w.limits w.original) original free
  pub guards : Guards original (guard_net original)
  pub saves : saved ≡ flat_text (guard_net original) ∷ []
  pub keeps : length (flat_text (guard_net original)) ≤ most_hardened w.limits
  pub read : IsNetOf (flat_text (guard_net original)) (most_hardened w.limits) (guard_net original) 0
  pub says : text ≡ guard_line original (guard_net original) (count_by (λ bit. bit) free)

-- the original is no design
pub record IsUnguarded (w : Guarding) (held : Contents) (text : List ℕ) : Type 0 where
  pub reason : List ℕ
  pub unread : HoldsNoDesign held (original_file w.limits w.original) reason
  pub says : text ≡ refused_line w.original reason

abbrev pub Guarded : Guarding → Contents → Verdict → List (List ℕ) → List ℕ → Type 0
Guarded w held Done saved text = IsGuarded w held saved text
Guarded w held NotAccepted saved text = ⊥
Guarded w held Refused saved text = IsUnguarded w held text

-- both files are read; marks do not count
pub record ReadGuard (w : Guarding) (held : Contents) : Type 0 where
  pub original : Net
  pub free : List Bool
  pub original_read : HoldsDesign held (original_file w.limits w.original) original free
  pub guarded : Net
  pub guarded_free : List Bool
  pub guarded_read : HoldsDesign held (hardened_file w.limits w.guarded) guarded guarded_free

-- `guarded` is done: the second file holds the guarded design of the first one, and its alarm tells
pub record IsGuard (w : Guarding) (held : Contents) (text : List ℕ) : Type 0 where
  pub files : ReadGuard w held
  pub is : guard_net files.original ≡ files.guarded
  pub guards : Guards files.original files.guarded
  pub says : text ≡ guarded_line

-- not accepted: it holds another design; the least rule by which they differ is told, and for it the first place
pub record IsNoGuard (w : Guarding) (held : Contents) (text : List ℕ) : Type 0 where
  pub files : ReadGuard w held
  pub rule : ℕ
  pub place : ℕ
  pub first : BreaksFirst (guard_net files.original) files.guarded rule place
  pub says : text ≡ not_guarded_line rule place

-- the original is read, and the other file is no design
pub record IsGuardUnread (w : Guarding) (held : Contents) (text : List ℕ) : Type 0 where
  pub original : Net
  pub free : List Bool
  pub original_read : HoldsDesign held (original_file w.limits w.original) original free
  pub reason : List ℕ
  pub unread : HoldsNoDesign held (hardened_file w.limits w.guarded) reason
  pub says : text ≡ refused_line w.guarded reason

abbrev pub GuardChecked : Guarding → Contents → Verdict → List (List ℕ) → List ℕ → Type 0
GuardChecked w held Done saved text = IsGuard w held text × (saved ≡ [])
GuardChecked w held NotAccepted saved text = IsNoGuard w held text
GuardChecked w held Refused saved text = IsUnguarded w held text ⊎ IsGuardUnread w held text
