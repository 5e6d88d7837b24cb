-- What the work of a command answers.
use Rattle.std.specs.Prelude.{◌≡◌, ◌≢◌, ℕ, ◌⊎◌, false, List, map, Option, Some, None, IfSome}
use Rattle.tmr_outside.specs.Contents.{Contents}
use Rattle.tmr_outside.specs.Seen.{FilesSeen}
use Rattle.tmr_top.specs.declared.decision.Save.{Save}
use Rattle.tmr_top.specs.declared.decision.SavedText.{SavedText}
use Rattle.tmr_top.specs.declared.decision.SavedText.TheVariants.{Whole, Design, Certificate, Found, Guarded}
use Rattle.tmr_top.specs.declared.decision.Work.{Work}
use Rattle.tmr_top.specs.declared.decision.Verdict.TheVariants.{Done, NotAccepted}
use Rattle.tmr_words.specs.Line.{Command, Pair, Validate, TryOut}
use Rattle.tmr_words.specs.Trials.{Trial}
use Rattle.tmr_top.specs.Pairs.{Masked}
use Rattle.tmr_top.specs.Loads.{loads_of, saves_of}
use Rattle.tmr_top.specs.ByWords.{compares}
use Rattle.tmr_top.specs.Tried.{IsTried}
use Rattle.tmr_top.specs.Files.{OfEach, IsFine}
use Rattle.tmr_top.specs.Outcomes.{Outcome}
use Rattle.tmr_top.specs.Runs.{Untouched}
use Rattle.tmr_top.specs.Saves.{IsBroken}

-- the bytes of a text to be saved
abbrev pub text_of : SavedText → List ℕ
text_of (Whole bytes) = bytes.items
text_of (Design text) = text.rest
text_of (Certificate text) = text.rest
text_of (Found text) = text.rest
text_of (Guarded text) = text.rest

-- the names that are saved under
abbrev pub save_names : List Save → List (List ℕ)
save_names saves = map (λ save. save.name.now) saves

-- and the texts
abbrev pub save_texts : List Save → List (List ℕ)
save_texts saves = map (λ save. text_of save.text) saves

-- a work that is done: it saves these texts under these names, and prints this text
pub record IsDoneWith (names texts : List (List ℕ)) (text : List ℕ) (work : Work) : Type 0 where
  pub done : work.verdict ≡ Done
  pub names_are : save_names work.saves.items ≡ names
  pub texts_are : save_texts work.saves.items ≡ texts
  pub says : work.text.items ≡ text

-- a work that is not accepted, and prints this text
pub record IsDeniedWith (text : List ℕ) (work : Work) : Type 0 where
  pub denied : work.verdict ≡ NotAccepted
  pub says : work.text.items ≡ text

-- the work is an outcome of the command, and where `validate` is done the pair masks
pub record IsWork (c : Command) (held : Contents) (work : Work) : Type 0 where
  pub outcome : Outcome c held work.verdict (save_texts work.saves.items) work.text.items
  pub masks : (p : Pair) → c ≡ Validate p → work.verdict ≡ Done → Masked held p

-- where the command is done, its texts are saved under its names
abbrev pub SavesFor : Command → Work → Type 0
SavesFor c work = work.verdict ≡ Done → save_names work.saves.items ≡ saves_of c

-- the work does not say that files do not agree
abbrev pub Agrees : Work → Type 0
Agrees work = work.verdict ≢ NotAccepted

-- What a room owes of its work, where G says what its files hold. The first three rest on the words alone.
pub record IsWorkOver (c : Command) (G : Contents → Type 0) (work : Work) : Type 0 where
  pub names : SavesFor c work
  pub agrees : compares c ≡ false → Agrees work
  pub tried : (t : Trial) → c ≡ TryOut t → IsTried t work.text.items
  pub is_work : (held : Contents) → G held → IsWork c held work

-- all is loaded, and the work is an outcome of the command
pub record Comes (c : Command) (held : Contents) (work : Work) : Type 0 where
  pub fine : OfEach (IsFine held) (loads_of c)
  pub is_work : IsWork c held work

-- what the files hold where a command wants memory
abbrev pub Leaves : Command → FilesSeen → FilesSeen → Type 0
Leaves c old new = Untouched old new ⊎ IfSome old.contents (λ held. IsBroken c held old new)

-- the same, whatever the words mean
abbrev pub LeavesLine : Option Command → FilesSeen → FilesSeen → Type 0
LeavesLine None old new = Untouched old new
LeavesLine (Some c) old new = Leaves c old new
