-- A run: the status that is decided, what the files then hold, what is printed, and how the put of that text ends.
use Rattle.std.specs.Prelude.{◌≡◌, ◌≢◌, ℕ, ◌⊎◌, List, ◌++◌, codes, Option, Some, None, IfSome, option_map}
use Rattle.tmr_outside.specs.Contents.{Contents}
use Rattle.tmr_outside.specs.Counts.{Rose}
use Rattle.tmr_outside.specs.Seen.{FilesSeen, SinkSeen, IsTold}
use Rattle.tmr_outside.specs.Written.{AppendsPrefix}
use Rattle.tmr_top.specs.declared.decision.Verdict.{Verdict}
use Rattle.tmr_top.specs.declared.decision.Verdict.TheVariants as verdict
use Rattle.tmr_top.specs.declared.status.Status.{Status}
use Rattle.tmr_top.specs.declared.status.Status.TheVariants as status
use Rattle.tmr_words.specs.Line.{Command}
use Rattle.tmr_top.specs.Loads.{loads_of, saves_of}
use Rattle.tmr_top.specs.Files.{OfOne, OfEach, OfFirst, IsLong, IsFine}
use Rattle.tmr_top.specs.Changes.{LoadFailed, SaveFailed, NoneFailed}
use Rattle.tmr_top.specs.Outcomes.{Outcome}
use Rattle.tmr_top.specs.Saves.{IsDone, IsBroken}
use Rattle.tmr_texts.specs.Texts.{load_fault_line, save_fault_line, refused_line, usage_text, memory_text}

-- what the files hold is as before
abbrev pub Untouched : FilesSeen → FilesSeen → Type 0
Untouched old new = new.contents ≡ old.contents

-- all is loaded, and the command comes to this verdict with this text
pub record Says (c : Command) (held : Contents) (v : Verdict) (text : List ℕ) : Type 0 where
  pub fine : OfEach (IsFine held) (loads_of c)
  pub saved : List (List ℕ)
  pub outcome : Outcome c held v saved text

-- the first file that is too long is named
abbrev pub SaysTooLong : Command → Contents → List ℕ → Type 0
SaysTooLong c held text =
    OfFirst held (λ load. IsLong held load × (text ≡ refused_line load.name (codes "too long"))) (loads_of c)

-- a file whose load failed is named, and its load alone failed
abbrev pub SaysLoadFault : Command → FilesSeen → FilesSeen → List ℕ → Type 0
SaysLoadFault c old new text = OfOne (λ load. LoadFailed old new load × (text ≡ load_fault_line load.name)) (loads_of c)

-- a name whose save failed is named, and its save alone failed
abbrev pub SaysSaveFault : Command → FilesSeen → FilesSeen → List ℕ → Type 0
SaysSaveFault c old new text = OfOne (λ name. SaveFailed old new name × (text ≡ save_fault_line name)) (saves_of c)

-- the save of a name failed, behind those that hold their whole texts, and it is named
pub record SaysBroken (c : Command) (held : Contents) (old new : FilesSeen) (text : List ℕ) : Type 0 where
  pub broken : IsBroken c held old new
  pub failed : SaveFailed old new broken.next
  pub says : text ≡ save_fault_line broken.next

-- What a command saves and prints, by the status that is decided before the put.
abbrev pub Performs : Command → FilesSeen → FilesSeen → Status → List ℕ → Type 0
Performs c old new status.Done text = IfSome old.contents (λ held. IsDone c held new.contents text)
Performs c old new status.NotAccepted text =
    Untouched old new × IfSome old.contents (λ held. Says c held verdict.NotAccepted text)
Performs c old new status.Refused text =
    Untouched old new × IfSome old.contents (λ held. SaysTooLong c held text ⊎ Says c held verdict.Refused text)
Performs c old new status.Fault text =
    (Untouched old new × SaysLoadFault c old new text)
    ⊎ (SaysSaveFault c old new text × IfSome old.contents (λ held. SaysBroken c held old new text))
Performs c old new status.Memory text =
    (text ≡ memory_text) × (Untouched old new ⊎ IfSome old.contents (λ held. IsBroken c held old new))
Performs c old new status.Usage text = ⊥

-- the same, whatever the words mean
abbrev pub Acts : Option Command → FilesSeen → FilesSeen → Status → List ℕ → Type 0
Acts (Some c) old new s text = Performs c old new s text
Acts None old new s text =
    Untouched old new × (((s ≡ status.Usage) × (text ≡ usage_text)) ⊎ ((s ≡ status.Memory) × (text ≡ memory_text)))

-- the whole text is written, where what is written is told
abbrev pub IsWhole : List ℕ → SinkSeen → SinkSeen → Type 0
IsWhole text old new = new.written ≡ option_map (λ before. before ++ text) old.written

-- nothing is written, or what is written is not told
abbrev pub IsNothing : SinkSeen → SinkSeen → Type 0
IsNothing old new = new.written ≡ old.written

-- How the one put of the text ends. The status is the one that was decided, but that a put that wants memory makes it Memory, and a
-- put that fails makes Done into Fault. Whatever the status, the whole text is written, or nothing is, or the count of failed puts rose.
pub record Ends (text : List ℕ) (old new : SinkSeen) (decided answered : Status) : Type 0 where
  pub prefix : AppendsPrefix text old.written new.written
  pub same : (answered ≡ decided) ⊎ (answered ≡ status.Memory)
      ⊎ ((answered ≡ status.Fault) × (decided ≡ status.Done) × Rose old.put_count new.put_count)
  pub whole : answered ≢ status.Memory → IsWhole text old new ⊎ Rose old.put_count new.put_count
  pub done : answered ≡ status.Done → IsWhole text old new
  pub wrote : IsWhole text old new ⊎ IsNothing old new ⊎ Rose old.put_count new.put_count

-- a text of which P holds is written whole
pub record Prints (P : List ℕ → Type 0) (old new : SinkSeen) : Type 0 where
  pub text : List ℕ
  pub fact : P text
  pub whole : IsWhole text old new

-- One run: what it saves and prints, and how its put ends. Where contents are told, no fault was passed over: what was decided is Fault
-- or Memory, or no load and no save failed.
pub record Ran (line : Option Command) (old new : FilesSeen) (out put : SinkSeen) (answered : Status) : Type 0 where
  pub decided : Status
  pub text : List ℕ
  pub acts : Acts line old new decided text
  pub unfailed : IsTold old → decided ≢ status.Fault → decided ≢ status.Memory → NoneFailed old new
  pub ends : Ends text out put decided answered
