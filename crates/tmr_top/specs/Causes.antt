-- When each status comes, over all commands.
use Rattle.std.specs.Prelude.{◌≡◌, ℕ, ◌⊎◌, List, Option, IfSome}
use Rattle.tmr_outside.specs.Contents.{Contents}
use Rattle.tmr_outside.specs.Seen.{FilesSeen}
use Rattle.tmr_top.specs.declared.decision.Verdict.{Verdict}
use Rattle.tmr_top.specs.declared.decision.Verdict.TheVariants.{Done, NotAccepted, Refused}
use Rattle.tmr_top.specs.declared.status.Status.{Status}
use Rattle.tmr_top.specs.declared.status.Status.TheVariants as status
use Rattle.tmr_words.specs.Line.{Command}
use Rattle.tmr_top.specs.Loads.{loads_of, saves_of}
use Rattle.tmr_top.specs.Files.{OfOne, OfEach, OfFirst, IsLong, IsMissing, IsFine}
use Rattle.tmr_top.specs.Changes.{LoadRose, SaveRose}
use Rattle.tmr_top.specs.Outcomes.{Outcome}

-- P holds, where contents are told and the words are a command
abbrev pub Where : Option Command → FilesSeen → (Command → Contents → Type 0) → Type 0
Where line seen P = IfSome line (λ c. IfSome seen.contents (λ held. P c held))

-- the status, or Memory
abbrev pub OrMemory : Status → Status → Type 0
OrMemory answered s = (answered ≡ s) ⊎ (answered ≡ status.Memory)

-- ---- by what the files hold

-- every file is there and is not too long, and the command comes to this verdict, with some texts
pub record ComesTo (verdict : Verdict) (c : Command) (held : Contents) : Type 0 where
  pub fine : OfEach (IsFine held) (loads_of c)
  pub saved : List (List ℕ)
  pub text : List ℕ
  pub outcome : Outcome c held verdict saved text

-- all is read, and what the command looks for holds
abbrev pub Succeeds : Command → Contents → Type 0
Succeeds = ComesTo Done

-- all is read, and what the command looks for does not hold
abbrev pub Disagrees : Command → Contents → Type 0
Disagrees = ComesTo NotAccepted

-- some file is too long, or all are loaded and the bytes of one are refused
abbrev pub IsRefusable : Command → Contents → Type 0
IsRefusable c held = OfOne (IsLong held) (loads_of c) ⊎ ComesTo Refused c held

-- a file to be loaded is not there, and those before it are there and are not too long
abbrev pub SomeMissing : Command → Contents → Type 0
SomeMissing c held = OfFirst held (IsMissing held) (loads_of c)

-- ---- by what failed

-- the load count of a file to be loaded rose
abbrev pub SomeLoadRose : Command → FilesSeen → FilesSeen → Type 0
SomeLoadRose c old new = OfOne (LoadRose old new) (loads_of c)

-- the save count of a file to be saved rose
abbrev pub SomeSaveRose : Command → FilesSeen → FilesSeen → Type 0
SomeSaveRose c old new = OfOne (SaveRose old new) (saves_of c)
