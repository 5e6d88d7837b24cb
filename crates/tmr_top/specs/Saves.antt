-- What the files hold after the saves of a command.
use Rattle.std.specs.Prelude.{◌≡◌, ℕ, ◌⊎◌, List, [], ◌∷◌, ◌++◌, Option, Some}
use Rattle.std.specs.FinMap.{insert}
use Rattle.tmr_outside.specs.Contents.{Contents}
use Rattle.tmr_outside.specs.Seen.{FilesSeen}
use Rattle.tmr_top.specs.declared.decision.Verdict.TheVariants.{Done}
use Rattle.tmr_words.specs.Line.{Command}
use Rattle.tmr_top.specs.Loads.{loads_of, saves_of}
use Rattle.tmr_top.specs.Files.{OfEach, IsFine}
use Rattle.tmr_top.specs.Changes.{SaveFailed, HeldElsewhere}
use Rattle.tmr_top.specs.Outcomes.{Outcome}

-- these texts were saved under these names, one after the other
abbrev pub with_texts : Contents → List (List ℕ) → List (List ℕ) → Contents
with_texts held (name ∷ names) (text ∷ texts) = with_texts (insert held name text) names texts
with_texts held (name ∷ names) [] = held
with_texts held [] texts = held

-- the command is done: all its texts are saved, and this is its text
pub record IsDone (c : Command) (held : Contents) (now : Option Contents) (text : List ℕ) : Type 0 where
  pub fine : OfEach (IsFine held) (loads_of c)
  pub saved : List (List ℕ)
  pub outcome : Outcome c held Done saved text
  pub whole : now ≡ Some (with_texts held (saves_of c) saved)

-- the command is done, with some text
pub record Completes (c : Command) (held : Contents) (now : Option Contents) : Type 0 where
  pub text : List ℕ
  pub is_done : IsDone c held now text

-- The saves of a command that would be done came to no end. The first names hold their whole texts. The next one, where its save
-- failed, holds what it may. All others hold what they held.
pub record IsBroken (c : Command) (held : Contents) (old new : FilesSeen) : Type 0 where
  pub fine : OfEach (IsFine held) (loads_of c)
  pub saved : List (List ℕ)
  pub text : List ℕ
  pub outcome : Outcome c held Done saved text
  pub first : List (List ℕ)
  pub next : List ℕ
  pub later : List (List ℕ)
  pub names : saves_of c ≡ first ++ next ∷ later
  pub holds : (new.contents ≡ Some (with_texts held first saved))
      ⊎ (SaveFailed old new next × HeldElsewhere (next ∷ []) (Some (with_texts held first saved)) new.contents)
