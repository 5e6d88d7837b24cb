-- Texts that were saved, and saves that came to no end.
use Rattle.std.specs.Prelude.{◌≡◌, ℕ, List, [], ◌∷◌, ◌++◌, Option, option_map}
use Rattle.tmr_outside.specs.Contents.{Contents}
use Rattle.tmr_outside.specs.Counts.{NoneRose}
use Rattle.tmr_outside.specs.Seen.{FilesSeen, IsTold}
use Rattle.tmr_top.specs.declared.saves.SaveStop.{SaveStop}
use Rattle.tmr_top.specs.declared.saves.SaveStop.TheVariants as stop
use Rattle.tmr_top.specs.Changes.{SaveFailed, HeldElsewhere}
use Rattle.tmr_top.specs.Saves.{with_texts}

-- these texts were saved under these names, where contents are told
abbrev pub after_saves : Option Contents → List (List ℕ) → List (List ℕ) → Option Contents
after_saves held names texts = option_map (λ h. with_texts h names texts) held

-- these texts were saved under these names, one after the other
pub record Saves (names texts : List (List ℕ)) (old new : FilesSeen) : Type 0 where
  pub holds : new.contents ≡ after_saves old.contents names texts
  pub none : IsTold old → NoneRose old.save_count new.save_count

-- the save of this name came to no end, where the first texts were saved
abbrev pub StopsAt : FilesSeen → FilesSeen → List (List ℕ) → List (List ℕ) → List ℕ → SaveStop → Type 0
StopsAt old new first texts next (stop.Failed name) =
    (name.now ≡ next) × SaveFailed old new next × HeldElsewhere (next ∷ []) (after_saves old.contents first texts) new.contents
StopsAt old new first texts next stop.Memory = new.contents ≡ after_saves old.contents first texts

-- where these saves came to no end
pub record IsSaveStop (names texts : List (List ℕ)) (old new : FilesSeen) (why : SaveStop) : Type 0 where
  pub first : List (List ℕ)
  pub next : List ℕ
  pub later : List (List ℕ)
  pub split : names ≡ first ++ next ∷ later
  pub stops : StopsAt old new first texts next why
