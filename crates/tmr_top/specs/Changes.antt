-- What a run changes in what is seen of files.
use Rattle.std.specs.Prelude.{◌≡◌, ◌≢◌, ℕ, List, [], ◌∷◌, Option, Some, None}
use Rattle.std.specs.FinMap.{get}
use Rattle.tmr_outside.specs.Contents.{Contents}
use Rattle.tmr_outside.specs.Counts.{RoseOf, NoneFell, NoneRose, OthersStay}
use Rattle.tmr_outside.specs.Seen.{FilesSeen, IsTold}
use Rattle.tmr_top.specs.Loads.{Load}

-- the load count of the file rose
abbrev pub LoadRose : FilesSeen → FilesSeen → Load → Type 0
LoadRose old new load = RoseOf old.contents (old.load_count load.name) (new.load_count load.name)

-- the save count of the name rose
abbrev pub SaveRose : FilesSeen → FilesSeen → List ℕ → Type 0
SaveRose old new name = RoseOf old.contents (old.save_count name) (new.save_count name)

-- the load of this file failed, and where contents are told no other act did: no other load count rose, and no save count
pub record LoadFailed (old new : FilesSeen) (load : Load) : Type 0 where
  pub rose : LoadRose old new load
  pub other_loads : IsTold old → OthersStay load.name old.load_count new.load_count
  pub no_saves : IsTold old → NoneRose old.save_count new.save_count

-- the save of this name failed, and where contents are told no other act did: no other save count rose, and no load count
pub record SaveFailed (old new : FilesSeen) (name : List ℕ) : Type 0 where
  pub rose : SaveRose old new name
  pub other_saves : IsTold old → OthersStay name old.save_count new.save_count
  pub no_loads : IsTold old → NoneRose old.load_count new.load_count

-- no load count and no save count of any name rose
pub record NoneFailed (old new : FilesSeen) : Type 0 where
  pub loads : NoneRose old.load_count new.load_count
  pub saves : NoneRose old.save_count new.save_count

-- the name is none of these
abbrev pub IsNone : List (List ℕ) → List ℕ → Type 0
IsNone [] name = Unit {0}
IsNone (other ∷ others) name = (name ≢ other) × IsNone others name

-- the count of every other name is as before
abbrev pub StayElsewhere : List (List ℕ) → (List ℕ → ℕ) → (List ℕ → ℕ) → Type 0
StayElsewhere names before now = (name : List ℕ) → IsNone names name → now name ≡ before name

-- what is held is told as before, and every other name holds what it held
abbrev pub HeldElsewhere : List (List ℕ) → Option Contents → Option Contents → Type 0
HeldElsewhere names (Some old) (Some new) = (name : List ℕ) → IsNone names name → get new name ≡ get old name
HeldElsewhere names None None = Unit {0}
HeldElsewhere names (Some old) None = ⊥
HeldElsewhere names None (Some new) = ⊥

-- Only these names were loaded, and only these were saved. All others hold what they held. No count fell, and where contents are told
-- no count of another name rose.
pub record ChangesOnly (loaded saved : List (List ℕ)) (old new : FilesSeen) : Type 0 where
  pub elsewhere : HeldElsewhere saved old.contents new.contents
  pub loads : NoneFell old.load_count new.load_count
  pub saves : NoneFell old.save_count new.save_count
  pub loads_only : IsTold old → StayElsewhere loaded old.load_count new.load_count
  pub saves_only : IsTold old → StayElsewhere saved old.save_count new.save_count
