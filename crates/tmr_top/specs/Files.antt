-- What the files hold that a command loads.
use Rattle.std.specs.Prelude.{◌≡◌, ℕ, ◌≤◌, ◌⊎◌, List, [], ◌∷◌, length, Some, None}
use Rattle.std.specs.FinMap.{get}
use Rattle.tmr_outside.specs.Contents.{Contents, IsTooLong}
use Rattle.tmr_top.specs.Loads.{Load}

-- P holds of one of them
abbrev pub OfOne : {A : Type 0} → (A → Type 0) → List A → Type 0
OfOne P [] = ⊥
OfOne P (x ∷ xs) = P x ⊎ OfOne P xs

-- P holds of each of them
abbrev pub OfEach : {A : Type 0} → (A → Type 0) → List A → Type 0
OfEach P [] = Unit {0}
OfEach P (x ∷ xs) = P x × OfEach P xs

-- the file is there, is not too long, and P holds of its bytes
pub record Holds (held : Contents) (load : Load) (P : List ℕ → Type 0) : Type 0 where
  pub bytes : List ℕ
  pub there : get held load.name ≡ Some bytes
  pub short : length bytes ≤ load.limit
  pub fact : P bytes

-- the file is there, and is not too long
abbrev pub IsFine : Contents → Load → Type 0
IsFine held load = Holds held load (λ bytes. Unit {0})

-- the file is too long
abbrev pub IsLong : Contents → Load → Type 0
IsLong held load = IsTooLong held load.name load.limit

-- the file is not there
abbrev pub IsMissing : Contents → Load → Type 0
IsMissing held load = get held load.name ≡ None

-- P holds of one of the files, and those before it are there and are not too long
abbrev pub OfFirst : Contents → (Load → Type 0) → List Load → Type 0
OfFirst held P [] = ⊥
OfFirst held P (load ∷ loads) = P load ⊎ (IsFine held load × OfFirst held P loads)
