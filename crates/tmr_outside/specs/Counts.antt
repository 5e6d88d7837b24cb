-- Counts of faults.
use Rattle.std.specs.Prelude.{◌≡◌, ◌≢◌, ℕ, ◌+◌, ◌-◌, ◌^◌, ◌<◌, ◌≤◌, min, List, Option, Some, None}

-- a count rose, or it stands at the last number of 64 bits
abbrev pub Rose : ℕ → ℕ → Type 0
Rose before now = min (before + 1) (2 ^ 64 - 1) ≤ now

-- A count rose. Only where contents are not told does a count at the last number stand for one that rose.
abbrev pub RoseOf : {C : Type 0} → Option C → ℕ → ℕ → Type 0
RoseOf (Some told) before now = before < now
RoseOf None before now = Rose before now

-- no name's count fell
abbrev pub NoneFell : (List ℕ → ℕ) → (List ℕ → ℕ) → Type 0
NoneFell before now = (name : List ℕ) → before name ≤ now name

-- every name's count is as before
abbrev pub NoneRose : (List ℕ → ℕ) → (List ℕ → ℕ) → Type 0
NoneRose before now = (name : List ℕ) → now name ≡ before name

-- every other name's count is as before
abbrev pub OthersStay : List ℕ → (List ℕ → ℕ) → (List ℕ → ℕ) → Type 0
OthersStay name before now = (other : List ℕ) → other ≢ name → now other ≡ before other
