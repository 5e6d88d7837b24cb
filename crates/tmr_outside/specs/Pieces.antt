-- What a taker took of a file. A taker is seen by the lists of bytes that it stands for, and by its room.
use Rattle.std.specs.Prelude.{◌≡◌, ◌≤◌, ◌+◌, ◌++◌, ℕ, List, [], length, take, Option, Some, IfSome, unwrap_or}
use Rattle.std.specs.FinMap.{get}
use Rattle.tmr_outside.specs.Contents.{Contents}

-- These bytes were taken: behind each list that the taker stood for stand these bytes now, and the room is lower by their number.
pub record Takes (stood stands : List ℕ → Type 0) (room left : ℕ) (bytes : List ℕ) : Type 0 where
  pub appended : (given : List ℕ) → stood given → stands (given ++ bytes)
  pub room_left : left + length bytes ≡ room

-- Some bytes of the file of this name were taken, at most `limit`. Where contents are told, they are its first bytes, and after an
-- answer that is `ok` the whole file.
pub record TakesFile (stood stands : List ℕ → Type 0) (room left limit : ℕ) (contents : Option Contents) (name : List ℕ) (ok : Type 0) : Type 0 where
  pub taken : List ℕ
  pub takes : Takes stood stands room left taken
  pub within : length taken ≤ limit
  pub first : IfSome contents (λ held. take (length taken) (unwrap_or (get held name) []) ≡ taken)
  pub whole : ok → IfSome contents (λ held. get held name ≡ Some taken)
