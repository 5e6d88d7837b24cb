-- What files hold.
use Rattle.std.specs.Prelude.{◌≡◌, ◌≢◌, ◌<◌, ℕ, List, map, length, Option, Some, None, IsSomeAnd, String, Vec, string_bytes}
use Rattle.std.specs.Coded.{Coded, coded_ℕ, coded_list}
use Rattle.std.specs.Ordering.{nat_cmp}
use Rattle.std.specs.Cmp.Lexicographic.{slice_cmp}
use Rattle.std.specs.BTreeMap.{BTreeMap}
use Rattle.std.specs.FinMap.{FinMap, get, from_entries, code}
use Rattle.std.specs.declared.alloc.Global.{Global}

-- a finite map from the bytes of a name to the bytes of its file
abbrev pub Contents : Type 0
Contents = FinMap (slice_cmp nat_cmp) (List ℕ)

abbrev pub contents_code : Coded Contents
contents_code = code (coded_list coded_ℕ) (coded_list coded_ℕ)

-- the name has a file of more than `limit` bytes
abbrev pub IsTooLong : Contents → List ℕ → ℕ → Type 0
IsTooLong held name limit = IsSomeAnd (get held name) (λ bytes. limit < length bytes)

-- contents are told as before, and every other name holds what it held
abbrev pub SameElsewhere : List ℕ → Option Contents → Option Contents → Type 0
SameElsewhere name (Some old) (Some new) = (other : List ℕ) → other ≢ name → get new other ≡ get old other
SameElsewhere name None None = Unit {0}
SameElsewhere name (Some old) None = ⊥
SameElsewhere name None (Some new) = ⊥

abbrev pub entry_bytes : String Global × Vec ℕ Global → List ℕ × List ℕ
entry_bytes e = (string_bytes e.0, e.1.items)

-- how a map from names to files is seen
abbrev pub contents_of : BTreeMap (String Global) (Vec ℕ Global) → Contents
contents_of files = from_entries (map entry_bytes files.entries)
