-- Writes of the front of a buffer.
use Rattle.std.proofs.Common.{◌≤◌, ℕ, List, length, take, Option, Result, Ok, Err, subst, arith}
use Rattle.std.specs.Io.{WritesAtMost}
use Rattle.std.specs.Io.KnownBytes.{Appends, WriteAppends}
use Rattle.std.proofs.lemmas.List.{length-take, take-take}

within_front : (n most : ℕ) (bytes : List ℕ) → n ≤ length (take most bytes) → n ≤ most
within_front n most bytes h = omega (arith, length-take most bytes)

-- a write of the front is one of the whole
pub write_front-bound : {E : Type 0} (r : Result ℕ E) (most : ℕ) (bytes : List ℕ) → WritesAtMost r (take most bytes) → WritesAtMost r bytes
write_front-bound (Ok n) most bytes bound = omega (arith, length-take most bytes)
write_front-bound (Err e) most bytes bound = bound

pub write_front-bytes : {E : Type 0} (old new : Option (List ℕ)) (r : Result ℕ E) (most : ℕ) (bytes : List ℕ) → WritesAtMost r (take most bytes) → WriteAppends old new r (take most bytes) → WriteAppends old new r bytes
write_front-bytes old new (Ok n) most bytes bound wrote = subst (Appends old new) (take-take n most bytes (within_front n most bytes bound)) wrote
write_front-bytes old new (Err e) most bytes bound wrote = wrote
