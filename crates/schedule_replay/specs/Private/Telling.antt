-- What is told of outputs and of partitions as a replay goes on.
use Rattle.std.specs.Prelude.{◌≡◌, ℕ, ◌+◌, ◌<◌, ◌||◌, nat_eq, nat_le, nat_lt, List, [], ◌∷◌, ◌++◌, length, slice_index, if◌then◌else◌}
use Rattle.tmr_base.specs.declared.ids.Upset.{Upset}
use Rattle.certificate.specs.Cert.{PlainCert, depth_of}
use Rattle.schedule_replay.specs.declared.outcome.Difference.{Difference}
use Rattle.schedule_replay.specs.Outcome.{is_quiet}

-- one difference more, of which the first 1,000 are kept
abbrev pub first_more : List Difference → Difference → List Difference
first_more first d = if nat_lt (length first) 1000 then first ++ d ∷ [] else first

-- the cycle behind the last upset of each partition, up to cycle t, tells whether the partition is quiet
abbrev pub TellQuiet : PlainCert → List Upset → ℕ → List ℕ → Type 0
TellQuiet k s t lasts = (p : ℕ) → p < length k.depth
    → is_quiet k s p t ≡ (nat_eq (slice_index lasts p) 0 || nat_le (slice_index lasts p + depth_of k p) t)
