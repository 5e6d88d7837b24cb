-- What is seen of files, and of a sink, at one moment.
use Rattle.std.specs.Prelude.{ℕ, List, Option, IsSome}
use Rattle.tmr_outside.specs.Contents.{Contents}

-- what each name holds, where that is told, and how often loads and saves of a name have failed
pub record FilesSeen : Type 0 where
  pub contents : Option Contents
  pub load_count : List ℕ → ℕ
  pub save_count : List ℕ → ℕ

-- what went out, where that is told, and how often a put has failed
pub record SinkSeen : Type 0 where
  pub written : Option (List ℕ)
  pub put_count : ℕ

-- contents are told
abbrev pub IsTold : FilesSeen → Type 0
IsTold seen = IsSome seen.contents
