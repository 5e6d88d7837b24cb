-- Reads that are tried again, and reads into the front of a buffer.
use Rattle.std.proofs.Common.{ℕ, List, Option, Some, None, sym, ◌∙◌}
use Rattle.std.specs.Io.KnownBytes.{Keeps, Consumes}
use Rattle.std.proofs.KnownBytes.{Keeps-refl, Keeps-trans}

-- a read after reads that took nothing
pub Keeps-Consumes : (a b c : Option (List ℕ)) (bytes : List ℕ) → Keeps a b → Consumes b c bytes → Consumes a c bytes
Keeps-Consumes None b c bytes kept read = tt
Keeps-Consumes (Some x) None c bytes kept read = absurd kept
Keeps-Consumes (Some x) (Some y) None bytes kept read = absurd read
Keeps-Consumes (Some x) (Some y) (Some z) bytes kept read = sym kept ∙ read

pub ruleset reading_rules = (Keeps-refl, Keeps-trans, Keeps-Consumes)
