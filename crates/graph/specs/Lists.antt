-- Lists in which each number stands in a relation to the one before.
use Rattle.std.specs.Prelude.{ℕ}

-- a list leads from a to b, perhaps a alone; `Next x y` says that y may follow x
pub data Leads (Next : ℕ → ℕ → Type 0) : ℕ → ℕ → Type 0 where
  alone : (a : ℕ) → Leads Next a a
  longer : (a b c : ℕ) → Leads Next a b → Next b c → Leads Next a c
