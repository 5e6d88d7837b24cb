-- What a graph does, cycle by cycle.
use Rattle.std.specs.Prelude.{◌≡◌, ℕ, zero, suc, ◌<◌, Bool, true, false, List, length, Some, slice_get, slice_index}
use Rattle.net_meaning.specs.Meaning.{bit, value_at}
use Rattle.aag_text.specs.declared.aig.Latch.{Latch}
use Rattle.aag_text.specs.declared.aig.Gate.{Gate}
use Rattle.aag_text.specs.declared.aig.Start.{Start}
use Rattle.aag_text.specs.declared.aig.Start.TheVariants.{Zero, One, Free}
use Rattle.aag_text.specs.Aig.{PlainAig, literal_value, IsMet}

-- the value of a latch in cycle 0, where a free one has the bit b
abbrev pub start_value : Start → Bool → Bool
start_value Zero b = false
start_value One b = true
start_value Free b = b

-- the value of a latch in cycle t: at first its start value, and later what its next literal had in the cycle before
abbrev pub latch_value : Latch → Bool → (ℕ → ℕ → Bool) → ℕ → Bool
latch_value l b tr zero = start_value l.start b
latch_value l b tr (suc t) = literal_value (tr t) l.next

-- `tr t v` is the value of variable v in cycle t; w has one bit for each latch, and each row of `ins` one for each input
pub record IsAigTrace (a : PlainAig) (w : List Bool) (ins : List (List Bool)) (tr : ℕ → ℕ → Bool) : Type 0 where
  pub zero : (t : ℕ) → t < length ins → tr t 0 ≡ false
  pub inputs : (t i : ℕ) → t < length ins → i < length a.inputs → tr t (slice_index a.inputs i) ≡ value_at ins t i
  pub latches : (t j : ℕ) (l : Latch) → t < length ins → slice_get a.latches j ≡ Some l → tr t l.variable ≡ latch_value l (bit w j) tr t
  pub gates : (t k : ℕ) (g : Gate) → t < length ins → slice_get a.gates k ≡ Some g → IsMet (tr t) g
