-- Loops of gates.
use Rattle.std.specs.Prelude.{◌≡◌, ◌≢◌, ℕ, suc, ◌-◌, ◌<◌, ◌≤◌, List, [], ◌∷◌, length, slice_index, Contains}
use Rattle.aag_text.specs.declared.aig.Gate.{Gate}
use Rattle.aag_text.specs.Aig.{PlainAig}

-- a gate with variable v reads variable u
pub record ReadsGate (a : PlainAig) (v u : ℕ) : Type 0 where
  pub gate : Gate
  pub there : Contains a.gates gate
  pub variable : gate.variable ≡ v
  pub reads : Contains (gate.left.variable ∷ gate.right.variable ∷ []) u

-- gates, by their variables, of which each reads the next and the last reads the first, none twice, beginning with the least
pub record IsLoop (a : PlainAig) (variables : List ℕ) : Type 0 where
  pub some : 0 < length variables
  pub next : (k : ℕ) → suc k < length variables → ReadsGate a (slice_index variables k) (slice_index variables (suc k))
  pub closed : ReadsGate a (slice_index variables (length variables - 1)) (slice_index variables 0)
  pub once : (j k : ℕ) → j < k → k < length variables → slice_index variables j ≢ slice_index variables k
  pub least : (k : ℕ) → k < length variables → slice_index variables 0 ≤ slice_index variables k

abbrev pub HasNoLoop : PlainAig → Type 0
HasNoLoop a = (variables : List ℕ) → IsLoop a variables → ⊥
