-- And-inverter graphs.
use Rattle.std.specs.Prelude.{◌≡◌, ℕ, ◌+◌, ◌*◌, ◌<◌, ◌≤◌, Bool, false, not, ◌&&◌, List, if◌then◌else◌}
use Rattle.aag_text.specs.declared.aig.Literal.{Literal}
use Rattle.aag_text.specs.declared.aig.Latch.{Latch}
use Rattle.aag_text.specs.declared.aig.Gate.{Gate}
use Rattle.aag_text.specs.declared.aig.Aig.{Aig}

-- the variables of the inputs, the latches, the literals of the outputs and the gates, each in order
pub record PlainAig : Type 0 where
  pub inputs : List ℕ
  pub latches : List Latch
  pub outputs : List Literal
  pub gates : List Gate

-- the lists of a graph
abbrev pub plain_aig : Aig → PlainAig
plain_aig a = record { inputs = a.inputs.items; latches = a.latches.items; outputs = a.outputs.items; gates = a.gates.items }

-- the literal of a variable as it is
abbrev pub positive : ℕ → Literal
positive v = record { variable = v; negated = false }

-- literal 2 v + s is variable v, negated where s is 1
abbrev pub literal_number : Literal → ℕ
literal_number l = if l.negated then 2 * l.variable + 1 else 2 * l.variable

-- the value of a literal where each variable has its value
abbrev pub literal_value : (ℕ → Bool) → Literal → Bool
literal_value values l = if l.negated then not (values l.variable) else values l.variable

-- a gate is the conjunction of its literals
abbrev pub IsMet : (ℕ → Bool) → Gate → Type 0
IsMet values g = values g.variable ≡ (literal_value values g.left && literal_value values g.right)

-- a gate reads variables below its own alone
abbrev pub ReadsLesser : Gate → Type 0
ReadsLesser g = (g.left.variable < g.variable) × (g.right.variable < g.variable)

-- in a gate the greater literal stands first
abbrev pub IsGreaterFirst : Gate → Type 0
IsGreaterFirst g = literal_number g.right ≤ literal_number g.left
