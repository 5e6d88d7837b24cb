-- What the check of a guarded design answers: by which rule two designs differ first, and where.
use Rattle.std.specs.Prelude.{◌≡◌, ◌≢◌, ℕ, ◌<◌, List, slice_get}
use Rattle.flat_net.specs.Net.{Net}
use Rattle.dwc.specs.declared.check.GuardAnswer.{GuardAnswer}
use Rattle.dwc.specs.declared.check.GuardAnswer.TheVariants.{Guarded, Not}

-- where two lists differ first: an entry differs or is on one side alone
pub record DifferFirst {A : Type 0} (xs ys : List A) (at : ℕ) : Type 0 where
  pub differ : slice_get xs at ≢ slice_get ys at
  pub first : (i : ℕ) → i < at → slice_get xs i ≡ slice_get ys i

-- the model name, the names of the inputs and the clock
pub record SameFrame (a b : Net) : Type 0 where
  pub model : a.model ≡ b.model
  pub inputs : a.inputs ≡ b.inputs
  pub clock : a.clock ≡ b.clock

-- the least rule that fails, and the first place where it does: rule 1 is the frame, which has no place; rule 2 the nodes, whose
-- place counts among nodes; rule 3 the outputs
pub record BreaksFirst (a b : Net) (rule at : ℕ) : Type 0 where
  pub known : (0 < rule) × (rule < 4)
  pub frame : rule ≡ 1 → (at ≡ 0) × (SameFrame a b → ⊥)
  pub later : 1 < rule → SameFrame a b
  pub nodes : rule ≡ 2 → DifferFirst a.nodes b.nodes at
  pub outputs : rule ≡ 3 → (a.nodes ≡ b.nodes) × DifferFirst a.outputs b.outputs at

-- the answer to whether b is a
abbrev pub IsAnswer : Net → Net → GuardAnswer → Type 0
IsAnswer a b Guarded = a ≡ b
IsAnswer a b (Not rule at) = BreaksFirst a b rule at
