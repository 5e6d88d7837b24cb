-- Variables that are found twice, or not at all.
use Rattle.std.specs.Prelude.{◌≡◌, ℕ, nat_eq, true, not, ◌||◌, List, [], ◌∷◌}
use Rattle.flat_net.specs.First.{IsFirst}
use Rattle.aag_text.specs.declared.aig.Gate.{Gate}
use Rattle.aag_reader.specs.declared.fault.GraphFault.{GraphFault}
use Rattle.aag_reader.specs.declared.fault.GraphFault.TheVariants.{Line, Doubled, Undefined, Memory}
use Rattle.aag_text.specs.Variables.{is_among}

abbrev pub gate_reads : Gate → List ℕ
gate_reads g = g.left.variable ∷ g.right.variable ∷ []

-- this variable is one of those already
abbrev pub IsTwice : List ℕ → ℕ → GraphFault → Type 0
IsTwice variables v (Line number) = ⊥
IsTwice variables v (Doubled u) = (u ≡ v) × (is_among variables v ≡ true)
IsTwice variables v (Undefined u) = ⊥
IsTwice variables v Memory = Unit {0}

-- the first variable that stands twice
abbrev pub IsDoubledIn : List ℕ → GraphFault → Type 0
IsDoubledIn variables (Line number) = ⊥
IsDoubledIn variables (Doubled v) = IsFirst is_among variables v
IsDoubledIn variables (Undefined v) = ⊥
IsDoubledIn variables Memory = Unit {0}

-- the first of these that is neither 0 nor known
abbrev pub IsUndefinedIn : List ℕ → List ℕ → GraphFault → Type 0
IsUndefinedIn known variables (Line number) = ⊥
IsUndefinedIn known variables (Doubled v) = ⊥
IsUndefinedIn known variables (Undefined v) = IsFirst (λ before u. not (nat_eq u 0 || is_among known u)) variables v
IsUndefinedIn known variables Memory = Unit {0}
