-- Which variables a graph defines, and which it reads.
use Rattle.std.specs.Prelude.{ℕ, nat_eq, Bool, not, ◌||◌, List, [], ◌∷◌, ◌++◌, map}
use Rattle.std.specs.List.{flat_map, list_any}
use Rattle.flat_net.specs.First.{HasNone}
use Rattle.aag_text.specs.declared.aig.Literal.{Literal}
use Rattle.aag_text.specs.declared.aig.Latch.{Latch}
use Rattle.aag_text.specs.declared.aig.Gate.{Gate}
use Rattle.aag_text.specs.Aig.{PlainAig}

-- the variables that are defined, in the order of the file
abbrev pub defined : PlainAig → List ℕ
defined a = a.inputs ++ (map (λ (l : Latch). l.variable) a.latches ++ map (λ (g : Gate). g.variable) a.gates)

-- the variable is one of these
abbrev pub is_among : List ℕ → ℕ → Bool
is_among variables v = list_any (nat_eq v) variables

-- the variables of the next, output and gate literals, in the order of the file
abbrev pub read_variables : PlainAig → List ℕ
read_variables a =
    map (λ (l : Latch). l.next.variable) a.latches ++
    (map (λ (l : Literal). l.variable) a.outputs ++
    flat_map (λ (g : Gate). g.left.variable ∷ g.right.variable ∷ []) a.gates)

-- the variable is not 0 and is not defined
abbrev pub is_undefined : PlainAig → List ℕ → ℕ → Bool
is_undefined a before v = not (nat_eq v 0 || is_among (defined a) v)

-- no variable is defined twice
abbrev pub IsDefinedOnce : PlainAig → Type 0
IsDefinedOnce a = HasNone is_among (defined a)

-- each variable that is read is defined, or 0
abbrev pub IsDefined : PlainAig → Type 0
IsDefined a = HasNone (is_undefined a) (read_variables a)
