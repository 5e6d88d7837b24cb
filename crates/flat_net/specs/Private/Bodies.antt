-- A node by its place: where its pins begin, and what it has beside its name and its pins.
use Rattle.std.specs.Prelude.{◌≡◌, ℕ, zero, suc, List, Option, Some, None}
use Rattle.std.proofs.Math.ListN.{get_or}
use Rattle.flat_net.specs.declared.nodes.Body.{Body}
use Rattle.flat_net.specs.declared.nodes.Body.TheVariants.{TableBody, RegisterBody}
use Rattle.flat_net.specs.Net.{Node, Table, Register}
use Rattle.flat_net.specs.Draft.{Element, TableOf, LatchOf}

-- where node i has its first pin
abbrev pub start_of : ℕ → List ℕ → ℕ → ℕ
start_of from ends zero = from
start_of from ends (suc i) = get_or ends i 0

-- the node has this body
abbrev pub IsBodyOf : Option Node → Body → Type 0
IsBodyOf None body = ⊥
IsBodyOf (Some (Table name cover pins)) (TableBody k) = cover ≡ k
IsBodyOf (Some (Table name cover pins)) (RegisterBody b) = ⊥
IsBodyOf (Some (Register name init pin)) (TableBody k) = ⊥
IsBodyOf (Some (Register name init pin)) (RegisterBody b) = init ≡ b

-- what an element's node has beside its name and its pins
abbrev pub body_of : Element → Body
body_of (TableOf pins out cover) = TableBody cover
body_of (LatchOf pin out control init) = RegisterBody init
