-- The design that a graph gives, by name.
use Rattle.std.specs.Prelude.{ℕ, ◌+◌, ◌-◌, nat_lt, nat_eq, Bool, true, false, List, [], ◌∷◌, ◌++◌, map, length, position, codes, None, if◌then◌else◌}
use Rattle.std.specs.Option.{unwrap_or}
use Rattle.std.specs.Fmt.{decimal}
use Rattle.table_cover.specs.Cover.{PlainCover}
use Rattle.flat_net.specs.Draft.{Element, TableOf, LatchOf, PlainDraft}
use Rattle.aag_text.specs.declared.aig.Literal.{Literal}
use Rattle.aag_text.specs.declared.aig.Latch.{Latch}
use Rattle.aag_text.specs.declared.aig.Gate.{Gate}
use Rattle.aag_text.specs.declared.aig.Start.{Start}
use Rattle.aag_text.specs.declared.aig.Start.TheVariants.{Zero, One, Free}
use Rattle.aag_text.specs.Aig.{PlainAig}
use Rattle.aag_text.specs.Variables.{defined}

-- what f gives for each entry and its number, from k on
abbrev pub map_from : {A B : Type 0} → (ℕ → A → B) → ℕ → List A → List B
map_from f k [] = []
map_from f k (x ∷ xs) = f k x ∷ map_from f (k + 1) xs

-- one entry for each node, in the order of the nodes: `f`, the latches, the gates, the next literals of the latches, and the outputs
abbrev pub each_node : {B : Type 0} → PlainAig → B
    → (ℕ → Latch → B) → (Gate → B) → (ℕ → Literal → B) → (ℕ → Literal → B) → List B
each_node a zero latch gate next output =
    zero ∷
    (map_from latch 0 a.latches ++
    (map gate a.gates ++
    (map_from next 0 (map (λ (l : Latch). l.next) a.latches) ++
    map_from output 0 a.outputs)))

-- ---- names

-- a letter and a number
abbrev pub numbered : ℕ → ℕ → List ℕ
numbered letter k = letter ∷ decimal k

-- the net of variable v that is defined in place p: `i0`, `i1` and so on for inputs, `l0`, `l1` and so on for latches, and `nV` for the gate
-- of variable V
abbrev pub placed_name : PlainAig → ℕ → ℕ → List ℕ
placed_name a v p =
    if nat_lt p (length a.inputs) then numbered 105 p
    else if nat_lt p (length a.inputs + length a.latches) then numbered 108 (p - length a.inputs)
    else numbered 110 v

-- the net of a variable; that of variable 0 is `f`
unfoldable pub net_name : PlainAig → ℕ → List ℕ
net_name a v = if nat_eq v 0 then codes "f" else placed_name a v (unwrap_or (position (nat_eq v) (defined a)) 0)

-- ---- nodes

-- `0` where the literal is negated and `1` elsewhere
abbrev pub mark_of : Literal → ℕ
mark_of l = if l.negated then 48 else 49

-- one row, of the marks of these literals
abbrev pub literals_cover : List Literal → PlainCover
literals_cover literals = record { width = length literals; is_on = true; rows = map mark_of literals ∷ [] }

-- the table that is 1 exactly where these literals are
abbrev pub table_of : PlainAig → List ℕ → List Literal → Element
table_of a name literals = TableOf (map (λ (l : Literal). net_name a l.variable) literals) name (literals_cover literals)

-- `f`, a table without rows, which is 0
abbrev pub zero_element : Element
zero_element = TableOf [] (codes "f") (record { width = 0; is_on = true; rows = [] })

-- a free latch begins with 0, and is marked
abbrev pub starts_with_1 : Start → Bool
starts_with_1 Zero = false
starts_with_1 One = true
starts_with_1 Free = false

abbrev pub starts_free : Start → Bool
starts_free Zero = false
starts_free One = false
starts_free Free = true

-- latch j takes over the value of `dj`, the table of its next literal
abbrev pub latch_element : ℕ → Latch → Element
latch_element j l = LatchOf (numbered 100 j) (numbered 108 j) None (starts_with_1 l.start)

abbrev pub gate_element : PlainAig → Gate → Element
gate_element a g = table_of a (numbered 110 g.variable) (g.left ∷ g.right ∷ [])

-- the table of a next literal or of an output, with its letter and number
abbrev pub literal_element : PlainAig → ℕ → ℕ → Literal → Element
literal_element a letter k l = table_of a (numbered letter k) (l ∷ [])

-- ---- the design

abbrev pub aig_elements : PlainAig → List Element
aig_elements a = each_node a zero_element latch_element (gate_element a) (literal_element a 100) (literal_element a 111)

-- the inputs `i0`, `i1` and so on, the nodes, and the outputs `o0`, `o1` and so on
unfoldable pub aig_draft : PlainAig → PlainDraft
aig_draft a = record {
  model = codes "aig";
  inputs = map_from (λ i v. numbered 105 i) 0 a.inputs;
  outputs = map_from (λ k l. numbered 111 k) 0 a.outputs;
  elements = aig_elements a;
}

-- a mark for each node: true at the latches whose value in cycle 0 is free
unfoldable pub aig_marks : PlainAig → List Bool
aig_marks a = each_node a false (λ j l. starts_free l.start) (λ g. false) (λ j l. false) (λ k l. false)
