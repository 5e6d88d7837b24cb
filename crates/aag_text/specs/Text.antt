-- The text of a graph, as a list of lines, each of them a list of words.
use Rattle.std.specs.Prelude.{ℕ, ◌+◌, ◌*◌, List, [], ◌∷◌, ◌++◌, map, length, codes}
use Rattle.std.specs.Fmt.{decimal}
use Rattle.flat_net.specs.Net.{Net, name_of}
use Rattle.blif_writer.specs.Text.{lines_text}
use Rattle.aag_text.specs.declared.aig.Header.{Header}
use Rattle.aag_text.specs.declared.aig.Literal.{Literal}
use Rattle.aag_text.specs.declared.aig.Latch.{Latch}
use Rattle.aag_text.specs.declared.aig.Gate.{Gate}
use Rattle.aag_text.specs.declared.aig.Start.{Start}
use Rattle.aag_text.specs.declared.aig.Start.TheVariants.{Zero, One, Free}
use Rattle.aag_text.specs.Aig.{PlainAig, literal_number}
use Rattle.aag_text.specs.Same.{registers}

-- a literal by its number, and a variable by that of its literal
abbrev pub literal_word : Literal → List ℕ
literal_word l = decimal (literal_number l)

abbrev pub variable_word : ℕ → List ℕ
variable_word v = decimal (2 * v)

-- nothing for 0, `1`, or the latch itself where the value in cycle 0 is free
abbrev pub start_words : ℕ → Start → List (List ℕ)
start_words v Zero = []
start_words v One = codes "1" ∷ []
start_words v Free = variable_word v ∷ []

-- the header of a graph with the greatest variable m
abbrev pub header : ℕ → PlainAig → Header
header m a = record { most = m; inputs = length a.inputs; latches = length a.latches; outputs = length a.outputs; gates = length a.gates }

-- `aag M I L O A`
abbrev pub header_line : Header → List (List ℕ)
header_line h = codes "aag" ∷ decimal h.most ∷ decimal h.inputs ∷ decimal h.latches ∷ decimal h.outputs ∷ decimal h.gates ∷ []

abbrev pub latch_line : Latch → List (List ℕ)
latch_line l = variable_word l.variable ∷ literal_word l.next ∷ start_words l.variable l.start

abbrev pub gate_line : Gate → List (List ℕ)
gate_line g = variable_word g.variable ∷ literal_word g.left ∷ literal_word g.right ∷ []

-- `i0 NAME`, `i1 NAME` and so on, from k on, with this letter
abbrev pub symbol_lines : ℕ → ℕ → List (List ℕ) → List (List (List ℕ))
symbol_lines letter k [] = []
symbol_lines letter k (name ∷ names) = ((letter ∷ decimal k) ∷ name ∷ []) ∷ symbol_lines letter (k + 1) names

-- the names of a design's inputs, registers and outputs
abbrev pub design_symbols : Net → List (List (List ℕ))
design_symbols n =
    symbol_lines 105 0 n.inputs ++
    (symbol_lines 108 0 (map (name_of n) (registers n)) ++
    symbol_lines 111 0 (map (name_of n) n.outputs))

-- the lines of a graph with the greatest variable m, without symbols
abbrev pub aig_lines : ℕ → PlainAig → List (List (List ℕ))
aig_lines m a =
    header_line (header m a) ∷
    (map (λ v. variable_word v ∷ []) a.inputs ++
    (map latch_line a.latches ++
    (map (λ (l : Literal). literal_word l ∷ []) a.outputs ++
    map gate_line a.gates)))

-- the file of a graph, with the names of a design
abbrev pub aag_text : ℕ → PlainAig → Net → List ℕ
aag_text m a n = lines_text (aig_lines m a ++ design_symbols n)
