-- Pieces of a graph's text.
use Rattle.std.specs.Prelude.{ℕ, ◌+◌, List, [], ◌∷◌, if◌then◌else◌}
use Rattle.flat_net.specs.Net.{Net, node_of, name_of}
use Rattle.aag_text.specs.Private.Nets.{is_register_at}
use Rattle.std.specs.List.{flat_map}
use Rattle.std.specs.Fmt.{decimal}

-- words, a blank before each
abbrev pub spaced : List (List ℕ) → List ℕ
spaced words = flat_map (λ word. 32 ∷ word) words

-- the line of a symbol
abbrev pub symbol_line : ℕ → ℕ → List ℕ → List (List ℕ)
symbol_line letter k name = (letter ∷ decimal k) ∷ name ∷ []

-- the line of net x, where it is a register, and the number of the next one
abbrev pub register_symbols : Net → ℕ → ℕ → List (List (List ℕ))
register_symbols n j x = if is_register_at (node_of n x) then symbol_line 108 j (name_of n x) ∷ [] else []

abbrev pub next_symbol : Net → ℕ → ℕ → ℕ
next_symbol n j x = if is_register_at (node_of n x) then j + 1 else j
