-- Tokens as they are found. Private functions alone cite it.
use Rattle.std.specs.Prelude.{ℕ, Bool, ◌==◌, not, List, map, length}
use Rattle.std.specs.Borrow.{Bor}

-- tokens without where they lie in memory
abbrev pub plain : List (Bor (List ℕ)) → List (List ℕ)
plain tokens = map (λ token. token.now) tokens

-- what is a token, and not the nothing between two blanks
abbrev pub is_full : List ℕ → Bool
is_full token = not (length token == 0)
