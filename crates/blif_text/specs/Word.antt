-- What a statement's first token says: one of the eight words that are read, another word with a dot, or a row.
use Rattle.std.specs.Prelude.{ℕ, ◌==◌, Bool, false, true, List, [], ◌∷◌, codes, if◌then◌else◌}
use Rattle.std.specs.Str.{bytes_eq}
use Rattle.blif_text.specs.declared.statements.word.Word.{Word}
use Rattle.blif_text.specs.declared.statements.word.Word.TheVariants.{Model, Inputs, Outputs, Clock, Names, Latch, Subckt, End, Unknown, Row}

-- the first byte is a dot
abbrev pub has_dot : List ℕ → Bool
has_dot [] = false
has_dot (b ∷ bs) = b == 46

unfoldable pub word_of : List ℕ → Word
word_of token =
    if bytes_eq token (codes ".model") then Model
    else if bytes_eq token (codes ".inputs") then Inputs
    else if bytes_eq token (codes ".outputs") then Outputs
    else if bytes_eq token (codes ".clock") then Clock
    else if bytes_eq token (codes ".names") then Names
    else if bytes_eq token (codes ".latch") then Latch
    else if bytes_eq token (codes ".subckt") then Subckt
    else if bytes_eq token (codes ".end") then End
    else if has_dot token then Unknown
    else Row

-- neither begins nor ends a model
abbrev pub is_inner : Word → Bool
is_inner Model = false
is_inner End = false
is_inner _ = true
