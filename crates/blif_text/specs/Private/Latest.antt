-- What Kind says of the statements before another, where the latest of them stands first. Only private functions and proofs cite it:
-- proofs/InOrder has that both say the same.
use Rattle.std.specs.Prelude.{ℕ, List, [], ◌∷◌, ◌++◌, Bool, Option, Some, None, option_map, if◌then◌else◌}
use Rattle.blif_text.specs.declared.fault.TextKind.{TextKind}
use Rattle.blif_text.specs.declared.statements.word.Word.{Word}
use Rattle.blif_text.specs.declared.statements.word.Word.TheVariants.{Model, End}
use Rattle.blif_text.specs.Text.{Statement}
use Rattle.blif_text.specs.Kind.{Shape, Here, Bad, is_model, is_inputs, is_outputs, is_clock, shape_from, table_tokens, kind_at, bad_or}

abbrev pub lists : (Word → Bool) → List Statement → List (List ℕ)
lists of [] = []
lists of (s ∷ earlier) = if of s.word then lists of earlier ++ s.arguments else lists of earlier

abbrev pub in_model : Word → Statement → Option (List Statement) → Option (List Statement)
in_model Model s body = Some []
in_model End s body = None
in_model _ s body = option_map (λ body. s ∷ body) body

unfoldable pub open_model : List Statement → Option (List Statement)
open_model [] = None
open_model (s ∷ earlier) = in_model s.word s (open_model earlier)

unfoldable pub table_before : List Statement → Option Shape
table_before [] = None
table_before (s ∷ earlier) = shape_from s.word (table_tokens s.word s) (table_before earlier)

abbrev pub here_of : List Statement → Here
here_of body = record { inputs = lists is_inputs body; outputs = lists is_outputs body; clocks = lists is_clock body; table = table_before body }

unfoldable pub here : List Statement → Option Here
here earlier = option_map here_of (open_model earlier)

abbrev pub kind : List Statement → Statement → Option TextKind
kind earlier s = kind_at (lists is_model earlier) (here earlier) s

unfoldable pub first_bad : List Statement → List Statement → Option Bad
first_bad earlier [] = None
first_bad earlier (s ∷ rest) = bad_or s.line (kind earlier s) (first_bad (s ∷ earlier) rest)
