-- The statements before another in the order of the text, and the latest of them first: both say the same of it.
use Rattle.std.proofs.Common.{◌≡◌, ℕ, Bool, true, false, cond, List, [], ◌∷◌, ◌++◌, reverse, Option, Some, None, option_map, refl, sym, ap, ◌∙◌, append_assoc, append-nil}
use Rattle.std.proofs.lemmas.List.{reverse-append}
use Rattle.blif_text.specs.declared.fault.TextKind.{TextKind}
use Rattle.blif_text.specs.declared.statements.word.Word.{Word}
use Rattle.blif_text.specs.declared.statements.word.Word.TheVariants.{Model, Inputs, Outputs, Clock, Names, Latch, Subckt, End, Unknown, Row}
use Rattle.blif_text.specs.Text.{Statement}
use Rattle.blif_text.specs.Kind.{Shape, Here, bad_or, shape_from, table_tokens, kind_at, is_model, is_inputs, is_outputs, is_clock, listed, in_model, open_from, open_model, table_from, table_before, here_of, here, kind, first_bad}
use Rattle.blif_text.specs.Private.Latest.{lists, in_model as in_latest, open_model as open_latest, table_before as table_latest, here_of as here_of_latest, here as here_latest, kind as kind_latest, first_bad as first_bad_latest}

-- one statement later

turn : (s : Statement) (earlier : List Statement) → reverse (s ∷ earlier) ≡ reverse earlier ++ s ∷ []
turn s earlier = reverse-append (s ∷ []) earlier

listed_one : (of : Word → Bool) (s : Statement) (xs : List Statement) → listed of (xs ++ s ∷ []) ≡ cond (of s.word) (listed of xs ++ s.arguments) (listed of xs)
unfolding listed
listed_one of s [] = go (of s.word)
  where
    go : (b : Bool) → cond b (s.arguments ++ []) [] ≡ cond b s.arguments []
    go true = append-nil s.arguments
    go false = refl
listed_one of s (x ∷ xs) = ap (λ (l : List (List ℕ)). cond (of x.word) (x.arguments ++ l) l) (listed_one of s xs) ∙ go (of x.word) (of s.word)
  where
    go : (b d : Bool) → cond b (x.arguments ++ cond d (listed of xs ++ s.arguments) (listed of xs)) (cond d (listed of xs ++ s.arguments) (listed of xs)) ≡ cond d (cond b (x.arguments ++ listed of xs) (listed of xs) ++ s.arguments) (cond b (x.arguments ++ listed of xs) (listed of xs))
    go true true = sym (append_assoc x.arguments (listed of xs) s.arguments)
    go true false = refl
    go false true = refl
    go false false = refl

open_one : (body : Option (List Statement)) (s : Statement) (xs : List Statement) → open_from body (xs ++ s ∷ []) ≡ in_model s.word s (open_from body xs)
open_one body s [] = refl
open_one body s (x ∷ xs) = open_one (in_model x.word x body) s xs

table_one : (table : Option Shape) (s : Statement) (xs : List Statement) → table_from table (xs ++ s ∷ []) ≡ shape_from s.word (table_tokens s.word s) (table_from table xs)
table_one table s [] = refl
table_one table s (x ∷ xs) = table_one (shape_from x.word (table_tokens x.word x) table) s xs

-- all of them

listed_same : (of : Word → Bool) (earlier : List Statement) → listed of (reverse earlier) ≡ lists of earlier
unfolding listed
listed_same of [] = refl
listed_same of (s ∷ earlier) =
    ap (listed of) (turn s earlier)
    ∙ (listed_one of s (reverse earlier)
    ∙ ap (λ (l : List (List ℕ)). cond (of s.word) (l ++ s.arguments) l) (listed_same of earlier))

pushed : (s : Statement) (o : Option (List Statement)) → option_map (λ (body : List Statement). body ++ s ∷ []) (option_map (λ (body : List Statement). reverse body) o) ≡ option_map (λ (body : List Statement). reverse body) (option_map (λ (body : List Statement). s ∷ body) o)
pushed s None = refl
pushed s (Some body) = ap (λ (l : List Statement). let o : Option (List Statement) = Some l in o) (sym (turn s body))

in_turned : (w : Word) (s : Statement) (o : Option (List Statement)) → in_model w s (option_map (λ (body : List Statement). reverse body) o) ≡ option_map (λ (body : List Statement). reverse body) (in_latest w s o)
in_turned Model s o = refl
in_turned End s o = refl
in_turned Inputs s o = pushed s o
in_turned Outputs s o = pushed s o
in_turned Clock s o = pushed s o
in_turned Names s o = pushed s o
in_turned Latch s o = pushed s o
in_turned Subckt s o = pushed s o
in_turned Unknown s o = pushed s o
in_turned Row s o = pushed s o

open_same : (earlier : List Statement) → open_model (reverse earlier) ≡ option_map (λ (body : List Statement). reverse body) (open_latest earlier)
unfolding open_model open_latest
open_same [] = refl
open_same (s ∷ earlier) =
    ap open_model (turn s earlier)
    ∙ (open_one None s (reverse earlier)
    ∙ (ap (in_model s.word s) (open_same earlier) ∙ in_turned s.word s (open_latest earlier)))

table_same : (body : List Statement) → table_before (reverse body) ≡ table_latest body
unfolding table_before table_latest
table_same [] = refl
table_same (s ∷ body) =
    ap table_before (turn s body)
    ∙ (table_one None s (reverse body)
    ∙ ap (shape_from s.word (table_tokens s.word s)) (table_same body))

of_lists : List (List ℕ) → List (List ℕ) → List (List ℕ) → Option Shape → Here
of_lists inputs outputs clocks table = record { inputs = inputs; outputs = outputs; clocks = clocks; table = table }

here_of_same : (body : List Statement) → here_of (reverse body) ≡ here_of_latest body
unfolding of_lists
here_of_same body =
    ap (λ (l : List (List ℕ)). of_lists l (listed is_outputs (reverse body)) (listed is_clock (reverse body)) (table_before (reverse body))) (listed_same is_inputs body)
    ∙ (ap (λ (l : List (List ℕ)). of_lists (lists is_inputs body) l (listed is_clock (reverse body)) (table_before (reverse body))) (listed_same is_outputs body)
    ∙ (ap (λ (l : List (List ℕ)). of_lists (lists is_inputs body) (lists is_outputs body) l (table_before (reverse body))) (listed_same is_clock body)
    ∙ ap (λ (t : Option Shape). of_lists (lists is_inputs body) (lists is_outputs body) (lists is_clock body) t) (table_same body)))

here_turned : (o : Option (List Statement)) → option_map here_of (option_map (λ (body : List Statement). reverse body) o) ≡ option_map here_of_latest o
here_turned None = refl
here_turned (Some body) = ap (λ (h : Here). let o : Option Here = Some h in o) (here_of_same body)

here_same : (earlier : List Statement) → here (reverse earlier) ≡ here_latest earlier
unfolding here here_latest
here_same earlier = ap (option_map here_of) (open_same earlier) ∙ here_turned (open_latest earlier)

kind_same : (earlier : List Statement) (s : Statement) → kind (reverse earlier) s ≡ kind_latest earlier s
kind_same earlier s = ap (λ (names : List (List ℕ)). kind_at names (here (reverse earlier)) s) (listed_same is_model earlier) ∙ ap (λ (h : Option Here). kind_at (lists is_model earlier) h s) (here_same earlier)

pub bad_behind : (earlier rest : List Statement) → first_bad (reverse earlier) rest ≡ first_bad_latest earlier rest
unfolding first_bad first_bad_latest
bad_behind earlier [] = refl
bad_behind earlier (s ∷ rest) =
    ap (λ (k : Option TextKind). bad_or s.line k (first_bad (reverse earlier ++ s ∷ []) rest)) (kind_same earlier s)
    ∙ ap (bad_or s.line (kind_latest earlier s)) (ap (λ (l : List Statement). first_bad l rest) (sym (turn s earlier)) ∙ bad_behind (s ∷ earlier) rest)

-- of a whole text
pub bad_same : (statements : List Statement) → first_bad [] statements ≡ first_bad_latest [] statements
bad_same statements = bad_behind [] statements
