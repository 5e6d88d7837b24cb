-- One token more is read.
use Rattle.std.proofs.Common.{◌≡◌, ℕ, ◌<◌, ◌+◌, List, [], ◌∷◌, ◌++◌, length, get_or, drop, map, refl, sym, ap, ◌∙◌, add-one, append_assoc, Option, Some, None}
use Rattle.std.proofs.Math.Seq.{drop-cons}
use Rattle.std.specs.Borrow.{Bor}
use Rattle.blif_text.specs.declared.fault.TextKind.{TextKind}
use Rattle.blif_text.specs.Private.Answers.{plain}
use Rattle.blif_text.specs.Kind.{◌or_else◌, name_kind, names_kind, binding_kind, bindings_kind}

here : (tokens : List (Bor (List ℕ))) (i : ℕ) (d : Bor (List ℕ)) → i < length tokens → drop i tokens ≡ get_or tokens i d ∷ drop (i + 1) tokens
here tokens i d below = rw add-one (drop-cons tokens i d below)

pub read_more : {X : Type 0} (f : List ℕ → X) (tokens : List (Bor (List ℕ))) (i : ℕ) (d : Bor (List ℕ)) (old new : List X) (x : X) (whole : List X) → i < length tokens → new ≡ old ++ x ∷ [] → x ≡ f ((get_or tokens i d).now) → old ++ map f (plain (drop i tokens)) ≡ whole → new ++ map f (plain (drop (i + 1) tokens)) ≡ whole
read_more f tokens i d old new x whole below more one so_far =
    ap (λ n. n ++ map f (plain (drop (i + 1) tokens))) more
    ∙ (append_assoc old (x ∷ []) (map f (plain (drop (i + 1) tokens)))
    ∙ (ap (λ y. old ++ y ∷ map f (plain (drop (i + 1) tokens))) one
    ∙ (ap (λ ts. old ++ map f (plain ts)) (sym (here tokens i d below)) ∙ so_far)))

pub read_on : (tokens : List (Bor (List ℕ))) (i : ℕ) (d : Bor (List ℕ)) (old new : List (List ℕ)) (x : List ℕ) (whole : List (List ℕ)) → i < length tokens → new ≡ old ++ x ∷ [] → x ≡ (get_or tokens i d).now → old ++ plain (drop i tokens) ≡ whole → new ++ plain (drop (i + 1) tokens) ≡ whole
read_on tokens i d old new x whole below more one so_far =
    ap (λ n. n ++ plain (drop (i + 1) tokens)) more
    ∙ (append_assoc old (x ∷ []) (plain (drop (i + 1) tokens))
    ∙ (ap (λ y. old ++ y ∷ plain (drop (i + 1) tokens)) one
    ∙ (ap (λ ts. old ++ plain ts) (sym (here tokens i d below)) ∙ so_far)))

passed : (k rest : Option TextKind) → k ≡ None → (k or_else rest) ≡ rest
passed None rest e = refl
passed (Some kind) rest e = absurd (cc)

pub names_kind_more : (tokens : List (Bor (List ℕ))) (i : ℕ) (d : Bor (List ℕ)) (whole : Option TextKind) → i < length tokens → name_kind (get_or tokens i d).now ≡ None → names_kind (plain (drop i tokens)) ≡ whole → names_kind (plain (drop (i + 1) tokens)) ≡ whole
unfolding names_kind
names_kind_more tokens i d whole below none so_far = sym (passed (name_kind (get_or tokens i d).now) (names_kind (plain (drop (i + 1) tokens))) none) ∙ (ap (λ ts. names_kind (plain ts)) (sym (here tokens i d below)) ∙ so_far)

pub bindings_kind_more : (tokens : List (Bor (List ℕ))) (i : ℕ) (d : Bor (List ℕ)) (whole : Option TextKind) → i < length tokens → binding_kind (get_or tokens i d).now ≡ None → bindings_kind (plain (drop i tokens)) ≡ whole → bindings_kind (plain (drop (i + 1) tokens)) ≡ whole
unfolding bindings_kind
bindings_kind_more tokens i d whole below none so_far = sym (passed (binding_kind (get_or tokens i d).now) (bindings_kind (plain (drop (i + 1) tokens))) none) ∙ (ap (λ ts. bindings_kind (plain ts)) (sym (here tokens i d below)) ∙ so_far)
