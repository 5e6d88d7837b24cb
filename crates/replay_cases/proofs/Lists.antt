-- What holds of all elements of a list, and of one more.
use Rattle.std.proofs.Common.{◌≡◌, zero, suc, ◌++◌, ◌∷◌, [], List, sym, subst, arith}
use Rattle.std.specs.Prelude.{All}
use Rattle.std.proofs.lemmas.List.Elements.{All-append}

one : {A : Type 0} (P : A → Type 0) (x : A) → P x → All P (x ∷ [])
one P x p zero d h = p
one P x p (suc i) d h = absurd (omega arith)

pub all_more : {A : Type 0} (P : A → Type 0) (xs new : List A) (x : A) → All P xs → P x → new ≡ xs ++ x ∷ [] → All P new
all_more {A} P xs new x all p e = subst (λ (ys : List A). All P ys) (sym e) (All-append P xs (x ∷ []) all (λ i d h. one P x p i d h))
