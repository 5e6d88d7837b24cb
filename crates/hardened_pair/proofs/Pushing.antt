-- One block more.
use Rattle.std.proofs.Common.{◌≡◌, ℕ, suc, ◌+◌, List, [], ◌∷◌, ◌++◌, take, filter, slice_get, Some, refl, sym, ap, ◌∙◌, arith, append_assoc, append-nil, Bool, true, false, cond}
use Rattle.std.specs.List.{flat_map, range_with_len}
use Rattle.std.proofs.lemmas.List.{take_more}
use Rattle.std.proofs.lemmas.List.Concat.{flat_map-append}
use Rattle.std.proofs.lemmas.List.Elements.{filter-append}
use Rattle.std.proofs.lemmas.Option.{slice_get_within, get_or_from_slice_get}
use Rattle.node_reads.proofs.Numbers.{numbers_more}

pub blocks_one_more : (f : ℕ → List ℕ) (start old new : List ℕ) (x : ℕ) → old ≡ start ++ flat_map f (range_with_len 0 x) → new ≡ old ++ f x → new ≡ start ++ flat_map f (range_with_len 0 (x + 1))
blocks_one_more f start old new x before more =
    let e : x + 1 ≡ suc x = omega arith in
    more ∙ (ap (λ xs. xs ++ f x) before ∙ (append_assoc start (flat_map f (range_with_len 0 x)) (f x)
    ∙ ap (λ xs. start ++ xs) (sym (ap (λ k. flat_map f (range_with_len 0 k)) e ∙ (ap (flat_map f) (numbers_more x) ∙ (flat_map-append f (range_with_len 0 x) (x ∷ []) ∙ ap (λ xs. flat_map f (range_with_len 0 x) ++ xs) (append-nil (f x))))))))

kept_more : (f : ℕ → List ℕ) (p : ℕ → Bool) (xs : List ℕ) (i x : ℕ) → slice_get xs i ≡ Some x → flat_map f (filter p (take (i + 1) xs)) ≡ flat_map f (filter p (take i xs)) ++ cond (p x) (f x) []
kept_more f p xs i x at =
    let h = slice_get_within xs i x at in
    let here = get_or_from_slice_get xs i x 0 at in
    ap (λ ys. flat_map f (filter p ys)) (take_more xs i 0 h ∙ ap (λ y. take i xs ++ y ∷ []) here)
    ∙ (ap (flat_map f) (filter-append p (take i xs) (x ∷ []))
    ∙ (flat_map-append f (filter p (take i xs)) (filter p (x ∷ []))
    ∙ ap (λ ys. flat_map f (filter p (take i xs)) ++ ys) (last (p x))))
  where
    last : (b : Bool) → flat_map f (cond b (x ∷ []) []) ≡ cond b (f x) []
    last true = append-nil (f x)
    last false = refl

pub kept_one_more : (f : ℕ → List ℕ) (p : ℕ → Bool) (start old new xs : List ℕ) (i x : ℕ) → slice_get xs i ≡ Some x → old ≡ start ++ flat_map f (filter p (take i xs)) → new ≡ old ++ cond (p x) (f x) [] → new ≡ start ++ flat_map f (filter p (take (i + 1) xs))
kept_one_more f p start old new xs i x at before more =
    more ∙ (ap (λ ys. ys ++ cond (p x) (f x) []) before ∙ (append_assoc start (flat_map f (filter p (take i xs))) (cond (p x) (f x) []) ∙ ap (λ ys. start ++ ys) (sym (kept_more f p xs i x at))))
