-- Lists that go over a row, one entry more; and the numbers of a range.
use Rattle.std.proofs.Common.{◌≡◌, ℕ, ◌+◌, ◌<◌, ◌≤◌, List, ◌++◌, length, drop, get_or, slice_get, Some, sym, ap, ◌∙◌, append_assoc, arith}
use Rattle.std.specs.List.{flat_map, range_with_len}
use Rattle.std.proofs.lemmas.List.{append-nil, drop_all, drop_more}
use Rattle.std.proofs.lemmas.List.FromFn.{length-range_with_len, get_or-range_with_len}
use Rattle.std.proofs.lemmas.Option.{get_or_from_slice_get, slice_get_within}

-- one entry more of a row
pub row_put : {A B : Type 0} (f : B → List A) (i : ℕ) (xs : List B) (x : B) (out new total : List A) → i < length xs → x ≡ get_or xs i x → new ≡ out ++ f x → out ++ flat_map f (drop i xs) ≡ total → new ++ flat_map f (drop (i + 1) xs) ≡ total
row_put f i xs x out new total lt is put e =
    let rest = flat_map f (drop (i + 1) xs) in
    ap (λ o. o ++ rest) put ∙ (append_assoc out (f x) rest ∙ (ap (λ y. out ++ (f y ++ rest)) is ∙ (ap (λ ys. out ++ flat_map f ys) (sym (drop_more xs i x lt)) ∙ e)))

-- none is left
pub row_done : {A B : Type 0} (f : B → List A) (i : ℕ) (xs : List B) (out total : List A) → length xs ≤ i → out ++ flat_map f (drop i xs) ≡ total → out ≡ total
row_done f i xs out total le e = sym (append-nil out) ∙ (ap (λ ys. out ++ flat_map f ys) (sym (drop_all i xs le)) ∙ e)

-- the numbers in a range
pub in_range : (k i j : ℕ) → slice_get (range_with_len 0 k) i ≡ Some j → (j ≡ i) × (i < k)
in_range k i j at =
    let within : i < length (range_with_len 0 k) = slice_get_within (range_with_len 0 k) i j at in
    let low : i < k = omega (arith, within, length-range_with_len 0 k) in
    (omega (arith, sym (get_or_from_slice_get (range_with_len 0 k) i j 0 at) ∙ get_or-range_with_len 0 k i 0 low), low)
