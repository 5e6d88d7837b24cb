-- Lists that are kept in part, and lists of blocks, by place.
use Rattle.std.proofs.Common.{◌≡◌, ℕ, zero, suc, ◌+◌, ◌-◌, ◌<◌, ◌≤◌, ◌⊎◌, inl, inr, List, [], ◌∷◌, ◌++◌, length, take, filter, Some, slice_get, refl, sym, ap, ◌∙◌, arith, Bool, true, false, cond}
use Rattle.std.specs.List.{flat_map}
use Rattle.std.proofs.lemmas.Bool.{cases_lt}
use Rattle.std.proofs.lemmas.List.{length-append}
use Rattle.triplicate.proofs.Lists.{get_before, get_after}

-- how many of the first m entries pass
abbrev pub kept_before : {A : Type 0} → (A → Bool) → List A → ℕ → ℕ
kept_before p xs m = length (filter p (take m xs))

-- an entry that passes is kept
pub kept_at : {A : Type 0} (p : A → Bool) (xs : List A) (m : ℕ) (x : A) → slice_get xs m ≡ Some x → p x ≡ true → slice_get (filter p xs) (kept_before p xs m) ≡ Some x
kept_at p [] m x h e = absurd (cc)
kept_at {A} p (y ∷ ys) zero x h e =
    let same : y ≡ x = cc in
    let b : p y ≡ true = ap p same ∙ e in
    ap (λ (c : Bool). slice_get (cond c (y ∷ filter p ys) (filter p ys)) 0) b ∙ h
kept_at p (y ∷ ys) (suc m) x h e = go (p y) refl (kept_at p ys m x h e)
  where
    go : (b : Bool) → p y ≡ b → slice_get (filter p ys) (kept_before p ys m) ≡ Some x → slice_get (filter p (y ∷ ys)) (kept_before p (y ∷ ys) (suc m)) ≡ Some x
    go true f ih = rw f ih
    go false f ih = rw f ih

-- where a kept entry came from
pub record IsKept {A : Type 0} (p : A → Bool) (xs : List A) (k : ℕ) (x : A) : Type 0 where
  pub from : ℕ
  pub is : slice_get xs from ≡ Some x
  pub passes : p x ≡ true
  pub rank : k ≡ kept_before p xs from

pub kept_place : {A : Type 0} (p : A → Bool) (xs : List A) (k : ℕ) (x : A) → slice_get (filter p xs) k ≡ Some x → IsKept p xs k x
kept_place p [] k x h = absurd (cc)
kept_place {A} p (y ∷ ys) k x h = go (p y) refl (kept_place p ys) k h
  where
    go : (b : Bool) → p y ≡ b → ((k : ℕ) (x : A) → slice_get (filter p ys) k ≡ Some x → IsKept p ys k x) → (k : ℕ) → slice_get (filter p (y ∷ ys)) k ≡ Some x → IsKept p (y ∷ ys) k x
    go true f ih zero h =
        let here : slice_get (y ∷ filter p ys) 0 ≡ Some x = ap (λ (c : Bool). slice_get (cond c (y ∷ filter p ys) (filter p ys)) 0) (sym f) ∙ h in
        let same : y ≡ x = cc in
        record { from = 0; is = ap Some same; passes = sym (ap p same) ∙ f; rank = refl }
    go true f ih (suc k) h =
        let r = ih k x (ap (λ (c : Bool). slice_get (cond c (y ∷ filter p ys) (filter p ys)) (suc k)) (sym f) ∙ h) in
        record { from = suc r.from; is = r.is; passes = r.passes; rank = ap suc r.rank ∙ sym (ap (λ (c : Bool). length (cond c (y ∷ filter p (take r.from ys)) (filter p (take r.from ys)))) f) }
    go false f ih k h =
        let r = ih k x (ap (λ (c : Bool). slice_get (cond c (y ∷ filter p ys) (filter p ys)) k) (sym f) ∙ h) in
        record { from = suc r.from; is = r.is; passes = r.passes; rank = r.rank ∙ sym (ap (λ (c : Bool). length (cond c (y ∷ filter p (take r.from ys)) (filter p (take r.from ys)))) f) }

-- an entry that passes is counted by those behind it
pub kept_rises : {A : Type 0} (p : A → Bool) (xs : List A) (j m : ℕ) (x : A) → j < m → slice_get xs j ≡ Some x → p x ≡ true → kept_before p xs j < kept_before p xs m
kept_rises p [] j m x h at e = absurd (cc)
kept_rises p (y ∷ ys) j zero x h at e = absurd (omega arith)
kept_rises p (y ∷ ys) zero (suc m) x h at e =
    let same : y ≡ x = cc in
    let b : p y ≡ true = ap p same ∙ e in
    omega (arith, ap (λ (c : Bool). length (cond c (y ∷ filter p (take m ys)) (filter p (take m ys)))) b)
kept_rises p (y ∷ ys) (suc j) (suc m) x h at e = go (p y) refl (kept_rises p ys j m x (omega arith) at e)
  where
    go : (b : Bool) → p y ≡ b → kept_before p ys j < kept_before p ys m → kept_before p (y ∷ ys) (suc j) < kept_before p (y ∷ ys) (suc m)
    go true f ih = rw f (omega arith)
    go false f ih = rw f ih

-- ---- lists of blocks

-- how long the blocks of the first a entries are
abbrev pub blocks_before : {A B : Type 0} → (A → List B) → List A → ℕ → ℕ
blocks_before f xs a = length (flat_map f (take a xs))

pub blocks_at : {A B : Type 0} (f : A → List B) (xs : List A) (a i : ℕ) (x : A) → slice_get xs a ≡ Some x → i < length (f x) → slice_get (flat_map f xs) (blocks_before f xs a + i) ≡ slice_get (f x) i
blocks_at f [] a i x h l = absurd (cc)
blocks_at f (y ∷ ys) zero i x h l =
    let same : y ≡ x = cc in
    let e : 0 + i ≡ i = omega arith in
    rw (e, same) (get_before (f x) (flat_map f ys) i l)
blocks_at f (y ∷ ys) (suc a) i x h l =
    let e : length (f y ++ flat_map f (take a ys)) + i ≡ length (f y) + (blocks_before f ys a + i) = omega (arith, length-append (f y) (flat_map f (take a ys))) in
    ap (slice_get (f y ++ flat_map f ys)) e ∙ (get_after (f y) (flat_map f ys) (blocks_before f ys a + i) ∙ blocks_at f ys a i x h l)

pub record InBlocks {A B : Type 0} (f : A → List B) (xs : List A) (k : ℕ) : Type 0 where
  pub entry : A
  pub at : ℕ
  pub offset : ℕ
  pub is : slice_get xs at ≡ Some entry
  pub within : offset < length (f entry)
  pub place : k ≡ blocks_before f xs at + offset

pub in_blocks : {A B : Type 0} (f : A → List B) (xs : List A) (k : ℕ) → k < length (flat_map f xs) → InBlocks f xs k
in_blocks f [] k h = absurd (omega arith)
in_blocks {A} {B} f (x ∷ xs) k h = go (in_blocks f xs) (cases_lt k (length (f x)))
  where
    go : ((k : ℕ) → k < length (flat_map f xs) → InBlocks f xs k) → (k < length (f x)) ⊎ (length (f x) ≤ k) → InBlocks f (x ∷ xs) k
    go ih (inl l) = record { entry = x; at = 0; offset = k; is = refl; within = l; place = omega arith }
    go ih (inr l) =
        let r = ih (k - length (f x)) (omega (arith, length-append (f x) (flat_map f xs), h)) in
        record { entry = r.entry; at = suc r.at; offset = r.offset; is = r.is; within = r.within; place = omega (arith, length-append (f x) (flat_map f (take r.at xs)), r.place) }

pub blocks_ascend : {A B : Type 0} (f : A → List B) (xs : List A) (a b : ℕ) (x : A) → a < b → slice_get xs a ≡ Some x → blocks_before f xs a + length (f x) ≤ blocks_before f xs b
blocks_ascend f [] a b x h at = absurd (cc)
blocks_ascend f (y ∷ ys) a zero x h at = absurd (omega arith)
blocks_ascend f (y ∷ ys) zero (suc b) x h at =
    let same : y ≡ x = cc in
    omega (arith, ap (λ z. length (f z)) same, length-append (f y) (flat_map f (take b ys)))
blocks_ascend f (y ∷ ys) (suc a) (suc b) x h at =
    omega (arith, blocks_ascend f ys a b x (omega arith) at, length-append (f y) (flat_map f (take a ys)), length-append (f y) (flat_map f (take b ys)))
