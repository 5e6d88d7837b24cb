-- Lists that are made block by block.
use Rattle.std.proofs.Common.{◌≡◌, ℕ, zero, suc, ◌+◌, ◌-◌, ◌*◌, ◌<◌, ◌≤◌, ◌⊎◌, inl, inr, List, [], ◌∷◌, ◌++◌, length, filter, Some, slice_get, refl, sym, ap, ◌∙◌, subst, arith, Bool, true, false, cond}
use Rattle.std.specs.List.{flat_map, range_with_len}
use Rattle.std.proofs.lemmas.Bool.{cases_lt}
use Rattle.std.proofs.lemmas.List.{length-append, append-nil}
use Rattle.std.proofs.lemmas.List.Elements.{filter-append}
use Rattle.std.proofs.lemmas.List.Concat.{flat_map-append}
use Rattle.node_reads.proofs.Numbers.{numbers_more, passing_more}
use Rattle.tmr_base.specs.declared.copies.CopyNo.{CopyNo}
use Rattle.tmr_base.specs.declared.copies.CopyNo.TheVariants.{First, Second, Third}
use Rattle.tmr_base.specs.Copies.{copy_number}
use Rattle.triplicate.specs.Blocks.{threefold}

pub get_before : {A : Type 0} (xs ys : List A) (i : ℕ) → i < length xs → slice_get (xs ++ ys) i ≡ slice_get xs i
get_before [] ys i h = absurd (omega arith)
get_before (x ∷ xs) ys zero h = refl
get_before (x ∷ xs) ys (suc i) h = get_before xs ys i (omega arith)

pub get_after : {A : Type 0} (xs ys : List A) (i : ℕ) → slice_get (xs ++ ys) (length xs + i) ≡ slice_get ys i
get_after [] ys i = let e : 0 + i ≡ i = omega arith in ap (slice_get ys) e
get_after (x ∷ xs) ys i =
    let e : suc (length xs) + i ≡ suc (length xs + i) = omega arith in
    rw e (get_after xs ys i)

-- the numbers from a on, cut behind the first m
pub range_cut : (a m k : ℕ) → range_with_len a (m + k) ≡ range_with_len a m ++ range_with_len (a + m) k
range_cut a zero k = let e : 0 + k ≡ k = omega arith in let f : a + 0 ≡ a = omega arith in rw (e, f) refl
range_cut a (suc m) k =
    let e : suc m + k ≡ suc (m + k) = omega arith in
    let f : (a + 1) + m ≡ a + suc m = omega arith in
    rw e (ap (λ (xs : List ℕ). a ∷ xs) (range_cut (a + 1) m k ∙ ap (λ j. range_with_len (a + 1) m ++ range_with_len j k) f))

-- the numbers below n are those below x, x, and those behind it
pub numbers_cut : (x n : ℕ) → x < n → range_with_len 0 n ≡ range_with_len 0 x ++ x ∷ range_with_len (x + 1) (n - (x + 1))
numbers_cut x n h =
    let e : n ≡ x + suc (n - (x + 1)) = omega arith in
    let f : 0 + x ≡ x = omega arith in
    ap (range_with_len 0) e ∙ (range_cut 0 x (suc (n - (x + 1))) ∙ ap (λ j. range_with_len 0 x ++ range_with_len j (suc (n - (x + 1)))) f)

-- a list of blocks, cut at block x
pub blocks_cut : {A : Type 0} (f : ℕ → List A) (x n : ℕ) → x < n → flat_map f (range_with_len 0 n) ≡ flat_map f (range_with_len 0 x) ++ (f x ++ flat_map f (range_with_len (x + 1) (n - (x + 1))))
blocks_cut f x n h = ap (flat_map f) (numbers_cut x n h) ∙ flat_map-append f (range_with_len 0 x) (x ∷ range_with_len (x + 1) (n - (x + 1)))

-- entry i of block x
pub block_at : {A : Type 0} (f : ℕ → List A) (x n i : ℕ) → x < n → i < length (f x) → slice_get (flat_map f (range_with_len 0 n)) (length (flat_map f (range_with_len 0 x)) + i) ≡ slice_get (f x) i
block_at f x n i h l =
    ap (λ xs. slice_get xs (length (flat_map f (range_with_len 0 x)) + i)) (blocks_cut f x n h)
    ∙ (get_after (flat_map f (range_with_len 0 x)) (f x ++ flat_map f (range_with_len (x + 1) (n - (x + 1)))) i
    ∙ get_before (f x) (flat_map f (range_with_len (x + 1) (n - (x + 1)))) i l)

-- place g of a list of blocks is entry `offset` of block `block`
pub record Place {A : Type 0} (f : ℕ → List A) (n g : ℕ) : Type 0 where
  pub block : ℕ
  pub offset : ℕ
  pub below : block < n
  pub within : offset < length (f block)
  pub is : g ≡ length (flat_map f (range_with_len 0 block)) + offset

pub blocks_more : {A : Type 0} (f : ℕ → List A) (n : ℕ) → length (flat_map f (range_with_len 0 (suc n))) ≡ length (flat_map f (range_with_len 0 n)) + length (f n)
blocks_more f n =
    ap (λ (xs : List ℕ). length (flat_map f xs)) (numbers_more n)
    ∙ (ap length (flat_map-append f (range_with_len 0 n) (n ∷ []))
    ∙ (length-append (flat_map f (range_with_len 0 n)) (f n ++ [])
    ∙ ap (λ k. length (flat_map f (range_with_len 0 n)) + k) (ap length (append-nil (f n)))))

pub place_of : {A : Type 0} (f : ℕ → List A) (n g : ℕ) → g < length (flat_map f (range_with_len 0 n)) → Place f n g
place_of f zero g h = absurd (omega arith)
place_of f (suc n) g h = go (place_of f n g) (cases_lt g (length (flat_map f (range_with_len 0 n))))
  where
    go : (g < length (flat_map f (range_with_len 0 n)) → Place f n g) → (g < length (flat_map f (range_with_len 0 n))) ⊎ (length (flat_map f (range_with_len 0 n)) ≤ g) → Place f (suc n) g
    go before (inl l) = let p = before l in record { block = p.block; offset = p.offset; below = omega (arith, p.below); within = p.within; is = p.is }
    go before (inr r) = record { block = n; offset = g - length (flat_map f (range_with_len 0 n)); below = omega arith; within = omega (arith, blocks_more f n); is = omega arith }

-- blocks end before those behind them begin
pub blocks_rise : {A : Type 0} (f : ℕ → List A) (x y : ℕ) → x < y → length (flat_map f (range_with_len 0 x)) + length (f x) ≤ length (flat_map f (range_with_len 0 y))
blocks_rise f x y h =
    let e = ap length (blocks_cut f x y h) in
    omega (arith, e, length-append (flat_map f (range_with_len 0 x)) (f x ++ flat_map f (range_with_len (x + 1) (y - (x + 1)))), length-append (f x) (flat_map f (range_with_len (x + 1) (y - (x + 1)))))

-- ---- triples

pub threefold_at : {A : Type 0} (f : CopyNo → A) (c : CopyNo) → slice_get (threefold f) (copy_number c) ≡ Some (f c)
threefold_at f First = refl
threefold_at f Second = refl
threefold_at f Third = refl

pub copy_number_few : (c : CopyNo) → copy_number c < 3
copy_number_few First = omega arith
copy_number_few Second = omega arith
copy_number_few Third = omega arith

-- 0, 1 and 2 are the numbers of copies
pub copy_numbered : (i : ℕ) → i < 3 → (c : CopyNo) × (copy_number c ≡ i)
copy_numbered zero h = (First, refl)
copy_numbered (suc zero) h = (Second, refl)
copy_numbered (suc (suc zero)) h = (Third, refl)
copy_numbered (suc (suc (suc i))) h = absurd (omega arith)

pub same_copy : (c d : CopyNo) → copy_number c ≡ copy_number d → c ≡ d
same_copy First First e = refl
same_copy First Second e = absurd (omega (arith, e))
same_copy First Third e = absurd (omega (arith, e))
same_copy Second First e = absurd (omega (arith, e))
same_copy Second Second e = refl
same_copy Second Third e = absurd (omega (arith, e))
same_copy Third First e = absurd (omega (arith, e))
same_copy Third Second e = absurd (omega (arith, e))
same_copy Third Third e = refl

pub length-threes : {X A : Type 0} (f : X → CopyNo → A) (xs : List X) → length (flat_map (λ x. threefold (f x)) xs) ≡ 3 * length xs
length-threes f [] = refl
length-threes f (x ∷ xs) = omega (arith, length-threes f xs)

-- entry 3 * q + c of a list of triples
pub threes_at : {X A : Type 0} (f : X → CopyNo → A) (xs : List X) (q : ℕ) (x : X) (c : CopyNo) → slice_get xs q ≡ Some x → slice_get (flat_map (λ y. threefold (f y)) xs) (3 * q + copy_number c) ≡ Some (f x c)
threes_at f [] q x c h = absurd (cc)
threes_at f (y ∷ ys) zero x c h =
    let same : y ≡ x = cc in
    let e : 3 * 0 + copy_number c ≡ copy_number c = omega arith in
    rw (e, ← same) (get_before (threefold (f y)) (flat_map (λ y. threefold (f y)) ys) (copy_number c) (copy_number_few c) ∙ threefold_at (f y) c)
threes_at f (y ∷ ys) (suc q) x c h =
    let e : 3 * suc q + copy_number c ≡ suc (suc (suc (3 * q + copy_number c))) = omega arith in
    rw e (threes_at f ys q x c h)

-- a place of a list of triples
pub record InThrees (count g : ℕ) : Type 0 where
  pub triple : ℕ
  pub copy : CopyNo
  pub below : triple < count
  pub is : g ≡ 3 * triple + copy_number copy

pub in_threes : (count g : ℕ) → g < 3 * count → InThrees count g
in_threes zero g h = absurd (omega arith)
in_threes (suc count) g h = go (in_threes count g) (cases_lt g (3 * count))
  where
    go : (g < 3 * count → InThrees count g) → (g < 3 * count) ⊎ (3 * count ≤ g) → InThrees (suc count) g
    go before (inl l) = let p = before l in record { triple = p.triple; copy = p.copy; below = omega (arith, p.below); is = p.is }
    go before (inr r) = let (c, e) = copy_numbered (g - 3 * count) (omega arith) in record { triple = count; copy = c; below = omega arith; is = omega (arith, e) }

-- ---- the numbers that pass a test

pub passing_cut : (p : ℕ → Bool) (x n : ℕ) → x < n → p x ≡ true → filter p (range_with_len 0 n) ≡ filter p (range_with_len 0 x) ++ x ∷ filter p (range_with_len (x + 1) (n - (x + 1)))
passing_cut p x n h e =
    ap (filter p) (numbers_cut x n h)
    ∙ (filter-append p (range_with_len 0 x) (x ∷ range_with_len (x + 1) (n - (x + 1)))
    ∙ ap (λ (b : Bool). filter p (range_with_len 0 x) ++ cond b (x ∷ filter p (range_with_len (x + 1) (n - (x + 1)))) (filter p (range_with_len (x + 1) (n - (x + 1))))) e)

-- where a number that passes stands
pub passing_at : (p : ℕ → Bool) (x n : ℕ) → x < n → p x ≡ true → slice_get (filter p (range_with_len 0 n)) (length (filter p (range_with_len 0 x))) ≡ Some x
passing_at p x n h e =
    let k = length (filter p (range_with_len 0 x)) in
    let z : k ≡ k + 0 = omega arith in
    ap (λ xs. slice_get xs k) (passing_cut p x n h e)
    ∙ (ap (slice_get (filter p (range_with_len 0 x) ++ x ∷ filter p (range_with_len (x + 1) (n - (x + 1))))) z
    ∙ get_after (filter p (range_with_len 0 x)) (x ∷ filter p (range_with_len (x + 1) (n - (x + 1)))) 0)

-- an entry of the numbers that pass: it passes, and it stands behind all lower ones
pub record Passed (p : ℕ → Bool) (n q x : ℕ) : Type 0 where
  pub below : x < n
  pub passes : p x ≡ true
  pub rank : q ≡ length (filter p (range_with_len 0 x))

pub passing_place : (p : ℕ → Bool) (n q x : ℕ) → slice_get (filter p (range_with_len 0 n)) q ≡ Some x → Passed p n q x
passing_place p zero q x h = absurd (cc)
passing_place p (suc n) q x h = go (passing_place p n q x) (cases_lt q (length (filter p (range_with_len 0 n))))
  where
    split : slice_get (filter p (range_with_len 0 n) ++ cond (p n) (n ∷ []) []) q ≡ Some x
    split = ap (λ xs. slice_get xs q) (sym (passing_more p n)) ∙ h

    last : (b : Bool) → p n ≡ b → (k : ℕ) → q ≡ length (filter p (range_with_len 0 n)) + k → slice_get (cond b (n ∷ []) []) k ≡ Some x → Passed p (suc n) q x
    last false e k at is = absurd (cc)
    last true e zero at is =
        let same : n ≡ x = cc in
        record { below = omega arith; passes = subst (λ y. p y ≡ true) same e; rank = subst (λ y. q ≡ length (filter p (range_with_len 0 y))) same (omega arith) }
    last true e (suc k) at is = absurd (cc)

    go : (slice_get (filter p (range_with_len 0 n)) q ≡ Some x → Passed p n q x) → (q < length (filter p (range_with_len 0 n))) ⊎ (length (filter p (range_with_len 0 n)) ≤ q) → Passed p (suc n) q x
    go before (inl l) =
        let r = before (sym (get_before (filter p (range_with_len 0 n)) (cond (p n) (n ∷ []) []) q l) ∙ split) in
        record { below = omega (arith, r.below); passes = r.passes; rank = r.rank }
    go before (inr l) =
        let k = q - length (filter p (range_with_len 0 n)) in
        let e : q ≡ length (filter p (range_with_len 0 n)) + k = omega arith in
        last (p n) refl k e (sym (get_after (filter p (range_with_len 0 n)) (cond (p n) (n ∷ []) []) k) ∙ (ap (slice_get (filter p (range_with_len 0 n) ++ cond (p n) (n ∷ []) [])) (sym e) ∙ split))
