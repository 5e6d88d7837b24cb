-- How many things have a property: lists without repetition, and their sums and products.
use Rattle.std.proofs.Common.{◌≡◌, ℕ, zero, suc, ◌+◌, ◌*◌, ◌<◌, ◌≤◌, ◌⊎◌, inl, inr, List, [], ◌∷◌, ◌++◌, length, map, refl, sym, ap, ◌∙◌, subst, arith}
use Rattle.std.specs.Prelude.{Contains, sum_by, slice_index}
use Rattle.std.specs.List.{range_with_len}
use Rattle.std.specs.List.Sorted.{IsStrictlyIncreasing}
use Rattle.std.proofs.Math.Nat.{mul-suc, mul-zero}
use Rattle.std.proofs.lemmas.Bool.{cases_lt}
use Rattle.std.proofs.lemmas.List.{length-map, length-append}
use Rattle.std.proofs.lemmas.List.Sums.{sum_by-cons}
use Rattle.exposure.specs.NearPairs.{HasNoneTwice, AreSoMany}

-- ---- lists without repetition, by recursion

abbrev pub In : {A : Type 0} → A → List A → Type 0
In x [] = ⊥
In x (y ∷ ys) = (y ≡ x) ⊎ In x ys

abbrev pub Apart : {A : Type 0} → List A → Type 0
Apart [] = Unit {0}
Apart (x ∷ xs) = (In x xs → ⊥) × Apart xs

-- so many things are P
pub record Counts {A : Type 0} (P : A → Type 0) (n : ℕ) : Type 0 where
  pub items : List A
  pub once : Apart items
  pub sound : (x : A) → In x items → P x
  pub complete : (x : A) → P x → In x items
  pub long : length items ≡ n

-- a thing that has one of these numbers
abbrev pub Within : {A : Type 0} → (ℕ → A → Type 0) → ℕ → ℕ → A → Type 0
Within P s n x = (p : ℕ) × (s ≤ p) × (p < s + n) × P p x

module _ {A : Type 0} where
  pub contains_in : (x : A) (xs : List A) → Contains xs x → In x xs
  contains_in x [] (k, l, e) = absurd (omega (arith, l))
  contains_in x (y ∷ ys) (zero, l, e) = inl e
  contains_in x (y ∷ ys) (suc k, l, e) = inr (contains_in x ys (k, omega (arith, l), e))

  behind : (x y : A) (ys : List A) → Contains ys x → Contains (y ∷ ys) x
  behind x y ys (k, l, e) = (suc k, omega (arith, l), e)

  pub in_contains : (x : A) (xs : List A) → In x xs → Contains xs x
  in_contains x [] i = absurd i
  in_contains x (y ∷ ys) (inl e) = (0, omega arith, e)
  in_contains x (y ∷ ys) (inr i) = behind x y ys (in_contains x ys i)

  apart_none_twice : (xs : List A) → Apart xs → HasNoneTwice xs
  apart_none_twice [] a = tt
  apart_none_twice (x ∷ xs) a = (λ c. a.0 (contains_in x xs c), apart_none_twice xs a.1)

  in_left : (x : A) (xs ys : List A) → In x xs → In x (xs ++ ys)
  in_left x [] ys i = absurd i
  in_left x (y ∷ xs) ys (inl e) = inl e
  in_left x (y ∷ xs) ys (inr i) = inr (in_left x xs ys i)

  in_right : (x : A) (xs ys : List A) → In x ys → In x (xs ++ ys)
  in_right x [] ys i = i
  in_right x (y ∷ xs) ys i = inr (in_right x xs ys i)

  one_more : (x y : A) (xs ys : List A) → In x xs ⊎ In x ys → In x (y ∷ xs) ⊎ In x ys
  one_more x y xs ys (inl i) = inl (inr i)
  one_more x y xs ys (inr i) = inr i

  in_either : (x : A) (xs ys : List A) → In x (xs ++ ys) → In x xs ⊎ In x ys
  in_either x [] ys i = inr i
  in_either x (y ∷ xs) ys (inl e) = inl (inl e)
  in_either x (y ∷ xs) ys (inr i) = one_more x y xs ys (in_either x xs ys i)

  neither : (x : A) (xs ys : List A) → (In x xs → ⊥) → (In x ys → ⊥) → In x xs ⊎ In x ys → ⊥
  neither x xs ys n m (inl i) = n i
  neither x xs ys n m (inr i) = m i

  apart_append : (xs ys : List A) → Apart xs → Apart ys → ((x : A) → In x xs → In x ys → ⊥) → Apart (xs ++ ys)
  apart_append [] ys a b d = b
  apart_append (x ∷ xs) ys a b d = (λ i. neither x xs ys a.0 (λ j. d x (inl refl) j) (in_either x xs ys i), apart_append xs ys a.1 b (λ y i j. d y (inr i) j))

  pub so_many : (P : A → Type 0) (n : ℕ) → Counts P n → AreSoMany P n
  so_many P n c = record {
    items = c.items;
    once = apart_none_twice c.items c.once;
    exact = λ x. (λ i. c.sound x (contains_in x c.items i), λ p. in_contains x c.items (c.complete x p));
    long = c.long;
  }

  pub count_none : (P : A → Type 0) → ((x : A) → P x → ⊥) → Counts P 0
  count_none P none = record { items = []; once = tt; sound = λ x i. absurd i; complete = λ x p. absurd (none x p); long = refl }

  pub count_same : (P Q : A → Type 0) (m n : ℕ) → m ≡ n → ((x : A) → P x → Q x) → ((x : A) → Q x → P x) → Counts P m → Counts Q n
  count_same P Q m n e f g c = record { items = c.items; once = c.once; sound = λ x i. f x (c.sound x i); complete = λ x q. c.complete x (g x q); long = c.long ∙ e }

  module _ (P Q : A → Type 0) (m n : ℕ) (apart : (x : A) → P x → Q x → ⊥) (c : Counts P m) (d : Counts Q n) where
    is_either : (x : A) → In x c.items ⊎ In x d.items → P x ⊎ Q x
    is_either x (inl i) = inl (c.sound x i)
    is_either x (inr i) = inr (d.sound x i)

    either_is : (x : A) → P x ⊎ Q x → In x (c.items ++ d.items)
    either_is x (inl p) = in_left x c.items d.items (c.complete x p)
    either_is x (inr q) = in_right x c.items d.items (d.complete x q)

    pub count_either : Counts (λ (x : A). P x ⊎ Q x) (m + n)
    count_either = record {
      items = c.items ++ d.items;
      once = apart_append c.items d.items c.once d.once (λ x i j. apart x (c.sound x i) (d.sound x j));
      sound = λ x i. is_either x (in_either x c.items d.items i);
      complete = either_is;
      long = omega (arith, length-append c.items d.items, c.long, d.long);
    }

module _ {A B : Type 0} where
  in_map : (f : A → B) (x : A) (xs : List A) → In x xs → In (f x) (map f xs)
  in_map f x [] i = absurd i
  in_map f x (y ∷ ys) (inl e) = inl (ap f e)
  in_map f x (y ∷ ys) (inr i) = inr (in_map f x ys i)

  one_more_from : (f : A → B) (y : B) (x : A) (xs : List A) → (z : A) × In z xs × (f z ≡ y) → (z : A) × In z (x ∷ xs) × (f z ≡ y)
  one_more_from f y x xs (z, i, e) = (z, inr i, e)

  map_in : (f : A → B) (y : B) (xs : List A) → In y (map f xs) → (x : A) × In x xs × (f x ≡ y)
  map_in f y [] i = absurd i
  map_in f y (x ∷ xs) (inl e) = (x, inl refl, e)
  map_in f y (x ∷ xs) (inr i) = one_more_from f y x xs (map_in f y xs i)

  none_from : (f : A → B) (x : A) (xs : List A) → ((x y : A) → f x ≡ f y → x ≡ y) → (In x xs → ⊥) → (z : A) × In z xs × (f z ≡ f x) → ⊥
  none_from f x xs one none (z, i, e) = none (subst (λ (w : A). In w xs) (one z x e) i)

  apart_map : (f : A → B) (xs : List A) → ((x y : A) → f x ≡ f y → x ≡ y) → Apart xs → Apart (map f xs)
  apart_map f [] one a = tt
  apart_map f (x ∷ xs) one a = (λ i. none_from f x xs one a.0 (map_in f (f x) xs i), apart_map f xs one a.1)

  -- ---- things that stand for one another

  module _ (P : A → Type 0) (n : ℕ) (f : A → B) (g : B → A) (back : (x : A) → g (f x) ≡ x) (forth : (y : B) → f (g y) ≡ y) (c : Counts P n) where
    from_other : (y : B) → (x : A) × In x c.items × (f x ≡ y) → P (g y)
    from_other y (x, i, e) = subst P (sym (back x) ∙ ap g e) (c.sound x i)

    pub count_as : Counts (λ (y : B). P (g y)) n
    count_as = record {
      items = map f c.items;
      once = apart_map f c.items (λ x y e. sym (back x) ∙ (ap g e ∙ back y)) c.once;
      sound = λ y i. from_other y (map_in f y c.items i);
      complete = λ y p. subst (λ (z : B). In z (map f c.items)) (forth y) (in_map f (g y) c.items (c.complete (g y) p));
      long = length-map c.items f ∙ c.long;
    }

-- ---- pairs

abbrev pair : {A B : Type 0} → A → B → A × B
pair x y = (x, y)

abbrev beside : {A B : Type 0} → B → A → A × B
beside y x = (x, y)

abbrev both : {A B : Type 0} → List A → List B → List (A × B)
both xs [] = []
both xs (y ∷ ys) = map (beside y) xs ++ both xs ys

turned : (a b : ℕ) → a + b ≡ b + a
turned a b = omega arith

module _ {A B : Type 0} where
  long_both : (xs : List A) (ys : List B) → length (both xs ys) ≡ length xs * length ys
  long_both xs [] = sym (mul-zero (length xs))
  long_both xs (y ∷ ys) =
      length-append (map (beside y) xs) (both xs ys)
      ∙ (ap (λ (l : ℕ). l + length (both xs ys)) (length-map xs (beside y))
      ∙ (ap (λ (l : ℕ). length xs + l) (long_both xs ys)
      ∙ (turned (length xs) (length xs * length ys) ∙ sym (mul-suc (length xs) (length ys)))))

  both_in : (x : A) (y : B) (xs : List A) (ys : List B) → In x xs → In y ys → In (pair x y) (both xs ys)
  both_in x y xs [] i j = absurd j
  both_in x y xs (z ∷ ys) i (inl e) = in_left (pair x y) (map (beside z) xs) (both xs ys) (subst (λ (w : B). In (pair x w) (map (beside z) xs)) e (in_map (beside z) x xs i))
  both_in x y xs (z ∷ ys) i (inr j) = in_right (pair x y) (map (beside z) xs) (both xs ys) (both_in x y xs ys i j)

  first_of : (p : A × B) (y : B) (xs : List A) → (x : A) × In x xs × (beside y x ≡ p) → In p.0 xs × (y ≡ p.1)
  first_of p y xs (x, i, e) = (subst (λ (w : A). In w xs) (ap (λ (q : A × B). q.0) e) i, ap (λ (q : A × B). q.1) e)

  parts_of : (p : A × B) (y : B) (xs : List A) (ys : List B) → (In p (both xs ys) → In p.0 xs × In p.1 ys) → In p (map (beside y) xs) ⊎ In p (both xs ys) → In p.0 xs × In p.1 (y ∷ ys)
  parts_of p y xs ys rest (inl i) = let here = first_of p y xs (map_in (beside y) p xs i) in (here.0, inl here.1)
  parts_of p y xs ys rest (inr i) = let there = rest i in (there.0, inr there.1)

  in_both : (p : A × B) (xs : List A) (ys : List B) → In p (both xs ys) → In p.0 xs × In p.1 ys
  in_both p xs [] i = absurd i
  in_both p xs (y ∷ ys) i = parts_of p y xs ys (in_both p xs ys) (in_either p (map (beside y) xs) (both xs ys) i)

  apart_both : (xs : List A) (ys : List B) → Apart xs → Apart ys → Apart (both xs ys)
  apart_both xs [] a b = tt
  apart_both xs (y ∷ ys) a b = apart_append (map (beside y) xs) (both xs ys) (apart_map (beside y) xs (λ u v e. ap (λ (q : A × B). q.0) e) a) (apart_both xs ys a b.1)
      (λ p i j. b.0 (subst (λ (w : B). In w ys) (sym (first_of p y xs (map_in (beside y) p xs i)).1) (in_both p xs ys j).1))

  pub count_both : (P : A → Type 0) (Q : B → Type 0) (m n : ℕ) → Counts P m → Counts Q n → Counts (λ (p : A × B). P p.0 × Q p.1) (m * n)
  count_both P Q m n c d = record {
    items = both c.items d.items;
    once = apart_both c.items d.items c.once d.once;
    sound = λ p i. let is = in_both p c.items d.items i in (c.sound p.0 is.0, d.sound p.1 is.1);
    complete = λ p h. both_in p.0 p.1 c.items d.items (c.complete p.0 h.0) (d.complete p.1 h.1);
    long = long_both c.items d.items ∙ (ap (λ (l : ℕ). l * length d.items) c.long ∙ ap (λ (l : ℕ). m * l) d.long);
  }

-- ---- numbers

range_at : (x s n : ℕ) → s ≤ x → x < s + suc n → (s + 1 ≤ x → x < s + 1 + n → In x (range_with_len (s + 1) n)) → (s < x) ⊎ (x ≤ s) → In x (range_with_len s (suc n))
range_at x s n l h later (inl above) = inr (later (omega (arith, above)) (omega (arith, h)))
range_at x s n l h later (inr here) = inl (omega (arith, l, here))

range_in : (x s n : ℕ) → s ≤ x → x < s + n → In x (range_with_len s n)
range_in x s zero l h = absurd (omega (arith, l, h))
range_in x s (suc n) l h = range_at x s n l h (range_in x (s + 1) n) (cases_lt s x)

in_range : (x s n : ℕ) → In x (range_with_len s n) → (s ≤ x) × (x < s + n)
in_range x s zero i = absurd i
in_range x s (suc n) (inl e) = (omega (arith, e), omega (arith, e))
in_range x s (suc n) (inr i) = let is = in_range x (s + 1) n i in (omega (arith, is.0), omega (arith, is.1))

apart_range : (s n : ℕ) → Apart (range_with_len s n)
apart_range s zero = tt
apart_range s (suc n) = (λ i. let is = in_range s (s + 1) n i in omega (arith, is.0), apart_range (s + 1) n)

long_range : (s n : ℕ) → length (range_with_len s n) ≡ n
long_range s zero = refl
long_range s (suc n) = omega (arith, long_range (s + 1) n)

pub count_range : (s n : ℕ) → Counts (λ (x : ℕ). (s ≤ x) × (x < s + n)) n
count_range s n = record {
  items = range_with_len s n;
  once = apart_range s n;
  sound = λ x i. in_range x s n i;
  complete = λ x h. range_in x s n h.0 h.1;
  long = long_range s n;
}

-- things that have one of these numbers, summed over the numbers
module _ {A : Type 0} (P : ℕ → A → Type 0) (f : ℕ → ℕ) (one : (p q : ℕ) (x : A) → P p x → P q x → p ≡ q) (each : (p : ℕ) → Counts (P p) (f p)) where
  not_within : (s : ℕ) (x : A) → Within P s 0 x → ⊥
  not_within s x (p, l, h, is) = omega (arith, l, h)

  not_later : (s n : ℕ) (x : A) → P s x → Within P (s + 1) n x → ⊥
  not_later s n x here (p, l, h, is) = let e = one s p x here is in omega (arith, l, e)

  join : (s n : ℕ) (x : A) → P s x ⊎ Within P (s + 1) n x → Within P s (suc n) x
  join s n x (inl here) = (s, omega arith, omega arith, here)
  join s n x (inr (p, l, h, is)) = (p, omega (arith, l), omega (arith, h), is)

  part_at : (s n : ℕ) (x : A) (p : ℕ) → s ≤ p → p < s + suc n → P p x → (s < p) ⊎ (p ≤ s) → P s x ⊎ Within P (s + 1) n x
  part_at s n x p l h is (inl above) = inr (p, omega (arith, above), omega (arith, h), is)
  part_at s n x p l h is (inr low) = let e : p ≡ s = omega (arith, l, low) in inl (subst (λ (q : ℕ). P q x) e is)

  part : (s n : ℕ) (x : A) → Within P s (suc n) x → P s x ⊎ Within P (s + 1) n x
  part s n x (p, l, h, is) = part_at s n x p l h is (cases_lt s p)

  pub count_over : (s n : ℕ) → Counts (Within P s n) (sum_by f (range_with_len s n))
  count_over s zero = count_none (Within P s zero) (not_within s)
  count_over s (suc n) = count_same (λ (x : A). P s x ⊎ Within P (s + 1) n x) (Within P s (suc n)) (f s + sum_by f (range_with_len (s + 1) n)) (sum_by f (range_with_len s (suc n))) (sym (sum_by-cons f s (range_with_len (s + 1) n))) (join s n) (part s n)
      (count_either (P s) (Within P (s + 1) n) (f s) (sum_by f (range_with_len (s + 1) n)) (not_later s n) (each s) (count_over (s + 1) n))

-- ---- rising lists

tail_rises : (x : ℕ) (xs : List ℕ) → IsStrictlyIncreasing (x ∷ xs) → IsStrictlyIncreasing xs
tail_rises x xs rises k l =
    let one : suc k + 1 ≡ suc (k + 1) = omega arith in
    let next : slice_index (x ∷ xs) (suc k + 1) ≡ slice_index xs (k + 1) = ap (slice_index (x ∷ xs)) one in
    omega (arith, next, rises (suc k) (omega (arith, l)))

second_above : (x z : ℕ) (zs : List ℕ) → IsStrictlyIncreasing (x ∷ z ∷ zs) → x < z
second_above x z zs rises =
    let one : 0 + 1 ≡ suc zero = omega arith in
    let first : slice_index (x ∷ z ∷ zs) 0 ≡ x = refl in
    let next : slice_index (x ∷ z ∷ zs) (0 + 1) ≡ z = ap (slice_index (x ∷ z ∷ zs)) one in
    omega (arith, first, next, rises 0 (omega arith))

first_below : (x : ℕ) (xs : List ℕ) → IsStrictlyIncreasing (x ∷ xs) → (y : ℕ) → In y xs → x < y
first_below x [] rises y i = absurd i
first_below x (z ∷ zs) rises y (inl e) = omega (arith, second_above x z zs rises, e)
first_below x (z ∷ zs) rises y (inr i) = omega (arith, second_above x z zs rises, first_below z zs (tail_rises x (z ∷ zs) rises) y i)

rising_apart : (xs : List ℕ) → IsStrictlyIncreasing xs → Apart xs
rising_apart [] rises = tt
rising_apart (x ∷ xs) rises = (λ i. let l = first_below x xs rises x i in omega (arith, l), rising_apart xs (tail_rises x xs rises))

pub count_rising : (P : ℕ → Type 0) (n : ℕ) (xs : List ℕ) → IsStrictlyIncreasing xs → ((h : ℕ) → Contains xs h → P h) → ((h : ℕ) → P h → Contains xs h) → length xs ≡ n → Counts P n
count_rising P n xs rises sound complete long = record {
  items = xs;
  once = rising_apart xs rises;
  sound = λ h i. sound h (in_contains h xs i);
  complete = λ h p. contains_in h xs (complete h p);
  long = long;
}
