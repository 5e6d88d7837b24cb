-- Lists that are made in pairs.
use Rattle.std.proofs.Common.{◌≡◌, ℕ, zero, suc, ◌+◌, ◌*◌, ◌<◌, List, [], ◌∷◌, ◌++◌, length, map, Some, slice_get, refl, sym, ap, ◌∙◌, arith, append_assoc, take}
use Rattle.std.specs.List.{flat_map, range_with_len}
use Rattle.std.proofs.lemmas.List.{take_more, map-append}
use Rattle.std.proofs.lemmas.List.Concat.{flat_map-append}
use Rattle.std.proofs.lemmas.Option.{slice_get_within, get_or_from_slice_get}
use Rattle.tmr_base.specs.declared.ids.NetId.{NetId}
use Rattle.flat_net.specs.Nodes.{number_of}
use Rattle.dwc.specs.Guard.{twofold}

pub get_before : {A : Type 0} (xs ys : List A) (i : ℕ) → i < length xs → slice_get (xs ++ ys) i ≡ slice_get xs i
get_before [] ys i h = absurd (omega arith)
get_before (x ∷ xs) ys zero h = refl
get_before (x ∷ xs) ys (suc i) h = get_before xs ys i (omega arith)

pub get_after : {A : Type 0} (xs ys : List A) (i : ℕ) → slice_get (xs ++ ys) (length xs + i) ≡ slice_get ys i
get_after [] ys i = let e : 0 + i ≡ i = omega arith in ap (slice_get ys) e
get_after (x ∷ xs) ys i =
    let e : suc (length xs) + i ≡ suc (length xs + i) = omega arith in
    rw e (get_after xs ys i)

pub length-twos : {X A : Type 0} (f : X → ℕ → A) (xs : List X) → length (flat_map (λ x. twofold (f x)) xs) ≡ 2 * length xs
length-twos f [] = refl
length-twos f (x ∷ xs) = omega (arith, length-twos f xs)

twofold_at : {A : Type 0} (f : ℕ → A) (c : ℕ) → c < 2 → slice_get (twofold f) c ≡ Some (f c)
twofold_at f zero h = refl
twofold_at f (suc zero) h = refl
twofold_at f (suc (suc c)) h = absurd (omega arith)

-- entry 2 * q + c of a list of pairs
pub twos_at : {X A : Type 0} (f : X → ℕ → A) (xs : List X) (q : ℕ) (x : X) (c : ℕ) → slice_get xs q ≡ Some x → c < 2 → slice_get (flat_map (λ y. twofold (f y)) xs) (2 * q + c) ≡ Some (f x c)
twos_at f [] q x c h l = absurd (cc)
twos_at f (y ∷ ys) zero x c h l =
    let same : y ≡ x = cc in
    let e : 2 * 0 + c ≡ c = omega arith in
    rw (e, ← same) (get_before (twofold (f y)) (flat_map (λ y. twofold (f y)) ys) c l ∙ twofold_at (f y) c l)
twos_at f (y ∷ ys) (suc q) x c h l =
    let e : 2 * suc q + c ≡ suc (suc (2 * q + c)) = omega arith in
    rw e (twos_at f ys q x c h l)

-- a number is twice another, or one more
pub record Halves (g : ℕ) : Type 0 where
  pub half : ℕ
  pub copy : ℕ
  pub few : copy < 2
  pub is : g ≡ 2 * half + copy

pub halves : (g : ℕ) → Halves g
halves zero = record { half = 0; copy = 0; few = omega arith; is = omega arith }
halves (suc zero) = record { half = 0; copy = 1; few = omega arith; is = omega arith }
halves (suc (suc g)) = let h = halves g in record { half = suc h.half; copy = h.copy; few = h.few; is = omega (arith, h.is) }

-- two copies have one number only where they are the same
pub same_half : (x y c d : ℕ) → c < 2 → d < 2 → 2 * x + c ≡ 2 * y + d → (x ≡ y) × (c ≡ d)
same_half x y c d l m e = (omega (arith, l, m, e), omega (arith, l, m, e))

-- ---- pushes

-- one number more
pub pushed : (old new : List NetId) (x : NetId) (y : ℕ) → new ≡ old ++ x ∷ [] → number_of x ≡ y → map number_of new ≡ map number_of old ++ y ∷ []
pushed old new x y e is = ap (map number_of) e ∙ (map-append number_of old (x ∷ []) ∙ ap (λ (z : ℕ). map number_of old ++ z ∷ []) is)

-- one pair more
pub pair_more : (f : ℕ → ℕ → ℕ) (ys : List ℕ) (k y : ℕ) (o n1 n2 : List ℕ) → slice_get ys k ≡ Some y → n1 ≡ o ++ f y 0 ∷ [] → n2 ≡ n1 ++ f y 1 ∷ [] → o ≡ flat_map (λ z. twofold (f z)) (take k ys) → n2 ≡ flat_map (λ z. twofold (f z)) (take (k + 1) ys)
pair_more f ys k y o n1 n2 at e1 e2 done =
    e2 ∙ (ap (λ (l : List ℕ). l ++ f y 1 ∷ []) e1 ∙ (append_assoc o (f y 0 ∷ []) (f y 1 ∷ []) ∙ (ap (λ (l : List ℕ). l ++ twofold (f y)) done
    ∙ (sym (flat_map-append (λ z. twofold (f z)) (take k ys) (y ∷ []))
    ∙ ap (flat_map (λ z. twofold (f z))) (sym (take_more ys k 0 (slice_get_within ys k y at) ∙ ap (λ (z : ℕ). take k ys ++ z ∷ []) (get_or_from_slice_get ys k y 0 at)))))))

-- one number more of a range
pub range_more : (a k : ℕ) → range_with_len a (k + 1) ≡ range_with_len a k ++ (a + k) ∷ []
range_more a zero = let e : a + 0 ≡ a = omega arith in rw e refl
range_more a (suc k) =
    let e : suc k + 1 ≡ suc (k + 1) = omega arith in
    let f : (a + 1) + k ≡ a + suc k = omega arith in
    rw e (ap (λ (xs : List ℕ). a ∷ xs) (range_more (a + 1) k ∙ ap (λ j. range_with_len (a + 1) k ++ j ∷ []) f))
