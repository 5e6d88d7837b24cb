-- All numbers of pairs together fit 128 bits.
use Rattle.std.proofs.Common.{◌≡◌, ℕ, zero, suc, ◌+◌, ◌*◌, ◌^◌, ◌<◌, ◌≤◌, ◌⊎◌, inl, inr, Bool, true, false, cond, ◌&&◌, eqb, List, [], ◌∷◌, ◌++◌, length, Option, Some, None, refl, ◌∙◌, ap, arith, All}
use Rattle.std.specs.Prelude.{count_by, slice_index}
use Rattle.std.specs.List.{sum_by, range_with_len}
use Rattle.std.proofs.lemmas.Bool.{cases_eq, cases_lt, eq-eqb, ne_eqb}
use Rattle.std.proofs.lemmas.List.{get_or_past}
use Rattle.std.proofs.lemmas.List.Sums.{sum_by-cons, sum_by_push, sum_by-le-sum_by, count_by-le-length}
use Rattle.std.proofs.lemmas.Nat.{mul-le}
use Rattle.tmr_base.specs.declared.copies.CopyNo.{CopyNo}
use Rattle.tmr_base.specs.declared.copies.CopyNo.TheVariants.{First, Second, Third}
use Rattle.tmr_base.specs.Copies.{copy_number}
use Rattle.certificate.specs.declared.role.Role.{Role}
use Rattle.certificate.specs.Cert.{PlainCert, IsCert, depth_of}
use Rattle.exposure.specs.Counts.{role_part, role_copy, is_same_part, is_of, copy_count, near_of, near_in, near_inputs}

-- a product of two numbers of 32 bits
pub product_small : (a b : ℕ) → a < 4294967296 → b < 4294967296 → a * b ≤ 18446744073709551616
product_small a b l m = mul-le a b 4294967296 4294967296 (omega arith) (omega arith)

-- pairs of strikes are at most the nets times a number
pub near_le : (a b c d : ℕ) → a < 4294967296 → b < 4294967296 → c < 4294967296 → d < 4294967296 → near_of a b c d ≤ (a + b + c) * 36893488147419103232
near_le a b c d la lb lc ld =
    let first = mul-le a b a 4294967296 (omega arith) (omega arith) in
    let second = mul-le a c 4294967296 c (omega arith) (omega arith) in
    let third = mul-le b c b 4294967296 (omega arith) (omega arith) in
    let pairs : a * b + a * c + b * c ≤ (a + b + c) * 4294967296 = omega (arith, first, second, third) in
    let all = mul-le (a * b + a * c + b * c) (2 * d + 1) ((a + b + c) * 4294967296) 8589934592 pairs (omega (arith, ld)) in
    omega (arith, all)

-- so the number of pairs fits
pub near_fits : (a b c d : ℕ) → a < 4294967296 → b < 4294967296 → c < 4294967296 → d < 4294967296 → near_of a b c d < 340282366920938463463374607431768211456
near_fits a b c d la lb lc ld = omega (arith, near_le a b c d la lb lc ld)

abbrev one_of : Bool → ℕ
one_of b = cond b 1 0

sum_none : (s n : ℕ) → sum_by (λ x. 0) (range_with_len s n) ≡ 0
sum_none s zero = refl
sum_none s (suc n) = omega (arith, sum_by-cons (λ x. 0) s (range_with_len (s + 1) n), sum_none (s + 1) n)

sum_split : (f g : ℕ → ℕ) (xs : List ℕ) → sum_by (λ x. f x + g x) xs ≡ sum_by f xs + sum_by g xs
sum_split f g [] = refl
sum_split f g (x ∷ xs) = omega (arith, sum_by-cons (λ y. f y + g y) x xs, sum_by-cons f x xs, sum_by-cons g x xs, sum_split f g xs)

one_at_most : (q p : ℕ) (b : Bool) → cond (is_same_part (Some q) p && b) 1 0 ≤ cond (eqb q p) 1 0
one_at_most q p b = go (eqb q p) b
  where
    go : (x y : Bool) → cond (x && y) 1 0 ≤ cond x 1 0
    go true true = omega arith
    go true false = omega arith
    go false y = omega arith

none_before : (q s n : ℕ) → q < s → sum_by (λ p. cond (eqb q p) 1 0) (range_with_len s n) ≡ 0
none_before q s zero l = refl
none_before q s (suc n) l =
    let other : one_of (eqb q s) ≡ 0 = ap one_of (ne_eqb q s (λ e. omega (arith, l, e))) in
    omega (arith, other, none_before q (s + 1) n (omega (arith, l)), sum_by-cons (λ p. cond (eqb q p) 1 0) s (range_with_len (s + 1) n))

once : (q s n : ℕ) → sum_by (λ p. cond (eqb q p) 1 0) (range_with_len s n) ≤ 1
once q s zero = omega arith
once q s (suc n) = go (once q (s + 1) n) (cases_eq q s)
  where
    row : sum_by (λ p. cond (eqb q p) 1 0) (range_with_len s (suc n)) ≡ cond (eqb q s) 1 0 + sum_by (λ p. cond (eqb q p) 1 0) (range_with_len (s + 1) n)
    row = sum_by-cons (λ p. cond (eqb q p) 1 0) s (range_with_len (s + 1) n)

    go : sum_by (λ p. cond (eqb q p) 1 0) (range_with_len (s + 1) n) ≤ 1 → (q ≡ s) ⊎ (q ≡ s → ⊥) → sum_by (λ p. cond (eqb q p) 1 0) (range_with_len s (suc n)) ≤ 1
    go rest (inl e) =
        let here : one_of (eqb q s) ≡ 1 = ap one_of (eq-eqb q s e) in
        omega (arith, row, here, none_before q (s + 1) n (omega (arith, e)))
    go rest (inr ne) =
        let other : one_of (eqb q s) ≡ 0 = ap one_of (ne_eqb q s ne) in
        omega (arith, row, other, rest)

-- a node belongs to one partition at most
role_once : (o : Option ℕ) (b : Bool) (s n : ℕ) → sum_by (λ p. cond (is_same_part o p && b) 1 0) (range_with_len s n) ≤ 1
role_once None b s n = omega (arith, sum_none s n)
role_once (Some q) b s n = omega (arith, sum_by-le-sum_by (λ p. cond (is_same_part (Some q) p && b) 1 0) (λ p. cond (eqb q p) 1 0) (range_with_len s n) (λ p. one_at_most q p b), once q s n)

-- the nodes of a copy in all partitions are no more than the nodes
pub counts_once : (k : PlainCert) (c : CopyNo) (s n : ℕ) (roles : List Role) → sum_by (λ p. count_by (is_of k p c) roles) (range_with_len s n) ≤ length roles
counts_once k c s n [] = omega (arith, sum_none s n)
counts_once k c s n (r ∷ rs) =
    let one : ℕ → ℕ = λ p. cond (is_of k p c r) 1 0 in
    let rest : ℕ → ℕ = λ p. count_by (is_of k p c) rs in
    let split = sum_by-le-sum_by (λ p. count_by (is_of k p c) (r ∷ rs)) (λ p. one p + rest p) (range_with_len s n) (λ p. omega (arith, sum_by-cons (λ x. cond (is_of k p c x) 1 0) r rs)) in
    omega (arith, split, sum_split one rest (range_with_len s n), role_once (role_part k r) (eqb (copy_number (role_copy r)) (copy_number c)) s n, counts_once k c s n rs)

depth_small : (depths : List ℕ) (p : ℕ) → All (λ d. d < 2 ^ 32) depths → slice_index depths p < 4294967296
depth_small depths p small = go (cases_lt p (length depths))
  where
    go : (p < length depths) ⊎ (length depths ≤ p) → slice_index depths p < 4294967296
    go (inl l) = small p 0 l
    go (inr l) = omega (arith, get_or_past depths p 0 l)

module _ (k : PlainCert) (is : IsCert k) where
  count_small : (p : ℕ) (c : CopyNo) → copy_count k p c < 4294967296
  count_small p c = omega (arith, count_by-le-length (is_of k p c) k.roles, is.few_hardened)

  nets : ℕ → ℕ
  nets p = copy_count k p First + copy_count k p Second + copy_count k p Third

  part_le : (p : ℕ) → near_in k p ≤ (copy_count k p First + copy_count k p Second + copy_count k p Third) * 36893488147419103232
  part_le p = near_le (copy_count k p First) (copy_count k p Second) (copy_count k p Third) (depth_of k p) (count_small p First) (count_small p Second) (count_small p Third) (depth_small k.depth p is.small_depths)

  sums_le : (s n : ℕ) → sum_by (near_in k) (range_with_len s n)
      ≤ (sum_by (λ p. copy_count k p First) (range_with_len s n) + sum_by (λ p. copy_count k p Second) (range_with_len s n) + sum_by (λ p. copy_count k p Third) (range_with_len s n)) * 36893488147419103232
  sums_le s zero = omega arith
  sums_le s (suc n) =
      omega (arith, part_le s, sums_le (s + 1) n, sum_by-cons (near_in k) s (range_with_len (s + 1) n), sum_by-cons (λ p. copy_count k p First) s (range_with_len (s + 1) n), sum_by-cons (λ p. copy_count k p Second) s (range_with_len (s + 1) n), sum_by-cons (λ p. copy_count k p Third) s (range_with_len (s + 1) n))

  -- the pairs of so many partitions fit, with room for those of the inputs
  pub parts_fit : (s n : ℕ) → sum_by (near_in k) (range_with_len s n) ≤ 1267650600228229401496703205376
  parts_fit s n = omega (arith, sums_le s n, counts_once k First s n k.roles, counts_once k Second s n k.roles, counts_once k Third s n k.roles, is.few_hardened)

-- ---- sums, one partition more

range_more : (s n : ℕ) → range_with_len s (suc n) ≡ range_with_len s n ++ (s + n) ∷ []
range_more s zero = let e : s ≡ s + 0 = omega arith in ap (λ (x : ℕ). x ∷ []) e
range_more s (suc n) =
    let e : s + 1 + n ≡ s + suc n = omega arith in
    ap (λ (xs : List ℕ). s ∷ xs) (range_more (s + 1) n ∙ ap (λ (x : ℕ). range_with_len (s + 1) n ++ x ∷ []) e)

pub near_more : (k : PlainCert) (p : ℕ) → sum_by (near_in k) (range_with_len 0 (p + 1)) ≡ sum_by (near_in k) (range_with_len 0 p) + near_in k p
near_more k p =
    let e : p + 1 ≡ suc p = omega arith in
    let f : 0 + p ≡ p = omega arith in
    let cut = ap (sum_by (near_in k)) (ap (range_with_len 0) e ∙ range_more 0 p) in
    let push = sum_by_push (near_in k) (range_with_len 0 p) (0 + p) in
    omega (arith, cut, push, ap (near_in k) f)

pub sum_more : (k : PlainCert) (p total value : ℕ) → total ≡ sum_by (near_in k) (range_with_len 0 p) → value ≡ near_in k p → total + value ≡ sum_by (near_in k) (range_with_len 0 (p + 1))
sum_more k p total value e f = omega (arith, e, f, near_more k p)

pub sum_fits : (k : PlainCert) (p total value : ℕ) → IsCert k → total ≡ sum_by (near_in k) (range_with_len 0 p) → value ≡ near_in k p → total + value < 340282366920938463463374607431768211456
sum_fits k p total value is e f = omega (arith, e, f, near_more k p, parts_fit k is 0 (p + 1))

inputs_le : (k : PlainCert) → IsCert k → near_inputs k ≤ 1267650600228229401496703205376
inputs_le k is = go (eqb k.version 1)
  where
    small : k.original_inputs < 4294967296
    small = omega (arith, is.few_original)

    go : (b : Bool) → cond b 0 (near_of k.original_inputs k.original_inputs k.original_inputs 0) ≤ 1267650600228229401496703205376
    go true = omega arith
    go false = omega (arith, small, near_le k.original_inputs k.original_inputs k.original_inputs 0 small small small (omega arith))

pub total_fits : (k : PlainCert) (count inputs parts : ℕ) → IsCert k → inputs ≡ near_inputs k → parts ≡ sum_by (near_in k) (range_with_len 0 count) → inputs + parts < 340282366920938463463374607431768211456
total_fits k count inputs parts is e f = omega (arith, e, f, inputs_le k is, parts_fit k is 0 count)
