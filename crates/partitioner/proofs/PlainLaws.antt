-- The plain cut keeps the rule of sizes.
use Rattle.std.proofs.Common.{◌≡◌, ℕ, zero, suc, ◌+◌, ◌-◌, ◌*◌, ◌/◌, ◌%◌, ◌<◌, ◌≤◌, ◌⊎◌, inl, inr, Bool, true, false, cond, eqb, List, length, map, sym, ◌∙◌, ap, subst, arith, get_or, add-one}
use Rattle.std.specs.List.{range_with_len, All}
use Rattle.std.specs.Int.{div_ceil}
use Rattle.std.proofs.lemmas.Bool.Decides.{nat_tests}
use Rattle.std.proofs.lemmas.List.FromFn.{length-map-range_with_len, get_or-map-range_with_len, sum_by-map-range_with_len_more}
use Rattle.std.proofs.lemmas.Nat.{div-add-mod', mod_below, div_below}
use Rattle.std.proofs.lemmas.Grind.{div_ceil_times}
use Rattle.flat_net.specs.Net.{Net}
use Rattle.partitioner.specs.Sizes.{held, plain_parts, KeepsSize}

-- the partitions of the first n nodes
abbrev plain_of : ℕ → ℕ → List ℕ
plain_of size n = map (λ i. i / size) (range_with_len 0 n)

held_more : (size p n : ℕ) → held (plain_of size (n + 1)) p ≡ held (plain_of size n) p + cond (eqb (n / size) p) 1 0
held_more size p n = sum_by-map-range_with_len_more (λ q. cond (eqb q p) 1 0) (λ i. i / size) 0 n n (omega arith)

quotient_at : (size p n : ℕ) → 0 < size → n / size ≡ p → (p * size ≤ n) × (n < p * size + size)
quotient_at size p n pos e =
    let whole : p * size + n % size ≡ n = subst (λ (q : ℕ). q * size + n % size ≡ n) e (div-add-mod' n size) in
    let rest = mod_below n size pos in
    (omega arith, omega arith)

HeldFew : ℕ → ℕ → ℕ → Type 0
HeldFew size p n = (held (plain_of size n) p ≤ size) × (held (plain_of size n) p ≤ n - p * size)

held_step : (size p n : ℕ) → 0 < size → HeldFew size p n → HeldFew size p (n + 1)
unfolding HeldFew
held_step size p n pos before = go (cases (n / size) p)
  where
    cases : (a b : ℕ) → (a ≡ b) ⊎ (eqb a b ≡ false)
    cases a b = grind (arith, nat_tests)

    one : (b : Bool) → cond b 1 0 ≤ 1
    one true = omega arith
    one false = omega arith

    go : (n / size ≡ p) ⊎ (eqb (n / size) p ≡ false) → (held (plain_of size (n + 1)) p ≤ size) × (held (plain_of size (n + 1)) p ≤ (n + 1) - p * size)
    go (inl e) =
        let more = held_more size p n in
        let at = quotient_at size p n pos e in
        let most = one (eqb (n / size) p) in
        (omega (arith, before, more, at, most), omega (arith, before, more, at, most))
    go (inr ne) =
        let same : held (plain_of size (n + 1)) p ≡ held (plain_of size n) p + 0 = held_more size p n ∙ ap (λ (b : Bool). held (plain_of size n) p + cond b 1 0) ne in
        (omega (arith, before, same), omega (arith, before, same))

held_plain : (size p n : ℕ) → 0 < size → HeldFew size p n
unfolding HeldFew
held_plain size p zero pos = (omega arith, omega arith)
held_plain size p (suc n) pos = let step : HeldFew size p (n + 1) = held_step size p n pos (held_plain size p n pos) in subst (λ (m : ℕ). HeldFew size p m) (add-one n) step

pub plain_in_range : (size n : ℕ) → 0 < size → All (λ p. p < div_ceil n size) (map (λ i. i / size) (range_with_len 0 n))
plain_in_range size n pos k d l =
    let long = length-map-range_with_len (λ i. i / size) 0 n in
    let within : k < n = omega (arith, long) in
    let at : get_or (map (λ i. i / size) (range_with_len 0 n)) k d ≡ k / size = get_or-map-range_with_len (λ i. i / size) 0 n k k d within (omega arith) in
    let enough = (div_ceil_times n size pos).0 in
    let below : k / size < div_ceil n size = div_below k size (div_ceil n size) pos (omega (arith, enough)) in
    subst (λ (q : ℕ). q < div_ceil n size) (sym at) below

pub plain_keeps_size : (n : Net) (size : ℕ) → 0 < size → KeepsSize n size (plain_parts n size)
unfolding HeldFew
plain_keeps_size n size pos = record {
  count = omega arith;
  each = length-map-range_with_len (λ i. i / size) 0 (length n.nodes);
  in_range = plain_in_range size (length n.nodes) pos;
  held_few = λ p l. omega (arith, (held_plain size p (length n.nodes) pos).0);
}
