-- The nets of a placed model, counted in the model that places it.
use Rattle.std.proofs.Common.{◌≡◌, ℕ, ◌+◌, ◌-◌, ◌*◌, ◌≤◌, Bool, true, false, cond, ◌||◌, List, [], ◌∷◌, ◌++◌, length, get_or, map, min, refl, sym, ap, subst, ◌∙◌, arith, Option, Some, None}
use Rattle.std.specs.Option.{option_map_or}
use Rattle.std.specs.List.{sum_by}
use Rattle.std.specs.Str.{bytes_eq}
use Rattle.std.proofs.lemmas.List.{length-append}
use Rattle.std.proofs.lemmas.List.Sums.{sum_by-cons}
use Rattle.std.proofs.lemmas.Slice.Eq.{bytes_eq-Decides}
use Rattle.limits.specs.Most.{widest_text}
use Rattle.blif_text.specs.Kind.{is_among}
use Rattle.library_faults.specs.declared.lengths.count.Count.{Count}
use Rattle.library_faults.specs.Graph.{number_named}
use Rattle.library_faults.specs.Faults.{formal_of}
use Rattle.library_faults.specs.Flat.{step, actual_of}
use Rattle.library_faults.specs.FlatText.{capped, spaced}
use Rattle.library_faults.specs.Private.Counts.{Use, Formal, Own, use_of, placed_use, own_length, own_one, formal_one, formal_length, by_formal, limited, used, IsCount, IsGrown, Adds, AreApart, sum_of, bound_of}
use Rattle.library_faults.proofs.Sums.{sum_same, sum_both, sum_scaled, sum_mapped, sum_none}
use Rattle.library_faults.proofs.Additions.{eq_other}

-- what v gives for the first binding of the formal
found : (List ℕ × List ℕ → ℕ) → List (List ℕ × List ℕ) → List ℕ → ℕ
found v [] name = 0
found v (b ∷ bindings) name = cond (bytes_eq name b.0) (v b) (found v bindings name)

found_by : (List ℕ × List ℕ → ℕ) → List (List ℕ × List ℕ) → Use → ℕ
found_by v bindings (Formal name) = found v bindings name
found_by v bindings (Own text) = 0

swapped : (a b : List ℕ) → bytes_eq a b ≡ bytes_eq b a
swapped a b = go (bytes_eq a b) refl
  where
    go : (v : Bool) → bytes_eq a b ≡ v → bytes_eq a b ≡ bytes_eq b a
    go true e = e ∙ sym ((bytes_eq-Decides b a).1 (sym ((bytes_eq-Decides a b).0 e)))
    go false e = e ∙ sym (eq_other b a (λ same. (let t : bytes_eq a b ≡ true = (bytes_eq-Decides a b).1 (sym same) in cc)))

neither : (a b : Bool) → (a || b) ≡ false → (a ≡ false) × (b ≡ false)
neither false b e = (refl, e)
neither true b e = absurd cc

-- a formal that is not bound has no binding
unbound_sum : (v : List ℕ × List ℕ → ℕ) (bindings : List (List ℕ × List ℕ)) (name : List ℕ) → is_among (map formal_of bindings) name ≡ false → sum_by (λ b. by_formal b.0 (Formal name) * v b) bindings ≡ 0
unbound_sum v [] name none = refl
unbound_sum v (b ∷ bindings) name none =
    let n = neither (bytes_eq name b.0) (is_among (map formal_of bindings) name) none in
    let other : by_formal b.0 (Formal name) ≡ 0 = ap (λ t. cond t 1 0) (swapped b.0 name ∙ n.0) in
    omega (arith, sum_by-cons (λ a. by_formal a.0 (Formal name) * v a) b bindings, unbound_sum v bindings name n.1, ap (λ k. k * v b) other)

-- where no formal is bound twice, the bindings of one have the value of its first
name_sum : (v : List ℕ × List ℕ → ℕ) (bindings : List (List ℕ × List ℕ)) (name : List ℕ) → AreApart bindings → sum_by (λ b. by_formal b.0 (Formal name) * v b) bindings ≡ found v bindings name
unfolding found
name_sum v [] name apart = refl
name_sum v (b ∷ bindings) name apart = go (bytes_eq name b.0) refl (name_sum v bindings name apart.1)
  where
    go : (t : Bool) → bytes_eq name b.0 ≡ t → sum_by (λ a. by_formal a.0 (Formal name) * v a) bindings ≡ found v bindings name → sum_by (λ a. by_formal a.0 (Formal name) * v a) (b ∷ bindings) ≡ cond t (v b) (found v bindings name)
    go true e inner =
        let one : by_formal b.0 (Formal name) ≡ 1 = ap (λ t. cond t 1 0) (swapped b.0 name ∙ e) in
        let rest : is_among (map formal_of bindings) name ≡ false = subst (λ n. is_among (map formal_of bindings) n ≡ false) (sym ((bytes_eq-Decides name b.0).0 e)) apart.0 in
        omega (arith, sum_by-cons (λ a. by_formal a.0 (Formal name) * v a) b bindings, unbound_sum v bindings name rest, ap (λ k. k * v b) one)
    go false e inner =
        let none : by_formal b.0 (Formal name) ≡ 0 = ap (λ t. cond t 1 0) (swapped b.0 name ∙ e) in
        omega (arith, sum_by-cons (λ a. by_formal a.0 (Formal name) * v a) b bindings, inner, ap (λ k. k * v b) none)

use_sum : (v : List ℕ × List ℕ → ℕ) (bindings : List (List ℕ × List ℕ)) (u : Use) → AreApart bindings → sum_by (λ b. by_formal b.0 u * v b) bindings ≡ found_by v bindings u
unfolding found_by
use_sum v bindings (Formal name) apart = name_sum v bindings name apart
use_sum v bindings (Own text) apart = sum_none (λ b. by_formal b.0 (Own text) * v b) bindings (λ b. omega arith)

-- over all bindings, each as often as its formal stands, or over all nets: the same
all_found : (v : List ℕ × List ℕ → ℕ) (bindings : List (List ℕ × List ℕ)) (uses : List Use) → AreApart bindings → sum_by (λ b. sum_by (by_formal b.0) uses * v b) bindings ≡ sum_by (found_by v bindings) uses
all_found v bindings [] apart = sum_none (λ b. sum_by (by_formal b.0) [] * v b) bindings (λ b. omega arith)
all_found v bindings (u ∷ uses) apart = omega (
  arith,
  sum_same (λ b. sum_by (by_formal b.0) (u ∷ uses) * v b) (λ b. by_formal b.0 u * v b + sum_by (by_formal b.0) uses * v b) bindings (λ b. omega (arith, ap (λ k. k * v b) (sum_by-cons (by_formal b.0) u uses))),
  sum_both (λ b. by_formal b.0 u * v b) (λ b. sum_by (by_formal b.0) uses * v b) bindings,
  use_sum v bindings u apart,
  all_found v bindings uses apart,
  sum_by-cons (found_by v bindings) u uses,
)

-- ---- nets that go by no binding

-- what a net of the placed model's own costs
own_of : ℕ → (Use → ℕ) → List ℕ → ℕ
own_of number w text = w (Own (step number ++ text))

left_by : ℕ → (Use → ℕ) → List (List ℕ × List ℕ) → Use → ℕ
left_by number w bindings (Formal name) = option_map_or (λ a. 0) (actual_of bindings name) (own_of number w name)
left_by number w bindings (Own text) = own_of number w text

name_split : (is_formal : List ℕ → Bool) (number : ℕ) (bindings : List (List ℕ × List ℕ)) (name : List ℕ) (w : Use → ℕ) → w (placed_use is_formal number bindings (Formal name)) ≡ found (λ b. w (use_of is_formal b.1)) bindings name + left_by number w bindings (Formal name)
unfolding actual_of found left_by own_of
name_split is_formal number [] name w = omega arith
name_split is_formal number (b ∷ bindings) name w = go (bytes_eq name b.0) (name_split is_formal number bindings name w)
  where
    go : (t : Bool) → w (option_map_or (use_of is_formal) (actual_of bindings name) (Own (step number ++ name))) ≡ found (λ a. w (use_of is_formal a.1)) bindings name + option_map_or (λ a. 0) (actual_of bindings name) (w (Own (step number ++ name)))
        → w (option_map_or (use_of is_formal) (cond t (Some b.1) (actual_of bindings name)) (Own (step number ++ name))) ≡ cond t (w (use_of is_formal b.1)) (found (λ a. w (use_of is_formal a.1)) bindings name) + option_map_or (λ a. 0) (cond t (Some b.1) (actual_of bindings name)) (w (Own (step number ++ name)))
    go true rest = omega arith
    go false rest = rest

use_split : (is_formal : List ℕ → Bool) (number : ℕ) (bindings : List (List ℕ × List ℕ)) (w : Use → ℕ) (u : Use) → w (placed_use is_formal number bindings u) ≡ found_by (λ b. w (use_of is_formal b.1)) bindings u + left_by number w bindings u
unfolding found_by left_by own_of
use_split is_formal number bindings w (Formal name) = name_split is_formal number bindings name w
use_split is_formal number bindings w (Own text) = omega arith

-- the nets of a placed model: those by its formals, and its own
placed_sum : (is_formal : List ℕ → Bool) (number : ℕ) (bindings : List (List ℕ × List ℕ)) (w : Use → ℕ) (uses : List Use) → AreApart bindings → sum_by w (map (placed_use is_formal number bindings) uses) ≡ sum_by (λ b. sum_by (by_formal b.0) uses * w (use_of is_formal b.1)) bindings + sum_by (left_by number w bindings) uses
placed_sum is_formal number bindings w uses apart = omega (
  arith,
  sum_mapped w (placed_use is_formal number bindings) uses,
  sum_same (λ u. w (placed_use is_formal number bindings u)) (λ u. found_by (λ b. w (use_of is_formal b.1)) bindings u + left_by number w bindings u) uses (use_split is_formal number bindings w),
  sum_both (found_by (λ b. w (use_of is_formal b.1)) bindings) (left_by number w bindings) uses,
  all_found (λ b. w (use_of is_formal b.1)) bindings uses apart,
)

-- ---- nets by formals that are not bound

unbound : (List ℕ → ℕ) → List (List ℕ × List ℕ) → Use → ℕ
unbound v bindings (Formal name) = option_map_or (λ a. 0) (actual_of bindings name) (v name)
unbound v bindings (Own text) = 0

name_either : (v : List ℕ → ℕ) (bindings : List (List ℕ × List ℕ)) (name : List ℕ) → unbound v bindings (Formal name) + found (λ b. v b.0) bindings name ≡ v name
unfolding unbound actual_of found
name_either v [] name = omega arith
name_either v (b ∷ bindings) name = go (bytes_eq name b.0) refl (name_either v bindings name)
  where
    go : (t : Bool) → bytes_eq name b.0 ≡ t → option_map_or (λ a. 0) (actual_of bindings name) (v name) + found (λ a. v a.0) bindings name ≡ v name → option_map_or (λ a. 0) (cond t (Some b.1) (actual_of bindings name)) (v name) + cond t (v b.0) (found (λ a. v a.0) bindings name) ≡ v name
    go true e inner = let same : v name ≡ v b.0 = ap v ((bytes_eq-Decides name b.0).0 e) in omega arith
    go false e inner = inner

by_name : (List ℕ → ℕ) → Use → ℕ
by_name v (Formal name) = v name
by_name v (Own text) = 0

use_either : (v : List ℕ → ℕ) (bindings : List (List ℕ × List ℕ)) (u : Use) → unbound v bindings u + found_by (λ b. v b.0) bindings u ≡ by_name v u
unfolding unbound found_by by_name
use_either v bindings (Formal name) = name_either v bindings name
use_either v bindings (Own text) = omega arith

-- formals stand where they are bound, and where they are not
either_sum : (v : List ℕ → ℕ) (bindings : List (List ℕ × List ℕ)) (uses : List Use) → AreApart bindings → sum_by (unbound v bindings) uses + sum_by (λ b. sum_by (by_formal b.0) uses * v b.0) bindings ≡ sum_by (by_name v) uses
either_sum v bindings uses apart = omega (
  arith,
  all_found (λ b. v b.0) bindings uses apart,
  sum_both (unbound v bindings) (found_by (λ b. v b.0) bindings) uses,
  sum_same (λ u. unbound v bindings u + found_by (λ b. v b.0) bindings u) (by_name v) uses (use_either v bindings),
)

one : List ℕ → ℕ
one name = 1

limited_name : List ℕ → ℕ
limited_name name = limited (length name)

-- ---- what is left

left_none : (number : ℕ) (w : Use → ℕ) (bindings : List (List ℕ × List ℕ)) → ((text : List ℕ) → w (Own text) ≡ 0) → (u : Use) → left_by number w bindings u ≡ 0
unfolding left_by own_of
left_none number w bindings none (Formal name) = go (actual_of bindings name)
  where
    go : (o : Option (List ℕ)) → option_map_or (λ a. 0) o (w (Own (step number ++ name))) ≡ 0
    go None = none (step number ++ name)
    go (Some a) = refl
left_none number w bindings none (Own text) = none (step number ++ text)

left_ones : (number : ℕ) (bindings : List (List ℕ × List ℕ)) (u : Use) → left_by number own_one bindings u ≡ own_one u + unbound one bindings u
unfolding left_by own_of unbound one
left_ones number bindings (Formal name) = go (actual_of bindings name)
  where
    go : (o : Option (List ℕ)) → option_map_or (λ a. 0) o 1 ≡ 0 + option_map_or (λ a. 0) o 1
    go None = omega arith
    go (Some a) = omega arith
left_ones number bindings (Own text) = omega arith

left_lengths : (number : ℕ) (bindings : List (List ℕ × List ℕ)) (u : Use) → left_by number own_length bindings u ≡ length (step number) * left_by number own_one bindings u + (own_length u + (unbound one bindings u + unbound length bindings u))
unfolding left_by own_of unbound one
left_lengths number bindings (Formal name) = go (actual_of bindings name)
  where
    go : (o : Option (List ℕ)) → option_map_or (λ a. 0) o (spaced (step number ++ name)) ≡ length (step number) * option_map_or (λ a. 0) o 1 + (0 + (option_map_or (λ a. 0) o 1 + option_map_or (λ a. 0) o (length name)))
    go None = omega (arith, length-append (step number) name)
    go (Some a) = omega arith
left_lengths number bindings (Own text) = omega (arith, length-append (step number) text)

limited_one : (bindings : List (List ℕ × List ℕ)) (u : Use) → limited (unbound limited_name bindings u) ≡ limited (unbound length bindings u)
unfolding unbound limited_name
limited_one bindings (Formal name) = go (actual_of bindings name)
  where
    go : (o : Option (List ℕ)) → limited (option_map_or (λ a. 0) o (limited (length name))) ≡ limited (option_map_or (λ a. 0) o (length name))
    go None = omega arith
    go (Some a) = refl
limited_one bindings (Own text) = refl

-- lengths as far as a limit lets a text have them
limited_sum : (bindings : List (List ℕ × List ℕ)) (uses : List Use) → limited (sum_by (unbound limited_name bindings) uses) ≡ limited (sum_by (unbound length bindings) uses)
limited_sum bindings [] = refl
limited_sum bindings (u ∷ uses) = omega (arith, sum_by-cons (unbound limited_name bindings) u uses, sum_by-cons (unbound length bindings) u uses, limited_sum bindings uses, limited_one bindings u)

-- ---- a placed model is counted

ones_are : (u : Use) → by_name one u ≡ formal_one u
unfolding by_name one
ones_are (Formal name) = refl
ones_are (Own text) = refl

lengths_are : (u : Use) → by_name limited_name u ≡ formal_length u
unfolding by_name limited_name
lengths_are (Formal name) = refl
lengths_are (Own text) = refl

module _ (placed : Count) (fixed : ℕ) (uses : List Use) (count : IsCount placed fixed uses) (bindings : List (List ℕ × List ℕ)) (apart : AreApart bindings) where
  as_often : (v : List ℕ × List ℕ → ℕ) → sum_by (λ b. used placed b.0 * v b) bindings ≡ sum_by (λ b. sum_by (by_formal b.0) uses * v b) bindings
  as_often v = sum_same (λ b. used placed b.0 * v b) (λ b. sum_by (by_formal b.0) uses * v b) bindings (λ b. ap (λ k. k * v b) (count.by b.0))

  all_split : (is_formal : List ℕ → Bool) (number : ℕ) (w : Use → ℕ) → sum_by w (map (placed_use is_formal number bindings) uses) ≡ bound_of is_formal placed bindings w + sum_by (left_by number w bindings) uses
  all_split is_formal number w = omega (arith, placed_sum is_formal number bindings w uses apart, as_often (λ b. w (use_of is_formal b.1)))

  no_more : (is_formal : List ℕ → Bool) (number : ℕ) (w : Use → ℕ) → ((text : List ℕ) → w (Own text) ≡ 0) → sum_by w (map (placed_use is_formal number bindings) uses) ≡ bound_of is_formal placed bindings w
  no_more is_formal number w none = omega (arith, all_split is_formal number w, sum_none (left_by number w bindings) uses (left_none number w bindings none))

  moved_ones : sum_by (unbound one bindings) uses + sum_by (λ b. used placed b.0) bindings ≡ placed.passed
  unfolding one
  moved_ones = omega (arith, count.passed, either_sum one bindings uses apart, sum_same (by_name one) formal_one uses ones_are, as_often (λ b. 1), sum_same (λ b. used placed b.0 * 1) (λ b. used placed b.0) bindings (λ b. omega arith))

  moved_lengths : sum_by (unbound limited_name bindings) uses + sum_by (λ b. used placed b.0 * limited (length b.0)) bindings ≡ placed.passed_bytes
  unfolding limited_name
  moved_lengths = omega (arith, count.passed_bytes, either_sum limited_name bindings uses apart, sum_same (by_name limited_name) formal_length uses lengths_are, as_often (λ b. limited (length b.0)))

  left_ones_sum : (number : ℕ) → sum_by (left_by number own_one bindings) uses ≡ placed.places + sum_by (unbound one bindings) uses
  left_ones_sum number = omega (arith, count.places, sum_same (left_by number own_one bindings) (λ u. own_one u + unbound one bindings u) uses (left_ones number bindings), sum_both own_one (unbound one bindings) uses)

  left_lengths_sum : (number : ℕ) → fixed + sum_by (left_by number own_length bindings) uses ≡ length (step number) * sum_by (left_by number own_one bindings) uses + (placed.bytes + (sum_by (unbound one bindings) uses + sum_by (unbound length bindings) uses))
  left_lengths_sum number = omega (
    arith,
    count.bytes,
    sum_same (left_by number own_length bindings) (λ u. length (step number) * left_by number own_one bindings u + (own_length u + (unbound one bindings u + unbound length bindings u))) uses (left_lengths number bindings),
    sum_both (λ u. length (step number) * left_by number own_one bindings u) (λ u. own_length u + (unbound one bindings u + unbound length bindings u)) uses,
    sum_scaled (length (step number)) (left_by number own_one bindings) uses,
    sum_both own_length (λ u. unbound one bindings u + unbound length bindings u) uses,
    sum_both (unbound one bindings) (unbound length bindings) uses,
  )

  few_places : placed.places ≤ widest_text
  few_places = omega (arith, count.places, count.bytes, count.small, places_below uses)
    where
      one_below : (u : Use) → own_one u ≤ own_length u
      one_below (Formal name) = omega arith
      one_below (Own text) = omega arith

      places_below : (uses : List Use) → sum_by own_one uses ≤ sum_by own_length uses
      places_below [] = omega arith
      places_below (u ∷ uses) = omega (arith, sum_by-cons own_one u uses, sum_by-cons own_length u uses, places_below uses, one_below u)

  pub placed_added : (old mid new : Count) (number moved moved_bytes rest rest_bytes nets paths bytes : ℕ) → Adds old mid 0 (bound_of (is_among old.formals.keys) placed bindings) → moved ≡ capped (sum_by (λ b. used placed b.0) bindings) → moved_bytes ≡ capped (sum_by (λ b. used placed b.0 * limited (length b.0)) bindings) → rest ≡ placed.passed - moved → rest_bytes ≡ placed.passed_bytes - moved_bytes → nets ≡ min (placed.places + rest) 18446744073709551615 → paths ≡ min (length (step number) * nets) 18446744073709551615 → bytes ≡ min (min (placed.bytes + rest) 18446744073709551615 + rest_bytes) 18446744073709551615 → IsGrown mid new nets (min (paths + bytes) 18446744073709551615) → Adds old new fixed (sum_of (map (placed_use (is_among old.formals.keys) number bindings) uses))
  placed_added old mid new number moved moved_bytes rest rest_bytes nets paths bytes bound m mb r rb n p b grown = record {
    bytes = omega (arith, bound.bytes, grown.bytes, all_split is_formal number own_length, left_lengths_sum number, limited_sum bindings uses, nets_are, rest_is, rest_bytes_is, p, b, ap (λ k. length (step number) * k) nets_are);
    places = omega (arith, bound.places, grown.places, all_split is_formal number own_one, nets_are);
    passed = omega (arith, bound.passed, grown.passed, no_more is_formal number formal_one (λ text. refl));
    passed_bytes = omega (arith, bound.passed_bytes, grown.passed_bytes, no_more is_formal number formal_length (λ text. refl));
    by = λ name. omega (arith, bound.by name, kept name, no_more is_formal number (by_formal name) (λ text. refl));
    formals = grown.formals ∙ bound.formals;
    shaped = ap (λ us. length us.items) grown.uses ∙ bound.shaped;
  }
    where
      is_formal : List ℕ → Bool
      is_formal = is_among old.formals.keys

      rest_is : rest ≡ sum_by (unbound one bindings) uses
      rest_is = omega (arith, m, r, moved_ones, count.small)

      nets_are : nets ≡ sum_by (left_by number own_one bindings) uses
      nets_are = omega (arith, n, rest_is, left_ones_sum number, few_places, moved_ones, count.small)

      rest_bytes_is : rest_bytes ≡ sum_by (unbound limited_name bindings) uses
      rest_bytes_is = omega (arith, mb, rb, moved_lengths, count.exact)

      kept : (name : List ℕ) → used new name ≡ used mid name
      kept name = ap (λ fs. option_map_or (λ k. get_or new.uses.items k 0) (number_named fs.keys name) 0) grown.formals ∙ ap (λ us. option_map_or (λ k. get_or us.items k 0) (number_named mid.formals.keys name) 0) grown.uses
