-- One output more among those that are counted.
use Rattle.std.proofs.Common.{◌≡◌, ℕ, ◌+◌, ◌<◌, ◌≤◌, ◌⊎◌, inl, inr, Bool, true, false, cond, List, [], ◌∷◌, ◌++◌, length, take, sym, ◌∙◌, ap, arith}
use Rattle.std.specs.Prelude.{nat_lt, filter}
use Rattle.std.proofs.lemmas.Bool.Decides.{nat_tests}
use Rattle.std.proofs.lemmas.List.{length-append, length-take-le, append-nil, take-append-le, take_all}
use Rattle.std.proofs.lemmas.List.Elements.{filter-append}
use Rattle.schedule_replay.specs.declared.outcome.Difference.{Difference}
use Rattle.schedule_replay.specs.Outcome.{Counts, count_wrong, differs, is_wrong}
use Rattle.schedule_replay.specs.Private.Telling.{first_more}

filter_more : (p : Difference → Bool) (ds : List Difference) (d : Difference) → filter p (ds ++ d ∷ []) ≡ filter p ds ++ cond (p d) (d ∷ []) []
filter_more p ds d = filter-append p ds (d ∷ [])

ways : (a b : ℕ) → (a ≤ b) ⊎ (b < a)
ways a b = grind arith

take_more : (n : ℕ) (xs : List Difference) (x : Difference) → take n (xs ++ x ∷ []) ≡ cond (nat_lt (length (take n xs)) n) (take n xs ++ x ∷ []) (take n xs)
take_more n xs x = go (ways n (length xs))
  where
    go : (n ≤ length xs) ⊎ (length xs < n) → take n (xs ++ x ∷ []) ≡ cond (nat_lt (length (take n xs)) n) (take n xs ++ x ∷ []) (take n xs)
    go (inl l) =
        let long : length (take n xs) ≡ n = length-take-le n xs l in
        let t : nat_lt (length (take n xs)) n ≡ false = grind (arith, nat_tests) in
        take-append-le n xs (x ∷ []) l ∙ sym (ap (λ (b : Bool). cond b (take n xs ++ x ∷ []) (take n xs)) t)
    go (inr l) =
        let all : take n xs ≡ xs = take_all n xs (omega arith) in
        let t : nat_lt (length (take n xs)) n ≡ true = let same = ap length all in grind (arith, nat_tests) in
        take_all n (xs ++ x ∷ []) (omega (arith, length-append xs (x ∷ []))) ∙ (ap (λ (ys : List Difference). ys ++ x ∷ []) (sym all) ∙ sym (ap (λ (b : Bool). cond b (take n xs ++ x ∷ []) (take n xs)) t))

none_differ : (d : Difference) → count_wrong d ≡ 0 → (differs d ≡ false) × (is_wrong d ≡ false)
none_differ d e = (ap (nat_lt 0) e, ap (nat_lt 1) e)

one_differs : (d : Difference) → count_wrong d ≡ 1 → (differs d ≡ true) × (is_wrong d ≡ false)
one_differs d e = (ap (nat_lt 0) e, ap (nat_lt 1) e)

some_differ : (d : Difference) → 1 < count_wrong d → (differs d ≡ true) × (is_wrong d ≡ true)
some_differ d l = (grind (arith, nat_tests), grind (arith, nat_tests))

module _ (ds : List Difference) (d : Difference) (first : List Difference) (n w : ℕ) (is : Counts ds first n w) where
  wrong_more : (b : Bool) → is_wrong d ≡ b → length (filter is_wrong (ds ++ d ∷ [])) ≡ w + length (cond b (d ∷ []) [])
  wrong_more b e = ap length (filter_more is_wrong ds d) ∙ (length-append (filter is_wrong ds) (cond (is_wrong d) (d ∷ []) []) ∙ (ap (λ (k : ℕ). k + length (cond (is_wrong d) (d ∷ []) [])) (sym is.wrong_are) ∙ ap (λ (t : Bool). w + length (cond t (d ∷ []) [])) e))

  listed_more : (b : Bool) → differs d ≡ b → filter differs (ds ++ d ∷ []) ≡ filter differs ds ++ cond b (d ∷ []) []
  listed_more b e = filter_more differs ds d ∙ ap (λ (t : Bool). filter differs ds ++ cond t (d ∷ []) []) e

  pub counts_none : count_wrong d ≡ 0 → Counts (ds ++ d ∷ []) first n w
  counts_none e =
      let none = none_differ d e in
      let same : filter differs (ds ++ d ∷ []) ≡ filter differs ds = listed_more false none.0 ∙ append-nil (filter differs ds) in
      record {
        first_are = is.first_are ∙ ap (take 1000) (sym same);
        differences_are = is.differences_are ∙ ap length (sym same);
        wrong_are = let more = wrong_more false none.1 in omega arith;
      }

  first_is : differs d ≡ true → first_more first d ≡ take 1000 (filter differs (ds ++ d ∷ []))
  first_is e =
      ap (λ (xs : List Difference). first_more xs d) is.first_are
      ∙ (sym (take_more 1000 (filter differs ds) d) ∙ ap (take 1000) (sym (listed_more true e)))

  long : differs d ≡ true → n + 1 ≡ length (filter differs (ds ++ d ∷ []))
  long e = let all = ap length (listed_more true e) in let a = is.differences_are in omega (arith, all, length-append (filter differs ds) (d ∷ []), a)

  pub counts_one : (new : List Difference) → new ≡ first_more first d → count_wrong d ≡ 1 → Counts (ds ++ d ∷ []) new (n + 1) w
  counts_one new same e =
      let one = one_differs d e in
      record { first_are = same ∙ first_is one.0; differences_are = long one.0; wrong_are = let more = wrong_more false one.1 in omega arith }

  pub counts_some : (new : List Difference) → new ≡ first_more first d → 1 < count_wrong d → Counts (ds ++ d ∷ []) new (n + 1) (w + 1)
  counts_some new same e =
      let some = some_differ d e in
      record { first_are = same ∙ first_is some.0; differences_are = long some.0; wrong_are = sym (wrong_more true some.1) }

pub ruleset counting = (counts_none, counts_one, counts_some)
