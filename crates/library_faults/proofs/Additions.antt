-- Nets and bytes that are added to a count.
use Rattle.std.proofs.Common.{◌≡◌, ℕ, zero, suc, ◌+◌, ◌*◌, ◌<◌, ◌≤◌, ◌⊎◌, Bool, true, false, cond, List, [], length, get_or, set, take, min, refl, sym, ap, subst, inl, inr, ◌∙◌, arith, Option, Some, None}
use Rattle.std.specs.Option.{option_map_or}
use Rattle.std.specs.List.{sum_by}
use Rattle.std.specs.Str.{bytes_eq}
use Rattle.std.proofs.lemmas.Bool.{cases_eq, cases_lt}
use Rattle.std.proofs.lemmas.List.{get_or-set_same, get_or-set_other, get_or_default}
use Rattle.std.proofs.lemmas.List.Quantifiers.{position-Some}
use Rattle.std.proofs.lemmas.List.Sums.{sum_by_more}
use Rattle.std.proofs.lemmas.Slice.Eq.{bytes_eq-Decides}
use Rattle.std.proofs.Math.Nat.{mul-le-mul_left}
use Rattle.library_faults.specs.declared.lengths.count.Count.{Count}
use Rattle.blif_text.specs.Kind.{is_among}
use Rattle.library_faults.specs.Graph.{number_named}
use Rattle.library_faults.specs.FlatText.{capped}
use Rattle.library_faults.specs.Private.Counts.{Use, Formal, use_of, own_length, own_one, formal_one, formal_length, by_formal, limited, used, Adds, times_of, sum_of, bound_of}

-- ---- products that are kept as far as 64 bits hold them

pub times_capped : (times x : ℕ) → min (times * min x 18446744073709551615) 18446744073709551615 ≡ min (times * x) 18446744073709551615
times_capped zero x = omega arith
times_capped (suc times) x = go (cases_lt x 18446744073709551615)
  where
    go : (x < 18446744073709551615) ⊎ (18446744073709551615 ≤ x) → min (suc times * min x 18446744073709551615) 18446744073709551615 ≡ min (suc times * x) 18446744073709551615
    go (inl l) = let e : min x 18446744073709551615 ≡ x = omega arith in ap (λ y. min (suc times * y) 18446744073709551615) e
    go (inr l) = omega (arith, mul-le-mul_left times l)

-- ---- how often one formal stands

same_number : (keys : List (List ℕ)) (k : ℕ) (a b : List ℕ) → number_named keys a ≡ Some k → number_named keys b ≡ Some k → a ≡ b
unfolding number_named
same_number keys k a b e f =
    let one = (position-Some (bytes_eq a) keys k [] e).1 in
    let two = (position-Some (bytes_eq b) keys k [] f).1 in
    (bytes_eq-Decides a (get_or keys k [])).0 one ∙ sym ((bytes_eq-Decides b (get_or keys k [])).0 two)

pub number_below : (keys : List (List ℕ)) (k : ℕ) (a : List ℕ) → number_named keys a ≡ Some k → k < length keys
unfolding number_named
number_below keys k a e = (position-Some (bytes_eq a) keys k [] e).0

pub eq_self : (a : List ℕ) → bytes_eq a a ≡ true
eq_self a = (bytes_eq-Decides a a).1 refl

pub eq_other : (a b : List ℕ) → (a ≡ b → ⊥) → bytes_eq a b ≡ false
eq_other a b apart = go (bytes_eq a b) refl
  where
    go : (v : Bool) → bytes_eq a b ≡ v → bytes_eq a b ≡ false
    go true e = absurd (apart ((bytes_eq-Decides a b).0 e))
    go false e = e

-- the number of one formal grows, and all others stay
pub used_more : (keys : List (List ℕ)) (uses : List ℕ) (k times old new : ℕ) (name n : List ℕ) → number_named keys name ≡ Some k → length uses ≡ length keys → old ≡ get_or uses k old → new ≡ min (old + times) 18446744073709551615 → limited (option_map_or (λ j. get_or (set uses k new) j 0) (number_named keys n) 0) ≡ limited (option_map_or (λ j. get_or uses j 0) (number_named keys n) 0 + times * by_formal n (Formal name))
used_more keys uses k times old new name n e shaped before after = go (number_named keys n) refl
  where
    below : k < length uses
    below = omega (arith, number_below keys k name e)

    first : old ≡ get_or uses k 0
    first = before ∙ get_or_default uses k old 0 below

    go : (o : Option ℕ) → number_named keys n ≡ o → limited (option_map_or (λ j. get_or (set uses k new) j 0) o 0) ≡ limited (option_map_or (λ j. get_or uses j 0) o 0 + times * cond (bytes_eq n name) 1 0)
    go None f = rw (eq_other n name (λ same. (let g : number_named keys name ≡ None = subst (λ m. number_named keys m ≡ None) same f in cc))) (omega arith)
    go (Some j) f = at (cases_eq j k)
      where
        at : (j ≡ k) ⊎ (j ≡ k → ⊥) → limited (get_or (set uses k new) j 0) ≡ limited (get_or uses j 0 + times * cond (bytes_eq n name) 1 0)
        at (inl same) = rw (same, same_number keys k n name (f ∙ ap Some same) e, eq_self name, get_or-set_same uses k new 0 below) (omega (arith, first))
        at (inr apart) = rw (get_or-set_other uses k j new 0 apart, eq_other n name (λ same. (let g : number_named keys name ≡ Some j = subst (λ m. number_named keys m ≡ Some j) same f in apart (cc)))) (omega arith)

-- ---- adding in steps

pub adds_none : (a : Count) (bytes : ℕ) → bytes ≡ 0 → Adds a a bytes (sum_of [])
adds_none a bytes none = record {
  bytes = omega arith;
  places = omega arith;
  passed = omega arith;
  passed_bytes = omega arith;
  by = λ name. omega arith;
  formals = refl;
  shaped = refl;
}

pub adds_then : (a b c : Count) (f g h : ℕ) (s t u : (Use → ℕ) → ℕ) → Adds a b f s → Adds b c g t → h ≡ f + g → ((w : Use → ℕ) → u w ≡ s w + t w) → Adds a c h u
adds_then a b c f g h s t u one two fixed both = record {
  bytes = omega (arith, one.bytes, two.bytes, both own_length);
  places = omega (arith, one.places, two.places, both own_one);
  passed = omega (arith, one.passed, two.passed, both formal_one);
  passed_bytes = omega (arith, one.passed_bytes, two.passed_bytes, both formal_length);
  by = λ name. omega (arith, one.by name, two.by name, both (by_formal name));
  formals = two.formals ∙ one.formals;
  shaped = two.shaped ∙ one.shaped;
}

pub adds_as : (a b : Count) (f : ℕ) (s u : (Use → ℕ) → ℕ) → Adds a b f s → ((w : Use → ℕ) → u w ≡ s w) → Adds a b f u
adds_as a b f s u one same = record {
  bytes = omega (arith, one.bytes, same own_length);
  places = omega (arith, one.places, same own_one);
  passed = omega (arith, one.passed, same formal_one);
  passed_bytes = omega (arith, one.passed_bytes, same formal_length);
  by = λ name. omega (arith, one.by name, same (by_formal name));
  formals = one.formals;
  shaped = one.shaped;
}

-- ---- formals of a placed model, one by one

pub bound_more : (old now new placed : Count) (bindings : List (List ℕ × List ℕ)) (i : ℕ) (b : List ℕ × List ℕ) (times : ℕ) → i < length bindings → b ≡ get_or bindings i b → times ≡ used placed b.0 → Adds old now 0 (bound_of (is_among old.formals.keys) placed (take i bindings)) → Adds now new 0 (times_of times (use_of (is_among now.formals.keys) b.1)) → Adds old new 0 (bound_of (is_among old.formals.keys) placed (take (i + 1) bindings))
bound_more old now new placed bindings i b times below is count so_far one = adds_then old now new 0 0 0 _ _ _ so_far one refl both
  where
    same : (w : Use → ℕ) → times * w (use_of (is_among now.formals.keys) b.1) ≡ used placed b.0 * w (use_of (is_among old.formals.keys) b.1)
    same w = ap (λ t. t * w (use_of (is_among now.formals.keys) b.1)) count ∙ ap (λ f. used placed b.0 * w (use_of (is_among f.keys) b.1)) so_far.formals

    both : (w : Use → ℕ) → bound_of (is_among old.formals.keys) placed (take (i + 1) bindings) w ≡ bound_of (is_among old.formals.keys) placed (take i bindings) w + times * w (use_of (is_among now.formals.keys) b.1)
    both w = sum_by_more (λ a. used placed a.0 * w (use_of (is_among old.formals.keys) a.1)) bindings i b below
        ∙ ap (λ x. bound_of (is_among old.formals.keys) placed (take i bindings) w + x) (ap (λ a. used placed a.0 * w (use_of (is_among old.formals.keys) a.1)) (sym is) ∙ sym (same w))

pub moved_more : (f : List ℕ × List ℕ → ℕ) (bindings : List (List ℕ × List ℕ)) (i : ℕ) (b : List ℕ × List ℕ) (total more new : ℕ) → i < length bindings → b ≡ get_or bindings i b → total ≡ capped (sum_by f (take i bindings)) → min more 18446744073709551615 ≡ min (f b) 18446744073709551615 → new ≡ min (total + more) 18446744073709551615 → new ≡ capped (sum_by f (take (i + 1) bindings))
moved_more f bindings i b total more new below is so_far one now = omega (arith, sum_by_more f bindings i b below, ap f is)

pub ruleset adding_laws = (times_capped)
