-- Labels within a bound: one vertex more at a time, and the walks that they count.
use Rattle.std.proofs.Common.{◌≡◌, ◌≢◌, ℕ, zero, suc, ◌+◌, ◌<◌, ◌≤◌, ◌⊎◌, ◌==◌, ◌&&◌, Bool, true, false, List, [], length, get_or, set, replicate, map, refl, sym, ◌∙◌, ap, subst, inl, inr, arith}
use Rattle.std.specs.Prelude.{cond}
use Rattle.std.specs.List.{range_with_len}
use Rattle.std.proofs.lemmas.Bool.{cases_eq, cases_lt}
use Rattle.std.proofs.lemmas.Bool.Decides.{nat_tests, eqb_tells}
use Rattle.std.proofs.lemmas.List.{get_or_past, get_or-set_same, get_or-set_other, length-set, length-replicate}
use Rattle.std.proofs.lemmas.List.FromFn.{get_or-map-range_with_len, length-map-range_with_len}
use Rattle.graph.specs.Rows.{row, Stands, Follows}
use Rattle.recovery_depth.specs.Walks.{is_marked}
use Rattle.recovery_depth.specs.Private.Vertices.{IsOrdered, IsReachIn, one_if}
use Rattle.recovery_depth.specs.Private.Reaching.{IsGreatestOf}
use Rattle.recovery_depth.specs.Private.Settled.{IsSettled, AreSettled}
use Rattle.recovery_depth.proofs.ReachLaws.{IsKnown, little, reach_here, small_reach, all_known}

-- the greatest stays where the numbers that the row names stay
greatest_kept : (reads before after : List ℕ) (g : ℕ) → ((i : ℕ) → i < length reads → get_or after (get_or reads i 0) 0 ≡ get_or before (get_or reads i 0) 0) → IsGreatestOf reads before g → IsGreatestOf reads after g
greatest_kept reads before after g same m = record { most = λ i l. omega (arith, same i l, m.most i l); some = some m.some }
  where
    some : (g ≡ 0) ⊎ ((i : ℕ) × (i < length reads) × (get_or before (get_or reads i 0) 0 ≡ g)) → (g ≡ 0) ⊎ ((i : ℕ) × (i < length reads) × (get_or after (get_or reads i 0) 0 ≡ g))
    some (inl e) = inl e
    some (inr (i, l, e)) = inr (i, l, same i l ∙ e)

-- the greatest of numbers of which none is above a bound
greatest_below : (reads numbers : List ℕ) (g most : ℕ) → ((x : ℕ) → get_or numbers x 0 ≤ most) → IsGreatestOf reads numbers g → g ≤ most
greatest_below reads numbers g most bounded m = go m.some
  where
    go : (g ≡ 0) ⊎ ((i : ℕ) × (i < length reads) × (get_or numbers (get_or reads i 0) 0 ≡ g)) → g ≤ most
    go (inl e) = omega (arith, e)
    go (inr (i, l, e)) = omega (arith, e, bounded (get_or reads i 0))

-- what a vertex is given is within the bound
pub label_below : (b : Bool) (g most : ℕ) → g ≤ most → 0 < most → cond (b && g == most) 0 g + one_if b ≤ most
label_below false g most l p = omega (arith, l)
label_below true g most l p = go (g == most) refl
  where
    go : (t : Bool) → (g == most) ≡ t → cond t 0 g + 1 ≤ most
    go true e = omega (arith, p)
    go false e = let apart : g < most = grind (arith, nat_tests) in omega (arith, apart)

-- the first k vertices of the order are settled
pub record AreSoFar (rows : List (List ℕ)) (bits : List Bool) (order : List ℕ) (marks : List Bool) (labels : List ℕ) (most k : ℕ) : Type 0 where
  pub marks_long : length marks ≡ length rows
  pub long : length labels ≡ length rows
  pub each : (j : ℕ) → j < k → IsSettled rows bits marks labels most (get_or order j 0)
  pub bounded : (x : ℕ) → get_or labels x 0 ≤ most

pub none_so_far : (rows : List (List ℕ)) (bits : List Bool) (order : List ℕ) (marks : List Bool) (labels : List ℕ) (most count : ℕ) → count ≡ length rows → marks ≡ replicate count false → labels ≡ replicate count 0 → AreSoFar rows bits order marks labels most 0
none_so_far rows bits order marks labels most count n e d = record {
  marks_long = ap length e ∙ (length-replicate {A = Bool} count false ∙ n);
  long = ap length d ∙ (length-replicate {A = ℕ} count 0 ∙ n);
  each = λ j h. absurd (omega arith);
  bounded = λ x. let z : get_or labels x 0 ≡ 0 = ap (λ xs. get_or xs x 0) d ∙ none count x in omega (arith, z);
}
  where
    none : (count x : ℕ) → get_or (replicate {A = ℕ} count 0) x 0 ≡ 0
    none zero x = refl
    none (suc c) zero = refl
    none (suc c) (suc x) = none c x

module _ (rows : List (List ℕ)) (bits : List Bool) (order : List ℕ) (marks : List Bool) (labels : List ℕ) (most k x g : ℕ) (o : IsOrdered rows order) (so : AreSoFar rows bits order marks labels most k) (within : k < length order) (at : get_or order k 0 ≡ x) (greatest : IsGreatestOf (row rows x) labels g) (positive : 0 < most) where
  vertex : x < length rows
  vertex = let v = o.within k within in omega (arith, at, v)

  abbrev pub given : ℕ
  given = cond (is_marked bits x && g == most) 0 g + one_if (is_marked bits x)

  pub small_given : given ≤ most
  small_given = label_below (is_marked bits x) g most (greatest_below (row rows x) labels g most so.bounded greatest) positive

  -- neither x nor what stands before it reads x
  not_read : (j i : ℕ) → j ≤ k → i < length (row rows (get_or order j 0)) → get_or (row rows (get_or order j 0)) i 0 ≢ x
  not_read j i l w e = go (o.after j x (omega (arith, l, within)) (record { place = i; within = w; is = e; vertex = vertex }))
    where
      go : (m : ℕ) × (m < j) × (get_or order m 0 ≡ x) → ⊥
      go (m, below, is) = o.once.apart m k (omega (arith, below, l)) within (is ∙ sym at)

  same : (j : ℕ) → j ≤ k → (i : ℕ) → i < length (row rows (get_or order j 0)) → get_or (set labels x given) (get_or (row rows (get_or order j 0)) i 0) 0 ≡ get_or labels (get_or (row rows (get_or order j 0)) i 0) 0
  same j l i w = get_or-set_other labels x (get_or (row rows (get_or order j 0)) i 0) given 0 (not_read j i l w)

  module _ (marks' : List Bool) (labels' : List ℕ) (marks_are : marks' ≡ set marks x (is_marked bits x && g == most)) (labels_are : labels' ≡ set labels x given) where
    mark_here : is_marked marks' x ≡ (is_marked bits x && g == most)
    mark_here = ap (λ ms. get_or ms x false) marks_are ∙ get_or-set_same marks x (is_marked bits x && g == most) false (omega (arith, so.marks_long, vertex))

    label_here : get_or labels' x 0 ≡ given
    label_here = ap (λ xs. get_or xs x 0) labels_are ∙ get_or-set_same labels x given 0 (omega (arith, so.long, vertex))

    kept : (j h : ℕ) → j ≤ k → IsGreatestOf (row rows (get_or order j 0)) labels h → IsGreatestOf (row rows (get_or order j 0)) labels' h
    kept j h l m = subst (λ xs. IsGreatestOf (row rows (get_or order j 0)) xs h) (sym labels_are) (greatest_kept (row rows (get_or order j 0)) labels (set labels x given) h (same j l) m)

    settled : IsSettled rows bits marks' labels' most x
    settled = record {
      greatest = g;
      is_greatest = subst (λ z. IsGreatestOf (row rows z) labels' g) at (kept k g (omega arith) (subst (λ z. IsGreatestOf (row rows z) labels g) (sym at) greatest));
      mark = mark_here;
      label = label_here ∙ ap (λ b. cond b 0 g + one_if (is_marked bits x)) (sym mark_here);
    }

    stays : (j : ℕ) → j < k → IsSettled rows bits marks' labels' most (get_or order j 0)
    stays j l =
        let s : IsSettled rows bits marks labels most (get_or order j 0) = so.each j l in
        let apart : get_or order j 0 ≢ x = λ e. o.once.apart j k l within (e ∙ sym at) in
        let mark : is_marked marks' (get_or order j 0) ≡ is_marked marks (get_or order j 0) = ap (λ ms. get_or ms (get_or order j 0) false) marks_are ∙ get_or-set_other marks x (get_or order j 0) (is_marked bits x && g == most) false apart in
        let label : get_or labels' (get_or order j 0) 0 ≡ get_or labels (get_or order j 0) 0 = ap (λ xs. get_or xs (get_or order j 0) 0) labels_are ∙ get_or-set_other labels x (get_or order j 0) given 0 apart in
        record {
          greatest = s.greatest;
          is_greatest = kept j s.greatest (omega (arith, l)) s.is_greatest;
          mark = mark ∙ s.mark;
          label = label ∙ (s.label ∙ ap (λ b. cond b 0 s.greatest + one_if (is_marked bits (get_or order j 0))) (sym mark));
        }

    pub one_more_settled : AreSoFar rows bits order marks' labels' most (k + 1)
    one_more_settled = record {
      marks_long = ap length marks_are ∙ (length-set marks x (is_marked bits x && g == most) ∙ so.marks_long);
      long = ap length labels_are ∙ (length-set labels x given ∙ so.long);
      each = λ j l. each j l (cases_eq j k);
      bounded = λ z. bounded z (cases_eq z x);
    }
      where
        each : (j : ℕ) → j < k + 1 → (j ≡ k) ⊎ (j ≡ k → ⊥) → IsSettled rows bits marks' labels' most (get_or order j 0)
        each j l (inl e) = subst (IsSettled rows bits marks' labels' most) (sym (ap (λ i. get_or order i 0) e ∙ at)) settled
        each j l (inr ne) = stays j (omega (arith, l, ne))

        bounded : (z : ℕ) → (z ≡ x) ⊎ (z ≡ x → ⊥) → get_or labels' z 0 ≤ most
        bounded z (inl e) = let v : get_or labels' z 0 ≡ given = ap (λ y. get_or labels' y 0) e ∙ label_here in omega (arith, v, small_given)
        bounded z (inr ne) = let v : get_or labels' z 0 ≡ get_or labels z 0 = ap (λ xs. get_or xs z 0) labels_are ∙ get_or-set_other labels x z given 0 ne in omega (arith, v, so.bounded z)

pub all_settled : (rows : List (List ℕ)) (bits : List Bool) (order : List ℕ) (marks : List Bool) (labels : List ℕ) (most k : ℕ) → IsOrdered rows order → AreSoFar rows bits order marks labels most k → length order ≤ k → AreSettled rows bits marks labels most
all_settled rows bits order marks labels most k o so l = record { marks_long = so.marks_long; long = so.long; each = λ x v. go x (o.complete x v); bounded = so.bounded }
  where
    go : (x : ℕ) → Stands order x → IsSettled rows bits marks labels most x
    go x s = subst (IsSettled rows bits marks labels most) s.is (so.each s.at (omega (arith, s.below, l)))

-- what y reads, unless it is marked
abbrev pub bare_row : List (List ℕ) → List Bool → ℕ → List ℕ
bare_row rows marks y = cond (is_marked marks y) [] (row rows y)

abbrev pub bare_rows : List (List ℕ) → List Bool → List (List ℕ)
bare_rows rows marks = map (bare_row rows marks) (range_with_len 0 (length rows))

module _ (rows : List (List ℕ)) (marks : List Bool) where
  pub bare_long : length (bare_rows rows marks) ≡ length rows
  bare_long = length-map-range_with_len (bare_row rows marks) 0 (length rows)

  bare_at : (y : ℕ) → y < length rows → row (bare_rows rows marks) y ≡ cond (is_marked marks y) [] (row rows y)
  bare_at y l = get_or-map-range_with_len (bare_row rows marks) 0 (length rows) y y [] l (omega arith)

  pub bare_marked : (y : ℕ) → y < length rows → is_marked marks y ≡ true → row (bare_rows rows marks) y ≡ []
  bare_marked y l e = bare_at y l ∙ ap (λ b. cond b [] (row rows y)) e

  pub bare_other : (y : ℕ) → y < length rows → is_marked marks y ≡ false → row (bare_rows rows marks) y ≡ row rows y
  bare_other y l e = bare_at y l ∙ ap (λ b. cond b [] (row rows y)) e

  -- what is read there is read by one that is not marked
  pub bare_follows : (x y : ℕ) → Follows (bare_rows rows marks) x y → (is_marked marks y ≡ false) × Follows rows x y
  bare_follows x y f = go (cases_lt y (length rows))
    where
      none : length (row (bare_rows rows marks) y) ≡ 0 → ⊥
      none e = omega (arith, e, f.within)

      go : (y < length rows) ⊎ (length rows ≤ y) → (is_marked marks y ≡ false) × Follows rows x y
      go (inr l) = absurd (none (ap length (get_or_past (bare_rows rows marks) y [] (omega (arith, bare_long, l)))))
      go (inl l) = which (is_marked marks y) refl
        where
          which : (b : Bool) → is_marked marks y ≡ b → (is_marked marks y ≡ false) × Follows rows x y
          which true e = absurd (none (ap length (bare_marked y l e)))
          which false e = (e, record { place = f.place; within = let s : length (row (bare_rows rows marks) y) ≡ length (row rows y) = ap length (bare_other y l e) in omega (arith, s, f.within); is = sym (ap (λ r. get_or r f.place 0) (bare_other y l e)) ∙ f.is; vertex = omega (arith, bare_long, f.vertex) })

  pub follows_bare : (x y : ℕ) → y < length rows → is_marked marks y ≡ false → Follows rows x y → Follows (bare_rows rows marks) x y
  follows_bare x y l e f = record { place = f.place; within = let s : length (row (bare_rows rows marks) y) ≡ length (row rows y) = ap length (bare_other y l e) in omega (arith, s, f.within); is = ap (λ r. get_or r f.place 0) (bare_other y l e) ∙ f.is; vertex = omega (arith, bare_long, f.vertex) }

  bare_ordered : (order : List ℕ) → IsOrdered rows order → IsOrdered (bare_rows rows marks) order
  bare_ordered order o = record {
    within = λ k l. omega (arith, bare_long, o.within k l);
    complete = λ x l. o.complete x (omega (arith, bare_long, l));
    once = o.once;
    few = omega (arith, bare_long, o.few);
    after = λ k x l f. o.after k x l (bare_follows x (get_or order k 0) f).1;
  }

  module _ (bits : List Bool) (labels order : List ℕ) (most : ℕ) (o : IsOrdered rows order) (s : AreSettled rows bits marks labels most) where
    -- the greatest label that a vertex reads there
    brought : (x : ℕ) → x < length rows → (g : ℕ) × IsGreatestOf (row (bare_rows rows marks) x) labels g × (get_or labels x 0 ≡ g + one_if (is_marked bits x))
    brought x l = which (is_marked marks x) refl
      where
        e : IsSettled rows bits marks labels most x
        e = s.each x l

        which : (b : Bool) → is_marked marks x ≡ b → (g : ℕ) × IsGreatestOf (row (bare_rows rows marks) x) labels g × (get_or labels x 0 ≡ g + one_if (is_marked bits x))
        which true t = (0, subst (λ r. IsGreatestOf r labels 0) (sym (bare_marked x l t)) (record { most = λ i h. absurd (omega arith); some = inl refl }), e.label ∙ ap (λ b. cond b 0 e.greatest + one_if (is_marked bits x)) t)
        which false t = (e.greatest, subst (λ r. IsGreatestOf r labels e.greatest) (sym (bare_other x l t)) e.is_greatest, e.label ∙ ap (λ b. cond b 0 e.greatest + one_if (is_marked bits x)) t)

    one_more_known : (k : ℕ) → suc k ≤ length order → IsKnown (bare_rows rows marks) bits order labels k → IsKnown (bare_rows rows marks) bits order labels (suc k)
    one_more_known k l before = record { long = before.long; each = λ j h. each j h (cases_eq j k); small = λ j h. small j h (cases_eq j k) }
      where
        vertex : get_or order k 0 < length rows
        vertex = o.within k (omega (arith, l))

        here : IsReachIn (bare_rows rows marks) bits (get_or order k 0) (get_or labels (get_or order k 0) 0) × (get_or labels (get_or order k 0) 0 ≤ suc k)
        here = go (brought (get_or order k 0) vertex)
          where
            go : (g : ℕ) × IsGreatestOf (row (bare_rows rows marks) (get_or order k 0)) labels g × (get_or labels (get_or order k 0) 0 ≡ g + one_if (is_marked bits (get_or order k 0))) → IsReachIn (bare_rows rows marks) bits (get_or order k 0) (get_or labels (get_or order k 0) 0) × (get_or labels (get_or order k 0) 0 ≤ suc k)
            go (g, m, e) = (subst (IsReachIn (bare_rows rows marks) bits (get_or order k 0)) (sym e) (reach_here (bare_rows rows marks) bits order labels k (get_or order k 0) g (bare_ordered order o) before (omega (arith, l)) refl m), (let few : g ≤ k = small_reach (bare_rows rows marks) bits order labels k (get_or order k 0) g (bare_ordered order o) before (omega (arith, l)) refl m in omega (arith, few, e, little (is_marked bits (get_or order k 0)))))

        each : (j : ℕ) → j < suc k → (j ≡ k) ⊎ (j ≡ k → ⊥) → IsReachIn (bare_rows rows marks) bits (get_or order j 0) (get_or labels (get_or order j 0) 0)
        each j h (inl e) = subst (λ i. IsReachIn (bare_rows rows marks) bits (get_or order i 0) (get_or labels (get_or order i 0) 0)) (sym e) here.0
        each j h (inr ne) = before.each j (omega (arith, h, ne))

        small : (j : ℕ) → j < suc k → (j ≡ k) ⊎ (j ≡ k → ⊥) → get_or labels (get_or order j 0) 0 ≤ suc j
        small j h (inl e) = subst (λ i. get_or labels (get_or order i 0) 0 ≤ suc i) (sym e) here.1
        small j h (inr ne) = before.small j (omega (arith, h, ne))

    known : (k : ℕ) → k ≤ length order → IsKnown (bare_rows rows marks) bits order labels k
    known zero l = record { long = s.long ∙ sym bare_long; each = λ j h. absurd (omega arith); small = λ j h. absurd (omega arith) }
    known (suc k) l = one_more_known k l (known k (omega (arith, l)))

    -- each label counts the registers of walks that go around marked vertices
    pub bare_reach : (x : ℕ) → x < length rows → IsReachIn (bare_rows rows marks) bits x (get_or labels x 0)
    bare_reach x l = all_known (bare_rows rows marks) bits order labels (length order) (bare_ordered order o) (known (length order) (omega arith)) (omega arith) x (omega (arith, bare_long, l))

    -- no label is above the number of vertices
    few_labels : (x : ℕ) → get_or labels x 0 ≤ length rows
    few_labels x = go (cases_lt x (length rows))
      where
        go : (x < length rows) ⊎ (length rows ≤ x) → get_or labels x 0 ≤ length rows
        go (inr l) = let z : get_or labels x 0 ≡ 0 = get_or_past labels x 0 (omega (arith, s.long, l)) in omega (arith, z)
        go (inl l) = stands (o.complete x l)
          where
            stands : Stands order x → get_or labels x 0 ≤ length rows
            stands t = let few : get_or labels (get_or order t.at 0) 0 ≤ suc t.at = (known (length order) (omega arith)).small t.at t.below in subst (λ z. get_or labels z 0 ≤ length rows) t.is (omega (arith, few, t.below, o.few))

    -- a bound above the number of vertices marks none
    pub none_marked : length rows < most → (x : ℕ) → is_marked marks x ≡ false
    none_marked far x = go (cases_lt x (length rows))
      where
        go : (x < length rows) ⊎ (length rows ≤ x) → is_marked marks x ≡ false
        go (inr l) = get_or_past marks x false (omega (arith, s.marks_long, l))
        go (inl l) = (s.each x l).mark ∙ which (is_marked bits x)
          where
            below : (s.each x l).greatest ≤ length rows
            below = greatest_below (row rows x) labels (s.each x l).greatest (length rows) few_labels (s.each x l).is_greatest

            which : (b : Bool) → (b && (s.each x l).greatest == most) ≡ false
            which false = refl
            which true = tells (eqb_tells (s.each x l).greatest most)
              where
                tells : ((((s.each x l).greatest == most) ≡ true) × ((s.each x l).greatest ≡ most)) ⊎ ((((s.each x l).greatest == most) ≡ false) × ((s.each x l).greatest ≢ most)) → ((s.each x l).greatest == most) ≡ false
                tells (inl (t, e)) = absurd (omega (arith, e, below, far))
                tells (inr (t, ne)) = t
