-- The reach of a vertex, from those of the vertices that it reads.
use Rattle.std.proofs.Common.{◌≡◌, ◌≢◌, ℕ, suc, ◌+◌, ◌<◌, ◌≤◌, ◌⊎◌, Bool, true, false, List, [], ◌∷◌, ◌++◌, length, get_or, set, replicate, refl, sym, ◌∙◌, ap, subst, inl, inr, arith, length-append}
use Rattle.std.specs.Prelude.{cond}
use Rattle.std.proofs.lemmas.Bool.{cases_eq, cases_lt}
use Rattle.std.proofs.lemmas.List.{get_or_past, get_or-set_same, get_or-set_other, length-set, length-replicate}
use Rattle.graph.specs.Rows.{row, Stands}
use Rattle.graph.specs.Rows.{Follows}
use Rattle.recovery_depth.specs.Walks.{Walk, starts, goes_on, is_marked}
use Rattle.recovery_depth.specs.Private.Vertices.{IsOrdered, IsReachIn, one_if, marked}
use Rattle.recovery_depth.specs.Private.Reaching.{IsGreatestOf}

pub marked_count : (bits : List Bool) (x : ℕ) → length (marked bits x) ≡ one_if (is_marked bits x)
marked_count bits x = go (is_marked bits x)
  where
    go : (b : Bool) → length (cond b (x ∷ []) []) ≡ one_if b
    go true = refl
    go false = refl

pub little : (b : Bool) → one_if b ≤ 1
little true = omega arith
little false = omega arith

-- the reaches of the first k vertices of the order are known, and small
pub record IsKnown (rows : List (List ℕ)) (bits : List Bool) (order reaches : List ℕ) (k : ℕ) : Type 0 where
  pub long : length reaches ≡ length rows
  pub each : (j : ℕ) → j < k → IsReachIn rows bits (get_or order j 0) (get_or reaches (get_or order j 0) 0)
  pub small : (j : ℕ) → j < k → get_or reaches (get_or order j 0) 0 ≤ suc j

pub none_known : (rows : List (List ℕ)) (bits : List Bool) (order reaches : List ℕ) (count : ℕ) → count ≡ length rows → reaches ≡ replicate count 0 → IsKnown rows bits order reaches 0
none_known rows bits order reaches count n e = record {
  long = ap length e ∙ (length-replicate {A = ℕ} count 0 ∙ n);
  each = λ j h. absurd (omega arith);
  small = λ j h. absurd (omega arith);
}

module _ (rows : List (List ℕ)) (bits : List Bool) (order reaches : List ℕ) (k x g : ℕ) (o : IsOrdered rows order) (known : IsKnown rows bits order reaches k) (within : k < length order) (at : get_or order k 0 ≡ x) (greatest : IsGreatestOf (row rows x) reaches g) where
  -- where a vertex that x reads stands in the order
  before : (y : ℕ) → Follows rows y x → (j : ℕ) × (j < k) × (get_or order j 0 ≡ y)
  before y f = o.after k y within (subst (Follows rows y) (sym at) f)

  reads : (i : ℕ) → i < length (row rows x) → get_or (row rows x) i 0 < length rows → Follows rows (get_or (row rows x) i 0) x
  reads i l v = record { place = i; within = l; is = refl; vertex = v }

  -- a vertex that x reads is known
  read_known : (y : ℕ) → Follows rows y x → IsReachIn rows bits y (get_or reaches y 0) × (get_or reaches y 0 ≤ k)
  read_known y f = go (before y f)
    where
      go : (j : ℕ) × (j < k) × (get_or order j 0 ≡ y) → IsReachIn rows bits y (get_or reaches y 0) × (get_or reaches y 0 ≤ k)
      go (j, l, e) = (subst (λ z. IsReachIn rows bits z (get_or reaches z 0)) e (known.each j l), (let s : get_or reaches y 0 ≤ suc j = subst (λ z. get_or reaches z 0 ≤ suc j) e (known.small j l) in omega arith))

  outside : (y : ℕ) → length rows ≤ y → get_or reaches y 0 ≡ 0
  outside y l = get_or_past reaches y 0 (omega (arith, known.long, l))

  pub small_reach : g ≤ k
  small_reach = go greatest.some
    where
      go : (g ≡ 0) ⊎ ((i : ℕ) × (i < length (row rows x)) × (get_or reaches (get_or (row rows x) i 0) 0 ≡ g)) → g ≤ k
      go (inl e) = omega (arith, e)
      go (inr (i, l, e)) = which (cases_lt (get_or (row rows x) i 0) (length rows))
        where
          which : (get_or (row rows x) i 0 < length rows) ⊎ (length rows ≤ get_or (row rows x) i 0) → g ≤ k
          which (inl v) = omega (arith, e, (read_known (get_or (row rows x) i 0) (reads i l v)).1)
          which (inr v) = omega (arith, e, outside (get_or (row rows x) i 0) v)

  alone_count : length (marked bits x) ≡ one_if (is_marked bits x)
  alone_count = marked_count bits x

  longer_count : (seen : List ℕ) → length (seen ++ marked bits x) ≡ length seen + one_if (is_marked bits x)
  longer_count seen = omega (arith, length-append seen (marked bits x), alone_count)

  most : (z : ℕ) (seen : List ℕ) → Walk (Follows rows) (marked bits) z seen → z ≡ x → length seen ≤ g + one_if (is_marked bits x)
  most _ _ (starts z) e = let c : length (marked bits z) ≡ one_if (is_marked bits x) = ap (λ v. length (marked bits v)) e ∙ alone_count in omega (arith, c)
  most _ _ (goes_on y z seen w next) e =
      let f : Follows rows y x = subst (Follows rows y) e next in
      let up : length seen ≤ get_or reaches y 0 = (read_known y f).0.most seen w in
      let below : get_or reaches y 0 ≤ g = subst (λ v. get_or reaches v 0 ≤ g) f.is (greatest.most f.place f.within) in
      let c : length (seen ++ marked bits z) ≡ length seen + one_if (is_marked bits x) = ap (λ v. length (seen ++ marked bits v)) e ∙ longer_count seen in
      omega (arith, c, up, below)

  some : (seen : List ℕ) × (Walk (Follows rows) (marked bits) x seen) × (length seen ≡ g + one_if (is_marked bits x))
  some = go greatest.some
    where
      alone : g ≡ 0 → (seen : List ℕ) × (Walk (Follows rows) (marked bits) x seen) × (length seen ≡ g + one_if (is_marked bits x))
      alone e = (marked bits x, starts x, omega (arith, e, alone_count))

      go : (g ≡ 0) ⊎ ((i : ℕ) × (i < length (row rows x)) × (get_or reaches (get_or (row rows x) i 0) 0 ≡ g)) → (seen : List ℕ) × (Walk (Follows rows) (marked bits) x seen) × (length seen ≡ g + one_if (is_marked bits x))
      go (inl e) = alone e
      go (inr (i, l, e)) = which (cases_lt (get_or (row rows x) i 0) (length rows))
        where
          which : (get_or (row rows x) i 0 < length rows) ⊎ (length rows ≤ get_or (row rows x) i 0) → (seen : List ℕ) × (Walk (Follows rows) (marked bits) x seen) × (length seen ≡ g + one_if (is_marked bits x))
          which (inr v) = alone (sym e ∙ outside (get_or (row rows x) i 0) v)
          which (inl v) = longer (read_known (get_or (row rows x) i 0) (reads i l v)).0.some
            where
              longer : (seen : List ℕ) × (Walk (Follows rows) (marked bits) (get_or (row rows x) i 0) seen) × (length seen ≡ get_or reaches (get_or (row rows x) i 0) 0) → (seen : List ℕ) × (Walk (Follows rows) (marked bits) x seen) × (length seen ≡ g + one_if (is_marked bits x))
              longer (seen, w, c) = (seen ++ marked bits x, goes_on (get_or (row rows x) i 0) x seen w (reads i l v), omega (arith, longer_count seen, c, e))

  pub reach_here : IsReachIn rows bits x (g + one_if (is_marked bits x))
  reach_here = record { some = some; most = λ seen w. most x seen w refl }

  -- one more vertex is known
  pub one_more : (reaches' : List ℕ) → reaches' ≡ set reaches x (g + one_if (is_marked bits x)) → IsKnown rows bits order reaches' (k + 1)
  one_more reaches' e = rw e (record {
    long = length-set reaches x (g + one_if (is_marked bits x)) ∙ known.long;
    each = λ j h. each j (cases_eq (get_or order j 0) x) (later j h);
    small = λ j h. small j (cases_eq (get_or order j 0) x) (later j h);
  })
    where
      vertex : x < length reaches
      vertex = let v = o.within k within in omega (arith, known.long, at, v)

      now : get_or (set reaches x (g + one_if (is_marked bits x))) x 0 ≡ g + one_if (is_marked bits x)
      now = get_or-set_same reaches x (g + one_if (is_marked bits x)) 0 vertex

      later : (j : ℕ) → j < k + 1 → (j ≡ k) ⊎ (j < k)
      later j h = go (cases_eq j k)
        where
          go : (j ≡ k) ⊎ (j ≡ k → ⊥) → (j ≡ k) ⊎ (j < k)
          go (inl e) = inl e
          go (inr ne) = inr (omega (arith, ne))

      apart : (j : ℕ) → j < k → get_or order j 0 ≢ x
      apart j l e = o.once.apart j k l within (e ∙ sym at)

      each : (j : ℕ) → (get_or order j 0 ≡ x) ⊎ (get_or order j 0 ≡ x → ⊥) → (j ≡ k) ⊎ (j < k) → IsReachIn rows bits (get_or order j 0) (get_or (set reaches x (g + one_if (is_marked bits x))) (get_or order j 0) 0)
      each j (inl e) l = subst (λ z. IsReachIn rows bits z (get_or (set reaches x (g + one_if (is_marked bits x))) z 0)) (sym e) (subst (IsReachIn rows bits x) (sym now) reach_here)
      each j (inr ne) (inl e) = absurd (ne (ap (λ i. get_or order i 0) e ∙ at))
      each j (inr ne) (inr l) = subst (IsReachIn rows bits (get_or order j 0)) (sym (get_or-set_other reaches x (get_or order j 0) (g + one_if (is_marked bits x)) 0 ne)) (known.each j l)

      small : (j : ℕ) → (get_or order j 0 ≡ x) ⊎ (get_or order j 0 ≡ x → ⊥) → (j ≡ k) ⊎ (j < k) → get_or (set reaches x (g + one_if (is_marked bits x))) (get_or order j 0) 0 ≤ suc j
      small j (inl e) (inr l) = absurd (apart j l e)
      small j (inl e) (inl l) = let v : get_or (set reaches x (g + one_if (is_marked bits x))) (get_or order j 0) 0 ≡ g + one_if (is_marked bits x) = ap (λ z. get_or (set reaches x (g + one_if (is_marked bits x))) z 0) e ∙ now in omega (arith, v, small_reach, little (is_marked bits x), l)
      small j (inr ne) (inl e) = absurd (ne (ap (λ i. get_or order i 0) e ∙ at))
      small j (inr ne) (inr l) = let v = get_or-set_other reaches x (get_or order j 0) (g + one_if (is_marked bits x)) 0 ne in omega (arith, v, known.small j l)

-- all are known
pub all_known : (rows : List (List ℕ)) (bits : List Bool) (order reaches : List ℕ) (k : ℕ) → IsOrdered rows order → IsKnown rows bits order reaches k → length order ≤ k → (x : ℕ) → x < length rows → IsReachIn rows bits x (get_or reaches x 0)
all_known rows bits order reaches k o known l x v = go (o.complete x v)
  where
    go : Stands order x → IsReachIn rows bits x (get_or reaches x 0)
    go s = subst (λ z. IsReachIn rows bits z (get_or reaches z 0)) s.is (known.each s.at (omega (arith, s.below, l)))
