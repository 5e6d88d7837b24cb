-- The last register before each vertex, one vertex after the other.
use Rattle.std.proofs.Common.{◌≡◌, ◌≢◌, ℕ, ◌+◌, ◌-◌, ◌<◌, ◌≤◌, ◌⊎◌, Bool, true, false, List, [], ◌∷◌, ◌++◌, length, get_or, set, replicate, refl, sym, ◌∙◌, ap, subst, inl, inr, arith, length-append}
use Rattle.std.specs.Prelude.{cond}
use Rattle.std.proofs.lemmas.Bool.{cases_eq, cases_lt}
use Rattle.std.proofs.lemmas.List.{get_or_past, get_or-set_same, get_or-set_other, length-set, length-replicate}
use Rattle.graph.specs.Rows.{row, Stands, Follows}
use Rattle.graph.specs.Lists.{Leads, alone, longer}
use Rattle.recovery_depth.specs.Walks.{Walk, starts, goes_on, is_marked}
use Rattle.recovery_depth.specs.Private.Vertices.{IsOrdered, IsReachIn, one_if, marked}
use Rattle.recovery_depth.specs.Private.LastRegisters.{number_at, last_of, IsBefore, AreBefore, IsChosen, IsOneOf}
use Rattle.recovery_depth.proofs.ReachLaws.{marked_count}

append_nil : (xs : List ℕ) → xs ++ [] ≡ xs
append_nil [] = refl
append_nil (x ∷ xs) = ap (λ ys. x ∷ ys) (append_nil xs)

pub later : (j k : ℕ) → j < k + 1 → (j ≡ k) ⊎ (j < k)
later j k h = go (cases_eq j k)
  where
    go : (j ≡ k) ⊎ (j ≡ k → ⊥) → (j ≡ k) ⊎ (j < k)
    go (inl e) = inl e
    go (inr ne) = inr (omega (arith, ne))

-- no vertex is considered yet
pub none_chosen : (reads reaches : List ℕ) (bits : List Bool) (before : List ℕ) (none target : ℕ) → IsChosen reads reaches bits before none target 0 none
none_chosen reads reaches bits before none target = record { all = λ j h. absurd (omega arith); some = λ h. absurd (h refl) }

pub one_chosen : (reads reaches : List ℕ) (bits : List Bool) (before : List ℕ) (none target i best x result : ℕ) → IsChosen reads reaches bits before none target i best → get_or reads i 0 ≡ x → (number_at reaches x ≡ target → IsOneOf none best (last_of bits before x) result) → (number_at reaches x ≢ target → result ≡ best) → IsChosen reads reaches bits before none target (i + 1) result
one_chosen reads reaches bits before none target i best x result c at other same = go (cases_eq (number_at reaches x) target)
  where
    later_some : (best ≢ none) → (result ≡ best) → (j : ℕ) × (j < i + 1) × (number_at reaches (get_or reads j 0) ≡ target) × (last_of bits before (get_or reads j 0) ≡ result)
    later_some h e = wider (c.some h)
      where
        wider : (j : ℕ) × (j < i) × (number_at reaches (get_or reads j 0) ≡ target) × (last_of bits before (get_or reads j 0) ≡ best) → (j : ℕ) × (j < i + 1) × (number_at reaches (get_or reads j 0) ≡ target) × (last_of bits before (get_or reads j 0) ≡ result)
        wider (j, l, r, s) = (j, omega (arith, l), r, s ∙ sym e)

    go : (number_at reaches x ≡ target) ⊎ (number_at reaches x ≡ target → ⊥) → IsChosen reads reaches bits before none target (i + 1) result
    go (inr ne) = record { all = λ j h r s. all j r s (later j i h); some = λ h. later_some (λ e. h (same ne ∙ e)) (same ne) }
      where
        all : (j : ℕ) → number_at reaches (get_or reads j 0) ≡ target → last_of bits before (get_or reads j 0) ≢ none → (j ≡ i) ⊎ (j < i) → result ≢ none
        all j r s (inl e) f = ne (ap (number_at reaches) (sym (ap (λ k. get_or reads k 0) e ∙ at)) ∙ r)
        all j r s (inr l) f = c.all j l r s (sym (same ne) ∙ f)
    go (inl e) = record { all = λ j h r s. all j r s (later j i h); some = λ h. some h o.one }
      where
        o : IsOneOf none best (last_of bits before x) result
        o = other e

        all : (j : ℕ) → number_at reaches (get_or reads j 0) ≡ target → last_of bits before (get_or reads j 0) ≢ none → (j ≡ i) ⊎ (j < i) → result ≢ none
        all j r s (inl f) = o.gains (λ z. s (ap (last_of bits before) (ap (λ k. get_or reads k 0) f ∙ at) ∙ z))
        all j r s (inr l) = o.keeps (c.all j l r s)

        some : result ≢ none → (result ≡ best) ⊎ (result ≡ last_of bits before x) → (j : ℕ) × (j < i + 1) × (number_at reaches (get_or reads j 0) ≡ target) × (last_of bits before (get_or reads j 0) ≡ result)
        some h (inl f) = later_some (λ z. h (f ∙ z)) f
        some h (inr f) = (i, omega arith, ap (number_at reaches) at ∙ e, ap (last_of bits before) at ∙ sym f)

-- the registers before the first k vertices of the order are known
pub record AreKnown (rows : List (List ℕ)) (bits : List Bool) (order reaches before : List ℕ) (k : ℕ) : Type 0 where
  pub long : length before ≡ length rows
  pub each : (j : ℕ) → j < k → one_if (is_marked bits (get_or order j 0)) < number_at reaches (get_or order j 0) → IsBefore rows bits reaches (get_or order j 0) (number_at before (get_or order j 0))

pub none_before : (rows : List (List ℕ)) (bits : List Bool) (order reaches before : List ℕ) (count : ℕ) → count ≡ length rows → before ≡ replicate count 0 → AreKnown rows bits order reaches before 0
none_before rows bits order reaches before count n e = record { long = ap length e ∙ (length-replicate {A = ℕ} count 0 ∙ n); each = λ j h. absurd (omega arith) }

module _ (rows : List (List ℕ)) (bits : List Bool) (reaches : List ℕ) (long : length reaches ≡ length rows) (reached : (x : ℕ) → x < length rows → IsReachIn rows bits x (number_at reaches x)) where
  outside : (x : ℕ) → 0 < number_at reaches x → x < length rows
  outside x h = go (cases_lt x (length rows))
    where
      go : (x < length rows) ⊎ (length rows ≤ x) → x < length rows
      go (inl l) = l
      go (inr l) = absurd (omega (arith, h, get_or_past reaches x 0 (omega (arith, long, l))))

  -- a vertex that reads others has the reach of one of them, and its own
  reads_most : (v : ℕ) → v < length rows → one_if (is_marked bits v) < number_at reaches v → (y : ℕ) × Follows rows y v × (number_at reaches y + one_if (is_marked bits v) ≡ number_at reaches v)
  reads_most v l more = go (reached v l).some
    where
      top : IsReachIn rows bits v (number_at reaches v)
      top = reached v l

      by : (z : ℕ) (seen : List ℕ) → Walk (Follows rows) (marked bits) z seen → z ≡ v → length seen ≡ number_at reaches v → (y : ℕ) × Follows rows y v × (number_at reaches y + one_if (is_marked bits v) ≡ number_at reaches v)
      by _ _ (starts z) e f = let c : length (marked bits z) ≡ one_if (is_marked bits v) = ap (λ u. length (marked bits u)) e ∙ marked_count bits v in absurd (omega (arith, c, f, more))
      by _ _ (goes_on y z seen w next) e f =
          let read : Follows rows y v = subst (Follows rows y) e next in
          let c : length (seen ++ marked bits z) ≡ length seen + one_if (is_marked bits v) = ap (λ u. length (seen ++ marked bits u)) e ∙ (length-append seen (marked bits v) ∙ ap (λ (m : ℕ). length seen + m) (marked_count bits v)) in
          let low : length seen ≤ number_at reaches y = (reached y read.vertex).most seen w in
          (y, read, exact read low c f (reached y read.vertex).some)
        where
          exact : Follows rows y v → length seen ≤ number_at reaches y → length (seen ++ marked bits z) ≡ length seen + one_if (is_marked bits v) → length (seen ++ marked bits z) ≡ number_at reaches v → (other : List ℕ) × (Walk (Follows rows) (marked bits) y other) × (length other ≡ number_at reaches y) → number_at reaches y + one_if (is_marked bits v) ≡ number_at reaches v
          exact read low c f (other, u, d) = let high : length (other ++ marked bits v) ≤ number_at reaches v = top.most (other ++ marked bits v) (goes_on y v other u read) in omega (arith, low, c, f, high, length-append other (marked bits v), marked_count bits v, d)

      go : (seen : List ℕ) × (Walk (Follows rows) (marked bits) v seen) × (length seen ≡ number_at reaches v) → (y : ℕ) × Follows rows y v × (number_at reaches y + one_if (is_marked bits v) ≡ number_at reaches v)
      go (seen, w, f) = by v seen w refl f

  pub record IsLastOf (y u : ℕ) : Type 0 where
    pub vertex : u < length rows
    pub register : is_marked bits u ≡ true
    pub reach : number_at reaches u ≡ number_at reaches y
    pub leads : Leads (Follows rows) u y
    pub joins : (seen : List ℕ) → Walk (Follows rows) (marked bits) u seen → Walk (Follows rows) (marked bits) y seen

  -- the last register of a vertex whose register before is known
  pub last_is : (before : List ℕ) (y : ℕ) → y < length rows → 0 < number_at reaches y → (one_if (is_marked bits y) < number_at reaches y → IsBefore rows bits reaches y (number_at before y)) → IsLastOf y (last_of bits before y)
  last_is before y l some known = go (is_marked bits y) refl
    where
      go : (b : Bool) → is_marked bits y ≡ b → IsLastOf y (last_of bits before y)
      go true e = subst (IsLastOf y) (sym (ap (λ b. cond b y (number_at before y)) e)) (record { vertex = l; register = e; reach = refl; leads = alone y; joins = λ seen w. w })
      go false e =
          let none : one_if (is_marked bits y) ≡ 0 = ap one_if e in
          let b : IsBefore rows bits reaches y (number_at before y) = known (omega (arith, none, some)) in
          let nothing : marked bits y ≡ [] = ap (λ b. cond b (y ∷ []) []) e in
          subst (IsLastOf y) (sym (ap (λ b. cond b y (number_at before y)) e)) (record {
            vertex = b.vertex;
            register = b.register;
            reach = omega (arith, b.reach, none);
            leads = b.leads;
            joins = λ seen w. subst (Walk (Follows rows) (marked bits) y) (ap (λ m. seen ++ m) nothing ∙ append_nil seen) (b.joins seen w);
          })

  module _ (order before : List ℕ) (k x : ℕ) (o : IsOrdered rows order) (known : AreKnown rows bits order reaches before k) (within : k < length order) (at : get_or order k 0 ≡ x) where
    vertex : x < length rows
    vertex = subst (λ z. z < length rows) at (o.within k within)

    -- the last register of what x reads
    read_last : (y : ℕ) → Follows rows y x → 0 < number_at reaches y → IsLastOf y (last_of bits before y)
    read_last y f some = go (o.after k y within (subst (Follows rows y) (sym at) f))
      where
        go : (j : ℕ) × (j < k) × (get_or order j 0 ≡ y) → IsLastOf y (last_of bits before y)
        go (j, l, e) = last_is before y f.vertex some (λ h. subst (λ z. IsBefore rows bits reaches z (number_at before z)) e (known.each j l (subst (λ z. one_if (is_marked bits z) < number_at reaches z) (sym e) h)))

    here : (u : ℕ) → IsChosen (row rows x) reaches bits before (length rows) (number_at reaches x - one_if (is_marked bits x)) (length (row rows x)) u → one_if (is_marked bits x) < number_at reaches x → IsBefore rows bits reaches x u
    here u c more = go (reads_most x vertex more)
      where
        target : ℕ
        target = number_at reaches x - one_if (is_marked bits x)

        made : (j : ℕ) × (j < length (row rows x)) × (number_at reaches (get_or (row rows x) j 0) ≡ number_at reaches x - one_if (is_marked bits x)) × (last_of bits before (get_or (row rows x) j 0) ≡ u) → IsBefore rows bits reaches x u
        made (j, l, r, e) =
            let y : ℕ = get_or (row rows x) j 0 in
            let some : 0 < number_at reaches (get_or (row rows x) j 0) = omega (arith, r, more) in
            let read : Follows rows (get_or (row rows x) j 0) x = record { place = j; within = l; is = refl; vertex = outside (get_or (row rows x) j 0) some } in
            let last : IsLastOf (get_or (row rows x) j 0) u = subst (IsLastOf (get_or (row rows x) j 0)) e (read_last (get_or (row rows x) j 0) read some) in
            record {
              vertex = last.vertex;
              register = last.register;
              reach = omega (arith, last.reach, r, more);
              leads = longer u (get_or (row rows x) j 0) x last.leads read;
              joins = λ seen w. goes_on (get_or (row rows x) j 0) x seen (last.joins seen w) read;
            }

        go : (y : ℕ) × Follows rows y x × (number_at reaches y + one_if (is_marked bits x) ≡ number_at reaches x) → IsBefore rows bits reaches x u
        go (y, f, e) =
            let some : 0 < number_at reaches y = omega (arith, e, more) in
            let last : IsLastOf y (last_of bits before y) = read_last y f some in
            let there : number_at reaches (get_or (row rows x) f.place 0) ≡ number_at reaches x - one_if (is_marked bits x) = ap (number_at reaches) f.is ∙ omega (arith, e) in
            let some_last : last_of bits before (get_or (row rows x) f.place 0) ≢ length rows = λ z. (let v = last.vertex in let s : last_of bits before y ≡ length rows = ap (last_of bits before) (sym f.is) ∙ z in omega (arith, v, s)) in
            made (c.some (c.all f.place f.within there some_last))

    pub one_before : (u : ℕ) (before' : List ℕ) → IsChosen (row rows x) reaches bits before (length rows) (number_at reaches x - one_if (is_marked bits x)) (length (row rows x)) u → before' ≡ set before x u → AreKnown rows bits order reaches before' (k + 1)
    one_before u before' c e = rw e (record { long = length-set before x u ∙ known.long; each = λ j h more. each j more (later j k h) (cases_eq (get_or order j 0) x) })
      where
        now : number_at (set before x u) x ≡ u
        now = get_or-set_same before x u 0 (omega (arith, known.long, vertex))

        each : (j : ℕ) → one_if (is_marked bits (get_or order j 0)) < number_at reaches (get_or order j 0) → (j ≡ k) ⊎ (j < k) → (get_or order j 0 ≡ x) ⊎ (get_or order j 0 ≡ x → ⊥) → IsBefore rows bits reaches (get_or order j 0) (number_at (set before x u) (get_or order j 0))
        each j more l (inl f) = subst (λ z. IsBefore rows bits reaches z (number_at (set before x u) z)) (sym f) (subst (IsBefore rows bits reaches x) (sym now) (here u c (subst (λ z. one_if (is_marked bits z) < number_at reaches z) f more)))
        each j more (inl l) (inr ne) = absurd (ne (ap (λ i. get_or order i 0) l ∙ at))
        each j more (inr l) (inr ne) = subst (IsBefore rows bits reaches (get_or order j 0)) (sym (get_or-set_other before x (get_or order j 0) u 0 ne)) (known.each j l more)

pub all_before : (rows : List (List ℕ)) (bits : List Bool) (order reaches before : List ℕ) (k : ℕ) → IsOrdered rows order → AreKnown rows bits order reaches before k → length order ≤ k → AreBefore rows bits reaches before
all_before rows bits order reaches before k o known l v vl more = go (o.complete v vl)
  where
    go : Stands order v → IsBefore rows bits reaches v (number_at before v)
    go s = subst (λ z. IsBefore rows bits reaches z (number_at before z)) s.is (known.each s.at (omega (arith, s.below, l)) (subst (λ z. one_if (is_marked bits z) < number_at reaches z) (sym s.is) more))

pub chosen_as : (reads reads' reaches : List ℕ) (bits : List Bool) (before before' : List ℕ) (none none' target target' u : ℕ) → reads ≡ reads' → before ≡ before' → none ≡ none' → target ≡ target' → IsChosen reads reaches bits before none target (length reads) u → IsChosen reads' reaches bits before' none' target' (length reads') u
chosen_as reads reads' reaches bits before before' none none' target target' u e f g h c =
    subst (λ (t : ℕ). IsChosen reads' reaches bits before' none' t (length reads') u) h (subst (λ (m : ℕ). IsChosen reads' reaches bits before' m target (length reads') u) g (subst (λ b. IsChosen reads' reaches bits b none target (length reads') u) f (subst (λ r. IsChosen r reaches bits before none target (length r) u) e c)))
