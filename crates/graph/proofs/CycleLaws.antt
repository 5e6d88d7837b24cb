-- The cycle at the end of a path, turned so that it begins with its least number.
use Rattle.std.proofs.Common.{◌≡◌, ◌≢◌, ℕ, suc, ◌+◌, ◌-◌, ◌<◌, ◌≤◌, ◌⊎◌, List, ◌++◌, length, get_or, drop, sym, ◌∙◌, inl, inr, arith}
use Rattle.std.specs.Prelude.{slice_range}
use Rattle.std.proofs.lemmas.Bool.{cases_eq, cases_lt, cases_order}
use Rattle.std.proofs.lemmas.List.{length-append, length-drop, length-take, get_or_append_left, get_or-append_right, get_or-drop, get_or-take}
use Rattle.graph.specs.Rows.{Stands, IsOnce}
use Rattle.graph.specs.Turned.{IsTurned}

-- one place more
pub lowest_more : (xs : List ℕ) (first place least lower : ℕ) → ((k : ℕ) → first ≤ k → k < place → get_or xs least 0 ≤ get_or xs k 0) → get_or xs lower 0 ≤ get_or xs least 0 → get_or xs lower 0 ≤ get_or xs place 0 → (k : ℕ) → first ≤ k → k < place + 1 → get_or xs lower 0 ≤ get_or xs k 0
lowest_more xs first place least lower so_far below here k low high = go (cases_eq k place)
  where
    go : (k ≡ place) ⊎ (k ≡ place → ⊥) → get_or xs lower 0 ≤ get_or xs k 0
    go (inl e) = rw e here
    go (inr ne) = omega (arith, so_far k low (omega arith))

pub ruleset lowest = (lowest_more)

module _ (path : List ℕ) (first least : ℕ) (order : first ≤ least) (within : least < length path) where
  turned_left : (k : ℕ) → k < length path - least → get_or (drop least path ++ slice_range path first least) k 0 ≡ get_or path (least + k) 0
  turned_left k h = get_or_append_left (drop least path) (slice_range path first least) 0 k (omega (arith, length-drop least path)) ∙ get_or-drop least path k 0

  turned_right : (k : ℕ) → length path - least ≤ k → k < length path - first → get_or (drop least path ++ slice_range path first least) k 0 ≡ get_or path (first + (k - (length path - least))) 0
  turned_right k low high =
      get_or-append_right (drop least path) (slice_range path first least) (length path - least) k 0 (length-drop least path) low
      ∙ (get_or-take (least - first) (drop first path) (k - (length path - least)) 0 (omega arith)
      ∙ get_or-drop first path (k - (length path - least)) 0)

  turned_length : length (drop least path ++ slice_range path first least) ≡ length path - first
  turned_length = omega (arith, length-append (drop least path) (slice_range path first least), length-drop least path, length-take (least - first) (drop first path), length-drop first path)

-- numbers of the path of which each has the next one next and the last has the first, none twice, beginning with the least
pub record IsRound (Next : ℕ → ℕ → Type 0) (path turned : List ℕ) : Type 0 where
  pub some : 0 < length turned
  pub stands : (k : ℕ) → k < length turned → Stands path (get_or turned k 0)
  pub next : (k : ℕ) → suc k < length turned → Next (get_or turned k 0) (get_or turned (suc k) 0)
  pub closed : Next (get_or turned (length turned - 1) 0) (get_or turned 0 0)
  pub once : IsOnce turned
  pub least : (k : ℕ) → k < length turned → get_or turned 0 0 ≤ get_or turned k 0

-- where each number of a path has the next one next, and the last one has y, what follows y is a cycle
pub is_round : (Next : ℕ → ℕ → Type 0) (path turned : List ℕ) (y : ℕ) → ((k : ℕ) → suc k < length path → Next (get_or path k 0) (get_or path (suc k) 0)) → Next (get_or path (length path - 1) 0) y → IsOnce path → IsTurned path y turned → IsRound Next path turned
is_round Next path turned y chain closes once t =
    rw t.is (record {
      stands = λ k h. stands k (rw (turned_length path t.first t.least t.order t.within) at h);
      some = omega (arith, turned_length path t.first t.least t.order t.within);
      next = λ k h. next k (rw (turned_length path t.first t.least t.order t.within) at h) (cases_order (suc k) (length path - t.least));
      closed = rw (turned_length path t.first t.least t.order t.within) (closed (cases_eq t.first t.least));
      once = record { apart = λ j k jk h. apart j k jk (rw (turned_length path t.first t.least t.order t.within) at h) };
      least = λ k h. lowest k (rw (turned_length path t.first t.least t.order t.within) at h);
    })
  where
    whole : List ℕ
    whole = drop t.least path ++ slice_range path t.first t.least

    left : (k : ℕ) → k < length path - t.least → get_or (drop t.least path ++ slice_range path t.first t.least) k 0 ≡ get_or path (t.least + k) 0
    left = turned_left path t.first t.least t.order t.within

    right : (k : ℕ) → length path - t.least ≤ k → k < length path - t.first → get_or (drop t.least path ++ slice_range path t.first t.least) k 0 ≡ get_or path (t.first + (k - (length path - t.least))) 0
    right = turned_right path t.first t.least t.order t.within

    link : (k : ℕ) → suc k < length path → Next (get_or path k 0) (get_or path (suc k) 0)
    link k h = chain k h

    back : Next (get_or path (length path - 1) 0) (get_or path t.first 0)
    back = rw t.begins closes

    next : (k : ℕ) → suc k < length path - t.first → (suc k ≡ length path - t.least) ⊎ ((suc k < length path - t.least) ⊎ (length path - t.least < suc k)) → Next (get_or (drop t.least path ++ slice_range path t.first t.least) k 0) (get_or (drop t.least path ++ slice_range path t.first t.least) (suc k) 0)
    next k h (inl e) =
        let a : t.least + k ≡ length path - 1 = omega arith in
        let b : t.first + (suc k - (length path - t.least)) ≡ t.first = omega arith in
        rw (left k (omega arith), right (suc k) (omega arith) h, a, b) back
    next k h (inr (inl l)) =
        let a : t.least + suc k ≡ suc (t.least + k) = omega arith in
        rw (left k (omega arith), left (suc k) l, a) (link (t.least + k) (omega arith))
    next k h (inr (inr l)) =
        let a : t.first + (suc k - (length path - t.least)) ≡ suc (t.first + (k - (length path - t.least))) = omega arith in
        rw (right k (omega arith) (omega arith), right (suc k) (omega arith) h, a) (link (t.first + (k - (length path - t.least))) (omega arith))

    closed : (t.first ≡ t.least) ⊎ (t.first ≡ t.least → ⊥) → Next (get_or (drop t.least path ++ slice_range path t.first t.least) (length path - t.first - 1) 0) (get_or (drop t.least path ++ slice_range path t.first t.least) 0 0)
    closed (inl e) =
        let a : t.least + (length path - t.first - 1) ≡ length path - 1 = omega arith in
        let b : t.least + 0 ≡ t.first = omega arith in
        rw (left (length path - t.first - 1) (omega arith), left 0 (omega arith), a, b) back
    closed (inr ne) =
        let a : t.first + ((length path - t.first - 1) - (length path - t.least)) ≡ t.least - 1 = omega arith in
        let b : t.least + 0 ≡ suc (t.least - 1) = omega arith in
        rw (right (length path - t.first - 1) (omega arith) (omega arith), left 0 (omega arith), a, b) (link (t.least - 1) (omega arith))

    differ : (i j : ℕ) → i ≢ j → i < length path → j < length path → get_or path i 0 ≢ get_or path j 0
    differ i j ne il jl e = go (cases_order i j)
      where
        go : (i ≡ j) ⊎ ((i < j) ⊎ (j < i)) → ⊥
        go (inl same) = ne same
        go (inr (inl l)) = once.apart i j l jl e
        go (inr (inr l)) = once.apart j i l il (sym e)

    apart : (j k : ℕ) → j < k → k < length path - t.first → get_or (drop t.least path ++ slice_range path t.first t.least) j 0 ≢ get_or (drop t.least path ++ slice_range path t.first t.least) k 0
    apart j k jk h e = go (cases_lt j (length path - t.least)) (cases_lt k (length path - t.least))
      where
        go : (j < length path - t.least) ⊎ (length path - t.least ≤ j) → (k < length path - t.least) ⊎ (length path - t.least ≤ k) → ⊥
        go (inl a) (inl b) = differ (t.least + j) (t.least + k) (λ s. omega arith) (omega arith) (omega arith) (sym (left j a) ∙ (e ∙ left k b))
        go (inl a) (inr b) = differ (t.least + j) (t.first + (k - (length path - t.least))) (λ s. omega arith) (omega arith) (omega arith) (sym (left j a) ∙ (e ∙ right k b h))
        go (inr a) (inl b) = omega arith
        go (inr a) (inr b) = differ (t.first + (j - (length path - t.least))) (t.first + (k - (length path - t.least))) (λ s. omega arith) (omega arith) (omega arith) (sym (right j a (omega arith)) ∙ (e ∙ right k b h))

    stands : (k : ℕ) → k < length path - t.first → Stands path (get_or (drop t.least path ++ slice_range path t.first t.least) k 0)
    stands k h = go (cases_lt k (length path - t.least))
      where
        go : (k < length path - t.least) ⊎ (length path - t.least ≤ k) → Stands path (get_or (drop t.least path ++ slice_range path t.first t.least) k 0)
        go (inl a) = record { at = t.least + k; below = omega arith; is = sym (left k a) }
        go (inr a) = record { at = t.first + (k - (length path - t.least)); below = omega arith; is = sym (right k a h) }

    lowest : (k : ℕ) → k < length path - t.first → get_or (drop t.least path ++ slice_range path t.first t.least) 0 0 ≤ get_or (drop t.least path ++ slice_range path t.first t.least) k 0
    lowest k h =
        let zero_is : t.least + 0 ≡ t.least = omega arith in
        rw (left 0 (omega arith), zero_is) (go (cases_lt k (length path - t.least)))
      where
        go : (k < length path - t.least) ⊎ (length path - t.least ≤ k) → get_or path t.least 0 ≤ get_or (drop t.least path ++ slice_range path t.first t.least) k 0
        go (inl a) = rw (left k a) (t.lowest (t.least + k) (omega arith) (omega arith))
        go (inr a) = rw (right k a h) (t.lowest (t.first + (k - (length path - t.least))) (omega arith) (omega arith))
