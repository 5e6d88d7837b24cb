-- The groups of the vertices that lead to each other, found from the end of the search's order.
use Rattle.std.proofs.Common.{◌≡◌, ◌≢◌, ℕ, ◌+◌, ◌<◌, ◌≤◌, ◌⊎◌, Bool, true, false, List, length, get_or, replicate, refl, sym, ◌∙◌, ap, subst, inl, inr, arith, map, ◌-◌}
use Rattle.std.proofs.lemmas.Bool.{cases_eq, cases_lt}
use Rattle.std.proofs.lemmas.List.{get_or_past, get_or-replicate, get_or_default, length-replicate, get_or-map, length-map}
use Rattle.graph.specs.Rows.{row, Stands, Follows}
use Rattle.graph.specs.Lists.{Leads, alone, longer}
use Rattle.feedback_cut.specs.Cut.{is_cut}
use Rattle.graph.specs.Search.{Kept, IsSearched}
use Rattle.graph.specs.Readers.{AreReaders}
use Rattle.feedback_cut.specs.Private.Gathering.{number_at, Reached, the_root, reader, IsGathered}
use Rattle.feedback_cut.specs.Private.Numbering.{IsNumbered}
use Rattle.graph.proofs.Places.{leads_map, leads_join, reader_within}
use Rattle.graph.proofs.Orders.{same_place}

-- the vertices behind place k of the order have numbers, and the first `groups` numbers are right
pub record IsGrouped (rows : List (List ℕ)) (order : List ℕ) (none : ℕ) (numbers : List ℕ) (groups k : ℕ) : Type 0 where
  pub long : length numbers ≡ length rows
  pub few : groups + k ≤ length order
  pub late : (j : ℕ) → k ≤ j → j < length order → number_at none numbers (get_or order j 0) ≢ none
  pub small : (x : ℕ) → number_at none numbers x ≢ none → number_at none numbers x < groups
  pub closed : (x y : ℕ) → Follows rows x y → number_at none numbers x ≢ none → (number_at none numbers y ≢ none) × (number_at none numbers y ≤ number_at none numbers x)
  pub joined : (x y : ℕ) → number_at none numbers x ≢ none → number_at none numbers y ≢ none → number_at none numbers x ≡ number_at none numbers y → Leads (Follows rows) x y
  pub used : (g : ℕ) → g < groups → (x : ℕ) × (x < length rows) × (number_at none numbers x ≡ g)

pub none_grouped : (rows : List (List ℕ)) (order : List ℕ) (none : ℕ) (numbers : List ℕ) (k : ℕ) → none ≡ length rows → numbers ≡ replicate none none → k ≡ length order → IsGrouped rows order none numbers 0 k
none_grouped rows order none numbers k n e l = rw e (record {
  long = length-replicate {A = ℕ} none none ∙ n;
  few = omega (arith, l);
  late = λ j h m. absurd (omega (arith, l));
  small = λ x h. absurd (h (all x));
  closed = λ x y f h. absurd (h (all x));
  joined = λ x y h _ _. absurd (h (all x));
  used = λ g h. absurd (omega arith);
})
  where
    all : (x : ℕ) → number_at none (replicate none none) x ≡ none
    all x = go (cases_lt x none)
      where
        go : (x < none) ⊎ (none ≤ x) → number_at none (replicate none none) x ≡ none
        go (inl h) = get_or-replicate none x none none h
        go (inr h) = get_or_past (replicate none none) x none (omega (arith, length-replicate {A = ℕ} none none))

-- a root that has a number
pub skip_root : (rows : List (List ℕ)) (order : List ℕ) (none : ℕ) (numbers : List ℕ) (groups k k' : ℕ) → IsGrouped rows order none numbers groups k → k ≡ k' + 1 → number_at none numbers (get_or order k' 0) ≢ none → IsGrouped rows order none numbers groups k'
skip_root rows order none numbers groups k k' g e has = record {
  long = g.long;
  few = let f = g.few in omega (arith, e);
  late = λ j h l. late j h l (cases_eq j k');
  small = g.small;
  closed = g.closed;
  joined = g.joined;
  used = g.used;
}
  where
    late : (j : ℕ) → k' ≤ j → j < length order → (j ≡ k') ⊎ (j ≡ k' → ⊥) → number_at none numbers (get_or order j 0) ≢ none
    late j h l (inl f) = subst (λ i. number_at none numbers (get_or order i 0) ≢ none) (sym f) has
    late j h l (inr ne) = g.late j (omega (arith, e, ne)) l

module _ (rows : List (List ℕ)) (order : List ℕ) (cut : List (List Bool)) (readers : List (List ℕ)) (none : ℕ) (numbers : List ℕ) (s : IsSearched rows order cut) (r : AreReaders rows readers) where
  follows_of_kept : (x y : ℕ) → Kept rows cut x y → Follows rows x y
  follows_of_kept x y k = record { place = k.place; within = omega (arith, s.reads y, k.within); is = k.is; vertex = k.vertex }

  read_by : (x y : ℕ) → Stands (row readers x) y → Follows rows x y
  read_by x y st = subst (Follows rows x) st.is (r.only x st.at st.below)

  -- a root leads to what is reached
  up : (root x : ℕ) → Reached readers none numbers root x → Leads (Follows rows) root x
  up root _ (the_root) = alone root
  up root _ (reader x y reached st fresh) = longer root x y (up root x reached) (read_by x y st)

  -- what stands from a reached vertex on to the root leads to the root
  spans : (root k : ℕ) → k < length order → get_or order k 0 ≡ root → ((j : ℕ) → k < j → j < length order → number_at none numbers (get_or order j 0) ≢ none) → (x : ℕ) → Reached readers none numbers root x → (j : ℕ) → j < length order → get_or order j 0 ≡ x → (j ≤ k) × ((m : ℕ) → j ≤ m → m ≤ k → Leads (Follows rows) (get_or order m 0) root)
  spans root k kl at late _ (the_root) j jl is = (omega (arith, same), λ m h l. subst (λ z. Leads (Follows rows) z root) (sym (there m h l)) (alone root))
    where
      same : j ≡ k
      same = same_place order j k s.once jl kl (is ∙ sym at)

      there : (m : ℕ) → j ≤ m → m ≤ k → get_or order m 0 ≡ root
      there m h l = let e : m ≡ k = omega (arith, same) in ap (λ i. get_or order i 0) e ∙ at
  spans root k kl at late _ (reader x y reached st fresh) j jl is = go (s.complete x (read_by x y st).vertex) (λ i il e. spans root k kl at late x reached i il e)
    where
      early : j ≤ k
      early = which (cases_lt k j)
        where
          which : (k < j) ⊎ (j ≤ k) → j ≤ k
          which (inr l) = l
          which (inl l) = absurd (late j l jl (ap (number_at none numbers) is ∙ fresh))

      go : Stands order x → ((i : ℕ) → i < length order → get_or order i 0 ≡ x → (i ≤ k) × ((m : ℕ) → i ≤ m → m ≤ k → Leads (Follows rows) (get_or order m 0) root)) → (j ≤ k) × ((m : ℕ) → j ≤ m → m ≤ k → Leads (Follows rows) (get_or order m 0) root)
      go sx below = (early, λ m h l. lead m h l (cases_lt m sx.at))
        where
          behind : (sx.at ≤ k) × ((m : ℕ) → sx.at ≤ m → m ≤ k → Leads (Follows rows) (get_or order m 0) root)
          behind = below sx.at sx.below sx.is

          read : Follows rows x y
          read = read_by x y st

          lead : (m : ℕ) → j ≤ m → m ≤ k → (m < sx.at) ⊎ (sx.at ≤ m) → Leads (Follows rows) (get_or order m 0) root
          lead m h l (inr o) = behind.1 m o l
          lead m h l (inl o) = by_cut (is_cut cut y read.place) refl
            where
              by_cut : (b : Bool) → is_cut cut y read.place ≡ b → Leads (Follows rows) (get_or order m 0) root
              by_cut true e =
                  let at_y : is_cut cut (get_or order j 0) read.place ≡ true = subst (λ z. is_cut cut z read.place ≡ true) (sym is) e in
                  let at_x : get_or order sx.at 0 ≡ get_or (row rows (get_or order j 0)) read.place 0 = sx.is ∙ (sym read.is ∙ ap (λ z. get_or (row rows z) read.place 0) (sym is)) in
                  leads_join (Follows rows) (get_or order m 0) (get_or order sx.at 0) root (leads_map (Kept rows cut) (Follows rows) follows_of_kept (get_or order m 0) (get_or order sx.at 0) (s.between j read.place m sx.at h (omega arith) sx.below at_y at_x)) (behind.1 sx.at (omega arith) behind.0)
              by_cut false e = absurd (earlier (s.after j x jl (record { place = read.place; within = subst (λ z. read.place < length (row cut z)) (sym is) (omega (arith, s.reads y, read.within)); uncut = subst (λ z. is_cut cut z read.place ≡ false) (sym is) e; is = subst (λ z. get_or (row rows z) read.place 0 ≡ x) (sym is) read.is; vertex = read.vertex })))
                where
                  earlier : (i : ℕ) × (i < j) × (get_or order i 0 ≡ x) → ⊥
                  earlier (i, il, f) = let e : i ≡ sx.at = same_place order i sx.at s.once (omega (arith, il, jl)) sx.below (f ∙ sym sx.is) in omega (arith, e, il, h, o)

  -- one more root
  pub take_root : (new : List ℕ) (groups k k' root : ℕ) → none ≡ length rows → IsGrouped rows order none numbers groups k → k ≡ k' + 1 → get_or order k' 0 ≡ root → number_at none numbers root ≡ none → IsGathered readers none groups root numbers new → IsGrouped rows order none new (groups + 1) k'
  take_root new groups k k' root n g e at fresh t = record {
    long = t.long ∙ g.long;
    few = let f = g.few in omega (arith, e);
    late = λ j h l. late j h l (cases_eq j k');
    small = small;
    closed = λ x y f h. closed x y f h (status x h);
    joined = λ x y h i same. joined x y same (status x h) (status y i);
    used = λ m h. used m (cases_lt m groups) h;
  }
    where
      within : k' < length order
      within = let f = g.few in omega (arith, e)

      vertex : root < length rows
      vertex = subst (λ z. z < length rows) at (s.within k' within)

      status : (x : ℕ) → number_at none new x ≢ none → ((number_at none numbers x ≢ none) × (number_at none new x ≡ number_at none numbers x)) ⊎ ((number_at none numbers x ≡ none) × (number_at none new x ≡ groups) × Reached readers none numbers root x)
      status x h = go (cases_eq (number_at none numbers x) none)
        where
          go : (number_at none numbers x ≡ none) ⊎ (number_at none numbers x ≡ none → ⊥) → ((number_at none numbers x ≢ none) × (number_at none new x ≡ number_at none numbers x)) ⊎ ((number_at none numbers x ≡ none) × (number_at none new x ≡ groups) × Reached readers none numbers root x)
          go (inl f) = let a = t.gained x f h in inr (f, a.0, a.1)
          go (inr ne) = inl (ne, t.kept x ne)

      keeps : (x : ℕ) → number_at none numbers x ≢ none → number_at none new x ≢ none
      keeps x h f = h (sym (t.kept x h) ∙ f)

      late : (j : ℕ) → k' ≤ j → j < length order → (j ≡ k') ⊎ (j ≡ k' → ⊥) → number_at none new (get_or order j 0) ≢ none
      late j h l (inl f) = subst (λ z. number_at none new z ≢ none) (sym (ap (λ i. get_or order i 0) f ∙ at)) t.rooted
      late j h l (inr ne) = keeps (get_or order j 0) (g.late j (omega (arith, e, ne)) l)

      small : (x : ℕ) → number_at none new x ≢ none → number_at none new x < groups + 1
      small x h = go (status x h)
        where
          go : ((number_at none numbers x ≢ none) × (number_at none new x ≡ number_at none numbers x)) ⊎ ((number_at none numbers x ≡ none) × (number_at none new x ≡ groups) × Reached readers none numbers root x) → number_at none new x < groups + 1
          go (inl f) = omega (arith, f.1, g.small x f.0)
          go (inr f) = omega (arith, f.1)

      closed : (x y : ℕ) → Follows rows x y → number_at none new x ≢ none → ((number_at none numbers x ≢ none) × (number_at none new x ≡ number_at none numbers x)) ⊎ ((number_at none numbers x ≡ none) × (number_at none new x ≡ groups) × Reached readers none numbers root x) → (number_at none new y ≢ none) × (number_at none new y ≤ number_at none new x)
      closed x y f h (inl o) = let c = g.closed x y f o.0 in (keeps y c.0, omega (arith, o.1, t.kept y c.0, c.1))
      closed x y f h (inr o) = let c = t.closed x y o.0 h (r.listed x y f) in (c, omega (arith, o.1, small y c))

      behind : (j : ℕ) → k' < j → j < length order → number_at none numbers (get_or order j 0) ≢ none
      behind j h l = g.late j (omega (arith, e)) l

      down : (x : ℕ) → Reached readers none numbers root x → Leads (Follows rows) x root
      down x reached = go (s.complete x (reached_vertex x reached))
        where
          reached_vertex : (z : ℕ) → Reached readers none numbers root z → z < length rows
          reached_vertex _ (the_root) = vertex
          reached_vertex _ (reader y z before st f) = reader_within rows y z (read_by y z st)

          go : Stands order x → Leads (Follows rows) x root
          go st = let a = spans root k' within at behind x reached st.at st.below st.is in subst (λ z. Leads (Follows rows) z root) st.is (a.1 st.at (omega arith) a.0)

      joined : (x y : ℕ) → number_at none new x ≡ number_at none new y → ((number_at none numbers x ≢ none) × (number_at none new x ≡ number_at none numbers x)) ⊎ ((number_at none numbers x ≡ none) × (number_at none new x ≡ groups) × Reached readers none numbers root x) → ((number_at none numbers y ≢ none) × (number_at none new y ≡ number_at none numbers y)) ⊎ ((number_at none numbers y ≡ none) × (number_at none new y ≡ groups) × Reached readers none numbers root y) → Leads (Follows rows) x y
      joined x y same (inl a) (inl b) = g.joined x y a.0 b.0 (sym a.1 ∙ (same ∙ b.1))
      joined x y same (inl a) (inr b) = absurd (omega (arith, a.1, g.small x a.0, b.1, same))
      joined x y same (inr a) (inl b) = absurd (omega (arith, b.1, g.small y b.0, a.1, same))
      joined x y same (inr a) (inr b) = leads_join (Follows rows) x root y (down x a.2) (up root y b.2)

      used : (m : ℕ) → (m < groups) ⊎ (groups ≤ m) → m < groups + 1 → (x : ℕ) × (x < length rows) × (number_at none new x ≡ m)
      used m (inl l) h = go (g.used m l)
        where
          go : (x : ℕ) × (x < length rows) × (number_at none numbers x ≡ m) → (x : ℕ) × (x < length rows) × (number_at none new x ≡ m)
          go (x, xl, f) = (x, xl, t.kept x (λ z. let few = g.few in let o = s.few in omega (arith, n, e, f, z, l)) ∙ f)
      used m (inr l) h = let a = t.gained root fresh t.rooted in (root, vertex, omega (arith, a.0))

-- each vertex has a number; numbers fall from what is read to its readers
pub record IsFalling (rows : List (List ℕ)) (numbers : List ℕ) (groups : ℕ) : Type 0 where
  pub long : length numbers ≡ length rows
  pub few : groups ≤ length rows
  pub below : (x : ℕ) → x < length rows → get_or numbers x 0 < groups
  pub used : (k : ℕ) → k < groups → (x : ℕ) × (x < length rows) × (get_or numbers x 0 ≡ k)
  pub joined : (x y : ℕ) → x < length rows → y < length rows → get_or numbers x 0 ≡ get_or numbers y 0 → Leads (Follows rows) x y
  pub falling : (x y : ℕ) → x < length rows → y < length rows → Follows rows x y → get_or numbers y 0 ≤ get_or numbers x 0

-- the numbers counted from the other end
pub turned_numbered : (rows : List (List ℕ)) (numbers new : List ℕ) (groups : ℕ) → IsFalling rows numbers groups → new ≡ map (λ k. groups - 1 - k) numbers → IsNumbered rows new groups
turned_numbered rows numbers new groups f e = rw e (record {
  long = length-map numbers (λ k. groups - 1 - k) ∙ f.long;
  few = f.few;
  below = λ x l. omega (arith, at x l, f.below x l);
  used = λ k h. used k h (f.used (groups - 1 - k) (omega arith));
  joined = λ x y l m s. f.joined x y l m (omega (arith, at x l, at y m, f.below x l, f.below y m, s));
  rising = λ x y l m r. omega (arith, at x l, at y m, f.falling x y l m r);
})
  where
    at : (x : ℕ) → x < length rows → get_or (map (λ k. groups - 1 - k) numbers) x 0 ≡ groups - 1 - get_or numbers x 0
    at x l = get_or-map (λ k. groups - 1 - k) numbers x 0 0 (omega (arith, f.long, l))

    used : (k : ℕ) → k < groups → (x : ℕ) × (x < length rows) × (get_or numbers x 0 ≡ groups - 1 - k) → (x : ℕ) × (x < length rows) × (get_or (map (λ k. groups - 1 - k) numbers) x 0 ≡ k)
    used k h (x, l, s) = (x, l, omega (arith, at x l, s, h))

-- all vertices have numbers
pub all_grouped : (rows : List (List ℕ)) (order : List ℕ) (cut : List (List Bool)) (none : ℕ) (numbers : List ℕ) (groups k : ℕ) → IsSearched rows order cut → IsGrouped rows order none numbers groups k → k ≤ 0 → IsFalling rows numbers groups
all_grouped rows order cut none numbers groups k s g z = record {
  long = g.long;
  few = let f = g.few in let o = s.few in omega arith;
  below = λ x l. omega (arith, same x l, g.small x (has x l));
  used = λ m h. used m (g.used m h);
  joined = λ x y l m e. g.joined x y (has x l) (has y m) (sym (same x l) ∙ (e ∙ same y m));
  falling = λ x y l m f. omega (arith, same x l, same y m, (g.closed x y f (has x l)).1);
}
  where
    has : (x : ℕ) → x < length rows → number_at none numbers x ≢ none
    has x l = go (s.complete x l)
      where
        go : Stands order x → number_at none numbers x ≢ none
        go st = subst (λ v. number_at none numbers v ≢ none) st.is (g.late st.at (omega (arith, z)) st.below)

    same : (x : ℕ) → x < length rows → get_or numbers x 0 ≡ number_at none numbers x
    same x l = get_or_default numbers x 0 none (omega (arith, g.long, l))

    used : (m : ℕ) → (x : ℕ) × (x < length rows) × (number_at none numbers x ≡ m) → (x : ℕ) × (x < length rows) × (get_or numbers x 0 ≡ m)
    used m (x, l, e) = (x, l, same x l ∙ e)
