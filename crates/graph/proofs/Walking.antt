-- The search from its beginning to its end, and the number that falls with each move.
use Rattle.std.proofs.Common.{◌≡◌, ◌≢◌, ℕ, zero, suc, ◌+◌, ◌-◌, ◌<◌, ◌≤◌, ◌⊎◌, Bool, true, false, List, [], ◌∷◌, ◌++◌, length, get_or, set, replicate, refl, sym, ap, ◌∙◌, subst, inl, inr, arith}
use Rattle.std.specs.List.{sum_by}
use Rattle.std.proofs.lemmas.Bool.{cases_lt, cases_eq}
use Rattle.std.proofs.lemmas.List.{length-replicate, length_push, get_or_push, get_or-replicate, get_or_past}
use Rattle.std.proofs.lemmas.List.Sums.{sum_by-set, sum_by-cons, sum_by-le}
use Rattle.graph.specs.Rows.{row, Stands, IsLast, Follows}
use Rattle.graph.specs.Lists.{Leads}
use Rattle.graph.specs.Search.{is_cut, Kept, IsSearched}
use Rattle.graph.specs.Orders.{Reached, IsOrder, IsCycle, is_root, is_read}
use Rattle.graph.specs.Turned.{IsTurned}
use Rattle.graph.specs.declared.searching.Mark.{Mark}
use Rattle.graph.specs.declared.searching.Mark.TheVariants.{New, Open, Done}
use Rattle.graph.proofs.Places.{mark_at, mark_within, SetMark, set_marks, reader_within}
use Rattle.graph.proofs.Decisions.{decided, no_absurd, long_same, row_same}
use Rattle.graph.proofs.Keeping.{one_if_done, IsSearch, IsSpanned, top_open}
use Rattle.graph.proofs.Moves.{Decides, decides, opened, finished}
use Rattle.graph.proofs.CycleLaws.{IsRound, is_round}

-- no vertex is about to be opened, and what is no longer new is reached
pub record IsWalk (rows : List (List ℕ)) (roots root : ℕ) (marks : List Mark) (cut : List (List Bool)) (path order : List ℕ) : Type 0 where
  pub root_within : root ≤ roots
  pub met : (x : ℕ) → mark_at marks x ≢ New → x < length rows → Reached rows roots x
  pub search : IsSearch rows (length rows) root marks cut path order

-- what is left to do at a vertex
abbrev pub weight : Mark → ℕ
weight New = 2
weight Open = 1
weight Done = 0

-- falls with each move: what is not decided, what is not done, and the roots that are left
pub work : List (List ℕ) → ℕ → ℕ → List Mark → List (List Bool) → ℕ
work rows roots root marks cut = (sum_by length rows - sum_by length cut) + sum_by weight marks + (roots - root)

set_less : (marks : List Mark) (x : ℕ) (m : Mark) → x < length marks → weight (mark_at marks x) ≡ weight m + 1 → sum_by weight (set marks x m) + 1 ≡ sum_by weight marks
set_less marks x m below e = omega (arith, sum_by-set weight marks x m Done below)

more_decided : (cut : List (List Bool)) (x : ℕ) (v : Bool) → x < length cut → sum_by length (decided cut x v) ≡ sum_by length cut + 1
more_decided cut x v within = omega (arith, sum_by-set length cut x (row cut x ++ v ∷ []) [] within, length_push (row cut x) v)

few_decided : (rows : List (List ℕ)) (cut : List (List Bool)) → length cut ≡ length rows → ((y : ℕ) → length (row cut y) ≤ length (row rows y)) → sum_by length cut ≤ sum_by length rows
few_decided [] [] e h = omega arith
few_decided [] (c ∷ cut) e h = absurd (omega arith)
few_decided (r ∷ rows) [] e h = absurd (omega arith)
few_decided (r ∷ rows) (c ∷ cut) e h = let first : length c ≤ length r = h zero in omega (arith, first, sum_by-cons length r rows, sum_by-cons length c cut, few_decided rows cut (omega arith) (λ y. h (suc y)))

module _ (rows : List (List ℕ)) (roots root : ℕ) (marks : List Mark) (cut : List (List Bool)) (path order : List ℕ) (s : IsWalk rows roots root marks cut path order) where
  pub end_open : (x : ℕ) → IsLast path x → mark_at marks x ≡ Open
  end_open x l = top_open rows (length rows) root marks cut path order s.search x l

  pub end_within : (x : ℕ) → IsLast path x → x < length marks
  end_within x l = let o = end_open x l in mark_within marks x (λ e. (cc))

  pub end_vertex : (x : ℕ) → IsLast path x → x < length rows
  end_vertex x l = let f = s.search.fit_marks in omega (arith, end_within x l)

  pub end_decided : (x : ℕ) → IsLast path x → x < length cut
  end_decided x l = let f = s.search.fit_cut in omega (arith, end_vertex x l)

  pub new_within : (x : ℕ) → mark_at marks x ≡ New → x < length marks
  new_within x o = mark_within marks x (λ e. (cc))

  met_set : (y : ℕ) (m : Mark) → y < length marks → Reached rows roots y → (x : ℕ) → mark_at (set marks y m) x ≢ New → x < length rows → Reached rows roots x
  met_set y m below reached x ne l = go (set_marks marks y x m below)
    where
      go : SetMark marks y m x → Reached rows roots x
      go (inl e) = rw e.0 reached
      go (inr e) = s.met x (λ new. ne (e.1 ∙ new)) l

  open_reached : (x : ℕ) → mark_at marks x ≡ Open → Reached rows roots x
  open_reached x o = s.met x (λ new. (cc)) (let f = s.search.fit_marks in omega (arith, mark_within marks x (λ e. (cc))))

  -- a new root
  pub starts : (marks' : List Mark) (cut' : List (List Bool)) (path' order' : List ℕ) → path ≡ [] → root ≢ roots → mark_at marks root ≡ New → marks' ≡ set marks root Open → cut' ≡ cut → path' ≡ path ++ root ∷ [] → order' ≡ order → IsWalk rows roots root marks' cut' path' order'
  starts marks' cut' path' order' none more new m c p o = rw (m, c, p, o) (record {
    root_within = s.root_within;
    met = met_set root Open (new_within root new) (is_root root (let w = s.root_within in omega (arith, more)));
    search = opened rows root marks cut path order root awaiting new (λ k e. absurd (let l : length path ≡ 0 = ap length none in omega arith));
  })
    where
      here : IsSearch rows (length rows) root marks cut path order
      here = s.search

      awaiting : IsSearch rows root root marks cut path order
      awaiting = record {
        fit_marks = here.fit_marks;
        fit_cut = here.fit_cut;
        begun = here.begun;
        new_fresh = here.new_fresh;
        open_on_path = here.open_on_path;
        path_open = here.path_open;
        path_once = here.path_once;
        chain = here.chain;
        short = here.short;
        full = here.full;
        kept_passed = λ a b is_open k. absurd (let st = here.open_on_path b is_open in let l : length path ≡ 0 = ap length none in let w = st.below in omega arith);
        order_done = here.order_done;
        order_vertex = here.order_vertex;
        order_once = here.order_once;
        few_done = here.few_done;
        in_order = here.in_order;
        after = here.after;
        cut_vertex = here.cut_vertex;
        cut_met = here.cut_met;
        needed = here.needed;
        between = here.between;
      }

  pub starts_less : (marks' : List Mark) (cut' : List (List Bool)) → mark_at marks root ≡ New → marks' ≡ set marks root Open → cut' ≡ cut → work rows roots root marks' cut' < work rows roots root marks cut
  unfolding work
  starts_less marks' cut' new m c = rw (m, c) (
      let less : sum_by weight (set marks root Open) + 1 ≡ sum_by weight marks = set_less marks root Open (new_within root new) (ap weight new) in omega arith)

  -- a root that is begun already
  pub skips : path ≡ [] → root ≢ roots → mark_at marks root ≢ New → IsWalk rows roots (root + 1) marks cut path order
  skips none ne old = record {
    root_within = let w = s.root_within in omega (arith, ne);
    met = s.met;
    search = record {
      fit_marks = here.fit_marks;
      fit_cut = here.fit_cut;
      begun = begun;
      new_fresh = here.new_fresh;
      open_on_path = here.open_on_path;
      path_open = here.path_open;
      path_once = here.path_once;
      chain = here.chain;
      short = here.short;
      full = here.full;
      kept_passed = here.kept_passed;
      order_done = here.order_done;
      order_vertex = here.order_vertex;
      order_once = here.order_once;
      few_done = here.few_done;
      in_order = here.in_order;
      after = here.after;
      cut_vertex = here.cut_vertex;
      cut_met = here.cut_met;
      needed = here.needed;
      between = here.between;
    };
  }
    where
      here : IsSearch rows (length rows) root marks cut path order
      here = s.search

      begun : (x : ℕ) → x < root + 1 → mark_at marks x ≢ New
      begun x l e = go (cases_eq x root)
        where
          go : (x ≡ root) ⊎ (x ≡ root → ⊥) → ⊥
          go (inl f) = old (ap (mark_at marks) (sym f) ∙ e)
          go (inr ne) = here.begun x (omega arith) e

  pub skips_less : root ≢ roots → work rows roots (root + 1) marks cut < work rows roots root marks cut
  unfolding work
  skips_less ne = let w = s.root_within in omega (arith, ne)

  decides_less : (next x y : ℕ) (v : Bool) → Decides rows next marks cut path x y v → sum_by length rows - sum_by length (decided cut x v) < sum_by length rows - sum_by length cut
  decides_less next x y v d =
      let t : IsSearch rows next root marks (decided cut x v) path order = decides rows next root marks cut path order x y v s.search d in
      let few : sum_by length (decided cut x v) ≤ sum_by length rows = few_decided rows (decided cut x v) t.fit_cut t.short in
      omega (arith, few, more_decided cut x v (end_decided x d.top))

  -- what the end of the path reads next is done, or on the path
  pub passes : (marks' : List Mark) (cut' : List (List Bool)) (path' order' : List ℕ) (x y : ℕ) (v : Bool) → Decides rows (length rows) marks cut path x y v → marks' ≡ marks → cut' ≡ decided cut x v → path' ≡ path → order' ≡ order → IsWalk rows roots root marks' cut' path' order'
  passes marks' cut' path' order' x y v d m c p o = rw (m, c, p, o) (record {
    root_within = s.root_within;
    met = s.met;
    search = decides rows (length rows) root marks cut path order x y v s.search d;
  })

  pub passes_less : (marks' : List Mark) (cut' : List (List Bool)) (x y : ℕ) (v : Bool) → Decides rows (length rows) marks cut path x y v → marks' ≡ marks → cut' ≡ decided cut x v → work rows roots root marks' cut' < work rows roots root marks cut
  unfolding work
  passes_less marks' cut' x y v d m c = rw (m, c) (omega (arith, decides_less (length rows) x y v d))

  -- what the end of the path reads next is new
  pub opens : (marks' : List Mark) (cut' : List (List Bool)) (path' order' : List ℕ) (x y : ℕ) → IsLast path x → length (row cut x) < length (row rows x) → get_or (row rows x) (length (row cut x)) 0 ≡ y → mark_at marks y ≡ New → marks' ≡ set marks y Open → cut' ≡ decided cut x false → path' ≡ path ++ y ∷ [] → order' ≡ order → IsWalk rows roots root marks' cut' path' order'
  opens marks' cut' path' order' x y l more reads new m c p o = rw (m, c, p, o) (record {
    root_within = s.root_within;
    met = met_set y Open (new_within y new) (is_read y x (open_reached x (end_open x l)) (record { place = length (row cut x); within = more; is = reads; vertex = vertex }));
    search = opened rows root marks (decided cut x false) path order y (decides rows y root marks cut path order x y false s.search (next_of x y l more reads)) new read;
  })
    where
      vertex : y < length rows
      vertex = let f = s.search.fit_marks in omega (arith, new_within y new)

      in_cut : x < length cut
      in_cut = end_decided x l

      kept : Kept rows (decided cut x false) y x
      kept = record {
        place = length (row cut x);
        within = omega (arith, long_same rows cut x false in_cut);
        uncut = ap (λ bits. get_or bits (length (row cut x)) false) (row_same rows cut x false in_cut) ∙ get_or_push (row cut x) false false (length (row cut x)) refl;
        is = reads;
        vertex = vertex;
      }

      read : (k : ℕ) → suc k ≡ length path → Kept rows (decided cut x false) y (get_or path k 0)
      read k e = let place : length path - 1 ≡ k = omega arith in subst (Kept rows (decided cut x false) y) (sym l.is ∙ ap (λ j. get_or path j 0) place) kept

      next_of : (x y : ℕ) → IsLast path x → length (row cut x) < length (row rows x) → get_or (row rows x) (length (row cut x)) 0 ≡ y → Decides rows y marks cut path x y false
      next_of x y l more reads = record { top = l; more = more; reads = reads; kept = λ _. inr refl; cut_open = λ e. absurd (no_absurd (sym e)) }

  pub opens_less : (marks' : List Mark) (cut' : List (List Bool)) (x y : ℕ) → IsLast path x → length (row cut x) < length (row rows x) → get_or (row rows x) (length (row cut x)) 0 ≡ y → mark_at marks y ≡ New → marks' ≡ set marks y Open → cut' ≡ decided cut x false → work rows roots root marks' cut' < work rows roots root marks cut
  unfolding work
  opens_less marks' cut' x y l more reads new m c = rw (m, c) (
      let less : sum_by weight (set marks y Open) + 1 ≡ sum_by weight marks = set_less marks y Open (new_within y new) (ap weight new) in
      omega (arith, less, decides_less y x y false (record { top = l; more = more; reads = reads; kept = λ _. inr refl; cut_open = λ e. absurd (no_absurd (sym e)) })))

  -- nothing is left
  pub ends : path ≡ [] → root ≡ roots → roots ≡ length rows → IsSearched rows order cut
  ends none at_end whole = record {
    vertices = here.fit_cut;
    reads = λ y. here.full y (is_done y);
    within = here.order_vertex;
    complete = λ x l. here.in_order x l (is_done x);
    once = here.order_once;
    few = few here.few_done;
    after = here.after;
    inside = here.cut_vertex;
    needed = here.needed;
    between = λ k i m q km mq ql t e. between k i m q km mq ql t e (here.between k i m km (omega arith) t);
  }
    where
      here : IsSearch rows (length rows) root marks cut path order
      here = s.search

      at_most : (m : Mark) → one_if_done m ≤ 1
      at_most New = omega arith
      at_most Open = omega arith
      at_most Done = omega arith

      few : length order ≤ sum_by one_if_done marks → length order ≤ length rows
      few l = let f = here.fit_marks in omega (arith, l, sum_by-le one_if_done 1 marks (λ i d h. at_most (get_or marks i d)))

      is_done : (x : ℕ) → mark_at marks x ≡ Done
      is_done x = go (cases_lt x (length rows))
        where
          by_mark : (m : Mark) → mark_at marks x ≡ m → x < length rows → mark_at marks x ≡ Done
          by_mark New e l = absurd (here.begun x (omega arith) e)
          by_mark Open e l = absurd (let p = here.open_on_path x e in let b = p.below in let n : length path ≡ 0 = ap length none in omega arith)
          by_mark Done e l = e

          go : (x < length rows) ⊎ (length rows ≤ x) → mark_at marks x ≡ Done
          go (inl l) = by_mark (mark_at marks x) refl l
          go (inr l) = let f = here.fit_marks in get_or_past marks x Done (omega arith)

      between : (k i m q : ℕ) → k ≤ m → m ≤ q → q < length order → is_cut cut (get_or order k 0) i ≡ true → get_or order q 0 ≡ get_or (row rows (get_or order k 0)) i 0 → IsSpanned rows cut order m (get_or (row rows (get_or order k 0)) i 0) → Leads (Kept rows cut) (get_or order m 0) (get_or order q 0)
      between k i m q km mq ql t e (inl l) = subst (Leads (Kept rows cut) (get_or order m 0)) (sym e) l
      between k i m q km mq ql t e (inr (p, l, is)) = absurd (here.order_once.apart p q (omega arith) ql (is ∙ sym e))

  -- nothing is left, and nothing is cut
  pub ends_uncut : path ≡ [] → root ≡ roots → roots ≤ length rows → ((y i : ℕ) → is_cut cut y i ≡ true → ⊥) → IsOrder rows roots order
  ends_uncut none at_end within uncut = record {
    within = here.order_vertex;
    reached = λ k h. s.met (get_or order k 0) (λ new. let d = here.order_done k h in (cc)) (here.order_vertex k h);
    complete = λ x r. here.in_order x (vertex x r) (done x r);
    once = here.order_once;
    after = λ k x h f. here.after k x h (kept x (get_or order k 0) f (here.order_done k h));
  }
    where
      here : IsSearch rows (length rows) root marks cut path order
      here = s.search

      vertex : (x : ℕ) → Reached rows roots x → x < length rows
      vertex _ (is_root x l) = omega arith
      vertex _ (is_read x y r f) = f.vertex

      is_uncut : (y i : ℕ) (b : Bool) → is_cut cut y i ≡ b → is_cut cut y i ≡ false
      is_uncut y i true e = absurd (uncut y i e)
      is_uncut y i false e = e

      kept : (x y : ℕ) → Follows rows x y → mark_at marks y ≡ Done → Kept rows cut x y
      kept x y f d = record {
        place = f.place;
        within = omega (arith, here.full y d, f.within);
        uncut = is_uncut y f.place (is_cut cut y f.place) refl;
        is = f.is;
        vertex = f.vertex;
      }

      done : (x : ℕ) → Reached rows roots x → mark_at marks x ≡ Done
      done _ (is_root x l) = by_mark (mark_at marks x) refl
        where
          by_mark : (m : Mark) → mark_at marks x ≡ m → mark_at marks x ≡ Done
          by_mark New e = absurd (here.begun x (omega arith) e)
          by_mark Open e = absurd (let p = here.open_on_path x e in let b = p.below in let n : length path ≡ 0 = ap length none in omega arith)
          by_mark Done e = e
      done _ (is_read x y r f) = go (done y r)
        where
          go : mark_at marks y ≡ Done → mark_at marks x ≡ Done
          go d = at (here.in_order y (reader_within rows x y f) d)
            where
              at : Stands order y → mark_at marks x ≡ Done
              at st = earlier (here.after st.at x st.below (subst (Kept rows cut x) (sym st.is) (kept x y f d)))
                where
                  earlier : (j : ℕ) × (j < st.at) × (get_or order j 0 ≡ x) → mark_at marks x ≡ Done
                  earlier (j, l, e) = subst (λ z. mark_at marks z ≡ Done) e (here.order_done j (let b = st.below in omega (arith, l)))

  -- the end of the path reads a vertex on it: a cycle
  pub closes : (turned : List ℕ) (x y : ℕ) → IsLast path x → length (row cut x) < length (row rows x) → get_or (row rows x) (length (row cut x)) 0 ≡ y → mark_at marks y ≡ Open → IsTurned path y turned → IsCycle rows roots turned
  closes turned x y l more reads is_open t = record {
    some = round.some;
    reached = λ k h. reached (get_or turned k 0) (round.stands k h);
    next = round.next;
    closed = round.closed;
    once = round.once;
    least = round.least;
  }
    where
      vertex : y < length rows
      vertex = let f = s.search.fit_marks in omega (arith, mark_within marks y (λ e. (cc)))

      link : (a b : ℕ) → Kept rows cut a b → Follows rows a b
      link a b k = record { place = k.place; within = let sh = s.search.short b in let w = k.within in omega arith; is = k.is; vertex = k.vertex }

      round : IsRound (λ b a. Follows rows a b) path turned
      round = is_round (λ b a. Follows rows a b) path turned y (λ k h. link (get_or path (suc k) 0) (get_or path k 0) (s.search.chain k h)) (subst (Follows rows y) (sym l.is) (record { place = length (row cut x); within = more; is = reads; vertex = vertex })) s.search.path_once t

      reached : (z : ℕ) → Stands path z → Reached rows roots z
      reached z st = subst (Reached rows roots) st.is (open_reached (get_or path st.at 0) (s.search.path_open st.at st.below))

-- the end of the path is done
pub finishes : (rows : List (List ℕ)) (roots root : ℕ) (marks : List Mark) (cut : List (List Bool)) (path order : List ℕ) → IsWalk rows roots root marks cut path order → (marks' : List Mark) (cut' : List (List Bool)) (path' order' : List ℕ) (x : ℕ) → length (row rows x) ≤ length (row cut x) → marks' ≡ set marks x Done → cut' ≡ cut → path ≡ path' ++ x ∷ [] → order' ≡ order ++ x ∷ [] → IsWalk rows roots root marks' cut' path' order'
finishes rows roots root marks cut path order s marks' cut' path' order' x all m c p o = rw (m, c, o) (record {
  root_within = s.root_within;
  met = met_set rows roots root marks cut path order s x Done (end_within rows roots root marks cut path order s x last) (open_reached rows roots root marks cut path order s x (end_open rows roots root marks cut path order s x last));
  search = finished rows root marks cut path' order x (subst (λ p. IsSearch rows (length rows) root marks cut p order) p s.search) all;
})
  where
    last : IsLast path x
    last = rw p (record { some = omega (arith, length_push path' x); is = get_or_push path' x 0 (length (path' ++ x ∷ []) - 1) (omega (arith, length_push path' x)) })

pub finishes_less : (rows : List (List ℕ)) (roots root : ℕ) (marks : List Mark) (cut : List (List Bool)) (marks' : List Mark) (cut' : List (List Bool)) (x : ℕ) → mark_at marks x ≡ Open → marks' ≡ set marks x Done → cut' ≡ cut → work rows roots root marks' cut' < work rows roots root marks cut
unfolding work
finishes_less rows roots root marks cut marks' cut' x is_open m c = rw (m, c) (
    let less : sum_by weight (set marks x Done) + 1 ≡ sum_by weight marks = set_less marks x Done (mark_within marks x (λ e. (cc is_open))) (ap weight is_open) in omega arith)

-- nothing is decided
no_row : (count y : ℕ) → length (row {A = Bool} (replicate count []) y) ≡ 0
no_row count y = go (cases_lt y count)
  where
    go : (y < count) ⊎ (count ≤ y) → length (row {A = Bool} (replicate count []) y) ≡ 0
    go (inl l) = ap length (get_or-replicate count y [] [] l)
    go (inr l) = ap length (get_or_past (replicate count []) y [] (omega (arith, length-replicate {A = List Bool} count [])))

pub none_cut : (count y i : ℕ) → is_cut (replicate count []) y i ≡ true → ⊥
none_cut count y i t = no_absurd (sym t ∙ get_or_past (row {A = Bool} (replicate count []) y) i false (omega (arith, no_row count y)))

-- the search before its first move
pub begins : (rows : List (List ℕ)) (roots count : ℕ) (marks : List Mark) (cut : List (List Bool)) (path order : List ℕ) → count ≡ length rows → marks ≡ replicate count New → cut ≡ replicate count [] → path ≡ [] → order ≡ [] → IsWalk rows roots 0 marks cut path order
begins rows roots count marks cut path order n m c p o = rw (m, c, p, o) (record { root_within = omega arith; met = λ x ne l. absurd (ne (get_or-replicate count x New Done (omega arith))); search = nothing })
  where
    none_kept : (x y : ℕ) → Kept rows (replicate count []) x y → ⊥
    none_kept x y k = let w = k.within in omega (arith, w, no_row count y)

    fresh : (x : ℕ) → ((x < count) × (mark_at (replicate count New) x ≡ New)) ⊎ ((count ≤ x) × (mark_at (replicate count New) x ≡ Done))
    fresh x = go (cases_lt x count)
      where
        go : (x < count) ⊎ (count ≤ x) → ((x < count) × (mark_at (replicate count New) x ≡ New)) ⊎ ((count ≤ x) × (mark_at (replicate count New) x ≡ Done))
        go (inl l) = inl (l, get_or-replicate count x New Done l)
        go (inr l) = inr (l, get_or_past (replicate count New) x Done (omega (arith, length-replicate count New)))

    never_open : (x : ℕ) → mark_at (replicate count New) x ≢ Open
    never_open x e = go (fresh x)
      where
        go : ((x < count) × (mark_at (replicate count New) x ≡ New)) ⊎ ((count ≤ x) × (mark_at (replicate count New) x ≡ Done)) → ⊥
        go (inl f) = let m = f.1 in cc
        go (inr f) = let m = f.1 in cc

    full : (y : ℕ) → mark_at (replicate count New) y ≡ Done → ((y < count) × (mark_at (replicate count New) y ≡ New)) ⊎ ((count ≤ y) × (mark_at (replicate count New) y ≡ Done)) → length (row {A = Bool} (replicate count []) y) ≡ length (row rows y)
    full y e (inl f) = absurd (let m = f.1 in cc)
    full y e (inr f) = no_row count y ∙ sym (ap length (get_or_past rows y [] (omega (arith, n, f.0))))

    in_order : (x : ℕ) → x < length rows → mark_at (replicate count New) x ≡ Done → ((x < count) × (mark_at (replicate count New) x ≡ New)) ⊎ ((count ≤ x) × (mark_at (replicate count New) x ≡ Done)) → Stands [] x
    in_order x l e (inl f) = absurd (let m = f.1 in cc)
    in_order x l e (inr f) = absurd (omega (arith, n, f.0))

    nothing : IsSearch rows (length rows) 0 (replicate count New) (replicate count []) [] []
    nothing = record {
      fit_marks = length-replicate count New ∙ n;
      fit_cut = length-replicate {A = List Bool} count [] ∙ n;
      begun = λ x l. absurd (omega arith);
      new_fresh = λ x _. no_row count x;
      open_on_path = λ x e. absurd (never_open x e);
      path_open = λ k h. absurd (omega arith);
      path_once = record { apart = λ j k _ h. absurd (omega arith) };
      chain = λ k h. absurd (omega arith);
      short = λ y. omega (arith, no_row count y);
      full = λ y e. full y e (fresh y);
      kept_passed = λ x y e k. absurd (never_open y e);
      order_done = λ k h. absurd (omega arith);
      order_vertex = λ k h. absurd (omega arith);
      order_once = record { apart = λ j k _ h. absurd (omega arith) };
      few_done = omega arith;
      in_order = λ x l e. in_order x l e (fresh x);
      after = λ k x h t. absurd (omega arith);
      cut_vertex = λ y i t. absurd (none_cut count y i t);
      cut_met = λ y i t. absurd (none_cut count y i t);
      needed = λ y i t. absurd (none_cut count y i t);
      between = λ k i m km h t. absurd (omega arith);
    }
