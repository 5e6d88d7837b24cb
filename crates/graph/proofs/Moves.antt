-- The moves of the search: a read is decided, a new vertex is opened, a vertex all of whose reads are decided is done.
use Rattle.std.proofs.Common.{◌≡◌, ◌≢◌, ℕ, suc, ◌+◌, ◌-◌, ◌<◌, ◌≤◌, ◌⊎◌, Bool, true, false, List, [], ◌∷◌, ◌++◌, length, get_or, set, refl, sym, ◌∙◌, ap, subst, inl, inr, arith}
use Rattle.std.proofs.lemmas.List.{get_or-set_same, get_or_append_left, get_or_push, length-set, length_push}
use Rattle.std.proofs.lemmas.Bool.{cases_eq}
use Rattle.std.proofs.lemmas.List.Sums.{sum_by-set}
use Rattle.graph.specs.Rows.{row, Stands, IsLast}
use Rattle.graph.specs.Lists.{Leads}
use Rattle.graph.specs.Search.{is_cut, Kept}
use Rattle.graph.specs.declared.searching.Mark.{Mark}
use Rattle.graph.specs.declared.searching.Mark.TheVariants.{New, Open, Done}
use Rattle.graph.proofs.Places.{mark_at, mark_within, SetMark, set_marks, stands_push, stands_last, PushedAt, push_cases, once_push, leads_map}
use Rattle.graph.proofs.Decisions.{decided, row_other, long_same, kept_stays, kept_cases, cut_cases}
use Rattle.graph.proofs.Keeping.{one_if_done, IsPassed, IsSpanned, IsSearch, top_leads, top_open}

-- what is read next, and what is decided of it: an open vertex is cut, and what is kept is done or opened next
pub record Decides (rows : List (List ℕ)) (next : ℕ) (marks : List Mark) (cut : List (List Bool)) (path : List ℕ) (x y : ℕ) (v : Bool) : Type 0 where
  pub top : IsLast path x
  pub more : length (row cut x) < length (row rows x)
  pub reads : get_or (row rows x) (length (row cut x)) 0 ≡ y
  pub kept : v ≡ false → (mark_at marks y ≡ Done) ⊎ (y ≡ next)
  pub cut_open : v ≡ true → mark_at marks y ≡ Open

-- the next read of the path's end is decided
pub decides : (rows : List (List ℕ)) (next root : ℕ) (marks : List Mark) (cut : List (List Bool)) (path order : List ℕ) (x y : ℕ) (v : Bool) → IsSearch rows (length rows) root marks cut path order → Decides rows next marks cut path x y v → IsSearch rows next root marks (decided cut x v) path order
decides rows next root marks cut path order x y v s d = record {
  fit_marks = s.fit_marks;
  fit_cut = length-set cut x (row cut x ++ v ∷ []) ∙ s.fit_cut;
  begun = s.begun;
  new_fresh = λ z h. ap length (row_other rows cut x v within z (other z h)) ∙ s.new_fresh z h;
  open_on_path = s.open_on_path;
  path_open = s.path_open;
  path_once = s.path_once;
  chain = λ k h. stays (get_or path (suc k) 0) (get_or path k 0) (s.chain k h);
  short = λ z. short z (cases_eq z x);
  full = λ z h. ap length (row_other rows cut x v within z (not_done z h)) ∙ s.full z h;
  kept_passed = λ a b o k. passed a b o (kept_cases rows cut x v within a b k);
  order_done = s.order_done;
  order_vertex = s.order_vertex;
  order_once = s.order_once;
  few_done = s.few_done;
  in_order = s.in_order;
  after = λ k a h t. after k a h (kept_cases rows cut x v within a (get_or order k 0) t);
  cut_vertex = λ b i h. cut_vertex b i (cut_cases rows cut x v within b i h);
  cut_met = λ b i h. cut_met b i (cut_cases rows cut x v within b i h);
  needed = λ b i h. needed b i (cut_cases rows cut x v within b i h);
  between = λ k i m km h t. between k i m km h (cut_cases rows cut x v within (get_or order k 0) i t);
}
  where
    is_open : mark_at marks x ≡ Open
    is_open = top_open rows (length rows) root marks cut path order s x d.top

    below : x < length marks
    below = mark_within marks x (λ e. (cc is_open))

    within : x < length cut
    within = let f = s.fit_marks in let g = s.fit_cut in omega (arith, below)

    other : (z : ℕ) → mark_at marks z ≡ New → z ≢ x
    other z h e = let m : mark_at marks x ≡ New = ap (mark_at marks) (sym e) ∙ h in cc is_open

    not_done : (z : ℕ) → mark_at marks z ≡ Done → z ≢ x
    not_done z h e = let m : mark_at marks x ≡ Done = ap (mark_at marks) (sym e) ∙ h in cc is_open

    stays : (a b : ℕ) → Kept rows cut a b → Kept rows (decided cut x v) a b
    stays = kept_stays rows cut x v within

    leads : (a b : ℕ) → Leads (Kept rows cut) a b → Leads (Kept rows (decided cut x v)) a b
    leads = leads_map (Kept rows cut) (Kept rows (decided cut x v)) stays

    short : (z : ℕ) → (z ≡ x) ⊎ (z ≡ x → ⊥) → length (row (decided cut x v) z) ≤ length (row rows z)
    short z (inl e) = let l : length (row (decided cut x v) x) ≤ length (row rows x) = omega (arith, long_same rows cut x v within, d.more) in subst (λ z. length (row (decided cut x v) z) ≤ length (row rows z)) (sym e) l
    short z (inr ne) = let l = s.short z in let r : length (row (decided cut x v) z) ≡ length (row cut z) = ap length (row_other rows cut x v within z ne) in omega arith

    passed : (a b : ℕ) → mark_at marks b ≡ Open → Kept rows cut a b ⊎ ((b ≡ x) × (v ≡ false) × (get_or (row rows x) (length (row cut x)) 0 ≡ a) × (a < length rows)) → IsPassed marks path next a b
    passed a b o (inl k) = go (s.kept_passed a b o k)
      where
        go : IsPassed marks path (length rows) a b → IsPassed marks path next a b
        go (inl e) = inl e
        go (inr (inl e)) = inr (inl e)
        go (inr (inr e)) = let l = k.vertex in absurd (omega (arith, e.0))
    passed a b o (inr k) = go (d.kept k.1)
      where
        at : y ≡ a
        at = sym d.reads ∙ k.2

        go : (mark_at marks y ≡ Done) ⊎ (y ≡ next) → IsPassed marks path next a b
        go (inl e) = inl (ap (mark_at marks) (sym at) ∙ e)
        go (inr e) = inr (inr (sym at ∙ e, subst (IsLast path) (sym k.0) d.top))

    after : (k a : ℕ) → k < length order → Kept rows cut a (get_or order k 0) ⊎ ((get_or order k 0 ≡ x) × (v ≡ false) × (get_or (row rows x) (length (row cut x)) 0 ≡ a) × (a < length rows)) → (j : ℕ) × (j < k) × (get_or order j 0 ≡ a)
    after k a h (inl t) = s.after k a h t
    after k a h (inr t) = absurd (not_done (get_or order k 0) (s.order_done k h) t.0)

    target : (i : ℕ) → i ≡ length (row cut x) → get_or (row rows x) i 0 ≡ y
    target i e = ap (λ j. get_or (row rows x) j 0) e ∙ d.reads

    cut_vertex : (b i : ℕ) → (is_cut cut b i ≡ true) ⊎ ((b ≡ x) × (i ≡ length (row cut x)) × (v ≡ true)) → get_or (row rows b) i 0 < length rows
    cut_vertex b i (inl h) = s.cut_vertex b i h
    cut_vertex b i (inr h) =
        let o = d.cut_open h.2 in
        let l : y < length marks = mark_within marks y (λ e. (cc o)) in
        let f = s.fit_marks in
        let b' : get_or (row rows x) i 0 < length rows = omega (arith, l, target i h.1) in
        subst (λ b. get_or (row rows b) i 0 < length rows) (sym h.0) b'

    cut_met : (b i : ℕ) → (is_cut cut b i ≡ true) ⊎ ((b ≡ x) × (i ≡ length (row cut x)) × (v ≡ true)) → mark_at marks (get_or (row rows b) i 0) ≢ New
    cut_met b i (inl h) = s.cut_met b i h
    cut_met b i (inr h) = λ e.
        let o = d.cut_open h.2 in
        let t : get_or (row rows b) i 0 ≡ y = ap (λ b. get_or (row rows b) i 0) h.0 ∙ target i h.1 in
        let n : mark_at marks y ≡ New = ap (mark_at marks) (sym t) ∙ e in cc o

    needed : (b i : ℕ) → (is_cut cut b i ≡ true) ⊎ ((b ≡ x) × (i ≡ length (row cut x)) × (v ≡ true)) → Leads (Kept rows (decided cut x v)) b (get_or (row rows b) i 0)
    needed b i (inl h) = leads b (get_or (row rows b) i 0) (s.needed b i h)
    needed b i (inr h) =
        let up : Leads (Kept rows cut) x y = top_leads rows (length rows) root marks cut path order s x y d.top (d.cut_open h.2) in
        let there : Leads (Kept rows cut) x (get_or (row rows x) i 0) = subst (Leads (Kept rows cut) x) (sym (target i h.1)) up in
        leads b (get_or (row rows b) i 0) (subst (λ b. Leads (Kept rows cut) b (get_or (row rows b) i 0)) (sym h.0) there)

    between : (k i m : ℕ) → k ≤ m → m < length order → (is_cut cut (get_or order k 0) i ≡ true) ⊎ ((get_or order k 0 ≡ x) × (i ≡ length (row cut x)) × (v ≡ true)) → IsSpanned rows (decided cut x v) order m (get_or (row rows (get_or order k 0)) i 0)
    between k i m km h (inl t) = go (s.between k i m km h t)
      where
        go : IsSpanned rows cut order m (get_or (row rows (get_or order k 0)) i 0) → IsSpanned rows (decided cut x v) order m (get_or (row rows (get_or order k 0)) i 0)
        go (inl l) = inl (leads (get_or order m 0) (get_or (row rows (get_or order k 0)) i 0) l)
        go (inr q) = inr q
    between k i m km h (inr t) = absurd (not_done (get_or order k 0) (s.order_done k (omega arith)) t.0)

-- a new vertex goes on the path
pub opened : (rows : List (List ℕ)) (root : ℕ) (marks : List Mark) (cut : List (List Bool)) (path order : List ℕ) (y : ℕ) → IsSearch rows y root marks cut path order → mark_at marks y ≡ New → ((k : ℕ) → suc k ≡ length path → Kept rows cut y (get_or path k 0)) → IsSearch rows (length rows) root (set marks y Open) cut (path ++ y ∷ []) order
opened rows root marks cut path order y s new read = record {
  fit_marks = length-set marks y Open ∙ s.fit_marks;
  fit_cut = s.fit_cut;
  begun = λ z l h. begun z l h (step z);
  new_fresh = λ z h. new_fresh z h (step z);
  open_on_path = λ z h. open_on_path z h (step z);
  path_open = λ k h. path_open k (push_cases path y k h);
  path_once = once_push path y s.path_once (λ k h e. let o = s.path_open k h in cc);
  chain = λ k h. chain k h (push_cases path y (suc k) h);
  short = s.short;
  full = λ z h. full z h (step z);
  kept_passed = λ a b o k. passed a b o k (step b);
  order_done = λ k h. stays (get_or order k 0) (s.order_done k h);
  order_vertex = s.order_vertex;
  order_once = s.order_once;
  few_done = omega (arith, s.few_done, sum_by-set one_if_done marks y Open Done at, ap one_if_done new);
  in_order = λ z t h. in_order z t h (step z);
  after = s.after;
  cut_vertex = s.cut_vertex;
  cut_met = λ b i h e. cut_met b i h e (step (get_or (row rows b) i 0));
  needed = s.needed;
  between = s.between;
}
  where
    at : y < length marks
    at = mark_within marks y (λ e. (cc))

    step : (z : ℕ) → SetMark marks y Open z
    step z = set_marks marks y z Open at

    stays : (z : ℕ) → mark_at marks z ≡ Done → mark_at (set marks y Open) z ≡ Done
    stays z d = go (step z)
      where
        go : SetMark marks y Open z → mark_at (set marks y Open) z ≡ Done
        go (inl f) = let m : mark_at marks y ≡ Done = ap (mark_at marks) (sym f.0) ∙ d in absurd (cc)
        go (inr f) = f.1 ∙ d

    begun : (z : ℕ) → z < root → mark_at (set marks y Open) z ≡ New → SetMark marks y Open z → ⊥
    begun z l h (inl e) = (let m = e.1 in cc)
    begun z l h (inr e) = s.begun z l (sym e.1 ∙ h)

    new_fresh : (z : ℕ) → mark_at (set marks y Open) z ≡ New → SetMark marks y Open z → length (row cut z) ≡ 0
    new_fresh z h (inl e) = absurd (let m = e.1 in cc)
    new_fresh z h (inr e) = s.new_fresh z (sym e.1 ∙ h)

    open_on_path : (z : ℕ) → mark_at (set marks y Open) z ≡ Open → SetMark marks y Open z → Stands (path ++ y ∷ []) z
    open_on_path z h (inl e) = rw e.0 (stands_last path y)
    open_on_path z h (inr e) = stands_push path z y (s.open_on_path z (sym e.1 ∙ h))

    path_open : (k : ℕ) → PushedAt path y k → mark_at (set marks y Open) (get_or (path ++ y ∷ []) k 0) ≡ Open
    path_open k (inl e) = rw e.1 (go (step (get_or path k 0)))
      where
        go : SetMark marks y Open (get_or path k 0) → mark_at (set marks y Open) (get_or path k 0) ≡ Open
        go (inl f) = f.1
        go (inr f) = f.1 ∙ s.path_open k e.0
    path_open k (inr e) = rw e.1 (get_or-set_same marks y Open Done at)

    chain : (k : ℕ) → suc k < length (path ++ y ∷ []) → PushedAt path y (suc k) → Kept rows cut (get_or (path ++ y ∷ []) (suc k) 0) (get_or (path ++ y ∷ []) k 0)
    chain k h (inl e) = rw (get_or_append_left path (y ∷ []) 0 k (omega arith), e.1) (s.chain k e.0)
    chain k h (inr e) = rw (get_or_append_left path (y ∷ []) 0 k (omega arith), e.1) (read k e.0)

    full : (z : ℕ) → mark_at (set marks y Open) z ≡ Done → SetMark marks y Open z → length (row cut z) ≡ length (row rows z)
    full z h (inl e) = absurd (let m = e.1 in cc)
    full z h (inr e) = s.full z (sym e.1 ∙ h)

    passed : (a b : ℕ) → mark_at (set marks y Open) b ≡ Open → Kept rows cut a b → SetMark marks y Open b → IsPassed (set marks y Open) (path ++ y ∷ []) (length rows) a b
    passed a b o k (inl e) =
        let none : length (row cut b) ≡ 0 = ap (λ z. length (row cut z)) e.0 ∙ s.new_fresh y new in
        let w = k.within in absurd (omega arith)
    passed a b o k (inr e) = go (s.kept_passed a b (sym e.1 ∙ o) k)
      where
        longer_path : length (path ++ y ∷ []) ≡ length path + 1
        longer_path = length_push path y

        go : IsPassed marks path y a b → IsPassed (set marks y Open) (path ++ y ∷ []) (length rows) a b
        go (inl f) = inl (stays a f)
        go (inr (inl f)) = let w = f.below in inr (inl (record {
          at = f.at;
          below = omega (arith, longer_path);
          reader = get_or_append_left path (y ∷ []) 0 f.at (omega arith) ∙ f.reader;
          read = get_or_append_left path (y ∷ []) 0 (suc f.at) w ∙ f.read;
        }))
        go (inr (inr f)) = let some = f.1.some in inr (inl (record {
          at = length path - 1;
          below = omega (arith, longer_path);
          reader = get_or_append_left path (y ∷ []) 0 (length path - 1) (omega arith) ∙ f.1.is;
          read = get_or_push path y 0 (suc (length path - 1)) (omega arith) ∙ sym f.0;
        }))

    in_order : (z : ℕ) → z < length rows → mark_at (set marks y Open) z ≡ Done → SetMark marks y Open z → Stands order z
    in_order z t h (inl e) = absurd (let m = e.1 in cc)
    in_order z t h (inr e) = s.in_order z t (sym e.1 ∙ h)

    cut_met : (b i : ℕ) → is_cut cut b i ≡ true → mark_at (set marks y Open) (get_or (row rows b) i 0) ≡ New → SetMark marks y Open (get_or (row rows b) i 0) → ⊥
    cut_met b i h n (inl e) = (let m = e.1 in cc)
    cut_met b i h n (inr e) = s.cut_met b i h (sym e.1 ∙ n)

-- the end of the path is done, and goes into the order
pub finished : (rows : List (List ℕ)) (root : ℕ) (marks : List Mark) (cut : List (List Bool)) (path order : List ℕ) (x : ℕ) → IsSearch rows (length rows) root marks cut (path ++ x ∷ []) order → length (row rows x) ≤ length (row cut x) → IsSearch rows (length rows) root (set marks x Done) cut path (order ++ x ∷ [])
finished rows root marks cut path order x s all = record {
  fit_marks = length-set marks x Done ∙ s.fit_marks;
  fit_cut = s.fit_cut;
  begun = λ z l h. begun z l h (step z);
  new_fresh = λ z h. new_fresh z h (step z);
  open_on_path = λ z h. open_on_path z h (step z);
  path_open = λ k h. path_open k h (step (get_or path k 0));
  path_once = record { apart = λ j k jk h. path_once j k jk h };
  chain = λ k h. rw (inner k (omega arith), inner (suc k) h) at (s.chain k (omega (arith, long)));
  short = s.short;
  full = λ z h. full z h (step z);
  kept_passed = λ a b o k. passed a b o k (step b);
  order_done = λ k h. order_done k (push_cases order x k h);
  order_vertex = λ k h. order_vertex k (push_cases order x k h);
  order_once = once_push order x s.order_once (λ k h e. let d = s.order_done k h in (cc (d, is_open)));
  few_done = omega (arith, s.few_done, sum_by-set one_if_done marks x Done Done at, ap one_if_done is_open, long_order);
  in_order = λ z t h. in_order z t h (step z);
  after = λ k a h t. after k a t (push_cases order x k h);
  cut_vertex = s.cut_vertex;
  cut_met = λ b i h e. cut_met b i h e (step (get_or (row rows b) i 0));
  needed = s.needed;
  between = λ k i m km h t. between k i m km h t (push_cases order x m h);
}
  where
    long : length (path ++ x ∷ []) ≡ length path + 1
    long = length_push path x

    long_order : length (order ++ x ∷ []) ≡ length order + 1
    long_order = length_push order x

    top : get_or (path ++ x ∷ []) (length path) 0 ≡ x
    top = get_or_push path x 0 (length path) refl

    last : IsLast (path ++ x ∷ []) x
    last = record { some = omega (arith, long); is = get_or_push path x 0 (length (path ++ x ∷ []) - 1) (omega (arith, long)) }

    is_open : mark_at marks x ≡ Open
    is_open = rw top at (s.path_open (length path) (omega (arith, long)))

    at : x < length marks
    at = mark_within marks x (λ e. (cc is_open))

    vertex : x < length rows
    vertex = let f = s.fit_marks in omega (arith, at)

    step : (z : ℕ) → SetMark marks x Done z
    step z = set_marks marks x z Done at

    inner : (k : ℕ) → k < length path → get_or (path ++ x ∷ []) k 0 ≡ get_or path k 0
    inner k h = get_or_append_left path (x ∷ []) 0 k h

    below_top : (k : ℕ) → k < length path → get_or path k 0 ≢ x
    below_top k h e = s.path_once.apart k (length path) h (omega (arith, long)) (inner k h ∙ (e ∙ sym top))

    path_once : (j k : ℕ) → j < k → k < length path → get_or path j 0 ≢ get_or path k 0
    path_once j k jk h e = s.path_once.apart j k jk (omega (arith, long)) (inner j (omega arith) ∙ (e ∙ sym (inner k h)))

    done_stays : (z : ℕ) → mark_at marks z ≡ Done → mark_at (set marks x Done) z ≡ Done
    done_stays z d = go (step z)
      where
        go : SetMark marks x Done z → mark_at (set marks x Done) z ≡ Done
        go (inl e) = e.1
        go (inr e) = e.1 ∙ d

    begun : (z : ℕ) → z < root → mark_at (set marks x Done) z ≡ New → SetMark marks x Done z → ⊥
    begun z l h (inl e) = (let m = e.1 in cc)
    begun z l h (inr e) = s.begun z l (sym e.1 ∙ h)

    new_fresh : (z : ℕ) → mark_at (set marks x Done) z ≡ New → SetMark marks x Done z → length (row cut z) ≡ 0
    new_fresh z h (inl e) = absurd (let m = e.1 in cc)
    new_fresh z h (inr e) = s.new_fresh z (sym e.1 ∙ h)

    open_on_path : (z : ℕ) → mark_at (set marks x Done) z ≡ Open → SetMark marks x Done z → Stands path z
    open_on_path z h (inl e) = absurd (let m = e.1 in cc)
    open_on_path z h (inr e) = go (s.open_on_path z (sym e.1 ∙ h))
      where
        go : Stands (path ++ x ∷ []) z → Stands path z
        go f = cases (push_cases path x f.at f.below)
          where
            cases : PushedAt path x f.at → Stands path z
            cases (inl i) = record { at = f.at; below = i.0; is = sym i.1 ∙ f.is }
            cases (inr i) = absurd (e.0 (sym f.is ∙ i.1))

    path_open : (k : ℕ) → k < length path → SetMark marks x Done (get_or path k 0) → mark_at (set marks x Done) (get_or path k 0) ≡ Open
    path_open k h (inl e) = absurd (below_top k h e.0)
    path_open k h (inr e) = e.1 ∙ rw (inner k h) at (s.path_open k (omega (arith, long)))

    full : (z : ℕ) → mark_at (set marks x Done) z ≡ Done → SetMark marks x Done z → length (row cut z) ≡ length (row rows z)
    full z h (inl e) = let l = s.short x in let f : length (row cut x) ≡ length (row rows x) = omega arith in subst (λ z. length (row cut z) ≡ length (row rows z)) (sym e.0) f
    full z h (inr e) = s.full z (sym e.1 ∙ h)

    passed : (a b : ℕ) → mark_at (set marks x Done) b ≡ Open → Kept rows cut a b → SetMark marks x Done b → IsPassed (set marks x Done) path (length rows) a b
    passed a b o k (inl e) = absurd (let m = e.1 in cc)
    passed a b o k (inr e) = go (s.kept_passed a b (sym e.1 ∙ o) k)
      where
        go : IsPassed marks (path ++ x ∷ []) (length rows) a b → IsPassed (set marks x Done) path (length rows) a b
        go (inl f) = inl (done_stays a f)
        go (inr (inr f)) = let l = k.vertex in absurd (omega (arith, f.0))
        go (inr (inl f)) = which (push_cases path x (suc f.at) f.below)
          where
            which : PushedAt path x (suc f.at) → IsPassed (set marks x Done) path (length rows) a b
            which (inl i) = inr (inl (record {
              at = f.at;
              below = i.0;
              reader = let w = i.0 in sym (inner f.at (omega arith)) ∙ f.reader;
              read = sym i.1 ∙ f.read;
            }))
            which (inr i) = let there : x ≡ a = sym i.1 ∙ f.read in inl (subst (λ z. mark_at (set marks x Done) z ≡ Done) there (get_or-set_same marks x Done Done at))

    order_done : (k : ℕ) → PushedAt order x k → mark_at (set marks x Done) (get_or (order ++ x ∷ []) k 0) ≡ Done
    order_done k (inl e) = rw e.1 (done_stays (get_or order k 0) (s.order_done k e.0))
    order_done k (inr e) = rw e.1 (get_or-set_same marks x Done Done at)

    order_vertex : (k : ℕ) → PushedAt order x k → get_or (order ++ x ∷ []) k 0 < length rows
    order_vertex k (inl e) = rw e.1 (s.order_vertex k e.0)
    order_vertex k (inr e) = rw e.1 vertex

    in_order : (z : ℕ) → z < length rows → mark_at (set marks x Done) z ≡ Done → SetMark marks x Done z → Stands (order ++ x ∷ []) z
    in_order z t h (inl e) = rw e.0 (stands_last order x)
    in_order z t h (inr e) = stands_push order z x (s.in_order z t (sym e.1 ∙ h))

    -- what the vertex reads uncut is done
    read_done : (a : ℕ) → Kept rows cut a x → mark_at marks a ≡ Done
    read_done a k = go (s.kept_passed a x is_open k)
      where
        go : IsPassed marks (path ++ x ∷ []) (length rows) a x → mark_at marks a ≡ Done
        go (inl f) = f
        go (inr (inr f)) = let l = k.vertex in absurd (omega (arith, f.0))
        go (inr (inl f)) = let w = f.below in absurd (s.path_once.apart f.at (length path) (omega (arith, long)) (omega (arith, long)) (f.reader ∙ sym top))

    after : (k a : ℕ) → Kept rows cut a (get_or (order ++ x ∷ []) k 0) → PushedAt order x k → (j : ℕ) × (j < k) × (get_or (order ++ x ∷ []) j 0 ≡ a)
    after k a t (inl e) = go (s.after k a e.0 (subst (Kept rows cut a) e.1 t))
      where
        go : (j : ℕ) × (j < k) × (get_or order j 0 ≡ a) → (j : ℕ) × (j < k) × (get_or (order ++ x ∷ []) j 0 ≡ a)
        go (j, l, is) = (j, l, get_or_append_left order (x ∷ []) 0 j (omega (arith, e.0, l)) ∙ is)
    after k a t (inr e) = go (s.in_order a own.vertex (read_done a own))
      where
        own : Kept rows cut a x
        own = subst (Kept rows cut a) e.1 t

        go : Stands order a → (j : ℕ) × (j < k) × (get_or (order ++ x ∷ []) j 0 ≡ a)
        go st = (st.at, omega (arith, e.0, st.below), get_or_append_left order (x ∷ []) 0 st.at st.below ∙ st.is)

    cut_met : (b i : ℕ) → is_cut cut b i ≡ true → mark_at (set marks x Done) (get_or (row rows b) i 0) ≡ New → SetMark marks x Done (get_or (row rows b) i 0) → ⊥
    cut_met b i h n (inl e) = (let m = e.1 in cc)
    cut_met b i h n (inr e) = s.cut_met b i h (sym e.1 ∙ n)

    between : (k i m : ℕ) → k ≤ m → m < length (order ++ x ∷ []) → is_cut cut (get_or (order ++ x ∷ []) k 0) i ≡ true → PushedAt order x m → IsSpanned rows cut (order ++ x ∷ []) m (get_or (row rows (get_or (order ++ x ∷ []) k 0)) i 0)
    between k i m km h t (inl e) = go (s.between k i m km e.0 (subst (λ z. is_cut cut z i ≡ true) same t))
      where
        same : get_or (order ++ x ∷ []) k 0 ≡ get_or order k 0
        same = get_or_append_left order (x ∷ []) 0 k (omega (arith, e.0, km))

        at_read : get_or (row rows (get_or (order ++ x ∷ []) k 0)) i 0 ≡ get_or (row rows (get_or order k 0)) i 0
        at_read = ap (λ z. get_or (row rows z) i 0) same

        go : IsSpanned rows cut order m (get_or (row rows (get_or order k 0)) i 0) → IsSpanned rows cut (order ++ x ∷ []) m (get_or (row rows (get_or (order ++ x ∷ []) k 0)) i 0)
        go (inl l) = inl (subst (λ z. Leads (Kept rows cut) z (get_or (row rows (get_or (order ++ x ∷ []) k 0)) i 0)) (sym e.1) (subst (Leads (Kept rows cut) (get_or order m 0)) (sym at_read) l))
        go (inr (q, l, is)) = inr (q, l, get_or_append_left order (x ∷ []) 0 q (omega (arith, e.0, l)) ∙ (is ∙ sym at_read))
    between k i m km h t (inr e) = go (mark_at marks read) refl
      where
        read : ℕ
        read = get_or (row rows (get_or (order ++ x ∷ []) k 0)) i 0

        go : (m' : Mark) → mark_at marks (get_or (row rows (get_or (order ++ x ∷ []) k 0)) i 0) ≡ m' → IsSpanned rows cut (order ++ x ∷ []) m (get_or (row rows (get_or (order ++ x ∷ []) k 0)) i 0)
        go New is = absurd (s.cut_met (get_or (order ++ x ∷ []) k 0) i t is)
        go Open is = inl (subst (λ z. Leads (Kept rows cut) z (get_or (row rows (get_or (order ++ x ∷ []) k 0)) i 0)) (sym e.1) (top_leads rows (length rows) root marks cut (path ++ x ∷ []) order s x (get_or (row rows (get_or (order ++ x ∷ []) k 0)) i 0) last is))
        go Done is = inr (earlier (s.in_order (get_or (row rows (get_or (order ++ x ∷ []) k 0)) i 0) (s.cut_vertex (get_or (order ++ x ∷ []) k 0) i t) is))
          where
            earlier : Stands order (get_or (row rows (get_or (order ++ x ∷ []) k 0)) i 0) → (q : ℕ) × (q < m) × (get_or (order ++ x ∷ []) q 0 ≡ get_or (row rows (get_or (order ++ x ∷ []) k 0)) i 0)
            earlier st = (st.at, omega (arith, e.0, st.below), get_or_append_left order (x ∷ []) 0 st.at st.below ∙ st.is)
