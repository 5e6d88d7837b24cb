-- What the search keeps.
use Rattle.std.proofs.Common.{◌≡◌, ◌≢◌, ℕ, zero, suc, ◌+◌, ◌-◌, ◌<◌, ◌≤◌, ◌⊎◌, Bool, true, List, length, get_or, sym, subst, arith}
use Rattle.std.specs.List.{sum_by}
use Rattle.graph.specs.Rows.{row, Stands, IsOnce, IsLast}
use Rattle.graph.specs.Lists.{Leads, alone, longer}
use Rattle.graph.specs.Search.{is_cut, Kept}
use Rattle.graph.specs.declared.searching.Mark.{Mark}
use Rattle.graph.specs.declared.searching.Mark.TheVariants.{New, Open, Done}
use Rattle.graph.proofs.Places.{mark_at}

-- y reads x, and x follows it on the path
pub record IsLink (path : List ℕ) (x y : ℕ) : Type 0 where
  pub at : ℕ
  pub below : suc at < length path
  pub reader : get_or path at 0 ≡ y
  pub read : get_or path (suc at) 0 ≡ x

-- where a kept read of an open vertex leads: to what is done, to the next on the path, or, of its end, to the vertex that is opened next
abbrev pub IsPassed : List Mark → List ℕ → ℕ → ℕ → ℕ → Type 0
IsPassed marks path next x y = (mark_at marks x ≡ Done) ⊎ (IsLink path x y ⊎ ((x ≡ next) × IsLast path y))

-- uncut reads lead from place m of the order to x, or x stands before
abbrev pub IsSpanned : List (List ℕ) → List (List Bool) → List ℕ → ℕ → ℕ → Type 0
IsSpanned rows cut order m x = Leads (Kept rows cut) (get_or order m 0) x ⊎ ((q : ℕ) × (q < m) × (get_or order q 0 ≡ x))

-- counts what is done
abbrev pub one_if_done : Mark → ℕ
one_if_done New = 0
one_if_done Open = 0
one_if_done Done = 1

-- `next` is the vertex that is opened next; it is none where it is past all vertices
pub record IsSearch (rows : List (List ℕ)) (next root : ℕ) (marks : List Mark) (cut : List (List Bool)) (path order : List ℕ) : Type 0 where
  pub fit_marks : length marks ≡ length rows
  pub fit_cut : length cut ≡ length rows
  pub begun : (x : ℕ) → x < root → mark_at marks x ≢ New
  pub new_fresh : (x : ℕ) → mark_at marks x ≡ New → length (row cut x) ≡ 0
  pub open_on_path : (x : ℕ) → mark_at marks x ≡ Open → Stands path x
  pub path_open : (k : ℕ) → k < length path → mark_at marks (get_or path k 0) ≡ Open
  pub path_once : IsOnce path
  pub chain : (k : ℕ) → suc k < length path → Kept rows cut (get_or path (suc k) 0) (get_or path k 0)
  pub short : (y : ℕ) → length (row cut y) ≤ length (row rows y)
  pub full : (y : ℕ) → mark_at marks y ≡ Done → length (row cut y) ≡ length (row rows y)
  pub kept_passed : (x y : ℕ) → mark_at marks y ≡ Open → Kept rows cut x y → IsPassed marks path next x y
  pub order_done : (k : ℕ) → k < length order → mark_at marks (get_or order k 0) ≡ Done
  pub order_vertex : (k : ℕ) → k < length order → get_or order k 0 < length rows
  pub order_once : IsOnce order
  pub few_done : length order ≤ sum_by one_if_done marks
  pub in_order : (x : ℕ) → x < length rows → mark_at marks x ≡ Done → Stands order x
  pub after : (k x : ℕ) → k < length order → Kept rows cut x (get_or order k 0) → (j : ℕ) × (j < k) × (get_or order j 0 ≡ x)
  pub cut_vertex : (y i : ℕ) → is_cut cut y i ≡ true → get_or (row rows y) i 0 < length rows
  pub cut_met : (y i : ℕ) → is_cut cut y i ≡ true → mark_at marks (get_or (row rows y) i 0) ≢ New
  pub needed : (y i : ℕ) → is_cut cut y i ≡ true → Leads (Kept rows cut) y (get_or (row rows y) i 0)
  pub between : (k i m : ℕ) → k ≤ m → m < length order → is_cut cut (get_or order k 0) i ≡ true → IsSpanned rows cut order m (get_or (row rows (get_or order k 0)) i 0)

module _ (rows : List (List ℕ)) (next root : ℕ) (marks : List Mark) (cut : List (List Bool)) (path order : List ℕ) (s : IsSearch rows next root marks cut path order) where
  -- uncut reads lead from the end of the path to each vertex on it
  pub climb : (d j : ℕ) → j + d + 1 ≡ length path → Leads (Kept rows cut) (get_or path (length path - 1) 0) (get_or path j 0)
  climb zero j e = let at : length path - 1 ≡ j = omega arith in subst (λ k. Leads (Kept rows cut) (get_or path k 0) (get_or path j 0)) (sym at) (alone (get_or path j 0))
  climb (suc d) j e = longer (get_or path (length path - 1) 0) (get_or path (suc j) 0) (get_or path j 0) (climb d (suc j) (omega arith)) (s.chain j (omega arith))

  pub top_leads : (x z : ℕ) → IsLast path x → mark_at marks z ≡ Open → Leads (Kept rows cut) x z
  top_leads x z l o = go (s.open_on_path z o)
    where
      go : Stands path z → Leads (Kept rows cut) x z
      go st =
          let b = st.below in
          let up : Leads (Kept rows cut) (get_or path (length path - 1) 0) (get_or path st.at 0) = climb (length path - 1 - st.at) st.at (omega arith) in
          subst (λ a. Leads (Kept rows cut) a z) l.is (subst (λ b. Leads (Kept rows cut) (get_or path (length path - 1) 0) b) st.is up)

  pub top_open : (x : ℕ) → IsLast path x → mark_at marks x ≡ Open
  top_open x l = rw l.is at (s.path_open (length path - 1) (let some = l.some in omega arith))
