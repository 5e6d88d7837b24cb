-- The first cycle that the search meets.
use Rattle.std.proofs.Common.{◌≡◌, ℕ, ◌<◌, ◌≤◌, ◌⊎◌, Bool, true, false, List, [], length, get_or, replicate, sym, inl, inr, arith}
use Rattle.std.proofs.lemmas.Bool.{cases_lt}
use Rattle.graph.specs.Rows.{row, IsLast}
use Rattle.graph.specs.Search.{is_cut}
use Rattle.graph.specs.Orders.{IsCycle}
use Rattle.graph.specs.Turned.{IsTurned}
use Rattle.graph.specs.declared.searching.Mark.{Mark}
use Rattle.graph.specs.declared.searching.Mark.TheVariants.{Open}
use Rattle.graph.proofs.Places.{mark_at}
use Rattle.graph.proofs.Decisions.{decided, no_absurd, cut_cases}
use Rattle.graph.proofs.Walking.{IsWalk, end_decided, closes, none_cut}

-- no read is cut, or there is a cycle
pub record IsNoted (rows : List (List ℕ)) (roots : ℕ) (cut : List (List Bool)) (cycle : List ℕ) : Type 0 where
  pub none : length cycle ≡ 0 → (y i : ℕ) → is_cut cut y i ≡ true → ⊥
  pub some : 0 < length cycle → IsCycle rows roots cycle

pub begins : (rows : List (List ℕ)) (roots count : ℕ) (cut : List (List Bool)) (cycle : List ℕ) → cut ≡ replicate count [] → cycle ≡ [] → IsNoted rows roots cut cycle
begins rows roots count cut cycle c e = rw (c, e) (record { none = λ _ y i t. none_cut count y i t; some = λ h. absurd (omega arith) })

pub stays : (rows : List (List ℕ)) (roots : ℕ) (cut cut' : List (List Bool)) (cycle : List ℕ) → cut' ≡ cut → IsNoted rows roots cut cycle → IsNoted rows roots cut' cycle
stays rows roots cut cut' cycle c n = rw c n

module _ (rows : List (List ℕ)) (roots root : ℕ) (marks : List Mark) (cut : List (List Bool)) (path order cycle : List ℕ) (s : IsWalk rows roots root marks cut path order) (n : IsNoted rows roots cut cycle) where
  -- the next read of the path's end is kept
  pub keeps : (cut' : List (List Bool)) (x : ℕ) → IsLast path x → cut' ≡ decided cut x false → IsNoted rows roots cut' cycle
  keeps cut' x l c = rw c (record { none = λ e y i t. go e y i (cut_cases rows cut x false (end_decided rows roots root marks cut path order s x l) y i t); some = n.some })
    where
      go : length cycle ≡ 0 → (y i : ℕ) → (is_cut cut y i ≡ true) ⊎ ((y ≡ x) × (i ≡ length (row cut x)) × (false ≡ true)) → ⊥
      go e y i (inl t) = n.none e y i t
      go e y i (inr t) = no_absurd (sym t.2)

  -- it is cut
  pub cuts : (cut' : List (List Bool)) (cycle' : List ℕ) (x y : ℕ) → IsLast path x → length (row cut x) < length (row rows x) → get_or (row rows x) (length (row cut x)) 0 ≡ y → mark_at marks y ≡ Open → (0 < length cycle → cycle' ≡ cycle) → (length cycle ≡ 0 → IsTurned path y cycle') → IsNoted rows roots cut' cycle'
  cuts cut' cycle' x y l more reads is_open kept first = record { none = λ e. absurd (let h = found.some in omega arith); some = λ _. found }
    where
      found : IsCycle rows roots cycle'
      found = go (cases_lt 0 (length cycle))
        where
          go : (0 < length cycle) ⊎ (length cycle ≤ 0) → IsCycle rows roots cycle'
          go (inl h) = rw (kept h) (n.some h)
          go (inr h) = closes rows roots root marks cut path order s cycle' x y l more reads is_open (first (omega arith))
