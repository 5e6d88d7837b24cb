-- Where no reads make a loop, the search cuts nothing.
use Rattle.std.proofs.Common.{◌≡◌, ℕ, Bool, true, false, List, get_or, refl, arith}
use Rattle.graph.specs.Rows.{row}
use Rattle.feedback_cut.specs.Cut.{is_cut}
use Rattle.graph.specs.Search.{Kept, IsSearched}
use Rattle.graph.proofs.Places.{leads_map}
use Rattle.feedback_cut.proofs.CutLaws.{cut_within}
use Rattle.graph.specs.Rows.{Follows}
use Rattle.recovery_depth.specs.Private.Vertices.{HasNoLoop, IsOrdered}

module _ (rows : List (List ℕ)) (order : List ℕ) (cut : List (List Bool)) (s : IsSearched rows order cut) where
  follows_of_kept : (x y : ℕ) → Kept rows cut x y → Follows rows x y
  follows_of_kept x y k = record { place = k.place; within = omega (arith, s.reads y, k.within); is = k.is; vertex = k.vertex }

  nothing_cut : HasNoLoop rows → (y i : ℕ) → is_cut cut y i ≡ true → ⊥
  nothing_cut none y i t =
      none y (get_or (row rows y) i 0) (leads_map (Kept rows cut) (Follows rows) follows_of_kept y (get_or (row rows y) i 0) (s.needed y i t))
      (record { place = i; within = omega (arith, s.reads y, cut_within cut y i t); is = refl; vertex = s.inside y i t })

  kept_of_follows : HasNoLoop rows → (x y : ℕ) → Follows rows x y → Kept rows cut x y
  kept_of_follows none x y f = record { place = f.place; within = omega (arith, s.reads y, f.within); uncut = go (is_cut cut y f.place) refl; is = f.is; vertex = f.vertex }
    where
      go : (b : Bool) → is_cut cut y f.place ≡ b → is_cut cut y f.place ≡ false
      go true e = absurd (nothing_cut none y f.place e)
      go false e = e

  pub ordered_of_searched : HasNoLoop rows → IsOrdered rows order
  ordered_of_searched none = record {
    within = s.within;
    complete = s.complete;
    once = s.once;
    few = s.few;
    after = λ k x h f. s.after k x h (kept_of_follows none x (get_or order k 0) f);
  }
