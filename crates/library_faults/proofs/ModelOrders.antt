-- Orders and cycles of the rows of what models place.
use Rattle.std.proofs.Common.{◌≡◌, ℕ, ◌<◌, List, [], length, get_or, refl, ◌∙◌, arith}
use Rattle.std.specs.Prelude.{Contains}
use Rattle.std.proofs.lemmas.List.{get_or_default}
use Rattle.graph.specs.Rows.{Stands, Follows}
use Rattle.graph.specs.Orders.{IsCycle, is_root, is_read, Reached as IsReached, IsOrder as IsRowOrder}
use Rattle.library_faults.specs.Graph.{row, Places, Reached, main, placed}
use Rattle.library_faults.specs.Private.Rows.{AreWithin}
use Rattle.library_faults.specs.Library.{IsLoop}
use Rattle.library_faults.specs.Found.{IsOrder}

pub reached_within : (rows : List (List ℕ)) → AreWithin rows → 0 < length rows → (x : ℕ) → Reached rows x → x < length rows
reached_within rows within some _ main = some
reached_within rows within some _ (placed z y d (i, below, is)) = rw is at (within z [] (reached_within rows within some z d) i y below)

places : (rows : List (List ℕ)) (x y : ℕ) → Follows rows x y → Places rows y x
places rows x y f = (f.place, f.within, get_or_default (row rows y) f.place x 0 f.within ∙ f.is)

reached_by : (rows : List (List ℕ)) (x : ℕ) → IsReached rows 1 x → Reached rows x
reached_by rows _ (is_root x l) = let none : x ≡ 0 = omega arith in rw none main
reached_by rows _ (is_read x y r f) = placed y x (reached_by rows y r) (places rows x y f)

module _ (rows : List (List ℕ)) (within : AreWithin rows) where
  follows : (y i : ℕ) → y < length rows → i < length (row rows y) → Follows rows (get_or (row rows y) i 0) y
  follows y i l h = record { place = i; within = h; is = refl; vertex = within y [] l i 0 h }

  placed_follows : (x y : ℕ) → y < length rows → Places rows y x → Follows rows x y
  placed_follows x y l (i, h, e) = record { place = i; within = h; is = get_or_default (row rows y) i 0 x h ∙ e; vertex = rw e at (within y [] l i x h) }

  reaches : 0 < length rows → (x : ℕ) → Reached rows x → IsReached rows 1 x
  reaches some _ main = is_root 0 (omega arith)
  reaches some _ (placed y x r p) = is_read x y (reaches some y r) (placed_follows x y (reached_within rows within some y r) p)

  pub order_of : (order : List ℕ) → 0 < length rows → IsRowOrder rows 1 order → IsOrder rows order
  order_of order some o = record {
    within = o.within;
    reached = λ k h. reached_by rows (get_or order k 0) (o.reached k h);
    complete = λ x r. contains x (o.complete x (reaches some x r));
    once = o.once.apart;
    after = λ k i h l. o.after k (get_or (row rows (get_or order k 0)) i 0) h (follows (get_or order k 0) i (o.within k h) l);
  }
    where
      contains : (x : ℕ) → Stands order x → Contains order x
      contains x s = (s.at, s.below, get_or_default order s.at x 0 s.below ∙ s.is)

  pub loop_of : (models : List ℕ) → IsCycle rows 1 models → IsLoop rows models
  loop_of models c = record {
    some = c.some;
    reached = λ k h. reached_by rows (get_or models k 0) (c.reached k h);
    next = λ k h. places rows _ _ (c.next k h);
    closed = places rows _ _ c.closed;
    once = c.once.apart;
    least = c.least;
  }
