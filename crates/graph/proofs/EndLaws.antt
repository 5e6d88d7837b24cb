-- Rows that stand in one list, which is cut at their ends.
use Rattle.std.proofs.Common.{◌≡◌, ℕ, zero, suc, ◌+◌, ◌-◌, ◌<◌, ◌≤◌, List, [], ◌∷◌, ◌++◌, length, map, get_or, take, drop, replicate, refl, sym, ◌∙◌, ap, ap₂, arith}
use Rattle.std.specs.Prelude.{slice_range}
use Rattle.std.proofs.lemmas.List.{take_all, take-append-le, drop-append-le, length-drop, length-append}
use Rattle.std.proofs.lemmas.List.Edits.{length-between, between_none}
use Rattle.std.proofs.Math.Seq.{drop-append_seam}
use Rattle.graph.specs.declared.spans.Span.{Span}
use Rattle.graph.specs.Private.Packed.{rows_from, AreEnds, start_of, emptied_from, span_in, room_in, ArePacked}

pub length-rows_from : (from : ℕ) (ends items : List ℕ) → length (rows_from from ends items) ≡ length ends
length-rows_from from [] items = refl
length-rows_from from (end ∷ ends) items = ap suc (length-rows_from end ends items)

pub ends_le : (from : ℕ) (ends : List ℕ) (count : ℕ) → AreEnds from ends count → from ≤ count
ends_le from [] count a = omega arith
ends_le from (end ∷ ends) count a = omega (arith, ends_le end ends count a.1, a.0)

-- a row begins before its end, which is within the list
pub end_within : (from : ℕ) (ends : List ℕ) (count x : ℕ) → AreEnds from ends count → x < length ends → (start_of from ends x ≤ get_or ends x 0) × (get_or ends x 0 ≤ count)
end_within from [] count x a h = absurd (omega arith)
end_within from (end ∷ ends) count zero a h = (a.0, ends_le end ends count a.1)
end_within from (end ∷ ends) count (suc zero) a h = end_within end ends count zero a.1 (omega arith)
end_within from (end ∷ ends) count (suc (suc x)) a h = end_within end ends count (suc x) a.1 (omega arith)

-- row x
pub row_from : (from : ℕ) (ends items : List ℕ) (x : ℕ) → x < length ends → get_or (rows_from from ends items) x [] ≡ slice_range items (start_of from ends x) (get_or ends x 0)
row_from from [] items x h = absurd (omega arith)
row_from from (end ∷ ends) items zero h = refl
row_from from (end ∷ ends) items (suc zero) h = row_from end ends items zero (omega arith)
row_from from (end ∷ ends) items (suc (suc x)) h = row_from end ends items (suc x) (omega arith)

pub ends_push : (from : ℕ) (ends : List ℕ) (count more : ℕ) → AreEnds from ends count → AreEnds from (ends ++ (count + more) ∷ []) (count + more)
ends_push from [] count more a = (omega arith, refl)
ends_push from (end ∷ ends) count more a = (a.0, ends_push end ends count more a.1)

-- entries behind a row do not change it
part_wider : (items more : List ℕ) (from end : ℕ) → from ≤ end → end ≤ length items → slice_range (items ++ more) from end ≡ slice_range items from end
part_wider items more from end f h =
    ap (take (end - from)) (drop-append-le from items more (omega (arith, f, h)))
    ∙ take-append-le (end - from) (drop from items) more (omega (arith, length-drop from items, h))

pub rows_push : (from : ℕ) (ends items more : List ℕ) → AreEnds from ends (length items) → rows_from from (ends ++ (length items + length more) ∷ []) (items ++ more) ≡ rows_from from ends items ++ more ∷ []
rows_push from [] items more a =
    let long : length more ≤ length items + length more - from = omega (arith, a) in
    ap (λ r. r ∷ []) (ap (λ k. take (length items + length more - from) (drop k (items ++ more))) a
    ∙ (ap (take (length items + length more - from)) (drop-append_seam items more)
    ∙ take_all (length items + length more - from) more long))
rows_push from (end ∷ ends) items more a =
    ap₂ (λ r rs. r ∷ rs) (part_wider items more from end a.0 (ends_le end ends (length items) a.1)) (rows_push end ends items more a.1)

-- ---- empty rows in their places

pub emptied_packed : (from : ℕ) (ends : List ℕ) (count : ℕ) → AreEnds from ends count → ArePacked from (emptied_from from ends) count
emptied_packed from [] count a = omega arith
emptied_packed from (end ∷ ends) count a = (omega arith, omega arith, a.0, emptied_packed end ends count a.1)

pub emptied_rows : {A : Type 0} (items : List A) (from : ℕ) (ends : List ℕ) → map (span_in items) (emptied_from from ends) ≡ replicate (length ends) []
emptied_rows items from [] = refl
emptied_rows items from (end ∷ ends) = ap₂ (λ r rs. r ∷ rs) (between_none items from) (emptied_rows items end ends)

pub emptied_room : (from : ℕ) (ends items : List ℕ) → AreEnds from ends (length items) → map room_in (emptied_from from ends) ≡ map length (rows_from from ends items)
emptied_room from [] items a = refl
emptied_room from (end ∷ ends) items a =
    ap₂ (λ r rs. r ∷ rs) (sym (length-between items from end (ends_le end ends (length items) a.1))) (emptied_room end ends items a.1)

-- one row more
pub emptied_more : (from : ℕ) (ends : List ℕ) (x : ℕ) → x < length ends → emptied_from from (take (suc x) ends) ≡ emptied_from from (take x ends) ++ record { from = start_of from ends x; to = start_of from ends x; limit = get_or ends x 0 } ∷ []
emptied_more from [] x h = absurd (omega arith)
emptied_more from (end ∷ ends) zero h = refl
emptied_more from (end ∷ ends) (suc zero) h = ap (λ (spans : List Span). record { from = from; to = from; limit = end } ∷ spans) (emptied_more end ends zero (omega arith))
emptied_more from (end ∷ ends) (suc (suc x)) h = ap (λ (spans : List Span). record { from = from; to = from; limit = end } ∷ spans) (emptied_more end ends (suc x) (omega arith))

-- ---- a graph

-- one row more
module _ (ends items more : List ℕ) (from end : ℕ) (is : AreEnds 0 ends (length items)) (f : from ≡ length items) (e : end ≡ from + length more) where
  pub rows_kept : (ends' items' : List ℕ) → ends' ≡ ends ++ end ∷ [] → items' ≡ items ++ more → AreEnds 0 ends' (length items')
  rows_kept ends' items' d i = rw (d, i, e, f, length-append items more) (ends_push 0 ends (length items) (length more) is)

  pub rows_added : (ends' items' : List ℕ) → ends' ≡ ends ++ end ∷ [] → items' ≡ items ++ more → rows_from 0 ends' items' ≡ rows_from 0 ends items ++ more ∷ []
  rows_added ends' items' d i = rw (d, i, e, f) (rows_push 0 ends items more is)
