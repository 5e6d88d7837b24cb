-- Rows that grow side by side in one list.
use Rattle.std.proofs.Common.{◌≡◌, ℕ, zero, suc, ◌-◌, ◌<◌, ◌≤◌, List, [], ◌∷◌, ◌++◌, length, map, set, get_or, take, drop, refl, sym, ◌∙◌, ap, ap₂, subst, arith}
use Rattle.std.proofs.lemmas.List.{drop-set-lt, take-set-le, length-set, get_or-map, get_or-set_same, get_or_default}
use Rattle.std.proofs.lemmas.List.Edits.{length-between, between_more}
use Rattle.std.proofs.lemmas.Slice.{between_is}
use Rattle.std.proofs.Math.Seq.{map-set_same}
use Rattle.graph.specs.declared.spans.Span.{Span}
use Rattle.graph.specs.Private.Packed.{span_in, span_at, grown, room_in, ArePacked}

-- a span stands behind `start`, and within the first `count` places
pub record IsPlaced (start count : ℕ) (s : Span) : Type 0 where
  pub first : start ≤ s.from
  pub order : s.from ≤ s.to
  pub room : s.to ≤ s.limit
  pub last : s.limit ≤ count

pub packed_le : (start : ℕ) (spans : List Span) (count : ℕ) → ArePacked start spans count → start ≤ count
packed_le start [] count p = p
packed_le start (s ∷ spans) count p = omega (arith, p.0, p.1, p.2, packed_le s.limit spans count p.3)

pub placed : (start : ℕ) (spans : List Span) (count x : ℕ) (d : Span) → ArePacked start spans count → x < length spans → IsPlaced start count (get_or spans x d)
placed start [] count x d p l = absurd (omega (arith, l))
placed start (s ∷ spans) count zero d p l = record { first = p.0; order = p.1; room = p.2; last = packed_le s.limit spans count p.3 }
placed start (s ∷ spans) count (suc x) d p l =
    let r = placed s.limit spans count x d p.3 (omega (arith, l)) in
    record { first = omega (arith, p.0, p.1, p.2, r.first); order = r.order; room = r.room; last = r.last }

-- the span that stands there
pub placed_is : (spans : List Span) (count x : ℕ) (s : Span) → ArePacked 0 spans count → x < length spans → s ≡ get_or spans x s → IsPlaced 0 count s
placed_is spans count x s p l e = subst (IsPlaced 0 count) (sym e) (placed 0 spans count x s p l)

-- its row
pub row_is : {A : Type 0} (items : List A) (spans : List Span) (x : ℕ) (s : Span) → x < length spans → s ≡ get_or spans x s → get_or (map (span_in items) spans) x [] ≡ span_in items s
row_is items spans x s l e = get_or-map (span_in items) spans x s [] l ∙ ap (span_in items) (sym e)

-- an entry behind a row, or before it, does not change it
span_after : {A : Type 0} (items : List A) (p : ℕ) (v : A) (s : Span) → s.to ≤ p → span_in (set items p v) s ≡ span_in items s
span_after items p v s l =
    between_is (set items p v) s.from s.to ∙ (ap (drop s.from) (take-set-le s.to items p v l) ∙ sym (between_is items s.from s.to))

rows_before : {A : Type 0} (items : List A) (p : ℕ) (v : A) (start : ℕ) (spans : List Span) (count : ℕ) → ArePacked start spans count → p < start → map (span_in (set items p v)) spans ≡ map (span_in items) spans
rows_before items p v start [] count h l = refl
rows_before items p v start (s ∷ spans) count h l =
    ap₂ (λ r rs. r ∷ rs) (ap (take (s.to - s.from)) (drop-set-lt s.from items p v (omega (arith, l, h.0)))) (rows_before items p v s.limit spans count h.3 (omega (arith, l, h.0, h.1, h.2)))

span_grown : {A : Type 0} (items : List A) (v : A) (s : Span) → s.from ≤ s.to → s.to < length items → span_in (set items s.to v) (grown s) ≡ span_in items s ++ v ∷ []
span_grown items v s f l =
    between_more (set items s.to v) s.from s.to v f (omega (arith, length-set items s.to v, l))
    ∙ ap₂ (λ r w. r ++ w ∷ []) (span_after items s.to v s (omega arith)) (get_or-set_same items s.to v v l)

rows_put_from : {A : Type 0} (items : List A) (v : A) (start : ℕ) (spans : List Span) (x : ℕ) (s : Span) → ArePacked start spans (length items) → x < length spans → s ≡ get_or spans x s → s.to < s.limit → map (span_in (set items s.to v)) (set spans x (grown s)) ≡ set (map (span_in items) spans) x (span_in items s ++ v ∷ [])
rows_put_from items v start [] x s p l e m = absurd (omega (arith, l))
rows_put_from items v start (t ∷ spans) zero s p l e m =
    let limit : s.limit ≡ t.limit = ap (λ r. r.limit) e in
    let order : s.from ≤ s.to = subst (λ r. r.from ≤ r.to) (sym e) p.1 in
    let end : s.to < length items = omega (arith, m, limit, packed_le t.limit spans (length items) p.3) in
    ap₂ (λ r rs. r ∷ rs) (span_grown items v s order end) (rows_before items s.to v t.limit spans (length items) p.3 (omega (arith, m, limit)))
rows_put_from items v start (t ∷ spans) (suc x) s p l e m =
    let r : IsPlaced t.limit (length items) s = subst (IsPlaced t.limit (length items)) (sym e) (placed t.limit spans (length items) x s p.3 (omega (arith, l))) in
    ap₂ (λ r rs. r ∷ rs) (span_after items s.to v t (omega (arith, p.2, r.first, r.order))) (rows_put_from items v t.limit spans x s p.3 (omega (arith, l)) e m)

-- one entry in the place behind a row that has room
pub rows_put : {A : Type 0} (items : List A) (v : A) (spans : List Span) (x : ℕ) (s : Span) → ArePacked 0 spans (length items) → x < length spans → s ≡ get_or spans x s → s.to < s.limit → map (span_in (set items s.to v)) (set spans x (grown s)) ≡ set (map (span_in items) spans) x (get_or (map (span_in items) spans) x [] ++ v ∷ [])
rows_put items v spans x s p l e m =
    rows_put_from items v 0 spans x s p l e m ∙ ap (λ r. set (map (span_in items) spans) x (r ++ v ∷ [])) (sym (row_is items spans x s l e))

pub packed_put : (start : ℕ) (spans : List Span) (count x : ℕ) (s : Span) → ArePacked start spans count → s ≡ get_or spans x s → s.to < s.limit → ArePacked start (set spans x (grown s)) count
packed_put start [] count x s p e m = p
packed_put start (t ∷ spans) count zero s p e m =
    let first : start ≤ s.from = subst (λ r. start ≤ r.from) (sym e) p.0 in
    let order : s.from ≤ s.to = subst (λ r. r.from ≤ r.to) (sym e) p.1 in
    (first, omega (arith, order), omega (arith, m), subst (λ r. ArePacked r.limit spans count) (sym e) p.3)
packed_put start (t ∷ spans) count (suc x) s p e m = (p.0, p.1, p.2, packed_put t.limit spans count x s p.3 e m)

pub room_put : (spans : List Span) (x : ℕ) (s : Span) → s ≡ get_or spans x s → map room_in (set spans x (grown s)) ≡ map room_in spans
room_put spans x s e = map-set_same room_in spans x (grown s) s (ap room_in e)

-- a row that is shorter than its room may grow
pub has_room : {A : Type 0} (items : List A) (spans : List Span) (x : ℕ) (s : Span) → ArePacked 0 spans (length items) → x < length spans → s ≡ get_or spans x s → length (get_or (map (span_in items) spans) x []) < get_or (map room_in spans) x 0 → s.to < s.limit
has_room items spans x s p l e m =
    let r = placed_is spans (length items) x s p l e in
    let long : length (get_or (map (span_in items) spans) x []) ≡ s.to - s.from = ap length (row_is items spans x s l e) ∙ length-between items s.from s.to (omega (arith, r.room, r.last)) in
    let room : get_or (map room_in spans) x 0 ≡ s.limit - s.from = get_or-map room_in spans x s 0 l ∙ ap room_in (sym e) in
    omega (arith, long, room, m, r.order)

span_at_is : (spans : List Span) (x : ℕ) → x < length spans → span_at spans x ≡ get_or spans x (span_at spans x)
span_at_is spans x l = get_or_default spans x (record { from = 0; to = 0; limit = 0 }) (span_at spans x) l

module _ (spans : List Span) (count x : ℕ) (p : ArePacked 0 spans count) (l : x < length spans) where
  pub order_at : (span_at spans x).from ≤ (span_at spans x).to
  order_at = (placed 0 spans count x (record { from = 0; to = 0; limit = 0 }) p l).order

  pub end_at : (span_at spans x).to ≤ count
  end_at = let r = placed 0 spans count x (record { from = 0; to = 0; limit = 0 }) p l in omega (arith, r.room, r.last)

  pub limit_at : (span_at spans x).limit ≤ count
  limit_at = (placed 0 spans count x (record { from = 0; to = 0; limit = 0 }) p l).last

pub row_at : {A : Type 0} (items : List A) (spans : List Span) (x : ℕ) → x < length spans → span_in items (span_at spans x) ≡ get_or (map (span_in items) spans) x []
row_at items spans x l = sym (row_is items spans x (span_at spans x) l (span_at_is spans x l))

-- one entry is put behind the row of x
module _ {A : Type 0} (items : List A) (v : A) (spans : List Span) (x : ℕ) (p : ArePacked 0 spans (length items)) (l : x < length spans) (m : length (get_or (map (span_in items) spans) x []) < get_or (map room_in spans) x 0) where
  pub put_room : (span_at spans x).to < (span_at spans x).limit
  put_room = has_room items spans x (span_at spans x) p l (span_at_is spans x l) m

  pub put_within : (span_at spans x).to < length items
  put_within = omega (arith, put_room, limit_at spans (length items) x p l)

  pub put_packed : ArePacked 0 (set spans x (grown (span_at spans x))) (length (set items (span_at spans x).to v))
  put_packed = subst (ArePacked 0 (set spans x (grown (span_at spans x)))) (sym (length-set items (span_at spans x).to v)) (packed_put 0 spans (length items) x (span_at spans x) p (span_at_is spans x l) put_room)

  pub put_rows : map (span_in (set items (span_at spans x).to v)) (set spans x (grown (span_at spans x))) ≡ set (map (span_in items) spans) x (get_or (map (span_in items) spans) x [] ++ v ∷ [])
  put_rows = rows_put items v spans x (span_at spans x) p l (span_at_is spans x l) put_room

  pub put_rooms : map room_in (set spans x (grown (span_at spans x))) ≡ map room_in spans
  put_rooms = room_put spans x (span_at spans x) (span_at_is spans x l)
