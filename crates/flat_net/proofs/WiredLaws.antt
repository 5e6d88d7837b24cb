-- One element more whose pins are net numbers.
use Rattle.std.proofs.Common.{◌≡◌, ℕ, ◌+◌, ◌-◌, ◌≤◌, not, if◌then◌else◌, List, [], ◌∷◌, ◌++◌, length, map, drop, refl, sym, ap, ◌∙◌, subst, zero-add, arith}
use Rattle.std.specs.Prelude.{slice_range, count_by}
use Rattle.std.specs.List.{flat_map}
use Rattle.std.proofs.lemmas.List.{length-map, length-append, map-append, append-nil, take-append-le, drop-append-le, length-drop}
use Rattle.std.proofs.lemmas.List.Sums.{sum_by-append, count_by-le-length}
use Rattle.std.proofs.lemmas.List.Concat.{flat_map-append}
use Rattle.std.proofs.Math.Seq.{drop-append_seam, take-length}
use Rattle.flat_net.specs.declared.nodes.Body.{Body}
use Rattle.flat_net.specs.Net.{Node, is_register}
use Rattle.flat_net.specs.Draft.{Element, TableOf, LatchOf, out_of, reads_of}
use Rattle.flat_net.specs.First.{HasNone, IsFirst}
use Rattle.flat_net.specs.Faults.{is_among, is_no_net, number_in, node_of_element}
use Rattle.flat_net.specs.Packed.{node_from, nodes_from, HasPins, AreEnds}
use Rattle.flat_net.specs.Private.Bodies.{body_of}
use Rattle.flat_net.specs.Private.Wired.{AreWires}
use Rattle.flat_net.proofs.Firsts.{none_nil, none_append, first_after, first_more}
use Rattle.flat_net.proofs.PackedLaws.{from_le_count}

pub AreEnds-push : (from : ℕ) (bodies : List Body) (body : Body) (ends : List ℕ) (n m : ℕ) → AreEnds from bodies ends n → HasPins body n (n + m) → AreEnds from (bodies ++ body ∷ []) (ends ++ (n + m) ∷ []) (n + m)
AreEnds-push from [] body [] n m a has = (omega arith, subst (λ k. HasPins body k (n + m)) (sym a) has, refl)
AreEnds-push from [] body (end ∷ ends) n m a has = absurd a
AreEnds-push from (b ∷ bodies) body [] n m a has = absurd a
AreEnds-push from (b ∷ bodies) body (end ∷ ends) n m a has = (a.0, a.1, AreEnds-push end bodies body ends n m a.2 has)

range-append : (from end : ℕ) (items row : List ℕ) → from ≤ end → end ≤ length items → slice_range (items ++ row) from end ≡ slice_range items from end
range-append from end items row f h =
    rw (drop-append-le from items row (omega arith)) (take-append-le (end - from) (drop from items) row (omega (arith, length-drop from items)))

range-last : (items row : List ℕ) → slice_range (items ++ row) (length items) (length items + length row) ≡ row
range-last items row = rw (drop-append_seam items row) (rw (let e : (length items + length row) - length items ≡ length row = omega arith in e) (take-length row))

-- one node more
pub nodes_from-push : (from : ℕ) (names : List (List ℕ)) (name : List ℕ) (bodies : List Body) (body : Body) (ends pins row : List ℕ) → length names ≡ length bodies → AreEnds from bodies ends (length pins) → nodes_from from (names ++ name ∷ []) (bodies ++ body ∷ []) (ends ++ (length pins + length row) ∷ []) (pins ++ row) ≡ nodes_from from names bodies ends pins ++ node_from name body row ∷ []
nodes_from-push from [] name [] body [] pins row n a = rw (a, range-last pins row) refl
nodes_from-push from (x ∷ names) name [] body ends pins row n a = absurd (omega arith)
nodes_from-push from [] name [] body (end ∷ ends) pins row n a = absurd a
nodes_from-push from [] name (b ∷ bodies) body ends pins row n a = absurd (omega arith)
nodes_from-push from (x ∷ names) name (b ∷ bodies) body [] pins row n a = absurd a
nodes_from-push from (x ∷ names) name (b ∷ bodies) body (end ∷ ends) pins row n a =
    rw (range-append from end pins row a.0 (from_le_count end bodies ends (length pins) a.2), nodes_from-push end names name bodies body ends pins row (omega arith) a.2) refl

has_pins : (e : Element) (n : ℕ) → HasPins (body_of e) n (n + length (reads_of e))
has_pins (TableOf pins out cover) n = tt
has_pins (LatchOf pin out control init) n = refl

node_is : (keys : List (List ℕ)) (e : Element) → node_from (out_of e) (body_of e) (map (number_in keys) (reads_of e)) ≡ node_of_element keys e
node_is keys (TableOf pins out cover) = refl
node_is keys (LatchOf pin out control init) = refl

register_is : (keys : List (List ℕ)) (e : Element) → is_register (node_of_element keys e) ≡ is_register (node_of_element [] e)
register_is keys (TableOf pins out cover) = refl
register_is keys (LatchOf pin out control init) = refl

pub count_push : (xs : List Node) (x : Node) → count_by is_register (xs ++ x ∷ []) ≡ count_by is_register xs + (if is_register x then 1 else 0)
count_push xs x = sum_by-append (λ y. if is_register y then 1 else 0) xs (x ∷ []) ∙ ap (λ k. count_by is_register xs + k) (zero-add (if is_register x then 1 else 0))

pub wires_none : (keys : List (List ℕ)) → AreWires keys [] [] [] 0
wires_none keys = record { total = refl; cut = refl; nodes = refl; latches = refl; nets = none_nil (is_no_net keys) }

pub wires_more : (keys : List (List ℕ)) (done : List Element) (e : Element) (pins ends : List ℕ) (registers : ℕ) → AreWires keys done pins ends registers → HasNone (is_no_net keys) (reads_of e) →
    AreWires keys (done ++ e ∷ []) (pins ++ map (number_in keys) (reads_of e)) (ends ++ length (pins ++ map (number_in keys) (reads_of e)) ∷ []) (registers + (if is_register (node_of_element [] e) then 1 else 0))
wires_more keys done e pins ends registers w nets = record {
  total = length-append pins (map (number_in keys) (reads_of e)) ∙ (omega (arith, w.total, row, reads_length));
  cut = rw (more, map-append body_of done (e ∷ [])) (AreEnds-push 0 (map body_of done) (body_of e) ends (length pins) (length (reads_of e)) w.cut (has_pins e (length pins)));
  nodes = rw (more', map-append body_of done (e ∷ []), map-append out_of done (e ∷ []), map-append (node_of_element keys) done (e ∷ [])) (nodes_from-push 0 (map out_of done) (out_of e) (map body_of done) (body_of e) ends pins (map (number_in keys) (reads_of e)) (length-map done out_of ∙ sym (length-map done body_of)) w.cut ∙ same);
  latches = rw (map-append (node_of_element keys) done (e ∷ [])) (
      ap (λ k. k + (if is_register (node_of_element [] e) then 1 else 0)) w.latches
      ∙ (ap (λ b. count_by is_register (map (node_of_element keys) done) + (if b then 1 else 0)) (sym (register_is keys e))
      ∙ sym (count_push (map (node_of_element keys) done) (node_of_element keys e))));
  nets = rw (flat_map-append reads_of done (e ∷ [])) (none_append (λ name. not (is_among keys name)) (flat_map reads_of done) (reads_of e ++ []) w.nets (rw (append-nil (reads_of e)) nets));
}
  where
    row : length (map (number_in keys) (reads_of e)) ≡ length (reads_of e)
    row = length-map (reads_of e) (number_in keys)

    more : length (pins ++ map (number_in keys) (reads_of e)) ≡ length pins + length (reads_of e)
    more = omega (arith, length-append pins (map (number_in keys) (reads_of e)), row)

    more' : length (pins ++ map (number_in keys) (reads_of e)) ≡ length pins + length (map (number_in keys) (reads_of e))
    more' = length-append pins (map (number_in keys) (reads_of e))

    reads_length : length (flat_map reads_of (done ++ e ∷ [])) ≡ length (flat_map reads_of done) + length (reads_of e)
    reads_length = ap length (flat_map-append reads_of done (e ∷ [])) ∙ (length-append (flat_map reads_of done) (reads_of e ++ []) ∙ ap (λ k. length (flat_map reads_of done) + k) (ap length (append-nil (reads_of e))))

    same : nodes_from 0 (map out_of done) (map body_of done) ends pins ++ node_from (out_of e) (body_of e) (map (number_in keys) (reads_of e)) ∷ [] ≡ map (node_of_element keys) done ++ node_of_element keys e ∷ []
    same = rw (w.nodes, node_is keys e) refl

-- what is behind the next element only adds pins
pub room : (done rest all : List Element) (e : Element) → all ≡ done ++ e ∷ rest → length (flat_map reads_of done) + length (reads_of e) ≤ length (flat_map reads_of all)
room done rest all e split =
    let whole : length (flat_map reads_of all) ≡ length (flat_map reads_of done) + (length (reads_of e) + length (flat_map reads_of rest)) =
    ap (λ (es : List Element). length (flat_map reads_of es)) split
    ∙ (ap length (flat_map-append reads_of done (e ∷ rest))
    ∙ (length-append (flat_map reads_of done) (reads_of e ++ flat_map reads_of rest)
    ∙ ap (λ k. length (flat_map reads_of done) + k) (length-append (reads_of e) (flat_map reads_of rest)))) in
    omega arith

-- there are no more registers than elements
pub few_latches : (keys : List (List ℕ)) (done : List Element) (pins ends : List ℕ) (registers : ℕ) → AreWires keys done pins ends registers → registers ≤ length done
few_latches keys done pins ends registers w =
    omega (arith, w.latches, count_by-le-length is_register (map (node_of_element keys) done), length-map done (node_of_element keys))

-- the first name that is no net, among the pins of all elements
pub first_of_all : (keys : List (List ℕ)) (done rest all : List Element) (e : Element) (name : List ℕ) → all ≡ done ++ e ∷ rest → HasNone (is_no_net keys) (flat_map reads_of done) → IsFirst (is_no_net keys) (reads_of e) name → IsFirst (is_no_net keys) (flat_map reads_of all) name
first_of_all keys done rest all e name split none first =
    let f : IsFirst (is_no_net keys) (flat_map reads_of done ++ (reads_of e ++ flat_map reads_of rest)) name = first_after (λ x. not (is_among keys x)) (flat_map reads_of done) (reads_of e ++ flat_map reads_of rest) name none (first_more (is_no_net keys) (reads_of e) (flat_map reads_of rest) name first) in
    subst (λ (xs : List (List ℕ)). IsFirst (is_no_net keys) xs name) (sym (ap (λ (es : List Element). flat_map reads_of es) split ∙ flat_map-append reads_of done (e ∷ rest))) f
