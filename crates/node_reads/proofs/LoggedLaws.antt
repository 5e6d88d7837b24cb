-- What is noted in rows, and where the rows stand.
use Rattle.std.proofs.Common.{◌≡◌, ◌≢◌, ℕ, zero, suc, ◌+◌, ◌-◌, ◌<◌, ◌≤◌, min, ◌⊎◌, inl, inr, Bool, true, false, cond, eqb, ltb, ◌&&◌, List, [], ◌∷◌, ◌++◌, length, map, refl, sym, ◌∙◌, ap, subst, arith, get_or, set, take, drop, replicate, append-nil}
use Rattle.std.specs.Prelude.{slice_index, slice_range, Option, Some, slice_get}
use Rattle.std.specs.List.{range_with_len}
use Rattle.std.proofs.lemmas.Bool.{eq-eqb, ne_eqb, cases_eq, cases_order, lt-ltb, le-ltb}
use Rattle.std.proofs.lemmas.List.{take_more, take_all, length_push, length-append, get_or_push, get_or_append_left, get_or-set_same, get_or-set_other, length-set, get_or-map, get_or_default, length-drop, take-append-drop, map-append}
use Rattle.std.proofs.lemmas.List.FromFn.{get_or-range_with_len, length-range_with_len}
use Rattle.std.proofs.lemmas.List.Elements.{All-head, All-tail, All-push}
use Rattle.std.proofs.lemmas.Option.{slice_get_read}
use lib.Seq.{ext_get_or, get_or-drop, get_or-take, length-take-le}
use Rattle.node_reads.specs.declared.notes.Note.{Note}
use Rattle.node_reads.specs.declared.notes.Tally.{Tally}
use Rattle.node_reads.specs.Noting.{is_number, ends_in, noted}
use Rattle.node_reads.specs.Private.Logged.{row_of, rows_of, start_in, tally_of, tally_at, is_last, tallied, AreIn, AreTallies, AreStarts, AreEnds, AreLaid}
use Rattle.node_reads.proofs.Numbers.{numbers_more}

one : Bool → ℕ
one b = cond b 1 0

-- ---- one more note

pub own : Note → ℕ → List ℕ
own note x = cond (eqb note.row x) (note.number ∷ []) []

put_front : (b : Bool) (v : ℕ) (r t rt : List ℕ) → rt ≡ r ++ t → cond b (v ∷ rt) rt ≡ cond b (v ∷ r) r ++ t
put_front true v r t rt e = ap (λ (xs : List ℕ). v ∷ xs) e
put_front false v r t rt e = e

pub row_pushed : (log : List Note) (note : Note) (x : ℕ) → row_of (log ++ note ∷ []) x ≡ row_of log x ++ own note x
unfolding own
row_pushed [] note x = refl
row_pushed (n ∷ log) note x = put_front (eqb n.row x) n.number (row_of log x) (own note x) (row_of (log ++ note ∷ []) x) (row_pushed log note x)

pub own_here : (note : Note) (x : ℕ) → note.row ≡ x → own note x ≡ note.number ∷ []
unfolding own
own_here note x e = ap (λ (b : Bool). cond b (note.number ∷ []) []) (eq-eqb note.row x e)

pub own_none : (note : Note) (x : ℕ) → (note.row ≡ x → ⊥) → own note x ≡ []
unfolding own
own_none note x ne = ap (λ (b : Bool). cond b (note.number ∷ []) []) (ne_eqb note.row x ne)

pub pushed_here : (log : List Note) (note : Note) (x : ℕ) → note.row ≡ x → row_of (log ++ note ∷ []) x ≡ row_of log x ++ note.number ∷ []
pushed_here log note x e = row_pushed log note x ∙ ap (λ (r : List ℕ). row_of log x ++ r) (own_here note x e)

pub pushed_other : (log : List Note) (note : Note) (x : ℕ) → (note.row ≡ x → ⊥) → row_of (log ++ note ∷ []) x ≡ row_of log x
pushed_other log note x ne = row_pushed log note x ∙ (ap (λ (r : List ℕ). row_of log x ++ r) (own_none note x ne) ∙ append-nil (row_of log x))

-- no row is longer than all that was noted
front_few : (b : Bool) (v k : ℕ) (r : List ℕ) → length r ≤ k → length (cond b (v ∷ r) r) ≤ suc k
front_few true v k r h = omega (arith, h)
front_few false v k r h = omega (arith, h)

pub row_few : (log : List Note) (x : ℕ) → length (row_of log x) ≤ length log
row_few [] x = omega arith
row_few (n ∷ log) x = front_few (eqb n.row x) n.number (length log) (row_of log x) (row_few log x)

-- ---- rows as lists

pub row_in : (count : ℕ) (log : List Note) (x : ℕ) → x < count → get_or (rows_of count log) x [] ≡ row_of log x
row_in count log x l =
    let long = length-range_with_len 0 count in
    let plain : get_or (range_with_len 0 count) x 0 ≡ 0 + x = get_or-range_with_len 0 count x 0 l in
    let at : get_or (range_with_len 0 count) x 0 ≡ x = omega (arith, plain) in
    get_or-map (row_of log) (range_with_len 0 count) x 0 [] (omega (arith, l, long)) ∙ ap (row_of log) at

pub rows_long : (count : ℕ) (log : List Note) → length (rows_of count log) ≡ count
rows_long count log = go (range_with_len 0 count) ∙ length-range_with_len 0 count
  where
    go : (xs : List ℕ) → length (map (row_of log) xs) ≡ length xs
    go [] = refl
    go (x ∷ xs) = ap suc (go xs)

-- one more note makes its row longer
pub rows_pushed : (count : ℕ) (log : List Note) (note : Note) → note.row < count → rows_of count (log ++ note ∷ []) ≡ set (rows_of count log) note.row (row_of log note.row ++ note.number ∷ [])
rows_pushed count log note l =
    ext_get_or [] (rows_of count (log ++ note ∷ [])) (set (rows_of count log) note.row (row_of log note.row ++ note.number ∷ []))
    (rows_long count (log ++ note ∷ []) ∙ (sym (rows_long count log) ∙ sym (length-set (rows_of count log) note.row (row_of log note.row ++ note.number ∷ []))))
    (λ x h. at x (omega (arith, h, rows_long count (log ++ note ∷ []))) (cases_eq note.row x))
  where
    new : List ℕ
    new = row_of log note.row ++ note.number ∷ []

    at : (x : ℕ) → x < count → (note.row ≡ x) ⊎ (note.row ≡ x → ⊥) → get_or (rows_of count (log ++ note ∷ [])) x [] ≡ get_or (set (rows_of count log) note.row (row_of log note.row ++ note.number ∷ [])) x []
    at x h (inl e) =
        let there : get_or (set (rows_of count log) note.row (row_of log note.row ++ note.number ∷ [])) note.row [] ≡ row_of log note.row ++ note.number ∷ [] = get_or-set_same (rows_of count log) note.row (row_of log note.row ++ note.number ∷ []) [] (omega (arith, l, rows_long count log)) in
        row_in count (log ++ note ∷ []) x h ∙ (pushed_here log note x e ∙ (ap (λ (z : ℕ). row_of log z ++ note.number ∷ []) (sym e) ∙ (sym there ∙ ap (λ (z : ℕ). get_or (set (rows_of count log) note.row (row_of log note.row ++ note.number ∷ [])) z []) e)))
    at x h (inr ne) =
        row_in count (log ++ note ∷ []) x h
        ∙ (pushed_other log note x ne ∙ (sym (row_in count log x h) ∙ sym (get_or-set_other (rows_of count log) note.row x (row_of log note.row ++ note.number ∷ []) [] (λ q. ne (sym q)))))

-- as one that is put once into a row that ends in another number
pub rows_noted : (count : ℕ) (log : List Note) (x k : ℕ) → x < count → ends_in (row_of log x) k ≡ false → set (rows_of count log) x (row_of log x ++ k ∷ []) ≡ noted (rows_of count log) x k
rows_noted count log x k l e =
    let row = row_in count log x l in
    ap (λ (r : List ℕ). set (rows_of count log) x (r ++ k ∷ [])) (sym row) ∙ sym (ap (λ (b : Bool). cond b (rows_of count log) (set (rows_of count log) x (get_or (rows_of count log) x [] ++ k ∷ []))) (ap (λ (r : List ℕ). ends_in r k) row ∙ e))

pub rows_same : (count : ℕ) (log : List Note) (x k : ℕ) → x < count → ends_in (row_of log x) k ≡ true → rows_of count log ≡ noted (rows_of count log) x k
rows_same count log x k l e =
    sym (ap (λ (b : Bool). cond b (rows_of count log) (set (rows_of count log) x (get_or (rows_of count log) x [] ++ k ∷ []))) (ap (λ (r : List ℕ). ends_in r k) (row_in count log x l) ∙ e))

-- the rows of nothing
pub rows_none : (count : ℕ) → rows_of count [] ≡ map (λ (x : ℕ). []) (range_with_len 0 count)
rows_none count = refl

-- ---- tallies

there_is : (xs : List ℕ) (i : ℕ) → i < length xs → get_or xs i 0 ≡ get_or xs i (get_or xs i 0)
there_is xs i l = get_or_default xs i 0 (get_or xs i 0) l

-- the tally tells what the row ends in
pub last_of_tally : (row : List ℕ) (k : ℕ) → is_last (tally_of row) k ≡ ends_in row k
last_of_tally [] k = refl
last_of_tally (x ∷ row) k =
    let there : slice_get (x ∷ row) (length row) ≡ Some (get_or (x ∷ row) (length row) 0) = slice_get_read (x ∷ row) (suc (length row)) (length row) (get_or (x ∷ row) (length row) 0) refl (omega arith) (there_is (x ∷ row) (length row) (omega arith)) in
    let place : suc (length row) - 1 ≡ length row = omega arith in
    ap (λ (b : Bool). b && eqb (get_or (x ∷ row) (length (x ∷ row) - 1) 0) k) (lt-ltb 0 (min (length (x ∷ row)) 4294967295) (omega arith)) ∙ ap (λ (i : ℕ). eqb (get_or (x ∷ row) i 0) k) place ∙ sym (ap (λ (i : ℕ). is_number (slice_get (x ∷ row) i) k) place ∙ ap (λ (o : Option ℕ). is_number o k) there)

pub tally_pushed : (row : List ℕ) (k : ℕ) → tallied (tally_of row) k ≡ tally_of (row ++ k ∷ [])
tally_pushed row k =
    let long = length_push row k in
    let place : length (row ++ k ∷ []) - 1 ≡ length row = omega (arith, long) in
    let last : get_or (row ++ k ∷ []) (length (row ++ k ∷ []) - 1) 0 ≡ k = ap (λ (i : ℕ). get_or (row ++ k ∷ []) i 0) place ∙ get_or_push row k 0 (length row) refl in
    let count : min (length (row ++ k ∷ [])) 4294967295 ≡ min (min (length row) 4294967295 + 1) 4294967295 = omega (arith, long) in
    sym (ap (λ (c : ℕ). record { count = c; last = get_or (row ++ k ∷ []) (length (row ++ k ∷ []) - 1) 0 }) count ∙ ap (λ (v : ℕ). record { count = min (min (length row) 4294967295 + 1) 4294967295; last = v }) last)

-- all that was noted stands in rows that there are
in_pushed : (count : ℕ) (log : List Note) (note : Note) → AreIn count log → note.row < count → AreIn count (log ++ note ∷ [])
in_pushed count log note h l = All-push (λ (n : Note). n.row < count) log note h l

pub tallies_pushed : (tallies : List Tally) (log : List Note) (note : Note) → AreTallies tallies log → note.row < length tallies → length log + 1 < 18446744073709551616 → AreTallies (set tallies note.row (tallied (tally_at tallies note.row) note.number)) (log ++ note ∷ [])
tallies_pushed tallies log note h l few = record {
  rows = subst (λ (n : ℕ). AreIn n (log ++ note ∷ [])) (sym long) (in_pushed (length tallies) log note h.rows l);
  few = omega (arith, length_push log note, few);
  each = λ x within. at x (omega (arith, within, long)) (cases_eq note.row x);
}
  where
    new : Tally
    new = tallied (tally_at tallies note.row) note.number

    long : length (set tallies note.row (tallied (tally_at tallies note.row) note.number)) ≡ length tallies
    long = length-set tallies note.row (tallied (tally_at tallies note.row) note.number)

    at : (x : ℕ) → x < length tallies → (note.row ≡ x) ⊎ (note.row ≡ x → ⊥) → tally_at (set tallies note.row (tallied (tally_at tallies note.row) note.number)) x ≡ tally_of (row_of (log ++ note ∷ []) x)
    at x within (inl e) =
        let there : tally_at (set tallies note.row (tallied (tally_at tallies note.row) note.number)) note.row ≡ tallied (tally_at tallies note.row) note.number = get_or-set_same tallies note.row (tallied (tally_at tallies note.row) note.number) (record { count = 0; last = 0 }) l in
        ap (λ (z : ℕ). tally_at (set tallies note.row (tallied (tally_at tallies note.row) note.number)) z) (sym e)
        ∙ (there ∙ (ap (λ (t : Tally). tallied t note.number) (h.each note.row l) ∙ (tally_pushed (row_of log note.row) note.number ∙ ap tally_of (ap (λ (z : ℕ). row_of log z ++ note.number ∷ []) e ∙ sym (pushed_here log note x e)))))
    at x within (inr ne) =
        get_or-set_other tallies note.row x (tallied (tally_at tallies note.row) note.number) (record { count = 0; last = 0 }) (λ q. ne (sym q))
        ∙ (h.each x within ∙ ap tally_of (sym (pushed_other log note x ne)))

-- ---- where the rows begin

step_one : (a x : ℕ) → one (ltb a (suc x)) ≡ one (ltb a x) + one (eqb a x)
unfolding one
step_one a x = go (cases_order a x)
  where
    put : (b c d : Bool) → ltb a (suc x) ≡ b → ltb a x ≡ c → eqb a x ≡ d → cond b 1 0 ≡ cond c 1 0 + cond d 1 0 → cond (ltb a (suc x)) 1 0 ≡ cond (ltb a x) 1 0 + cond (eqb a x) 1 0
    put b c d p q r e = ap (λ (t : Bool). cond t 1 0) p ∙ (e ∙ sym (ap (λ (t : Bool). cond t 1 0 + cond (eqb a x) 1 0) q ∙ ap (λ (t : Bool). cond c 1 0 + cond t 1 0) r))

    go : (a ≡ x) ⊎ ((a < x) ⊎ (x < a)) → cond (ltb a (suc x)) 1 0 ≡ cond (ltb a x) 1 0 + cond (eqb a x) 1 0
    go (inl e) = put true false true (lt-ltb a (suc x) (omega (arith, e))) (le-ltb a x (omega (arith, e))) (eq-eqb a x e) refl
    go (inr (inl l)) = put true true false (lt-ltb a (suc x) (omega (arith, l))) (lt-ltb a x l) (ne_eqb a x (λ e. omega (arith, e, l))) refl
    go (inr (inr g)) = put false false false (le-ltb a (suc x) (omega (arith, g))) (le-ltb a x (omega (arith, g))) (ne_eqb a x (λ e. omega (arith, e, g))) refl

unfolded : (a x : ℕ) → cond (ltb a (suc x)) 1 0 ≡ cond (ltb a x) 1 0 + cond (eqb a x) 1 0
unfolding one
unfolded a x = step_one a x

front_one : (b : Bool) (v : ℕ) (r : List ℕ) → length (cond b (v ∷ r) r) ≡ cond b 1 0 + length r
front_one true v r = omega arith
front_one false v r = omega arith

-- the next row begins where row x ends
pub start_more : (log : List Note) (x : ℕ) → start_in log (suc x) ≡ start_in log x + length (row_of log x)
start_more [] x = refl
start_more (n ∷ log) x = omega (arith, front_one (eqb n.row x) n.number (row_of log x), start_more log x, unfolded n.row x)

pub start_none : (log : List Note) → start_in log 0 ≡ 0
start_none [] = refl
start_none (n ∷ log) =
    let none : cond (ltb n.row 0) 1 0 ≡ 0 = ap {B = ℕ} (λ (b : Bool). cond b 1 0) (le-ltb n.row 0 (omega arith)) in
    omega (arith, none, start_none log)

pub start_grows : (log : List Note) (x k : ℕ) → start_in log x ≤ start_in log (x + k)
start_grows log x zero =
    let e : x + 0 ≡ x = omega arith in
    omega (arith, ap (λ (z : ℕ). start_in log z) e)
start_grows log x (suc k) =
    let e : x + suc k ≡ suc (x + k) = omega arith in
    omega (arith, ap (λ (z : ℕ). start_in log z) e, start_more log (x + k), start_grows log x k)

-- a row ends before a later one begins
pub rows_apart : (log : List Note) (x z : ℕ) → x < z → start_in log x + length (row_of log x) ≤ start_in log z
rows_apart log x z h =
    let e : suc x + (z - suc x) ≡ z = omega (arith, h) in
    omega (arith, ap (λ (z : ℕ). start_in log z) e, start_more log x, start_grows log (suc x) (z - suc x))

-- all rows together have all that was noted
pub start_all : (count : ℕ) (log : List Note) → AreIn count log → start_in log count ≡ length log
start_all count [] h = refl
start_all count (n ∷ log) h =
    let l : n.row < count = All-head (λ (note : Note). note.row < count) n log h in
    let here : cond (ltb n.row count) 1 0 ≡ 1 = ap {B = ℕ} (λ (b : Bool). cond b 1 0) (lt-ltb n.row count l) in
    omega (arith, here, start_all count log (All-tail (λ (note : Note). note.row < count) n log h))

pub row_within : (count : ℕ) (log : List Note) (x : ℕ) → AreIn count log → x < count → start_in log x + length (row_of log x) ≤ length log
row_within count log x h l = omega (arith, rows_apart log x count l, start_all count log h)

-- ---- the rows of what was put first

-- one more note was put
pub taken_more : (log : List Note) (k : ℕ) (note : Note) (x : ℕ) → k < length log → note ≡ get_or log k note → row_of (take (k + 1) log) x ≡ row_of (take k log) x ++ own note x
taken_more log k note x l e =
    ap (λ (l : List Note). row_of l x) (take_more log k note l) ∙ (row_pushed (take k log) (get_or log k note) x ∙ ap (λ (n : Note). row_of (take k log) x ++ own n x) (sym e))

-- the row of what is put in the end begins with it
row_appended : (xs ys : List Note) (x : ℕ) → row_of (xs ++ ys) x ≡ row_of xs x ++ row_of ys x
row_appended [] ys x = refl
row_appended (n ∷ xs) ys x = put_front (eqb n.row x) n.number (row_of xs x) (row_of ys x) (row_of (xs ++ ys) x) (row_appended xs ys x)

pub row_split : (log : List Note) (k x : ℕ) → row_of log x ≡ row_of (take k log) x ++ row_of (drop k log) x
row_split log k x = ap (λ (l : List Note). row_of l x) (sym (take-append-drop k log)) ∙ row_appended (take k log) (drop k log) x

-- and is longer than it, where the next note is of this row
pub row_longer : (log : List Note) (k : ℕ) (note : Note) → k < length log → note ≡ get_or log k note → length (row_of (take k log) note.row) < length (row_of log note.row)
row_longer log k note l e =
    let more : row_of (take (k + 1) log) note.row ≡ row_of (take k log) note.row ++ note.number ∷ [] = taken_more log k note note.row l e ∙ ap (λ (r : List ℕ). row_of (take k log) note.row ++ r) (own_here note note.row refl) in
    omega (
      arith,
      ap length more,
      length_push (row_of (take k log) note.row) note.number,
      ap length (row_split log (k + 1) note.row),
      length-append (row_of (take (k + 1) log) note.row) (row_of (drop (k + 1) log) note.row),
    )

-- the first k notes stand where they will stand, and each row's place is behind those of them that are its own
pub record ArePut (count : ℕ) (log : List Note) (k : ℕ) (places flat : List ℕ) : Type 0 where
  pub within : k ≤ length log
  pub places_long : length places ≡ count
  pub flat_long : length flat ≡ length log
  pub place : (x : ℕ) → x < count → slice_index places x ≡ start_in log x + length (row_of (take k log) x)
  pub each : (x j : ℕ) → x < count → j < length (row_of (take k log) x) → slice_index flat (start_in log x + j) ≡ slice_index (row_of (take k log) x) j

pub put_none : (count : ℕ) (log : List Note) (places flat : List ℕ) → AreStarts count log places → length flat ≡ length log → ArePut count log 0 places flat
put_none count log places flat starts long = record {
  within = omega arith;
  places_long = starts.long;
  flat_long = long;
  place = λ x h. omega (arith, starts.each x h);
  each = λ x j h l. absurd (omega (arith, l));
}

-- the place of the next note is one of the list
pub place_within : (count : ℕ) (log : List Note) (k : ℕ) (places flat : List ℕ) (note : Note) → ArePut count log k places flat → AreIn count log → k < length log → note ≡ get_or log k note → note.row < count → slice_index places note.row < length flat
place_within count log k places flat note put rows l e h =
    omega (arith, put.place note.row h, row_longer log k note l e, row_within count log note.row rows h, put.flat_long)

module _ (count : ℕ) (log : List Note) (k : ℕ) (places flat : List ℕ) (note : Note) (put : ArePut count log k places flat) (rows : AreIn count log) (l : k < length log) (e : note ≡ get_or log k note) (h : note.row < count) where
  longer : length (row_of (take (k + 1) log) note.row) ≡ length (row_of (take k log) note.row) + 1
  longer = ap length (taken_more log k note note.row l e ∙ ap (λ (r : List ℕ). row_of (take k log) note.row ++ r) (own_here note note.row refl)) ∙ length_push (row_of (take k log) note.row) note.number

  more_here : row_of (take (k + 1) log) note.row ≡ row_of (take k log) note.row ++ note.number ∷ []
  more_here = taken_more log k note note.row l e ∙ ap (λ (r : List ℕ). row_of (take k log) note.row ++ r) (own_here note note.row refl)

  more_other : (x : ℕ) → (note.row ≡ x → ⊥) → row_of (take (k + 1) log) x ≡ row_of (take k log) x
  more_other x ne = taken_more log k note x l e ∙ (ap (λ (r : List ℕ). row_of (take k log) x ++ r) (own_none note x ne) ∙ append-nil (row_of (take k log) x))

  -- no other row has a place there
  apart : (x j : ℕ) → x < count → j < length (row_of (take k log) x) → (note.row ≡ x → ⊥) → start_in log x + j ≢ slice_index places note.row
  apart x j hx hj ne = go (cases_order note.row x)
    where
      there : slice_index places note.row ≡ start_in log note.row + length (row_of (take k log) note.row)
      there = put.place note.row h

      few : length (row_of (take k log) x) ≤ length (row_of log x)
      few = omega (arith, ap length (row_split log k x), length-append (row_of (take k log) x) (row_of (drop k log) x))

      go : (note.row ≡ x) ⊎ ((note.row < x) ⊎ (x < note.row)) → start_in log x + j ≢ slice_index places note.row
      go (inl q) = λ same. ne q
      go (inr (inl before)) = λ same. omega (arith, same, there, row_longer log k note l e, rows_apart log note.row x before)
      go (inr (inr after)) = λ same. omega (arith, same, there, hj, few, rows_apart log x note.row after)

  pub put_more : ArePut count log (k + 1) (set places note.row (slice_index places note.row + 1)) (set flat (slice_index places note.row) note.number)
  put_more = record {
    within = omega (arith, l);
    places_long = length-set places note.row (slice_index places note.row + 1) ∙ put.places_long;
    flat_long = length-set flat (slice_index places note.row) note.number ∙ put.flat_long;
    place = λ x hx. place_at x hx (cases_eq note.row x);
    each = λ x j hx hj. each_at x j hx hj (cases_eq note.row x);
  }
    where
      place_at : (x : ℕ) → x < count → (note.row ≡ x) ⊎ (note.row ≡ x → ⊥) → slice_index (set places note.row (slice_index places note.row + 1)) x ≡ start_in log x + length (row_of (take (k + 1) log) x)
      place_at x hx (inl q) =
          let new : slice_index (set places note.row (slice_index places note.row + 1)) note.row ≡ slice_index places note.row + 1 = get_or-set_same places note.row (slice_index places note.row + 1) 0 (omega (arith, h, put.places_long)) in
          subst (λ (z : ℕ). slice_index (set places note.row (slice_index places note.row + 1)) z ≡ start_in log z + length (row_of (take (k + 1) log) z)) q (omega (arith, new, put.place note.row h, longer))
      place_at x hx (inr ne) =
          get_or-set_other places note.row x (slice_index places note.row + 1) 0 (λ q. ne (sym q)) ∙ (put.place x hx ∙ ap (λ (r : List ℕ). start_in log x + length r) (sym (more_other x ne)))

      flat_there : slice_index (set flat (slice_index places note.row) note.number) (slice_index places note.row) ≡ note.number
      flat_there = get_or-set_same flat (slice_index places note.row) note.number 0 (place_within count log k places flat note put rows l e h)

      own_at : (j : ℕ) → j < length (row_of (take (k + 1) log) note.row) → (j ≡ length (row_of (take k log) note.row)) ⊎ (j ≡ length (row_of (take k log) note.row) → ⊥) → slice_index (set flat (slice_index places note.row) note.number) (start_in log note.row + j) ≡ slice_index (row_of (take (k + 1) log) note.row) j
      own_at j hj (inl q) =
          let place : start_in log note.row + j ≡ slice_index places note.row = omega (arith, q, put.place note.row h) in
          let last : slice_index (row_of (take k log) note.row ++ note.number ∷ []) j ≡ note.number = get_or_push (row_of (take k log) note.row) note.number 0 j (sym q) in
          ap (λ (i : ℕ). slice_index (set flat (slice_index places note.row) note.number) i) place ∙ (flat_there ∙ sym (ap (λ (r : List ℕ). slice_index r j) more_here ∙ last))
      own_at j hj (inr ne) =
          let before : j < length (row_of (take k log) note.row) = omega (arith, hj, longer, ne) in
          let other : start_in log note.row + j ≢ slice_index places note.row = λ same. omega (arith, same, put.place note.row h, before) in
          get_or-set_other flat (slice_index places note.row) (start_in log note.row + j) note.number 0 other
          ∙ (put.each note.row j h before ∙ sym (ap (λ (r : List ℕ). slice_index r j) more_here ∙ get_or_append_left (row_of (take k log) note.row) (note.number ∷ []) 0 j before))

      each_at : (x j : ℕ) → x < count → j < length (row_of (take (k + 1) log) x) → (note.row ≡ x) ⊎ (note.row ≡ x → ⊥) → slice_index (set flat (slice_index places note.row) note.number) (start_in log x + j) ≡ slice_index (row_of (take (k + 1) log) x) j
      each_at x j hx hj (inl q) =
          let mine : j < length (row_of (take (k + 1) log) note.row) = subst (λ (z : ℕ). j < length (row_of (take (k + 1) log) z)) (sym q) hj in
          subst (λ (z : ℕ). slice_index (set flat (slice_index places note.row) note.number) (start_in log z + j) ≡ slice_index (row_of (take (k + 1) log) z) j) q (own_at j mine (cases_eq j (length (row_of (take k log) note.row))))
      each_at x j hx hj (inr ne) =
          let before : j < length (row_of (take k log) x) = omega (arith, hj, ap length (more_other x ne)) in
          get_or-set_other flat (slice_index places note.row) (start_in log x + j) note.number 0 (apart x j hx before ne)
          ∙ (put.each x j hx before ∙ ap (λ (r : List ℕ). slice_index r j) (sym (more_other x ne)))

abbrev pub no_note : Note
no_note = record { row = 0; number = 0 }

-- how many of the first k notes are in row x
own_long : (note : Note) (x : ℕ) → length (own note x) ≡ cond (eqb note.row x) 1 0
unfolding own
own_long note x = go (eqb note.row x)
  where
    go : (b : Bool) → length (cond b (note.number ∷ []) []) ≡ cond b 1 0
    go true = refl
    go false = refl

pub counted_more : (log : List Note) (k x count more : ℕ) → k < length log → count ≡ length (row_of (take k log) x) → more ≡ cond (eqb (get_or log k no_note).row x) 1 0 → count + more ≡ length (row_of (take (k + 1) log) x)
counted_more log k x count more l before is =
    let note = get_or log k no_note in
    omega (
      arith,
      before,
      is,
      ap length (taken_more log k note x l (get_or_default log k no_note note l)),
      length-append (row_of (take k log) x) (own note x),
      own_long note x,
    )

pub counted_few : (log : List Note) (k x : ℕ) → k < length log → length (row_of (take (k + 1) log) x) ≤ length log
counted_few log k x l = omega (arith, l, row_few (take (k + 1) log) x, length-take-le (k + 1) log (omega (arith, l)))

pub counted_all : (log : List Note) (k x : ℕ) → length log ≤ k → length (row_of (take k log) x) ≡ length (row_of log x)
counted_all log k x h = ap (λ (l : List Note). length (row_of l x)) (take_all k log h)

pub put_next : (count : ℕ) (log : List Note) (k : ℕ) (places flat : List ℕ) (at : ℕ) → ArePut count log k places flat → AreIn count log → k < length log → at ≡ slice_index places (get_or log k no_note).row → ArePut count log (k + 1) (set places (get_or log k no_note).row (at + 1)) (set flat at (get_or log k no_note).number)
put_next count log k places flat at put rows l e =
    subst (λ (a : ℕ). ArePut count log (k + 1) (set places (get_or log k no_note).row (a + 1)) (set flat a (get_or log k no_note).number)) (sym e)
    (put_more count log k places flat (get_or log k no_note) put rows l (get_or_default log k no_note (get_or log k no_note) l) (rows k no_note l))

pub at_within : (count : ℕ) (log : List Note) (k : ℕ) (places flat : List ℕ) (at : ℕ) → ArePut count log k places flat → AreIn count log → k < length log → at ≡ slice_index places (get_or log k no_note).row → at < length flat
at_within count log k places flat at put rows l e =
    omega (arith, e, place_within count log k places flat (get_or log k no_note) put rows l (get_or_default log k no_note (get_or log k no_note) l) (rows k no_note l))

-- all are put
pub put_all_ends : (count : ℕ) (log : List Note) (k : ℕ) (places flat : List ℕ) → ArePut count log k places flat → length log ≤ k → AreEnds count log places
put_all_ends count log k places flat put h =
    let all : take k log ≡ log = take_all k log h in
    record {
      long = put.places_long;
      each = λ x l. put.place x l ∙ (ap (λ (log' : List Note). start_in log x + length (row_of log' x)) all ∙ sym (start_more log x));
    }

pub put_all_laid : (count : ℕ) (log : List Note) (k : ℕ) (places flat : List ℕ) → ArePut count log k places flat → length log ≤ k → AreLaid count log flat
put_all_laid count log k places flat put h =
    let all : take k log ≡ log = take_all k log h in
    record {
      long = put.flat_long;
      each = λ x j l lj. subst (λ (log' : List Note). j < length (row_of log' x) → slice_index flat (start_in log x + j) ≡ slice_index (row_of log' x) j) all (put.each x j l) lj;
    }

-- ---- rows cut out of the list

front_same : (ys zs : List ℕ) → length ys ≤ length zs → ((j : ℕ) → j < length ys → get_or zs j 0 ≡ get_or ys j 0) → take (length ys) zs ≡ ys
front_same ys zs l e =
    let long : length (take (length ys) zs) ≡ length ys = length-take-le (length ys) zs l in
    ext_get_or 0 (take (length ys) zs) ys long (λ j h. get_or-take (length ys) zs j 0 (omega (arith, h, long)) ∙ e j (omega (arith, h, long)))

-- what stands from where row x begins to where it ends is row x
pub row_cut : (count : ℕ) (log : List Note) (flat : List ℕ) (x from to : ℕ) → AreIn count log → AreLaid count log flat → x < count → from ≡ start_in log x → to ≡ start_in log (suc x) → slice_range flat from to ≡ row_of log x
row_cut count log flat x from to rows laid l f t =
    let long : to - from ≡ length (row_of log x) = omega (arith, f, t, start_more log x) in
    let room : length (row_of log x) ≤ length (drop from flat) = omega (arith, length-drop from flat, f, row_within count log x rows l, laid.long) in
    let same : take (length (row_of log x)) (drop from flat) ≡ row_of log x = front_same (row_of log x) (drop from flat) room (λ j h. get_or-drop from flat j 0 ∙ (ap (λ (a : ℕ). get_or flat (a + j) 0) f ∙ laid.each x j l h)) in
    ap (λ (m : ℕ). take m (drop from flat)) long ∙ same

pub rows_more : (log : List Note) (x : ℕ) → rows_of (x + 1) log ≡ rows_of x log ++ row_of log x ∷ []
rows_more log x =
    let e : x + 1 ≡ suc x = omega arith in
    ap (λ (k : ℕ). rows_of k log) e ∙ (ap (map (row_of log)) (numbers_more x) ∙ map-append (row_of log) (range_with_len 0 x) (x ∷ []))

-- ---- for the functions

none_in_rows : (xs : List ℕ) → map (row_of []) xs ≡ replicate (length xs) []
none_in_rows [] = refl
none_in_rows (x ∷ xs) = ap (λ (rows : List (List ℕ)). [] ∷ rows) (none_in_rows xs) ∙ sym (replicate_suc (length xs))
  where
    replicate_suc : (n : ℕ) → replicate (suc n) [] ≡ [] ∷ replicate {A = List ℕ} n []
    replicate_suc n = refl

pub rows_empty : (n count : ℕ) (log : List Note) → log ≡ [] → n ≡ count → rows_of n log ≡ replicate count []
rows_empty n count log none e =
    ap (rows_of n) none ∙ (none_in_rows (range_with_len 0 n) ∙ ap (λ (m : ℕ). replicate {A = List ℕ} m []) (length-range_with_len 0 n ∙ e))

-- what the tally of row x tells of its end
pub tells_last : (tallies : List Tally) (log : List Note) (x k : ℕ) (t : Tally) → AreTallies tallies log → x < length tallies → t ≡ get_or tallies x t → is_last t k ≡ ends_in (row_of log x) k
tells_last tallies log x k t h l e =
    ap (λ (u : Tally). is_last u k) (e ∙ (get_or_default tallies x t (record { count = 0; last = 0 }) l ∙ h.each x l)) ∙ last_of_tally (row_of log x) k

pub starts_pushed : (log : List Note) (starts after : List ℕ) (x next : ℕ) → length starts ≡ x → after ≡ starts ++ next ∷ [] → next ≡ start_in log x → ((z : ℕ) → z < x → slice_index starts z ≡ start_in log z) → (z : ℕ) → z < x + 1 → slice_index after z ≡ start_in log z
starts_pushed log starts after x next long e n before z l = ap (λ (xs : List ℕ). slice_index xs z) e ∙ go (cases_eq z x)
  where
    go : (z ≡ x) ⊎ (z ≡ x → ⊥) → slice_index (starts ++ next ∷ []) z ≡ start_in log z
    go (inl q) = get_or_push starts next 0 z (long ∙ sym q) ∙ (n ∙ ap (λ (y : ℕ). start_in log y) (sym q))
    go (inr ne) = get_or_append_left starts (next ∷ []) 0 z (omega (arith, long, l, ne)) ∙ before z (omega (arith, l, ne))
