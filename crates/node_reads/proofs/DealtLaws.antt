-- Notes dealt to blocks of rows.
use Rattle.std.proofs.Common.{◌≡◌, ℕ, zero, suc, ◌+◌, ◌-◌, ◌*◌, ◌/◌, ◌%◌, ◌<◌, ◌≤◌, min, ◌⊎◌, inl, inr, Bool, true, false, cond, eqb, List, [], ◌∷◌, ◌++◌, length, map, refl, sym, ◌∙◌, ap, subst, arith, get_or, set, take, drop, replicate}
use Rattle.std.specs.Prelude.{Vec}
use Rattle.std.specs.declared.alloc.Global.{Global}
use Rattle.std.specs.List.{range_with_len}
use Rattle.std.proofs.lemmas.Bool.{eq-eqb, ne_eqb, cases_eq}
use Rattle.std.proofs.lemmas.Nat.{div-add-mod', div-mul-add, mod-mul-add, mod_below}
use Rattle.std.proofs.lemmas.List.{take_more, take_all, get_or-set_same, get_or-set_other, length-set, length-drop, length-take, get_or-take, get_or-drop, get_or-replicate, length-replicate, ext_get_or, append-nil, append_assoc, map-append, map-set, length-map, get_or-map, replicate_more}
use Rattle.std.proofs.lemmas.List.FromFn.{length-map-range_with_len, get_or-map-range_with_len}
use Rattle.std.proofs.lemmas.List.Elements.{All-nil, All-cons, All-head, All-tail}
use Rattle.node_reads.specs.declared.notes.Note.{Note}
use Rattle.node_reads.specs.declared.notes.Tally.{Tally}
use Rattle.node_reads.specs.Private.Logged.{row_of, rows_of, tally_of, tally_at, AreIn, AreTallies}
use Rattle.node_reads.specs.Private.Dealt.{own_note, block_of, logs_of, AreDealt}
use Rattle.node_reads.proofs.LoggedLaws.{no_note}
use Rattle.node_reads.proofs.Numbers.{range_more, numbers_more}

-- ---- a row in its block

abbrev front_if : Bool → Note → List Note → List Note
front_if b note log = cond b (note ∷ log) log

number_is : (size b r j : ℕ) → r / size ≡ b → r % size ≡ j → r ≡ b * size + j
number_is size b r j e q = sym (div-add-mod' r size) ∙ (ap (λ (m : ℕ). m * size + r % size) e ∙ ap (λ (k : ℕ). b * size + k) q)

same_row : (size b r j : ℕ) → j < size → r / size ≡ b → eqb (r % size) j ≡ eqb r (b * size + j)
same_row size b r j h e = go (cases_eq (r % size) j)
  where
    go : (r % size ≡ j) ⊎ (r % size ≡ j → ⊥) → eqb (r % size) j ≡ eqb r (b * size + j)
    go (inl q) = eq-eqb (r % size) j q ∙ sym (eq-eqb r (b * size + j) (number_is size b r j e q))
    go (inr ne) = ne_eqb (r % size) j ne ∙ sym (ne_eqb r (b * size + j) (λ q. ne (ap (λ (k : ℕ). k % size) q ∙ mod-mul-add b size j h)))

row_step : (size b : ℕ) (n : Note) (log : List Note) (j : ℕ) → j < size → row_of (block_of size b log) j ≡ row_of log (b * size + j) → row_of (block_of size b (n ∷ log)) j ≡ row_of (n ∷ log) (b * size + j)
row_step size b n log j h before = go (cases_eq (n.row / size) b)
  where
    go : (n.row / size ≡ b) ⊎ (n.row / size ≡ b → ⊥) → row_of (block_of size b (n ∷ log)) j ≡ row_of (n ∷ log) (b * size + j)
    go (inl e) =
        ap (λ (t : Bool). row_of (front_if t (own_note size n) (block_of size b log)) j) (eq-eqb (n.row / size) b e)
        ∙ (ap (λ (t : Bool). cond t (n.number ∷ row_of (block_of size b log) j) (row_of (block_of size b log) j)) (same_row size b n.row j h e)
        ∙ ap (λ (r : List ℕ). cond (eqb n.row (b * size + j)) (n.number ∷ r) r) before)
    go (inr ne) =
        let other : n.row ≡ b * size + j → ⊥ = λ q. ne (ap (λ (k : ℕ). k / size) q ∙ div-mul-add b size j h) in
        ap (λ (t : Bool). row_of (front_if t (own_note size n) (block_of size b log)) j) (ne_eqb (n.row / size) b ne)
        ∙ (before ∙ sym (ap (λ (t : Bool). cond t (n.number ∷ row_of log (b * size + j)) (row_of log (b * size + j))) (ne_eqb n.row (b * size + j) other)))

pub row_dealt : (size b : ℕ) (log : List Note) (j : ℕ) → j < size → row_of (block_of size b log) j ≡ row_of log (b * size + j)
row_dealt size b [] j h = refl
row_dealt size b (n ∷ log) j h = row_step size b n log j h (row_dealt size b log j h)

-- the first n rows of a block
pub rows_dealt : (size b n : ℕ) (log : List Note) → n ≤ size → rows_of n (block_of size b log) ≡ map (row_of log) (range_with_len (b * size) n)
rows_dealt size b n log h =
    ext_get_or [] (rows_of n (block_of size b log)) (map (row_of log) (range_with_len (b * size) n))
    (length-map-range_with_len (row_of (block_of size b log)) 0 n ∙ sym (length-map-range_with_len (row_of log) (b * size) n))
    (λ i l. at i (omega (arith, l, length-map-range_with_len (row_of (block_of size b log)) 0 n)))
  where
    at : (i : ℕ) → i < n → get_or (rows_of n (block_of size b log)) i [] ≡ get_or (map (row_of log) (range_with_len (b * size) n)) i []
    at i l =
        get_or-map-range_with_len (row_of (block_of size b log)) 0 n i i [] l (omega arith)
        ∙ (row_dealt size b log i (omega (arith, l, h)) ∙ sym (get_or-map-range_with_len (row_of log) (b * size) n i (b * size + i) [] l refl))

map_split : (f : ℕ → List ℕ) (m n : ℕ) → map f (range_with_len 0 (m + n)) ≡ map f (range_with_len 0 m) ++ map f (range_with_len m n)
map_split f m zero =
    let e : m + 0 ≡ m = omega arith in
    ap (λ (k : ℕ). map f (range_with_len 0 k)) e ∙ sym (append-nil (map f (range_with_len 0 m)))
map_split f m (suc n) =
    let e : m + suc n ≡ suc (m + n) = omega arith in
    ap (λ (k : ℕ). map f (range_with_len 0 k)) e
    ∙ (ap (map f) (numbers_more (m + n))
    ∙ (map-append f (range_with_len 0 (m + n)) ((m + n) ∷ [])
    ∙ (ap (λ (xs : List (List ℕ)). xs ++ f (m + n) ∷ []) (map_split f m n)
    ∙ (append_assoc (map f (range_with_len 0 m)) (map f (range_with_len m n)) (f (m + n) ∷ [])
    ∙ ap (λ (xs : List (List ℕ)). map f (range_with_len 0 m) ++ xs) (sym (ap (map f) (range_more m n) ∙ map-append f (range_with_len m n) ((m + n) ∷ [])))))))

-- the rows of one more block
pub rows_joined : (size b n : ℕ) (log : List Note) → n ≤ size → rows_of (b * size) log ++ rows_of n (block_of size b log) ≡ rows_of (b * size + n) log
rows_joined size b n log h = ap (λ (rows : List (List ℕ)). rows_of (b * size) log ++ rows) (rows_dealt size b n log h) ∙ sym (map_split (row_of log) (b * size) n)

-- ---- the tallies of a block

block_few : (size b : ℕ) (log : List Note) → length (block_of size b log) ≤ length log
block_few size b [] = omega arith
block_few size b (n ∷ log) = go (eqb (n.row / size) b) (block_few size b log)
  where
    go : (t : Bool) → length (block_of size b log) ≤ length log → length (front_if t (own_note size n) (block_of size b log)) ≤ suc (length log)
    go true h = omega (arith, h)
    go false h = omega (arith, h)

-- a row of the block is one of the rows that the block has
own_row : (size b count r : ℕ) → 0 < size → r < count → r / size ≡ b → r % size < min size (count - b * size)
own_row size b count r some h e =
    let is : r ≡ b * size + r % size = number_is size b r (r % size) e refl in
    omega (arith, is, h, mod_below r size some)

block_in : (size b count : ℕ) (log : List Note) → 0 < size → AreIn count log → AreIn (min size (count - b * size)) (block_of size b log)
block_in size b count [] some h = All-nil (λ (n : Note). n.row < min size (count - b * size))
block_in size b count (n ∷ log) some h = go (cases_eq (n.row / size) b) (block_in size b count log some (All-tail (λ (n : Note). n.row < count) n log h))
  where
    go : (n.row / size ≡ b) ⊎ (n.row / size ≡ b → ⊥) → AreIn (min size (count - b * size)) (block_of size b log) → AreIn (min size (count - b * size)) (block_of size b (n ∷ log))
    go (inl e) before =
        subst (λ (t : Bool). AreIn (min size (count - b * size)) (front_if t (own_note size n) (block_of size b log))) (sym (eq-eqb (n.row / size) b e))
        (All-cons (λ (n : Note). n.row < min size (count - b * size)) (own_note size n) (block_of size b log) (own_row size b count n.row some (All-head (λ (n : Note). n.row < count) n log h) e) before)
    go (inr ne) before =
        subst (λ (t : Bool). AreIn (min size (count - b * size)) (front_if t (own_note size n) (block_of size b log))) (sym (ne_eqb (n.row / size) b ne)) before

pub chunk_long : (size b : ℕ) (tallies : List Tally) → length (take size (drop (b * size) tallies)) ≡ min size (length tallies - b * size)
chunk_long size b tallies = length-take size (drop (b * size) tallies) ∙ ap (min size) (length-drop (b * size) tallies)

pub block_tallied : (size b : ℕ) (tallies : List Tally) (log : List Note) → 0 < size → AreTallies tallies log → AreTallies (take size (drop (b * size) tallies)) (block_of size b log)
block_tallied size b tallies log some h = record {
  rows = subst (λ (k : ℕ). AreIn k (block_of size b log)) (sym (chunk_long size b tallies)) (block_in size b (length tallies) log some h.rows);
  few = omega (arith, h.few, block_few size b log);
  each = each;
}
  where
    none : Tally
    none = record { count = 0; last = 0 }

    each : (x : ℕ) → x < length (take size (drop (b * size) tallies)) → tally_at (take size (drop (b * size) tallies)) x ≡ tally_of (row_of (block_of size b log) x)
    each x l =
        let within : x < size = omega (arith, l, chunk_long size b tallies) in
        let there : b * size + x < length tallies = omega (arith, l, chunk_long size b tallies) in
        get_or-take size (drop (b * size) tallies) x (record { count = 0; last = 0 }) within
        ∙ (get_or-drop (b * size) tallies x (record { count = 0; last = 0 })
        ∙ (h.each (b * size + x) there ∙ ap tally_of (sym (row_dealt size b log x within))))

-- ---- one more note is dealt

block_put : (t : Bool) (own : Note) (xs ys more : List Note) → xs ≡ ys ++ more → front_if t own xs ≡ front_if t own ys ++ more
block_put true own xs ys more e = ap (λ (zs : List Note). own ∷ zs) e
block_put false own xs ys more e = e

block_pushed : (size b : ℕ) (log : List Note) (note : Note) → block_of size b (log ++ note ∷ []) ≡ block_of size b log ++ front_if (eqb (note.row / size) b) (own_note size note) []
block_pushed size b [] note = refl
block_pushed size b (n ∷ log) note =
    block_put (eqb (n.row / size) b) (own_note size n) (block_of size b (log ++ note ∷ [])) (block_of size b log) (front_if (eqb (note.row / size) b) (own_note size note) []) (block_pushed size b log note)

pub dealt_more : (size count : ℕ) (log : List Note) (blocks : List (List Note)) (note : Note) → AreDealt size count log blocks → note.row / size < count → AreDealt size count (log ++ note ∷ []) (set blocks (note.row / size) (get_or blocks (note.row / size) [] ++ own_note size note ∷ []))
dealt_more size count log blocks note h l = record {
  long = length-set blocks (note.row / size) (get_or blocks (note.row / size) [] ++ own_note size note ∷ []) ∙ h.long;
  each = λ b within. at b within (cases_eq (note.row / size) b);
}
  where
    at : (b : ℕ) → b < count → (note.row / size ≡ b) ⊎ (note.row / size ≡ b → ⊥) → get_or (set blocks (note.row / size) (get_or blocks (note.row / size) [] ++ own_note size note ∷ [])) b [] ≡ block_of size b (log ++ note ∷ [])
    at b within (inl e) =
        let put : get_or (set blocks (note.row / size) (get_or blocks (note.row / size) [] ++ own_note size note ∷ [])) (note.row / size) [] ≡ get_or blocks (note.row / size) [] ++ own_note size note ∷ []
        = get_or-set_same blocks (note.row / size) (get_or blocks (note.row / size) [] ++ own_note size note ∷ []) [] (omega (arith, l, h.long)) in
        ap (λ (z : ℕ). get_or (set blocks (note.row / size) (get_or blocks (note.row / size) [] ++ own_note size note ∷ [])) z []) (sym e)
        ∙ (put
        ∙ (ap (λ (z : ℕ). get_or blocks z [] ++ own_note size note ∷ []) e
        ∙ (ap (λ (xs : List Note). xs ++ own_note size note ∷ []) (h.each b within)
        ∙ sym (block_pushed size b log note ∙ ap (λ (t : Bool). block_of size b log ++ front_if t (own_note size note) []) (eq-eqb (note.row / size) b e)))))
    at b within (inr ne) =
        get_or-set_other blocks (note.row / size) b (get_or blocks (note.row / size) [] ++ own_note size note ∷ []) [] (λ q. ne (sym q))
        ∙ (h.each b within
        ∙ sym (block_pushed size b log note
        ∙ (ap (λ (t : Bool). block_of size b log ++ front_if t (own_note size note) []) (ne_eqb (note.row / size) b ne) ∙ append-nil (block_of size b log))))

pub dealt_none : (size count : ℕ) (blocks : List (List Note)) → blocks ≡ replicate count [] → AreDealt size count [] blocks
dealt_none size count blocks e = record {
  long = ap length e ∙ length-replicate count [];
  each = λ b within. ap (λ (xs : List (List Note)). get_or xs b []) e ∙ get_or-replicate count b [] [] within;
}

pub dealt_all : (size count : ℕ) (log : List Note) (k : ℕ) (blocks : List (List Note)) → AreDealt size count (take k log) blocks → length log ≤ k → AreDealt size count log blocks
dealt_all size count log k blocks h past = subst (λ (l : List Note). AreDealt size count l blocks) (take_all k log past) h

pub dealt_next : (size count : ℕ) (log : List Note) (k : ℕ) (blocks : List (List Note)) → AreDealt size count (take k log) blocks → k < length log → (get_or log k no_note).row / size < count → AreDealt size count (take (k + 1) log) (set blocks ((get_or log k no_note).row / size) (get_or blocks ((get_or log k no_note).row / size) [] ++ own_note size (get_or log k no_note) ∷ []))
dealt_next size count log k blocks h l within =
    subst (λ (xs : List Note). AreDealt size count xs (set blocks ((get_or log k no_note).row / size) (get_or blocks ((get_or log k no_note).row / size) [] ++ own_note size (get_or log k no_note) ∷ []))) (sym (take_more log k no_note l))
    (dealt_more size count (take k log) blocks (get_or log k no_note) h within)

-- ---- blocks as lists

pub logs_put : (blocks : List (Vec Note Global)) (i : ℕ) (old new : Vec Note Global) (own : Note) → i < length blocks → old ≡ get_or blocks i old → new.items ≡ old.items ++ own ∷ [] → logs_of (set blocks i new) ≡ set (logs_of blocks) i (get_or (logs_of blocks) i [] ++ own ∷ [])
logs_put blocks i old new own l there is =
    map-set (λ (block : Vec Note Global). block.items) blocks i new
    ∙ ap (set (logs_of blocks) i) (is ∙ ap (λ (xs : List Note). xs ++ own ∷ []) (ap (λ (block : Vec Note Global). block.items) there ∙ sym (get_or-map (λ (block : Vec Note Global). block.items) blocks i old [] l)))

pub logs_more : (blocks after : List (Vec Note Global)) (v : Vec Note Global) (n : ℕ) → logs_of blocks ≡ replicate n [] → after ≡ blocks ++ v ∷ [] → v.items ≡ [] → logs_of after ≡ replicate (n + 1) []
logs_more blocks after v n before is none =
    ap logs_of is
    ∙ (map-append (λ (block : Vec Note Global). block.items) blocks (v ∷ [])
    ∙ (ap (λ (xs : List Note). logs_of blocks ++ xs ∷ []) none ∙ (ap (λ (xss : List (List Note)). xss ++ [] ∷ []) before ∙ replicate_more n [])))

pub logs_long : (blocks : List (Vec Note Global)) → length (logs_of blocks) ≡ length blocks
logs_long blocks = length-map blocks (λ (block : Vec Note Global). block.items)

pub log_at : (blocks : List (Vec Note Global)) (b : ℕ) (block : Vec Note Global) → b < length blocks → block ≡ get_or blocks b block → block.items ≡ get_or (logs_of blocks) b []
log_at blocks b block l there = ap (λ (v : Vec Note Global). v.items) there ∙ sym (get_or-map (λ (v : Vec Note Global). v.items) blocks b block [] l)

-- one more block is packed
pub packed_more : (size b : ℕ) (tallies : List Tally) (log : List Note) (rows after : List (List ℕ)) → (b + 1) * size ≡ b * size + size → b * size ≤ length tallies → rows ≡ rows_of (min (b * size) (length tallies)) log → after ≡ rows ++ rows_of (length (take size (drop (b * size) tallies))) (block_of size b log) → after ≡ rows_of (min ((b + 1) * size) (length tallies)) log
packed_more size b tallies log rows after more within before is =
    let all : min (b * size) (length tallies) ≡ b * size = omega (arith, within) in
    let long = chunk_long size b tallies in
    let fits : length (take size (drop (b * size) tallies)) ≤ size = omega (arith, long) in
    let joined : b * size + length (take size (drop (b * size) tallies)) ≡ min ((b + 1) * size) (length tallies) = omega (arith, within, long, more) in
    is
    ∙ (ap (λ (rs : List (List ℕ)). rs ++ rows_of (length (take size (drop (b * size) tallies))) (block_of size b log)) (before ∙ ap (λ (k : ℕ). rows_of k log) all)
    ∙ (rows_joined size b (length (take size (drop (b * size) tallies))) log fits ∙ ap (λ (k : ℕ). rows_of k log) joined))
