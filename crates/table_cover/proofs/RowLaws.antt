-- Rows that are cut from one list.
use Rattle.std.proofs.Common.{◌≡◌, ℕ, zero, suc, ◌+◌, ◌-◌, ◌*◌, ◌<◌, ◌≤◌, List, [], ◌∷◌, ◌++◌, length, take, drop, slice_get, Some, refl, sym, ap, ◌∙◌, arith}
use Rattle.std.proofs.lemmas.List.{length-drop, take-append-le, drop-append-le, drop-drop, take-append-drop, take_all, nil_from_length}
use Rattle.std.proofs.Math.Nat.{mul-le-mul_left}
use Rattle.table_cover.specs.Rows.{cut_rows}

pub length-cut_rows : {A : Type 0} (width count : ℕ) (marks : List A) → length (cut_rows width count marks) ≡ count
length-cut_rows width zero marks = refl
length-cut_rows width (suc count) marks = ap suc (length-cut_rows width count (drop width marks))

pub ruleset length_cut = (length-cut_rows)

-- one row less
pub cut_rows-next : {A : Type 0} (width count row : ℕ) (marks : List A) → row < count → cut_rows width (count - row) marks ≡ take width marks ∷ cut_rows width (count - (row + 1)) (drop width marks)
cut_rows-next width count row marks h = ap (λ (n : ℕ). cut_rows width n marks) (let e : count - row ≡ suc (count - (row + 1)) = omega arith in e)

more_long : (width n count row : ℕ) → row < count → n ≡ (count - row) * width → n ≡ width + (count - (row + 1)) * width
more_long width n count row h e =
    let k : count - row ≡ suc (count - (row + 1)) = omega arith in
    e ∙ (ap (λ (m : ℕ). m * width) k ∙ (let s : suc (count - (row + 1)) * width ≡ width + (count - (row + 1)) * width = omega arith in s))

-- the first row lies within
pub first_row_within : {A : Type 0} (width count row : ℕ) (marks : List A) → row < count → length marks ≡ (count - row) * width → width ≤ length marks
first_row_within width count row marks h e = let m = more_long width (length marks) count row h e in omega arith

pub rest_long : {A : Type 0} (width count row : ℕ) (marks : List A) → row < count → length marks ≡ (count - row) * width → length (drop width marks) ≡ (count - (row + 1)) * width
rest_long width count row marks h e = let m = more_long width (length marks) count row h e in length-drop width marks ∙ (let s : length marks - width ≡ (count - (row + 1)) * width = omega arith in s)

pub ruleset next_rows = (cut_rows-next, first_row_within, rest_long)

-- row i stands behind i rows
pub slice_get-cut_rows : {A : Type 0} (width count : ℕ) (marks : List A) (i : ℕ) → i < count → slice_get (cut_rows width count marks) i ≡ Some (take width (drop (i * width) marks))
slice_get-cut_rows {A} width zero marks i h = absurd (omega arith)
slice_get-cut_rows {A} width (suc count) marks zero h = ap (λ (n : ℕ). Some (take width (drop n marks))) (let e : 0 ≡ zero * width = omega arith in e)
slice_get-cut_rows {A} width (suc count) marks (suc i) h =
    slice_get-cut_rows width count (drop width marks) i (omega arith)
    ∙ ap (λ (xs : List A). Some (take width xs)) (drop-drop (i * width) width marks ∙ ap (λ (n : ℕ). drop n marks) (let e : width + i * width ≡ suc i * width = omega arith in e))

-- row i lies within
pub row_within : (width count i n : ℕ) → i < count → n ≡ count * width → i * width + width ≤ n
row_within width count i n h e =
    let le : i + 1 ≤ count = omega arith in
    omega (arith, mul-le-mul_left width le)

-- one more row at the end
pub cut_rows-push : {A : Type 0} (width count : ℕ) (marks row : List A) → length marks ≡ count * width → length row ≡ width → cut_rows width (suc count) (marks ++ row) ≡ cut_rows width count marks ++ row ∷ []
cut_rows-push {A} width zero marks row e f =
    let none : marks ≡ [] = nil_from_length marks (omega arith) in
    rw none (ap (λ (r : List A). r ∷ []) (take_all width row (omega arith)))
cut_rows-push {A} width (suc count) marks row e f =
    let within : width ≤ length marks = omega arith in
    let rest : length (drop width marks) ≡ count * width = length-drop width marks ∙ (let s : length marks - width ≡ count * width = omega arith in s) in
    let front : take width (marks ++ row) ≡ take width marks = take-append-le width marks row within in
    let back : drop width (marks ++ row) ≡ drop width marks ++ row = drop-append-le width marks row within in
    let more : cut_rows width (suc count) (drop width marks ++ row) ≡ cut_rows width count (drop width marks) ++ row ∷ [] = cut_rows-push width count (drop width marks) row rest f in
    ap (λ (r : List A). r ∷ cut_rows width (suc count) (drop width (marks ++ row))) front
    ∙ (ap (λ (r : List A). take width marks ∷ cut_rows width (suc count) r) back
    ∙ ap (λ (rs : List (List A)). take width marks ∷ rs) more)

-- rows that are the same come from lists that are
pub cut_rows_same : {A : Type 0} (width count : ℕ) (a b : List A) → length a ≡ count * width → length b ≡ count * width → cut_rows width count a ≡ cut_rows width count b → a ≡ b
cut_rows_same {A} width zero a b e f same = nil_from_length a (omega arith) ∙ sym (nil_from_length b (omega arith))
cut_rows_same {A} width (suc count) a b e f same =
    let first : take width a ≡ take width b = cc in
    let others : cut_rows width count (drop width a) ≡ cut_rows width count (drop width b) = cc in
    let rest_a : length (drop width a) ≡ count * width = length-drop width a ∙ (let s : length a - width ≡ count * width = omega arith in s) in
    let rest_b : length (drop width b) ≡ count * width = length-drop width b ∙ (let s : length b - width ≡ count * width = omega arith in s) in
    let rest : drop width a ≡ drop width b = cut_rows_same width count (drop width a) (drop width b) rest_a rest_b others in
    sym (take-append-drop width a) ∙ (ap (λ (r : List A). r ++ drop width a) first ∙ (ap (λ (r : List A). take width b ++ r) rest ∙ take-append-drop width b))

pub ruleset rows_by_number = (slice_get-cut_rows, row_within)
