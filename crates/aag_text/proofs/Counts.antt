-- How many gates a row and a cover take.
use Rattle.std.proofs.Common.{◌≡◌, ℕ, suc, ◌+◌, ◌-◌, ◌<◌, ◌≤◌, Bool, true, false, cond, List, [], ◌∷◌, length, drop, get_or, Option, Some, None, refl, ◌∙◌, ap, arith, drop-cons}
use Rattle.std.specs.Prelude.{◌||◌, is_some, sum_by, slice_get}
use Rattle.std.proofs.lemmas.List.{nil_from_length, length-drop}
use Rattle.std.proofs.lemmas.List.Sums.{sum_by-cons}
use Rattle.std.proofs.lemmas.Option.{slice_get_within, get_or_from_slice_get}
use Rattle.aag_text.specs.declared.aig.Literal.{Literal}
use Rattle.aag_text.specs.Taken.{is_given, row_gates}
use Rattle.aag_text.specs.Private.Gates.{joins, marks_left, rows_left}

dropped : {A : Type 0} (xs : List A) (j : ℕ) (d : A) → j < length xs → drop j xs ≡ get_or xs j d ∷ drop (j + 1) xs
dropped xs j d l = drop-cons xs j d l ∙ ap (λ (n : ℕ). get_or xs j d ∷ drop n xs) (let e : suc j ≡ j + 1 = omega arith in e)

none_left : {A : Type 0} (i : ℕ) (xs : List A) → length xs ≤ i → drop i xs ≡ []
none_left i xs le = nil_from_length (drop i xs) (omega (arith, length-drop i xs, le))

-- one mark more, which is given or not
one_mark : (all r : Option Literal) (mark : ℕ) (row : List ℕ) (given : Bool) → is_given mark ≡ given → is_some r ≡ (is_some all || given) → marks_left all (mark ∷ row) ≡ joins all given + marks_left r row
one_mark None None mark row true g e = absurd (cc)
one_mark None None mark row false g e =
    let c = sum_by-cons (λ m. cond (is_given m) 1 0) mark row in
    let n = ap {B = ℕ} (λ (b : Bool). cond b 1 0) g in
    omega (arith, c, n)
one_mark None (Some l) mark row true g e =
    let c = sum_by-cons (λ m. cond (is_given m) 1 0) mark row in
    let n = ap {B = ℕ} (λ (b : Bool). cond b 1 0) g in
    omega (arith, c, n)
one_mark None (Some l) mark row false g e = absurd (cc)
one_mark (Some k) None mark row given g e = absurd (cc)
one_mark (Some k) (Some l) mark row true g e =
    let c = sum_by-cons (λ m. cond (is_given m) 1 0) mark row in
    let n = ap {B = ℕ} (λ (b : Bool). cond b 1 0) g in
    omega (arith, c, n)
one_mark (Some k) (Some l) mark row false g e =
    let c = sum_by-cons (λ m. cond (is_given m) 1 0) mark row in
    let n = ap {B = ℕ} (λ (b : Bool). cond b 1 0) g in
    omega (arith, c, n)

pub mark_more : (all r : Option Literal) (row : List ℕ) (j : ℕ) → j < length row → is_some r ≡ (is_some all || is_given (get_or row j 0)) → marks_left all (drop j row) ≡ joins all (is_given (get_or row j 0)) + marks_left r (drop (j + 1) row)
mark_more all r row j l e = ap (marks_left all) (dropped row j 0 l) ∙ one_mark all r (get_or row j 0) (drop (j + 1) row) (is_given (get_or row j 0)) refl e

pub marks_end : (all : Option Literal) (row : List ℕ) (j : ℕ) → length row ≤ j → marks_left all (drop j row) ≡ 0
marks_end all row j le = ap (marks_left all) (none_left j row le) ∙ go all
  where
    go : (o : Option Literal) → marks_left o [] ≡ 0
    go None = refl
    go (Some l) = refl

-- one row more
one_row : (any : Option Literal) (l : Literal) (row : List ℕ) (rows : List (List ℕ)) → rows_left any (row ∷ rows) ≡ row_gates row + joins any true + rows_left (Some l) rows
one_row None l row rows = let c = sum_by-cons row_gates row rows in omega (arith, c)
one_row (Some k) l row rows = let c = sum_by-cons row_gates row rows in omega (arith, c)

pub row_more : (any : Option Literal) (l : Literal) (rows : List (List ℕ)) (i : ℕ) (row : List ℕ) → slice_get rows i ≡ Some row → rows_left any (drop i rows) ≡ row_gates row + joins any true + rows_left (Some l) (drop (i + 1) rows)
row_more any l rows i row is =
    let first : drop i rows ≡ row ∷ drop (i + 1) rows =
    dropped rows i row (slice_get_within rows i row is) ∙ ap (λ (r : List ℕ). r ∷ drop (i + 1) rows) (get_or_from_slice_get rows i row row is) in
    ap (rows_left any) first ∙ one_row any l row (drop (i + 1) rows)

pub rows_end : (any : Option Literal) (rows : List (List ℕ)) (i : ℕ) → length rows ≤ i → rows_left any (drop i rows) ≡ 0
rows_end any rows i le = ap (rows_left any) (none_left i rows le) ∙ go any
  where
    go : (o : Option Literal) → rows_left o [] ≡ 0
    go None = refl
    go (Some l) = refl
