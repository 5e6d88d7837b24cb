-- One mark more of a row, and one row more of a cover.
use Rattle.std.proofs.Common.{◌≡◌, ℕ, suc, ◌+◌, ◌*◌, ◌<◌, ◌≤◌, Bool, true, false, List, [], ◌∷◌, length, drop, get_or, Option, Some, None, refl, sym, ◌∙◌, ap, subst, arith, drop-cons}
use Rattle.std.specs.Prelude.{◌&&◌, ◌||◌, not, slice_get}
use Rattle.std.proofs.lemmas.List.{nil_from_length, length-drop}
use Rattle.std.proofs.lemmas.Option.{slice_get_within, get_or_from_slice_get}
use Rattle.table_cover.specs.Cover.{mark_fits}
use Rattle.aag_text.specs.declared.aig.Literal.{Literal}
use Rattle.aag_text.specs.Aig.{literal_value}
use Rattle.aag_text.specs.Private.Gates.{PlainGates, Grows, all_value, any_value, row_value, rows_value}

pub grows_then : (i k : ℕ) (a b c : PlainGates) → Grows i a b → Grows k b c → Grows (i + k) a c
grows_then i k a b c one two = record {
  first = two.first ∙ one.first;
  longer = omega (arith, one.longer, two.longer);
  bound = omega (arith, one.bound, two.bound);
  met = λ values m. one.met values (two.met values m);
}

pub grows_as : (i k : ℕ) (a b : PlainGates) → i ≡ k → Grows i a b → Grows k a b
grows_as i k a b e g = subst (λ (n : ℕ). Grows n a b) e g

dropped : {A : Type 0} (xs : List A) (j : ℕ) (d : A) → j < length xs → drop j xs ≡ get_or xs j d ∷ drop (j + 1) xs
dropped xs j d l = drop-cons xs j d l ∙ ap (λ (n : ℕ). get_or xs j d ∷ drop n xs) (let e : suc j ≡ j + 1 = omega arith in e)

none_left : {A : Type 0} (i : ℕ) (xs : List A) → length xs ≤ i → drop i xs ≡ []
none_left i xs le = nil_from_length (drop i xs) (omega (arith, length-drop i xs))

and_assoc : (a b c : Bool) → (a && (b && c)) ≡ ((a && b) && c)
and_assoc true b c = refl
and_assoc false b c = refl

or_assoc : (a b c : Bool) → (a || (b || c)) ≡ ((a || b) || c)
or_assoc true b c = refl
or_assoc false b c = refl

and_true : (a : Bool) → (a && true) ≡ a
and_true true = refl
and_true false = refl

or_false : (a : Bool) → (a || false) ≡ a
or_false true = refl
or_false false = refl

row_cons : (values : ℕ → Bool) (mark : ℕ) (row : List ℕ) (pin : Literal) (pins : List Literal) → row_value values (mark ∷ row) (pin ∷ pins) ≡ (mark_fits mark (literal_value values pin) && row_value values row pins)
unfolding row_value
row_cons values mark row pin pins = refl

row_nil : (values : ℕ → Bool) (pins : List Literal) → row_value values [] pins ≡ true
unfolding row_value
row_nil values pins = refl

rows_cons : (values : ℕ → Bool) (row : List ℕ) (rows : List (List ℕ)) (pins : List Literal) → rows_value values (row ∷ rows) pins ≡ (row_value values row pins || rows_value values rows pins)
unfolding rows_value row_value
rows_cons values row rows pins = refl

rows_nil : (values : ℕ → Bool) (pins : List Literal) → rows_value values [] pins ≡ false
unfolding rows_value
rows_nil values pins = refl

-- one mark more
pub row_goes : (values : ℕ → Bool) (row : List ℕ) (pins : List Literal) (j : ℕ) (d : Literal) (before after whole : Bool) → j < length row → length row ≡ length pins → whole ≡ (before && row_value values (drop j row) (drop j pins)) → after ≡ (before && mark_fits (get_or row j 0) (literal_value values (get_or pins j d))) → whole ≡ (after && row_value values (drop (j + 1) row) (drop (j + 1) pins))
row_goes values row pins j d before after whole l same w a =
    let fits : Bool = mark_fits (get_or row j 0) (literal_value values (get_or pins j d)) in
    let rest : Bool = row_value values (drop (j + 1) row) (drop (j + 1) pins) in
    let step : row_value values (drop j row) (drop j pins) ≡ (fits && rest) =
    ap (λ (r : List ℕ). row_value values r (drop j pins)) (dropped row j 0 l)
    ∙ (ap (λ (p : List Literal). row_value values (get_or row j 0 ∷ drop (j + 1) row) p) (dropped pins j d (omega (arith, l, same)))
    ∙ row_cons values (get_or row j 0) (drop (j + 1) row) (get_or pins j d) (drop (j + 1) pins)) in
    w ∙ (ap (λ (b : Bool). before && b) step ∙ (and_assoc before fits rest ∙ ap (λ (b : Bool). b && rest) (sym a)))

-- all marks
row_whole : (values : ℕ → Bool) (row : List ℕ) (pins : List Literal) (j : ℕ) (before whole : Bool) → length row ≤ j → whole ≡ (before && row_value values (drop j row) (drop j pins)) → before ≡ whole
row_whole values row pins j before whole l w =
    let none : row_value values (drop j row) (drop j pins) ≡ true = ap (λ (r : List ℕ). row_value values r (drop j pins)) (none_left j row l) ∙ row_nil values (drop j pins) in
    sym (w ∙ (ap (λ (b : Bool). before && b) none ∙ and_true before))

pub row_some : (values : ℕ → Bool) (row : List ℕ) (pins : List Literal) (j : ℕ) (all : Option Literal) (l : Literal) (whole : Bool) → length row ≤ j → all ≡ Some l → whole ≡ (all_value values all && row_value values (drop j row) (drop j pins)) → literal_value values l ≡ whole
row_some values row pins j all l whole le is w = ap (all_value values) (sym is) ∙ row_whole values row pins j (all_value values all) whole le w

pub row_none : (values : ℕ → Bool) (row : List ℕ) (pins : List Literal) (j : ℕ) (all : Option Literal) (whole : Bool) → length row ≤ j → all ≡ None → values 0 ≡ false → whole ≡ (all_value values all && row_value values (drop j row) (drop j pins)) → not (values 0) ≡ whole
row_none values row pins j all whole le is zero w = ap not zero ∙ (ap (all_value values) (sym is) ∙ row_whole values row pins j (all_value values all) whole le w)

-- one row more
pub rows_go : (values : ℕ → Bool) (rows : List (List ℕ)) (pins : List Literal) (i : ℕ) (row : List ℕ) (before after here whole : Bool) → slice_get rows i ≡ Some row → whole ≡ (before || rows_value values (drop i rows) pins) → here ≡ row_value values row pins → after ≡ (before || here) → whole ≡ (after || rows_value values (drop (i + 1) rows) pins)
rows_go values rows pins i row before after here whole is w h a =
    let rest : Bool = rows_value values (drop (i + 1) rows) pins in
    let first : drop i rows ≡ row ∷ drop (i + 1) rows =
    dropped rows i row (slice_get_within rows i row is) ∙ ap (λ (r : List ℕ). r ∷ drop (i + 1) rows) (get_or_from_slice_get rows i row row is) in
    let step : rows_value values (drop i rows) pins ≡ (here || rest) =
    ap (λ (r : List (List ℕ)). rows_value values r pins) first ∙ (rows_cons values row (drop (i + 1) rows) pins ∙ ap (λ (b : Bool). b || rest) (sym h)) in
    w ∙ (ap (λ (b : Bool). before || b) step ∙ (or_assoc before here rest ∙ ap (λ (b : Bool). b || rest) (sym a)))

rows_whole : (values : ℕ → Bool) (rows : List (List ℕ)) (pins : List Literal) (i : ℕ) (before whole : Bool) → length rows ≤ i → whole ≡ (before || rows_value values (drop i rows) pins) → before ≡ whole
rows_whole values rows pins i before whole l w =
    let none : rows_value values (drop i rows) pins ≡ false = ap (λ (r : List (List ℕ)). rows_value values r pins) (none_left i rows l) ∙ rows_nil values pins in
    sym (w ∙ (ap (λ (b : Bool). before || b) none ∙ or_false before))

pub rows_some : (values : ℕ → Bool) (rows : List (List ℕ)) (pins : List Literal) (i : ℕ) (any : Option Literal) (l : Literal) (whole : Bool) → length rows ≤ i → any ≡ Some l → whole ≡ (any_value values any || rows_value values (drop i rows) pins) → literal_value values l ≡ whole
rows_some values rows pins i any l whole le is w = ap (any_value values) (sym is) ∙ rows_whole values rows pins i (any_value values any) whole le w

pub rows_none : (values : ℕ → Bool) (rows : List (List ℕ)) (pins : List Literal) (i : ℕ) (any : Option Literal) (whole : Bool) → length rows ≤ i → any ≡ None → values 0 ≡ false → whole ≡ (any_value values any || rows_value values (drop i rows) pins) → values 0 ≡ whole
rows_none values rows pins i any whole le is zero w = zero ∙ (ap (any_value values) (sym is) ∙ rows_whole values rows pins i (any_value values any) whole le w)

pub row_long : (i width n : ℕ) → n ≡ width → (i * (width + 1) + n) + 1 ≡ (i + 1) * (width + 1)
row_long i width n e = let s : (i * (width + 1) + width) + 1 ≡ (i + 1) * (width + 1) = grind arith in ap (λ (m : ℕ). (i * (width + 1) + m) + 1) e ∙ s
