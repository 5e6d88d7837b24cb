-- What a cover answers to one more row is what the definition of reading says of that row.
use Rattle.std.proofs.Common.{◌≡◌, ◌⊎◌, ℕ, ◌==◌, ◌||◌, ◌&&◌, Bool, true, false, not, cond, List, [], ◌∷◌, ◌++◌, length, map, inl, inr, refl, sym, ◌∙◌, ap, subst, arith, Option, Some, None, option_to_list}
use Rattle.std.specs.List.{list_all}
use Rattle.std.proofs.lemmas.List.{map_push}
use Rattle.table_cover.specs.declared.cover.RowFault.{RowFault}
use Rattle.table_cover.specs.declared.cover.RowFault.TheVariants.{Width, BadChar, Mixed}
use Rattle.table_cover.specs.Cover.{PlainCover, is_mark}
use Rattle.table_cover.specs.Pushing as pushing
use Rattle.table_cover.specs.Pushing.{is_output, is_mixed, row_fault, bool_same}
use Rattle.blif_text.specs.declared.fault.TextKind.TheVariants.{BadRow, MixedCover}
use Rattle.blif_text.specs.Kind.{Marks, row_in, marks_kind, mixed_kind, when}
use Rattle.blif_text.specs.Views.{bit, marked, marked_rows}
use Rattle.blif_text.specs.Private.Progress.{output_before}

-- Which fault it is, by three tests.

fault_by : Bool → Bool → Bool → Option RowFault
fault_by wide legal mixed = cond (not wide) (Some Width) (cond (not legal) (Some BadChar) (cond mixed (Some Mixed) None))

no_fault : (wide legal mixed : Bool) → fault_by wide legal mixed ≡ None → ((wide && legal) ≡ true) × (mixed ≡ false)
unfolding fault_by
no_fault true true false h = (refl, refl)
no_fault true true true h = absurd cc
no_fault true false mixed h = absurd cc
no_fault false legal mixed h = absurd cc

width_fault : (wide legal mixed : Bool) → fault_by wide legal mixed ≡ Some Width → (wide && legal) ≡ false
unfolding fault_by
width_fault true true false h = absurd cc
width_fault true true true h = absurd cc
width_fault true false mixed h = refl
width_fault false legal mixed h = refl

char_fault : (wide legal mixed : Bool) → fault_by wide legal mixed ≡ Some BadChar → (wide && legal) ≡ false
unfolding fault_by
char_fault true true false h = absurd cc
char_fault true true true h = absurd cc
char_fault true false mixed h = refl
char_fault false legal mixed h = refl

mixed_fault : (wide legal mixed : Bool) → fault_by wide legal mixed ≡ Some Mixed → ((wide && legal) ≡ true) × (mixed ≡ true)
unfolding fault_by
mixed_fault true true false h = absurd cc
mixed_fault true true true h = (refl, refl)
mixed_fault true false mixed h = absurd cc
mixed_fault false legal mixed h = absurd cc

-- Outputs.

outputs : (o : ℕ) → is_output o ≡ true → (o ≡ 48) ⊎ (o ≡ 49)
outputs o h = go (o == 48) refl (o == 49) refl
  where
    go : (a : Bool) → (o == 48) ≡ a → (b : Bool) → (o == 49) ≡ b → (o ≡ 48) ⊎ (o ≡ 49)
    go true ea b eb = inl (grind (arith, ea))
    go false ea true eb = inr (grind (arith, eb))
    go false ea false eb = absurd (let wrong : true ≡ false = sym h ∙ ap (λ x. x || (o == 49)) ea ∙ eb in cc)

bit_back : (o : ℕ) → is_output o ≡ true → bit (o == 49) ≡ o
bit_back o h = go (outputs o h)
  where
    go : (o ≡ 48) ⊎ (o ≡ 49) → bit (o == 49) ≡ o
    go (inl e) = subst (λ o. bit (o == 49) ≡ o) (sym e) refl
    go (inr e) = subst (λ o. bit (o == 49) ≡ o) (sym e) refl

same_output : (on : Bool) (o : ℕ) → is_output o ≡ true → (bit on == o) ≡ bool_same on (o == 49)
same_output on o h = go on (outputs o h)
  where
    go : (on : Bool) → (o ≡ 48) ⊎ (o ≡ 49) → (bit on == o) ≡ bool_same on (o == 49)
    go true (inl e) = subst (λ o. (bit true == o) ≡ bool_same true (o == 49)) (sym e) refl
    go true (inr e) = subst (λ o. (bit true == o) ≡ bool_same true (o == 49)) (sym e) refl
    go false (inl e) = subst (λ o. (bit false == o) ≡ bool_same false (o == 49)) (sym e) refl
    go false (inr e) = subst (λ o. (bit false == o) ≡ bool_same false (o == 49)) (sym e) refl

-- the kind of a row by the output of those before it
mixed_is : (empty on : Bool) (o : ℕ) → is_output o ≡ true
    → mixed_kind (cond empty None (Some (bit on))) o ≡ when (not empty && not (bool_same on (o == 49))) MixedCover
mixed_is true on o h = refl
mixed_is false on o h = ap (λ b. when (not b) MixedCover) (same_output on o h)

-- the rows with one more, where it has the output of the others
one_more : (on : Bool) (rows : List (List ℕ)) (m : List ℕ) (o : ℕ) → is_output o ≡ true → (not (length rows == 0) && not (bool_same on (o == 49))) ≡ false
    → map (marked (o == 49)) (rows ++ m ∷ []) ≡ map (marked on) rows ++ record { marks = m; output = o } ∷ []
one_more on [] m o h same = ap (λ b. let r : Marks = record { marks = m; output = b } in r ∷ []) (bit_back o h)
one_more on (r ∷ rows) m o h same =
    map_push (marked (o == 49)) (r ∷ rows) m
    ∙ ap (λ b. map (marked (o == 49)) (r ∷ rows) ++ (let x : Marks = record { marks = m; output = b } in x) ∷ []) (bit_back o h)
    ∙ ap (λ b. map (marked b) (r ∷ rows) ++ record { marks = m; output = o } ∷ []) (sym (agree on (o == 49) same_bits))
  where
    there : (length (r ∷ rows) == 0) ≡ false
    there = grind arith

    same_bits : not (bool_same on (o == 49)) ≡ false
    same_bits = ap (λ b. not b && not (bool_same on (o == 49))) (sym there) ∙ same

    agree : (a b : Bool) → not (bool_same a b) ≡ false → a ≡ b
    agree true true e = refl
    agree true false e = absurd cc
    agree false true e = absurd cc
    agree false false e = refl

-- What a cover answers.

abbrev row : List ℕ → ℕ → Marks
row m o = record { marks = m; output = o }

abbrev legal : List ℕ → ℕ → Bool
legal m o = list_all is_mark m && is_output o

output_legal : (a b c : Bool) → (a && (b && c)) ≡ true → c ≡ true
output_legal true true true h = refl
output_legal true true false h = absurd cc
output_legal true false c h = absurd cc
output_legal false b c h = absurd cc

row_there : (k : PlainCover) (m : List ℕ) (o : ℕ) → ((length m == k.width) && legal m o) ≡ true → row_in k.width (row m o) ≡ Some (row m o)
row_there k m o h = ap (λ b. cond b (Some (row m o)) None) h

no_row : (k : PlainCover) (m : List ℕ) (o : ℕ) → ((length m == k.width) && legal m o) ≡ false → marks_kind (output_before k) (row_in k.width (row m o)) ≡ Some BadRow
no_row k m o h = ap (λ b. marks_kind (output_before k) (cond b (Some (row m o)) None)) h

kind_of_row : (k : PlainCover) (m : List ℕ) (o : ℕ) → ((length m == k.width) && legal m o) ≡ true
    → marks_kind (output_before k) (row_in k.width (row m o)) ≡ when (is_mixed k o) MixedCover
kind_of_row k m o h =
    ap (marks_kind (output_before k)) (row_there k m o h)
    ∙ mixed_is (length k.rows == 0) k.is_on o (output_legal (length m == k.width) (list_all is_mark m) (is_output o) h)

pub pushed_kind : (k : PlainCover) (m : List ℕ) (o : ℕ) → row_fault k m o ≡ None → marks_kind (output_before k) (row_in k.width (row m o)) ≡ None
unfolding fault_by
pushed_kind k m o h =
    let by = no_fault (length m == k.width) (legal m o) (is_mixed k o) h in
    kind_of_row k m o by.0 ∙ ap (λ b. when b MixedCover) by.1

pub pushed_more : (k : PlainCover) (m : List ℕ) (o : ℕ) → row_fault k m o ≡ None
    → marked_rows (pushing.with_row k m o) ≡ marked_rows k ++ option_to_list (row_in k.width (row m o))
unfolding fault_by
pushed_more k m o h =
    let by = no_fault (length m == k.width) (legal m o) (is_mixed k o) h in
    one_more k.is_on k.rows m o (output_legal (length m == k.width) (list_all is_mark m) (is_output o) by.0) by.1
    ∙ ap (λ r. marked_rows k ++ option_to_list r) (sym (row_there k m o by.0))

pub refused_width : (k : PlainCover) (m : List ℕ) (o : ℕ) → row_fault k m o ≡ Some Width → marks_kind (output_before k) (row_in k.width (row m o)) ≡ Some BadRow
unfolding fault_by
refused_width k m o h = no_row k m o (width_fault (length m == k.width) (legal m o) (is_mixed k o) h)

pub refused_char : (k : PlainCover) (m : List ℕ) (o : ℕ) → row_fault k m o ≡ Some BadChar → marks_kind (output_before k) (row_in k.width (row m o)) ≡ Some BadRow
unfolding fault_by
refused_char k m o h = no_row k m o (char_fault (length m == k.width) (legal m o) (is_mixed k o) h)

pub refused_mixed : (k : PlainCover) (m : List ℕ) (o : ℕ) → row_fault k m o ≡ Some Mixed → marks_kind (output_before k) (row_in k.width (row m o)) ≡ Some MixedCover
unfolding fault_by
refused_mixed k m o h =
    let by = mixed_fault (length m == k.width) (legal m o) (is_mixed k o) h in
    kind_of_row k m o by.0 ∙ ap (λ b. when b MixedCover) by.1

pub ruleset pushed_rows = (pushed_kind, pushed_more, refused_width, refused_char, refused_mixed)
