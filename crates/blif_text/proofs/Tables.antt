-- A table kept as pins, output and cover.
use Rattle.std.proofs.Common.{◌≡◌, ℕ, ◌-◌, ◌==◌, Bool, true, false, cond, List, [], ◌∷◌, ◌++◌, length, map, refl, sym, ◌∙◌, ap, arith, Option, Some, None, option_to_list, length-append}
use Rattle.std.specs.Borrow.{Bor}
use Rattle.std.proofs.lemmas.List.{map_push}
use Rattle.blif_text.specs.declared.fault.TextKind.{TextKind}
use Rattle.blif_text.specs.declared.fault.TextKind.TheVariants.{Arguments}
use Rattle.blif_text.specs.Private.Answers.{plain}
use Rattle.blif_text.specs.Kind.{when, ◌or_else◌, name_kind, names_kind, table_kind, row_of, row_kind, marks_kind}
use Rattle.blif_text.specs.Models.{Table, last_token, is_on, table}
use Rattle.blif_text.specs.Private.Progress.{OpenTable, output_before, table_view, last_output, shape_of, with_row}
use Rattle.blif_text.specs.Views.{bit, marked, marked_rows}
use Rattle.table_cover.specs.Cover.{PlainCover}
use Rattle.blif_text.proofs.Pieces.{all_but_last-append}

pub last_output-marked : (on : Bool) (rows : List (List ℕ)) (out : Option ℕ) → last_output out (map (marked on) rows) ≡ cond (length rows == 0) out (Some (bit on))
last_output-marked on [] out = refl
last_output-marked on (r ∷ rows) out = last_output-marked on rows (Some (bit on)) ∙ go (length rows == 0) ∙ sym (ap (λ b. cond b out (Some (bit on))) more)
  where
    go : (b : Bool) → cond b (Some (bit on)) (Some (bit on)) ≡ Some (bit on)
    go true = refl
    go false = refl

    more : (length (r ∷ rows) == 0) ≡ false
    more = grind arith

pub last_token-append : (xs : List (List ℕ)) (x : List ℕ) → last_token (xs ++ x ∷ []) ≡ x
last_token-append [] x = refl
last_token-append (y ∷ []) x = refl
last_token-append (y ∷ z ∷ ys) x = last_token-append (z ∷ ys) x

marks_back : (on : Bool) (rows : List (List ℕ)) → map (λ row. row.marks) (map (marked on) rows) ≡ rows
marks_back on [] = refl
marks_back on (r ∷ rows) = ap (λ rs. r ∷ rs) (marks_back on rows)

on_back : (on : Bool) (rows : List (List ℕ)) → (rows ≡ [] → on ≡ true) → is_on (map (marked on) rows) ≡ on
on_back on [] h = sym (h refl)
on_back true (r ∷ rows) h = refl
on_back false (r ∷ rows) h = refl

-- the table of what is kept of it
pub table_is : (pins : List (List ℕ)) (out : List ℕ) (k : PlainCover) → k.width ≡ length pins → (k.rows ≡ [] → k.is_on ≡ true)
    → table (table_view pins out k).tokens (table_view pins out k).rows ≡ Table pins out k
unfolding table
table_is pins out k wide empty =
    let cover : ℕ → Bool → List (List ℕ) → PlainCover = λ w b rs. record { width = w; is_on = b; rows = rs } in
    let on = is_on (map (marked k.is_on) k.rows) in
    let rows = map (λ row. row.marks) (map (marked k.is_on) k.rows) in
    ap (λ ps. Table ps (last_token (pins ++ out ∷ [])) (cover (length ps) on rows)) (all_but_last-append pins out)
    ∙ ap (λ o. Table pins o (cover (length pins) on rows)) (last_token-append pins out)
    ∙ ap (λ b. Table pins out (cover (length pins) b rows)) (on_back k.is_on k.rows empty)
    ∙ ap (λ rs. Table pins out (cover (length pins) k.is_on rs)) (marks_back k.is_on k.rows)
    ∙ ap (λ w. Table pins out (cover w k.is_on k.rows)) (sym wide)

-- the kind of a row by what is kept of its table
row_kind_is : (pins : List (List ℕ)) (out : List ℕ) (k : PlainCover) (tokens : List (List ℕ))
    → row_kind (Some (shape_of (table_view pins out k))) tokens ≡ marks_kind (output_before k) (row_of (length pins) tokens)
unfolding row_kind
row_kind_is pins out k tokens =
    ap (λ w. marks_kind (last_output None (marked_rows k)) (row_of w tokens)) (width_is pins out)
    ∙ ap (λ o. marks_kind o (row_of (length pins) tokens)) (last_output-marked k.is_on k.rows None)
  where
    width_is : (pins : List (List ℕ)) (out : List ℕ) → length (pins ++ out ∷ []) - 1 ≡ length pins
    width_is pins out = omega (arith, length-append pins (out ∷ []))

pub kind_as_kept : (pins : List (List ℕ)) (out : List ℕ) (k : PlainCover) (w : ℕ) (tokens : List (List ℕ)) → w ≡ length pins
    → marks_kind (output_before k) (row_of w tokens) ≡ row_kind (Some (shape_of (table_view pins out k))) tokens
kind_as_kept pins out k w tokens hw = ap (λ w. marks_kind (output_before k) (row_of w tokens)) hw ∙ sym (row_kind_is pins out k tokens)

pub row_as_kept : (pins : List (List ℕ)) (out : List ℕ) (k later : PlainCover) (w : ℕ) (tokens : List (List ℕ)) → w ≡ length pins
    → marked_rows later ≡ marked_rows k ++ option_to_list (row_of w tokens)
    → table_view pins out later ≡ with_row tokens (table_view pins out k)
row_as_kept pins out k later w tokens hw h =
    ap (λ rs. let x : OpenTable = record { tokens = pins ++ out ∷ []; rows = rs } in x)
    (h ∙ ap (λ w. marked_rows k ++ option_to_list (row_of w tokens)) (hw ∙ width))
  where
    width : length pins ≡ length (pins ++ out ∷ []) - 1
    width = omega (arith, length-append pins (out ∷ []))

-- the kind of names of which one more is read
names_kind_push : (names : List (List ℕ)) (name : List ℕ) → names_kind (names ++ name ∷ []) ≡ (names_kind names or_else name_kind name)
unfolding names_kind
names_kind_push [] name = or_none (name_kind name)
  where
    or_none : (k : Option TextKind) → (k or_else None) ≡ k
    or_none None = refl
    or_none (Some k) = refl
names_kind_push (x ∷ names) name = ap (λ k. name_kind x or_else k) (names_kind_push names name) ∙ nested (name_kind x) (names_kind names) (name_kind name)
  where
    nested : (a b c : Option TextKind) → (a or_else (b or_else c)) ≡ ((a or_else b) or_else c)
    nested None b c = refl
    nested (Some k) b c = refl

-- the tokens after `.names` are the pins and, behind them, the output
pub pins_and_output : (tokens : List (Bor (List ℕ))) (out : Bor (List ℕ)) (pins : List (Bor (List ℕ))) → tokens ≡ pins ++ out ∷ []
    → plain pins ++ out.now ∷ [] ≡ plain tokens
pins_and_output tokens out pins h = sym (ap plain h ∙ map_push (λ (token : Bor (List ℕ)). token.now) pins out)

pub kind_of_parts : (tokens : List (Bor (List ℕ))) (out : Bor (List ℕ)) (pins : List (Bor (List ℕ))) → tokens ≡ pins ++ out ∷ []
    → (names_kind (plain pins) or_else name_kind out.now) ≡ table_kind (plain tokens)
unfolding table_kind
kind_of_parts tokens out pins h =
    sym (ap table_kind (sym (pins_and_output tokens out pins h)) ∙ ap (λ b. when b Arguments or_else names_kind (plain pins ++ out.now ∷ [])) some ∙ names_kind_push (plain pins) out.now)
  where
    some : (length (plain pins ++ out.now ∷ []) == 0) ≡ false
    some = grind (arith, length-append (plain pins) (out.now ∷ []))

pub ruleset table_parts = (pins_and_output, kind_of_parts)
