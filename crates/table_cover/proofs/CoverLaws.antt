-- What a cover keeps when a row is read or added.
use Rattle.std.proofs.Common.{◌≡◌, ℕ, zero, suc, ◌+◌, ◌*◌, ◌<◌, Bool, true, false, List, [], ◌∷◌, ◌++◌, length, slice_get, Some, None, refl, sym, ap, subst, cond, ◌∙◌, arith}
use Rattle.std.specs.Prelude.{All, ◌==◌, not, ◌&&◌, nat_eq}
use Rattle.std.specs.List.{list_all}
use Rattle.std.proofs.lemmas.Option.{slice_get_within, get_or_from_slice_get}
use Rattle.std.proofs.lemmas.List.Elements.{All-append}
use Rattle.std.proofs.lemmas.List.{length-append}
use Rattle.table_cover.specs.declared.cover.RowFault.TheVariants.{Width, BadChar, Mixed}
use Rattle.table_cover.specs.Cover.{PlainCover, IsCover, IsRow, is_mark}
use Rattle.table_cover.specs.Rows.{cut_rows}
use Rattle.table_cover.specs.Pushing.{row_fault, with_row, is_output, is_mixed}
use Rattle.table_cover.proofs.RowLaws.{length-cut_rows, cut_rows-push}

pub row_is_row : (k : PlainCover) (i : ℕ) (row : List ℕ) → IsCover k → slice_get k.rows i ≡ Some row → IsRow k.width row
row_is_row k i row is e =
    let within : i < length k.rows = slice_get_within k.rows i row e in
    subst (λ (r : List ℕ). IsRow k.width r) (get_or_from_slice_get k.rows i row row e) (is.rows i row within)

pub ruleset rows_of_covers = (row_is_row, length-cut_rows)

-- rows that are the same are as many
pub same_count : (w c v d : ℕ) (a b : List ℕ) → cut_rows w c a ≡ cut_rows v d b → c ≡ d
same_count w c v d a b e = sym (length-cut_rows w c a) ∙ (ap length e ∙ length-cut_rows v d b)

pub ruleset same_counts = (same_count)

decided : (a b m : Bool) → cond (not a) (Some Width) (cond (not b) (Some BadChar) (cond m (Some Mixed) None)) ≡ None → (a ≡ true) × (b ≡ true)
decided true true m e = (refl, refl)
decided true false m e = absurd cc
decided false b m e = absurd cc

both : (a b : Bool) → (a && b) ≡ true → a ≡ true
both true b e = refl
both false b e = absurd cc

-- a row that nothing refuses
pub fits : (k : PlainCover) (row : List ℕ) (output : ℕ) → row_fault k row output ≡ None → IsRow k.width row
fits k row output e =
    let d = decided (length row == k.width) (list_all is_mark row && is_output output) (is_mixed k output) e in
    (grind (arith, d.0), both (list_all is_mark row) (is_output output) d.1)

with_row_is_cover : (k : PlainCover) (row : List ℕ) (output : ℕ) → IsCover k → IsRow k.width row → length k.rows < 4294967295 → IsCover (with_row k row output)
with_row_is_cover k row output is fit few = record {
  rows = All-append (λ r. IsRow k.width r) k.rows (row ∷ []) is.rows (λ i d h. one (λ r. IsRow k.width r) row fit i d h);
  few = omega (arith, length-append k.rows (row ∷ []));
  empty_is_on = λ e. absurd (let long = ap length e in omega (arith, long, length-append k.rows (row ∷ [])));
}
  where
    one : (P : List ℕ → Type 0) (r : List ℕ) → P r → All P (r ∷ [])
    one P r p zero d h = p
    one P r p (suc i) d h = absurd (omega arith)

module _ (w count : ℕ) (on : Bool) (marks new row : List ℕ) (output : ℕ) (long : length marks ≡ count * w) (fit : IsRow w row) (added : new ≡ marks ++ row) where
  pub new_rows : cut_rows w (count + 1) new ≡ cut_rows w count marks ++ row ∷ []
  new_rows =
      ap (cut_rows w (count + 1)) added
      ∙ (ap (λ (n : ℕ). cut_rows w n (marks ++ row)) (let e : count + 1 ≡ suc count = omega arith in e)
      ∙ cut_rows-push w count marks row long fit.0)

  pub new_view : let k : PlainCover = record { width = w; is_on = on; rows = cut_rows w count marks } in let l : PlainCover = record { width = w; is_on = nat_eq output 49; rows = cut_rows w (count + 1) new } in l ≡ with_row k row output
  new_view = ap (λ (rs : List (List ℕ)). let l : PlainCover = record { width = w; is_on = nat_eq output 49; rows = rs } in l) new_rows

  pub new_long : length new ≡ (count + 1) * w
  new_long = ap length added ∙ (length-append marks row ∙ (let fit_long : length row ≡ w = fit.0 in let e : length marks + length row ≡ (count + 1) * w = omega arith in e))

  pub new_is_cover : IsCover (record { width = w; is_on = on; rows = cut_rows w count marks }) → length (cut_rows w count marks) < 4294967295 → IsCover (record { width = w; is_on = nat_eq output 49; rows = cut_rows w (count + 1) new })
  new_is_cover is few = subst IsCover (sym new_view) (with_row_is_cover (record { width = w; is_on = on; rows = cut_rows w count marks }) row output is fit few)
