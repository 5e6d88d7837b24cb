-- What a schedule keeps.
use Rattle.std.proofs.Common.{◌≡◌, ℕ, zero, suc, ◌+◌, ◌-◌, ◌*◌, ◌<◌, ◌≤◌, ◌⊎◌, inl, inr, Bool, true, false, cond, List, [], ◌∷◌, ◌++◌, length, take, drop, get_or, slice_get, Option, Some, None, refl, sym, ◌∙◌, ap, subst, arith}
use Rattle.std.specs.Prelude.{All, IfSome}
use Rattle.std.proofs.lemmas.List.{length-append, get_or-take, get_or-drop}
use Rattle.std.proofs.lemmas.List.Elements.{All-append}
use Rattle.std.proofs.lemmas.Option.{slice_get_within, slice_get-get_or, get_or_from_slice_get}
use Rattle.tmr_base.specs.declared.ids.Upset.{Upset}
use Rattle.table_cover.specs.Rows.{cut_rows}
use Rattle.table_cover.proofs.RowLaws.{length-cut_rows, cut_rows-push, slice_get-cut_rows, row_within}
use Rattle.net_meaning.specs.Meaning.{bit, row_at, value_at}
use Rattle.schedules.specs.Schedule.{PlainSchedule, IsPlainSchedule, IsBefore}

pub ruleset counts = (length-cut_rows)

one : {A : Type 0} (P : A → Type 0) (x : A) → P x → All P (x ∷ [])
one P x p zero d h = p
one P x p (suc i) d h = absurd (omega arith)

pub cycle_more : (s : PlainSchedule) (row : List Bool) → IsPlainSchedule s → length row ≡ s.inputs → length s.rows < 1048576 → IsPlainSchedule (record s { rows = s.rows ++ row ∷ [] })
cycle_more s row is wide room = record {
  wide = All-append (λ r. length r ≡ s.inputs) s.rows (row ∷ []) is.wide (λ i d h. one (λ r. length r ≡ s.inputs) row wide i d h);
  few_rows = omega (arith, length-append s.rows (row ∷ []));
  few_starts = is.few_starts;
  few_upsets = is.few_upsets;
  in_range = λ i d h. let below = is.in_range i d h in omega (arith, length-append s.rows (row ∷ []));
  ascending = is.ascending;
}

before_trans : (u v w : Upset) → IsBefore u v → IsBefore v w → IsBefore u w
before_trans u v w (inl a) (inl b) = inl (omega arith)
before_trans u v w (inl a) (inr (b, c)) = inl (omega arith)
before_trans u v w (inr (a, b)) (inl c) = inl (omega arith)
before_trans u v w (inr (a, b)) (inr (c, d)) = inr (omega arith, omega arith)

-- the one behind the list, and those of the list
pub append_cases : {A : Type 0} (xs : List A) (x y : A) (i : ℕ) → slice_get (xs ++ x ∷ []) i ≡ Some y → (slice_get xs i ≡ Some y) ⊎ ((i ≡ length xs) × (y ≡ x))
append_cases [] x y zero e = inr (refl, cc)
append_cases [] x y (suc i) e = absurd (cc)
append_cases (z ∷ xs) x y zero e = inl e
append_cases (z ∷ xs) x y (suc i) e = go (append_cases xs x y i e)
  where
    go : (slice_get xs i ≡ Some y) ⊎ ((i ≡ length xs) × (y ≡ x)) → (slice_get xs i ≡ Some y) ⊎ ((suc i ≡ suc (length xs)) × (y ≡ x))
    go (inl e) = inl e
    go (inr (a, b)) = inr (ap suc a, b)

if_some : {A : Type 0} (o : Option A) (a : A) (P : A → Type 0) → o ≡ Some a → IfSome o P → P a
if_some None a P e p = absurd (cc)
if_some {A} (Some b) a P e p = let same : b ≡ a = cc in subst P same p

last_before : (us : List Upset) (u v : Upset) (j : ℕ) → ((j k : ℕ) (u v : Upset) → j < k → slice_get us j ≡ Some u → slice_get us k ≡ Some v → IsBefore u v) → IfSome (slice_get us (length us - 1)) (λ w. IsBefore w u) → slice_get us j ≡ Some v → IsBefore v u
last_before us u v j asc last e = go (cases j (length us - 1))
  where
    within : j < length us
    within = slice_get_within us j v e

    there : slice_get us (length us - 1) ≡ Some (get_or us (length us - 1) v)
    there = slice_get-get_or us (length us - 1) v (let h = within in omega arith)

    w_before : IsBefore (get_or us (length us - 1) v) u
    w_before = if_some (slice_get us (length us - 1)) (get_or us (length us - 1) v) (λ w. IsBefore w u) there last

    cases : (a b : ℕ) → (a < b) ⊎ (b ≤ a)
    cases a b = grind arith

    go : (j < length us - 1) ⊎ (length us - 1 ≤ j) → IsBefore v u
    go (inl l) = before_trans v (get_or us (length us - 1) v) u (asc j (length us - 1) v (get_or us (length us - 1) v) l e there) w_before
    go (inr g) =
        let at : j ≡ length us - 1 = let h = within in omega arith in
        let same : get_or us (length us - 1) v ≡ v = get_or_from_slice_get us (length us - 1) v v (subst (λ (k : ℕ). slice_get us k ≡ Some v) at e) in
        subst (λ (w : Upset). IsBefore w u) same w_before

pub upset_more : (s : PlainSchedule) (u : Upset) → IsPlainSchedule s → IfSome (slice_get s.upsets (length s.upsets - 1)) (λ v. IsBefore v u) → u.cycle < length s.rows → length s.upsets < 1048576 → IsPlainSchedule (record s { upsets = s.upsets ++ u ∷ [] })
upset_more s u is last range room = record {
  wide = is.wide;
  few_rows = is.few_rows;
  few_starts = is.few_starts;
  few_upsets = omega (arith, length-append s.upsets (u ∷ []));
  in_range = All-append (λ v. v.cycle < length s.rows) s.upsets (u ∷ []) is.in_range (λ i d h. one (λ v. v.cycle < length s.rows) u range i d h);
  ascending = λ j k v w l e f. asc j k v w l (append_cases s.upsets u v j e) (append_cases s.upsets u w k f);
}
  where
    asc : (j k : ℕ) (v w : Upset) → j < k → (slice_get s.upsets j ≡ Some v) ⊎ ((j ≡ length s.upsets) × (v ≡ u)) → (slice_get s.upsets k ≡ Some w) ⊎ ((k ≡ length s.upsets) × (w ≡ u)) → IsBefore v w
    asc j k v w l (inl e) (inl f) = is.ascending j k v w l e f
    asc j k v w l (inl e) (inr (at, same)) = subst (λ (x : Upset). IsBefore v x) (sym same) (last_before s.upsets u v j is.ascending last e)
    asc j k v w l (inr (at, same)) (inl f) = absurd (let h = slice_get_within s.upsets k w f in omega arith)
    asc j k v w l (inr (at, same)) (inr (at', same')) = absurd (omega arith)

-- bit i of row t
pub bit_of_row : (width count t i : ℕ) (bits : List Bool) → t < count → i < width → value_at (cut_rows width count bits) t i ≡ get_or bits (t * width + i) false
bit_of_row width count t i bits h l =
    let here : row_at (cut_rows width count bits) t ≡ take width (drop (t * width) bits) = get_or_from_slice_get (cut_rows width count bits) t (take width (drop (t * width) bits)) [] (slice_get-cut_rows width count bits t h) in
    ap (λ (row : List Bool). bit row i) here ∙ (get_or-take width (drop (t * width) bits) i false l ∙ get_or-drop (t * width) bits i false)

pub ruleset bits_of_rows = (bit_of_row, row_within, length-cut_rows)

-- one row more at the end
pub rows_more : (width count : ℕ) (bits new row : List Bool) → length bits ≡ count * width → length row ≡ width → new ≡ bits ++ row → cut_rows width (count + 1) new ≡ cut_rows width count bits ++ row ∷ []
rows_more width count bits new row long wide e =
    let next : count + 1 ≡ suc count = omega arith in
    ap (λ (k : ℕ). cut_rows width k new) next ∙ (ap (λ (xs : List Bool). cut_rows width (suc count) xs) e ∙ cut_rows-push width count bits row long wide)

pub long_more : (width count : ℕ) (bits new row : List Bool) → length bits ≡ count * width → length row ≡ width → new ≡ bits ++ row → length new ≡ (count + 1) * width
long_more width count bits new row long wide e =
    let k : (count + 1) * width ≡ count * width + width = omega arith in
    ap length e ∙ (length-append bits row ∙ omega arith)

-- whether or not there was room
pub pushed : (b : Bool) (s : PlainSchedule) (u : Upset) (new : List Upset) → new ≡ cond b (s.upsets ++ u ∷ []) s.upsets → IsPlainSchedule s → IsPlainSchedule (record s { upsets = s.upsets ++ u ∷ [] }) → IsPlainSchedule (record s { upsets = new })
pushed true s u new e old more = subst (λ (us : List Upset). IsPlainSchedule (record s { upsets = us })) (sym e) more
pushed false s u new e old more = subst (λ (us : List Upset). IsPlainSchedule (record s { upsets = us })) (sym e) old
