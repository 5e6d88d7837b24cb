-- The lines of the text are its lines again.
use Rattle.std.proofs.Common.{◌≡◌, ℕ, zero, suc, ◌+◌, ◌/◌, ◌%◌, ◌^◌, ◌<◌, ◌≤◌, Bool, true, false, List, [], ◌∷◌, ◌++◌, length, get_or, refl, sym, ap, ◌∙◌, append_assoc, arith, nat_lt, cond, reverse}
use Rattle.std.specs.Prelude.{codes}
use Rattle.std.specs.List.{slice_split, list_all, All, AllByRecursion}
use Rattle.std.specs.Fmt.{decimal}
use Rattle.std.specs.Str.{all_ascii_digits}
use Rattle.std.proofs.lemmas.Fmt.{digits_decimal}
use Rattle.std.proofs.lemmas.Str.Parse.{numerals_by_value, tells_all_ascii_digits, IsDigitsTest}
use Rattle.std.proofs.lemmas.List.{reverse-append}
use Rattle.std.proofs.lemmas.List.Splits.{slice_split_at, slice_split_none}
use Rattle.std.proofs.lemmas.List.Elements.{All-nil, All-from_recursion, All-get_or}
use Rattle.std.proofs.Common.{◌&&◌}
use Rattle.std.proofs.lemmas.Bool.{ltb-true, ltb-false}
use Rattle.std.proofs.lemmas.Option.{get_or_from_slice_get, slice_get-get_or}
use Rattle.std.proofs.lemmas.Bool.Decides.{Decides-eqb}
use Rattle.std.proofs.lemmas.List.Sums.{AllPass-from_list_all}
use Rattle.tmr_base.specs.Names.{is_name, is_name_byte}
use Rattle.vcd_text.specs.Text.{digits, code_text, bit, change_line, var_line, var_lines, head_lines, is_changed, value_at, change_lines, changes_from, timed, cycle_lines, cycles_from, end_lines, vcd_lines, lines_text}
use Rattle.vcd_text.specs.At.{is_line_feed, latest_lines}

-- no line feed is among the bytes
abbrev pub IsClean : List ℕ → Type 0
IsClean [] = Unit {0}
IsClean (b ∷ bytes) = (is_line_feed b ≡ false) × IsClean bytes

abbrev pub AreClean : List (List ℕ) → Type 0
AreClean [] = Unit {0}
AreClean (line ∷ lines) = IsClean line × AreClean lines

none : (bytes : List ℕ) → IsClean bytes → AllByRecursion (λ b. is_line_feed b ≡ false) bytes
none [] c = tt
none (b ∷ bytes) c = (c.0, none bytes c.1)

pub split_again : (lines : List (List ℕ)) → AreClean lines → slice_split is_line_feed (lines_text lines) ≡ lines ++ [] ∷ []
split_again [] c = slice_split_none is_line_feed [] (All-nil (λ b. is_line_feed b ≡ false))
split_again (line ∷ lines) c =
    ap (slice_split is_line_feed) (append_assoc line (10 ∷ []) (lines_text lines))
    ∙ (slice_split_at is_line_feed line 10 (lines_text lines) (All-from_recursion (λ b. is_line_feed b ≡ false) line (none line c.0)) refl
    ∙ ap (λ (ls : List (List ℕ)). line ∷ ls) (split_again lines c.1))

pub latest_again : (lines : List (List ℕ)) → AreClean lines → latest_lines (lines_text lines) ≡ [] ∷ reverse lines
latest_again lines c = ap reverse (split_again lines c) ∙ reverse-append lines ([] ∷ [])

clean_append : (xs ys : List ℕ) → IsClean xs → IsClean ys → IsClean (xs ++ ys)
clean_append [] ys c d = d
clean_append (x ∷ xs) ys c d = (c.0, clean_append xs ys c.1 d)

are_append : (xs ys : List (List ℕ)) → AreClean xs → AreClean ys → AreClean (xs ++ ys)
are_append [] ys c d = d
are_append (x ∷ xs) ys c d = (c.0, are_append xs ys c.1 d)

above : (b : ℕ) → 11 ≤ b → is_line_feed b ≡ false
above b le = go (is_line_feed b) refl
  where
    go : (f : Bool) → is_line_feed b ≡ f → f ≡ false
    go true e = absurd (let same : b ≡ 10 = (Decides-eqb b 10).0 e in omega (arith, same))
    go false e = refl

clean_digits : (m k : ℕ) → IsClean (digits m k)
unfolding digits
clean_digits zero k = tt
clean_digits (suc m) k = (above (33 + k % 94) (omega arith), rest (nat_lt k 94) (digits m (k / 94)) (clean_digits m (k / 94)))
  where
    rest : (b : Bool) (ds : List ℕ) → IsClean ds → IsClean (cond b [] ds)
    rest true ds c = tt
    rest false ds c = c

clean_by_index : (bytes : List ℕ) → ((i : ℕ) → i < length bytes → 11 ≤ get_or bytes i 0) → IsClean bytes
clean_by_index [] h = tt
clean_by_index (b ∷ bytes) h = (above b (h 0 (omega arith)), clean_by_index bytes (λ i lt. h (suc i) (omega (arith, lt))))

name_byte : (b : ℕ) → is_name_byte b ≡ true → 11 ≤ b
name_byte b e = let lt : 32 < b = ltb-true 32 b (and_left _ _ (and_left _ _ e)) in omega (arith, lt)
  where
    and_left : (x y : Bool) → (x && y) ≡ true → x ≡ true
    and_left true y f = refl
    and_left false y f = absurd cc

clean_bytes : (bytes : List ℕ) → list_all is_name_byte bytes ≡ true → IsClean bytes
clean_bytes bytes e = clean_by_index bytes (λ i lt. name_byte (get_or bytes i 0) (passes (AllPass-from_list_all is_name_byte bytes e) i lt))
  where
    passes : All (λ b. is_name_byte b ≡ true) bytes → (i : ℕ) → i < length bytes → is_name_byte (get_or bytes i 0) ≡ true
    passes a i lt = All-get_or (λ b. is_name_byte b ≡ true) bytes i 0 lt a

abbrev has_none : List ℕ → Bool
has_none [] = true
has_none (b ∷ bytes) = cond (is_line_feed b) false (has_none bytes)

-- bytes that are written out
clean_words : (bytes : List ℕ) → has_none bytes ≡ true → IsClean bytes
clean_words [] e = tt
clean_words (b ∷ bytes) e = one (is_line_feed b) refl e (λ f. clean_words bytes f)
  where
    one : (f : Bool) → is_line_feed b ≡ f → cond f false (has_none bytes) ≡ true → (has_none bytes ≡ true → IsClean bytes) → IsClean (b ∷ bytes)
    one true is e rest = absurd cc
    one false is e rest = (is, rest e)

clean_name : (name : List ℕ) → is_name name ≡ true → IsClean name
clean_name name e = clean_bytes name (and_right _ _ e)
  where
    and_right : (x y : Bool) → (x && y) ≡ true → y ≡ true
    and_right true y f = f
    and_right false y f = absurd cc

clean_numeral : (bytes : List ℕ) → all_ascii_digits bytes ≡ true → IsClean bytes
clean_numeral [] e = tt
clean_numeral (b ∷ bytes) e =
    let d = IsDigitsTest.parts tells_all_ascii_digits b bytes e in
    (above b (let l : 48 ≤ b = d.0.0 in omega (arith, l)), clean_numeral bytes d.1)

clean_decimal : (n : ℕ) → n < 2 ^ 64 → IsClean (decimal n)
clean_decimal n lt = clean_numeral (decimal n) (digits_decimal (numerals_by_value (λ ds. all_ascii_digits ds ≡ true) tells_all_ascii_digits) n lt)

clean_var : (k : ℕ) (name : List ℕ) → is_name name ≡ true → IsClean (var_line k name)
clean_var k name e = clean_append (codes "$var wire 1 ") (code_text k ++ (32 ∷ (name ++ codes " $end"))) (clean_words (codes "$var wire 1 ") refl)
    (clean_append (code_text k) (32 ∷ (name ++ codes " $end")) (clean_digits (suc k) k) (refl, clean_append name (codes " $end") (clean_name name e) (clean_words (codes " $end") refl)))

-- all of them are names
abbrev pub AreNames : List (List ℕ) → Type 0
AreNames [] = Unit {0}
AreNames (name ∷ names) = (is_name name ≡ true) × AreNames names

clean_vars : (k : ℕ) (names : List (List ℕ)) → AreNames names → AreClean (var_lines k names)
clean_vars k [] a = tt
clean_vars k (name ∷ names) a = (clean_var k name a.0, clean_vars (k + 1) names a.1)

clean_head : (names : List (List ℕ)) → AreNames names → AreClean (head_lines names)
clean_head names a = (clean_words (codes "$timescale 1 ns $end") refl, (clean_words (codes "$scope module tmr $end") refl, are_append (var_lines 0 names) (codes "$upscope $end" ∷ codes "$enddefinitions $end" ∷ []) (clean_vars 0 names a) (clean_words (codes "$upscope $end") refl, (clean_words (codes "$enddefinitions $end") refl, tt))))

clean_bit : (value : Bool) → is_line_feed (bit value) ≡ false
clean_bit true = refl
clean_bit false = refl

clean_changes : (values : List Bool) (count t k more : ℕ) → AreClean (changes_from values count t k more)
unfolding changes_from
clean_changes values count t k zero = tt
clean_changes values count t k (suc more) = are_append (change_lines values count t k) (changes_from values count t (k + 1) more) (one (is_changed values count t k) (value_at values count t k)) (clean_changes values count t (k + 1) more)
  where
    one : (b value : Bool) → AreClean (cond b (change_line value (code_text k) ∷ []) [])
    one true value = ((clean_bit value, clean_digits (suc k) k), tt)
    one false value = tt

clean_timed : (t : ℕ) (lines : List (List ℕ)) → t < 2 ^ 64 → AreClean lines → AreClean (timed t lines)
clean_timed t [] lt c = tt
clean_timed t (line ∷ lines) lt c = ((refl, clean_decimal t lt), c)

clean_cycles : (values : List Bool) (count t more : ℕ) → t + more < 2 ^ 64 → AreClean (cycles_from values count t more)
unfolding cycles_from
clean_cycles values count t zero lt = tt
clean_cycles values count t (suc more) lt = are_append (cycle_lines values count t) (cycles_from values count (t + 1) more) (clean_timed t (changes_from values count t 0 count) (omega arith) (clean_changes values count t 0 count)) (clean_cycles values count (t + 1) more (omega arith))

clean_end : (cycles : ℕ) → cycles < 2 ^ 64 → AreClean (end_lines cycles)
clean_end zero lt = tt
clean_end (suc t) lt = ((refl, clean_decimal (suc t) lt), tt)

pub clean_text : (names : List (List ℕ)) (cycles : ℕ) (values : List Bool) → cycles < 2 ^ 32 → AreNames names → AreClean (vcd_lines names cycles values)
unfolding vcd_lines
clean_text names cycles values lt a = are_append (head_lines names) (cycles_from values (length names) 0 cycles ++ end_lines cycles) (clean_head names a) (are_append (cycles_from values (length names) 0 cycles) (end_lines cycles) (clean_cycles values (length names) 0 cycles (omega arith)) (clean_end cycles (omega arith)))

-- the names, each by its number
pub names_from_index : (names : List (List ℕ)) → ((k : ℕ) → k < length names → is_name (get_or names k []) ≡ true) → AreNames names
names_from_index [] h = tt
names_from_index (name ∷ names) h = (h 0 (omega arith), names_from_index names (λ k lt. h (suc k) (omega (arith, lt))))

-- one name more
pub name_more : (names : List (List ℕ)) (k : ℕ) (name : List ℕ) → k < length names → name ≡ get_or names k name → is_name name ≡ true → ((j : ℕ) → j < k → is_name (get_or names j []) ≡ true) → (j : ℕ) → j < k + 1 → is_name (get_or names j []) ≡ true
name_more names k name lt is legal done j small = go (nat_lt j k) refl
  where
    go : (b : Bool) → nat_lt j k ≡ b → is_name (get_or names j []) ≡ true
    go true e = done j (ltb-true j k e)
    go false e =
        let le : k ≤ j = ltb-false j k e in
        let same : j ≡ k = omega (arith, le, small) in
        ap (λ m. is_name (get_or names m [])) same ∙ (ap is_name (get_or_from_slice_get names k (get_or names k name) [] (slice_get-get_or names k name lt) ∙ sym is) ∙ legal)
