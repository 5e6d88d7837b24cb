-- What the text tells of each name in each cycle.
use Rattle.std.proofs.Common.{◌≡◌, ◌≢◌, ℕ, zero, suc, ◌+◌, ◌-◌, ◌^◌, ◌<◌, ◌≤◌, ◌⊎◌, inl, inr, ◌||◌, not, Bool, true, false, List, [], ◌∷◌, ◌++◌, length, get_or, Option, Some, None, refl, sym, ap, subst, ◌∙◌, append_assoc, arith, nat_lt, cond, reverse}
use Rattle.std.proofs.lemmas.List.{reverse-append, append-nil}
use Rattle.std.proofs.lemmas.Bool.{ltb-true, ltb-false, lt-ltb, le-ltb}
use Rattle.std.specs.Prelude.{codes}
use Rattle.std.proofs.Common.{◌==◌}
use Rattle.std.proofs.lemmas.Bool.Decides.{Decides-eqb}
use Rattle.vcd_text.specs.Text.{code_text, differ, change_line, time_line, var_line, var_lines, head_lines, is_changed, value_at, change_lines, changes_from, timed, cycle_lines, cycles_from, end_lines, vcd_lines, vcd_text}
use Rattle.vcd_text.specs.At.{time_of, change_of, is_by, ever, nearest_time, last_change, latest_lines, vcd_at, RepeatsNothing}
use Rattle.vcd_text.proofs.Spelled.{AreNames, clean_text, latest_again}
use Rattle.vcd_text.proofs.LineKinds.{code_differs, no_change, not_by_first, same_change, change_other, change_time, time_is, nearest_more, nearest_is, last_other, last_late, last_is}

-- these lines, read one after the other onto those before, of which the last comes first
abbrev pub pile : List (List ℕ) → List (List ℕ) → List (List ℕ)
pile [] below = below
pile (line ∷ lines) below = pile lines (line ∷ below)

pub pile_append : (xs ys below : List (List ℕ)) → pile (xs ++ ys) below ≡ pile ys (pile xs below)
pile_append [] ys below = refl
pile_append (x ∷ xs) ys below = pile_append xs ys (x ∷ below)

pile_is : (xs below : List (List ℕ)) → pile xs below ≡ reverse xs ++ below
pile_is [] below = refl
pile_is (x ∷ xs) below = pile_is xs (x ∷ below) ∙ (sym (append_assoc (reverse xs) (x ∷ []) below) ∙ ap (λ (ls : List (List ℕ)). ls ++ below) (sym (reverse-append (x ∷ []) xs)))

pub reverse_is : (xs : List (List ℕ)) → reverse xs ≡ pile xs []
reverse_is xs = sym (pile_is xs [] ∙ append-nil (reverse xs))

-- lines that tell nothing of this code, and no time
abbrev AreQuiet : List ℕ → List (List ℕ) → Type 0
AreQuiet code [] = Unit {0}
AreQuiet code (line ∷ lines) = (time_of line ≡ None) × (change_of code line ≡ None) × AreQuiet code lines

quiet : (within : Option ℕ → Bool) (code : List ℕ) (lines below : List (List ℕ)) → AreQuiet code lines → (nearest_time (pile lines below) ≡ nearest_time below) × (last_change within code (pile lines below) ≡ last_change within code below)
quiet within code [] below q = (refl, refl)
quiet within code (line ∷ lines) below q =
    let rest = quiet within code lines (line ∷ below) q.2 in
    (rest.0 ∙ nearest_more line below q.0, rest.1 ∙ last_other within code line below q.1)

-- the line of one name, or none
one_change : (b value : Bool) (k : ℕ) → List (List ℕ)
one_change b value k = cond b (change_line value (code_text k) ∷ []) []

changes_step : (values : List Bool) (count s k more : ℕ) (below : List (List ℕ)) → pile (changes_from values count s k (suc more)) below ≡ pile (changes_from values count s (k + 1) more) (pile (change_lines values count s k) below)
unfolding changes_from
changes_step values count s k more below = pile_append (change_lines values count s k) (changes_from values count s (k + 1) more) below

quiet_one : (values : List Bool) (count s k j : ℕ) → j ≢ k → AreQuiet (code_text j) (change_lines values count s k)
quiet_one values count s k j ne = go (is_changed values count s k) (value_at values count s k)
  where
    go : (b value : Bool) → AreQuiet (code_text j) (cond b (change_line value (code_text k) ∷ []) [])
    go true value = (change_time value (code_text k), change_other value (code_text j) (code_text k) (λ e. ne (sym (code_differs k j e))), tt)
    go false value = tt

-- the lines of one name leave the nearest time
near_one : (values : List Bool) (count s k : ℕ) (below : List (List ℕ)) → nearest_time (pile (change_lines values count s k) below) ≡ nearest_time below
near_one values count s k below = go (is_changed values count s k) (value_at values count s k)
  where
    go : (b value : Bool) → nearest_time (pile (cond b (change_line value (code_text k) ∷ []) []) below) ≡ nearest_time below
    go true value = nearest_more (change_line value (code_text k)) below (change_time value (code_text k))
    go false value = refl

near_changes : (values : List Bool) (count s k more : ℕ) (below : List (List ℕ)) → nearest_time (pile (changes_from values count s k more) below) ≡ nearest_time below
unfolding changes_from
near_changes values count s k zero below = refl
near_changes values count s k (suc more) below = ap nearest_time (changes_step values count s k more below) ∙ (near_changes values count s (k + 1) more (pile (change_lines values count s k) below) ∙ near_one values count s k below)

-- the lines of other names
past : (within : Option ℕ → Bool) (values : List Bool) (count s k more j : ℕ) (below : List (List ℕ)) → j < k → last_change within (code_text j) (pile (changes_from values count s k more) below) ≡ last_change within (code_text j) below
unfolding changes_from
past within values count s k zero j below lt = refl
past within values count s k (suc more) j below lt =
    ap (last_change within (code_text j)) (changes_step values count s k more below)
    ∙ (past within values count s (k + 1) more j (pile (change_lines values count s k) below) (omega arith)
    ∙ (quiet within (code_text j) (change_lines values count s k) below (quiet_one values count s k j (λ e. absurd (omega (arith, e))))).1)

-- lines out of time
late_one : (within : Option ℕ → Bool) (code : List ℕ) (values : List Bool) (count s k : ℕ) (below : List (List ℕ)) → within (nearest_time below) ≡ false → last_change within code (pile (change_lines values count s k) below) ≡ last_change within code below
late_one within code values count s k below off = go (is_changed values count s k) (value_at values count s k)
  where
    go : (b value : Bool) → last_change within code (pile (cond b (change_line value (code_text k) ∷ []) []) below) ≡ last_change within code below
    go true value = last_late within code (change_line value (code_text k)) below off
    go false value = refl

late : (within : Option ℕ → Bool) (code : List ℕ) (values : List Bool) (count s k more : ℕ) (below : List (List ℕ)) → within (nearest_time below) ≡ false → last_change within code (pile (changes_from values count s k more) below) ≡ last_change within code below
unfolding changes_from
late within code values count s k zero below off = refl
late within code values count s k (suc more) below off =
    ap (last_change within code) (changes_step values count s k more below)
    ∙ (late within code values count s (k + 1) more (pile (change_lines values count s k) below) (ap within (near_one values count s k below) ∙ off)
    ∙ late_one within code values count s k below off)

-- what stands of a name before and behind its own line
own_one : (within : Option ℕ → Bool) (values : List Bool) (count s k : ℕ) (below : List (List ℕ)) (o : Option Bool) → within (nearest_time below) ≡ true → last_change within (code_text k) below ≡ o → last_change within (code_text k) (pile (change_lines values count s k) below) ≡ cond (is_changed values count s k) (Some (value_at values count s k)) o
own_one within values count s k below o on e = go (is_changed values count s k) (value_at values count s k)
  where
    go : (b value : Bool) → last_change within (code_text k) (pile (cond b (change_line value (code_text k) ∷ []) []) below) ≡ cond b (Some value) o
    go true value = last_is within (code_text k) value below on
    go false value = e

equal_or_less : (k j : ℕ) → k ≤ j → (k ≡ j) ⊎ (k < j)
equal_or_less k j le = split (nat_lt k j) refl
  where
    split : (b : Bool) → nat_lt k j ≡ b → (k ≡ j) ⊎ (k < j)
    split true f = inr (ltb-true k j f)
    split false f = let g : j ≤ k = ltb-false k j f in inl (omega (arith, le, g))

own : (within : Option ℕ → Bool) (values : List Bool) (count s k more j : ℕ) (below : List (List ℕ)) (o : Option Bool) → k ≤ j → j < k + more → within (nearest_time below) ≡ true → last_change within (code_text j) below ≡ o → last_change within (code_text j) (pile (changes_from values count s k more) below) ≡ cond (is_changed values count s j) (Some (value_at values count s j)) o
own within values count s k zero j below o le lt on e = absurd (omega arith)
own within values count s k (suc more) j below o le lt on e = ap (last_change within (code_text j)) (changes_step values count s k more below) ∙ go (equal_or_less k j le) (λ low f g h. own within values count s (k + 1) more j (pile (change_lines values count s k) below) o low f g h)
  where
    behind : List (List ℕ)
    behind = pile (change_lines values count s k) below

    go : (k ≡ j) ⊎ (k < j) → (k + 1 ≤ j → j < k + 1 + more → within (nearest_time behind) ≡ true → last_change within (code_text j) behind ≡ o → last_change within (code_text j) (pile (changes_from values count s (k + 1) more) behind) ≡ cond (is_changed values count s j) (Some (value_at values count s j)) o) → last_change within (code_text j) (pile (changes_from values count s (k + 1) more) behind) ≡ cond (is_changed values count s j) (Some (value_at values count s j)) o
    go (inl same) again = past within values count s (k + 1) more j behind (omega (arith, same)) ∙ subst (λ m. last_change within (code_text m) behind ≡ cond (is_changed values count s m) (Some (value_at values count s m)) o) same (own_one within values count s k below o on (ap (λ m. last_change within (code_text m) below) same ∙ e))
    go (inr less) again = again (omega (arith, less)) (omega (arith, less, lt)) (ap within (near_one values count s k below) ∙ on) ((quiet within (code_text j) (change_lines values count s k) below (quiet_one values count s k j (λ f. absurd (omega (arith, f, less))))).1 ∙ e)

-- ---- one cycle

time_tells : (code : List ℕ) (s : ℕ) → change_of code (time_line s) ≡ None
time_tells code s = no_change code (time_line s) (not_by_first code (time_line s) (omega arith))

timed_same : (within : Option ℕ → Bool) (code : List ℕ) (s : ℕ) (lines below : List (List ℕ)) → last_change within code (pile (timed s lines) below) ≡ last_change within code (pile lines (time_line s ∷ below))
timed_same within code s [] below = sym (last_other within code (time_line s) below (time_tells code s))
timed_same within code s (line ∷ lines) below = refl

cycle_own : (within : Option ℕ → Bool) (values : List Bool) (count s j : ℕ) (below : List (List ℕ)) (o : Option Bool) → j < count → s < 2 ^ 64 → within (Some s) ≡ true → last_change within (code_text j) below ≡ o → last_change within (code_text j) (pile (cycle_lines values count s) below) ≡ cond (is_changed values count s j) (Some (value_at values count s j)) o
cycle_own within values count s j below o lt small on e =
    timed_same within (code_text j) s (changes_from values count s 0 count) below
    ∙ own within values count s 0 count j (time_line s ∷ below) o (omega arith) (omega arith) (ap within (nearest_is (time_line s) below s (time_is s small)) ∙ on) (last_other within (code_text j) (time_line s) below (time_tells (code_text j) s) ∙ e)

cycle_late : (within : Option ℕ → Bool) (code : List ℕ) (values : List Bool) (count s : ℕ) (below : List (List ℕ)) → s < 2 ^ 64 → within (Some s) ≡ false → last_change within code (pile (cycle_lines values count s) below) ≡ last_change within code below
cycle_late within code values count s below small off =
    timed_same within code s (changes_from values count s 0 count) below
    ∙ (late within code values count s 0 count (time_line s ∷ below) (ap within (nearest_is (time_line s) below s (time_is s small)) ∙ off)
    ∙ last_other within code (time_line s) below (time_tells code s))

-- the value of the cycle before, of which there is none in cycle 0
before : List Bool → ℕ → ℕ → ℕ → Option Bool
before values count s j = cond (s == 0) None (Some (value_at values count (s - 1) j))

not_zero : (s : ℕ) → (s + 1 == 0) ≡ false
not_zero s = go (s + 1 == 0) refl
  where
    go : (b : Bool) → (s + 1 == 0) ≡ b → b ≡ false
    go true e = absurd (let f : s + 1 ≡ 0 = (Decides-eqb (s + 1) 0).0 e in omega (arith, f))
    go false e = refl

before_next : (values : List Bool) (count s j : ℕ) → before values count (s + 1) j ≡ Some (value_at values count s j)
unfolding before
before_next values count s j =
    ap (λ b. cond b None (Some (value_at values count (s + 1 - 1) j))) (not_zero s)
    ∙ ap (λ m. Some (value_at values count m j)) (let e : s + 1 - 1 ≡ s = omega arith in e)

changed_step : (b x y : Bool) → cond (b || differ x y) (Some x) (cond b None (Some y)) ≡ Some x
changed_step true x y = refl
changed_step false true true = refl
changed_step false true false = refl
changed_step false false true = refl
changed_step false false false = refl

before_step : (values : List Bool) (count s j : ℕ) → cond (is_changed values count s j) (Some (value_at values count s j)) (before values count s j) ≡ before values count (s + 1) j
unfolding before
before_step values count s j = changed_step (s == 0) (value_at values count s j) (value_at values count (s - 1) j) ∙ sym (before_next values count s j)

-- ---- all cycles

cycles_step : (values : List Bool) (count s more : ℕ) (below : List (List ℕ)) → pile (cycles_from values count s (suc more)) below ≡ pile (cycles_from values count (s + 1) more) (pile (cycle_lines values count s) below)
unfolding cycles_from
cycles_step values count s more below = pile_append (cycle_lines values count s) (cycles_from values count (s + 1) more) below

cycles_late : (t : ℕ) (code : List ℕ) (values : List Bool) (count s more : ℕ) (below : List (List ℕ)) → t < s → s + more < 2 ^ 64 → last_change (λ u. is_by u t) code (pile (cycles_from values count s more) below) ≡ last_change (λ u. is_by u t) code below
unfolding cycles_from
cycles_late t code values count s zero below lt small = refl
cycles_late t code values count s (suc more) below lt small =
    ap (last_change (λ u. is_by u t) code) (cycles_step values count s more below)
    ∙ (cycles_late t code values count (s + 1) more (pile (cycle_lines values count s) below) (omega arith) (omega arith)
    ∙ cycle_late (λ u. is_by u t) code values count s below (omega arith) (ap not (lt-ltb t s lt)))

told : (t j : ℕ) (values : List Bool) (count s more : ℕ) (below : List (List ℕ)) → j < count → s ≤ t → t < s + more → s + more < 2 ^ 64 → last_change (λ u. is_by u t) (code_text j) below ≡ before values count s j → last_change (λ u. is_by u t) (code_text j) (pile (cycles_from values count s more) below) ≡ Some (value_at values count t j)
told t j values count s zero below lt le high small e = absurd (omega arith)
told t j values count s (suc more) below lt le high small e =
    ap (last_change (λ u. is_by u t) (code_text j)) (cycles_step values count s more below)
    ∙ go (equal_or_less s t le) (cycle_own (λ u. is_by u t) values count s j below (before values count s j) lt (omega arith) (ap not (le-ltb t s le)) e ∙ before_step values count s j) (λ a b c d. told t j values count (s + 1) more (pile (cycle_lines values count s) below) lt a b c d)
  where
    behind : List (List ℕ)
    behind = pile (cycle_lines values count s) below

    go : (s ≡ t) ⊎ (s < t) → last_change (λ u. is_by u t) (code_text j) behind ≡ before values count (s + 1) j → (s + 1 ≤ t → t < s + 1 + more → s + 1 + more < 2 ^ 64 → last_change (λ u. is_by u t) (code_text j) behind ≡ before values count (s + 1) j → last_change (λ u. is_by u t) (code_text j) (pile (cycles_from values count (s + 1) more) behind) ≡ Some (value_at values count t j)) → last_change (λ u. is_by u t) (code_text j) (pile (cycles_from values count (s + 1) more) behind) ≡ Some (value_at values count t j)
    go (inl same) f again = cycles_late t (code_text j) values count (s + 1) more behind (omega (arith, same)) (omega (arith, small)) ∙ (f ∙ (before_next values count s j ∙ ap (λ m. Some (value_at values count m j)) same))
    go (inr less) f again = again (omega (arith, less)) (omega (arith, high)) (omega (arith, small)) f

-- ---- the head and the end

head_line_quiet : (code line : List ℕ) → get_or line 0 0 < 48 → change_of code line ≡ None
head_line_quiet code line lt = no_change code line (not_by_first code line lt)

vars_quiet : (code : List ℕ) (k : ℕ) (names rest : List (List ℕ)) → AreQuiet code rest → AreQuiet code (var_lines k names ++ rest)
vars_quiet code k [] rest q = q
vars_quiet code k (name ∷ names) rest q = (refl, head_line_quiet code (var_line k name) (omega arith), vars_quiet code (k + 1) names rest q)

head_quiet : (code : List ℕ) (names : List (List ℕ)) → AreQuiet code (head_lines names)
head_quiet code names =
    let last : List (List ℕ) = codes "$upscope $end" ∷ codes "$enddefinitions $end" ∷ [] in
    (refl, head_line_quiet code (codes "$timescale 1 ns $end") (omega arith), (refl, head_line_quiet code (codes "$scope module tmr $end") (omega arith), vars_quiet code 0 names last (refl, head_line_quiet code (codes "$upscope $end") (omega arith), (refl, head_line_quiet code (codes "$enddefinitions $end") (omega arith), tt))))

end_quiet : (within : Option ℕ → Bool) (code : List ℕ) (cycles : ℕ) (below : List (List ℕ)) → last_change within code (pile (end_lines cycles) below) ≡ last_change within code below
end_quiet within code zero below = refl
end_quiet within code (suc t) below = last_other within code (time_line (suc t)) below (time_tells code (suc t))

pieces : (names : List (List ℕ)) (cycles : ℕ) (values : List Bool) → pile (vcd_lines names cycles values) [] ≡ pile (end_lines cycles) (pile (cycles_from values (length names) 0 cycles) (pile (head_lines names) []))
unfolding vcd_lines
pieces names cycles values = pile_append (head_lines names) (cycles_from values (length names) 0 cycles ++ end_lines cycles) [] ∙ pile_append (cycles_from values (length names) 0 cycles) (end_lines cycles) (pile (head_lines names) [])

head_none : (within : Option ℕ → Bool) (names : List (List ℕ)) (values : List Bool) (j : ℕ) → last_change within (code_text j) (pile (head_lines names) []) ≡ before values (length names) 0 j
unfolding before last_change
head_none within names values j = (quiet within (code_text j) (head_lines names) [] (head_quiet (code_text j) names)).1

latest_are : (bytes : List ℕ) (names : List (List ℕ)) (cycles : ℕ) (values : List Bool) → cycles < 2 ^ 32 → AreNames names → bytes ≡ vcd_text names cycles values → latest_lines bytes ≡ [] ∷ pile (vcd_lines names cycles values) []
latest_are bytes names cycles values small a e = ap latest_lines e ∙ (latest_again (vcd_lines names cycles values) (clean_text names cycles values small a) ∙ ap (λ (ls : List (List ℕ)). [] ∷ ls) (reverse_is (vcd_lines names cycles values)))

-- the text tells each value
pub text_tells : (bytes : List ℕ) (names : List (List ℕ)) (cycles : ℕ) (values : List Bool) → cycles < 2 ^ 32 → AreNames names → bytes ≡ vcd_text names cycles values → (k t : ℕ) → k < length names → t < cycles → vcd_at bytes (code_text k) t ≡ Some (value_at values (length names) t k)
text_tells bytes names cycles values small a e k t lk lt =
    let within : Option ℕ → Bool = λ u. is_by u t in
    ap (last_change within (code_text k)) (latest_are bytes names cycles values small a e)
    ∙ (last_other within (code_text k) [] (pile (vcd_lines names cycles values) []) (head_line_quiet (code_text k) [] (omega arith))
    ∙ (ap (last_change within (code_text k)) (pieces names cycles values)
    ∙ (end_quiet within (code_text k) cycles (pile (cycles_from values (length names) 0 cycles) (pile (head_lines names) []))
    ∙ told t k values (length names) 0 cycles (pile (head_lines names) []) lk (omega arith) (omega arith) (omega arith) (head_none within names values k))))

-- ---- no line repeats what stands

AreFresh : List (List ℕ) → Type 0
AreFresh [] = Unit {0}
AreFresh (line ∷ earlier) = ((code : List ℕ) (value : Bool) → line ≡ change_line value code → last_change ever code earlier ≢ Some value) × AreFresh earlier

fresh_at : (later earlier : List (List ℕ)) (code : List ℕ) (value : Bool) → AreFresh (later ++ change_line value code ∷ earlier) → last_change ever code earlier ≢ Some value
unfolding AreFresh
fresh_at [] earlier code value f = f.0 code value refl
fresh_at (line ∷ later) earlier code value f = fresh_at later earlier code value f.1

fresh_other : (line : List ℕ) (earlier : List (List ℕ)) → get_or line 0 0 < 48 → AreFresh earlier → AreFresh (line ∷ earlier)
unfolding AreFresh
fresh_other line earlier lt f = (λ code value e. absurd (not_by_first code line lt value e), f)

some_is : (a b : Bool) → Some a ≡ Some b → a ≡ b
some_is a b e = cc

no_repeat : (b x y : Bool) → (b || differ x y) ≡ true → cond b None (Some y) ≢ Some x
no_repeat true x y e f = absurd cc
no_repeat false true true e f = absurd cc
no_repeat false true false e f = let g = some_is false true f in absurd cc
no_repeat false false true e f = let g = some_is true false f in absurd cc
no_repeat false false false e f = absurd cc

fresh_one : (values : List Bool) (count s k : ℕ) (below : List (List ℕ)) → last_change ever (code_text k) below ≡ before values count s k → AreFresh below → AreFresh (pile (change_lines values count s k) below)
unfolding before AreFresh
fresh_one values count s k below e f = go (is_changed values count s k) refl
  where
    go : (b : Bool) → is_changed values count s k ≡ b → AreFresh (pile (cond b (change_line (value_at values count s k) (code_text k) ∷ []) []) below)
    go true is = (
      λ code value same g.
          let eq = same_change (value_at values count s k) value code (code_text k) same in
          no_repeat (s == 0) (value_at values count s k) (value_at values count (s - 1) k) is (sym e ∙ (ap (λ (text : List ℕ). last_change ever text below) eq.1 ∙ (g ∙ ap (λ (v : Bool). Some v) (sym eq.0)))),
      f,
    )
    go false is = f

-- each name from k on stands as it was
Stand : List Bool → ℕ → ℕ → ℕ → List (List ℕ) → Type 0
Stand values count s k below = (j : ℕ) → k ≤ j → j < count → last_change ever (code_text j) below ≡ before values count s j

stand_more : (values : List Bool) (count s k : ℕ) (below : List (List ℕ)) → Stand values count s k below → Stand values count s (k + 1) (pile (change_lines values count s k) below)
unfolding Stand
stand_more values count s k below h = λ j le lt. (quiet ever (code_text j) (change_lines values count s k) below (quiet_one values count s k j (λ e. absurd (omega (arith, e, le))))).1 ∙ h j (omega (arith, le)) lt

fresh_changes : (values : List Bool) (count s k more : ℕ) (below : List (List ℕ)) → k + more ≤ count → Stand values count s k below → AreFresh below → AreFresh (pile (changes_from values count s k more) below)
unfolding changes_from Stand
fresh_changes values count s k zero below le h f = f
fresh_changes values count s k (suc more) below le h f =
    subst AreFresh (sym (changes_step values count s k more below)) (fresh_changes values count s (k + 1) more (pile (change_lines values count s k) below) (omega arith) (stand_more values count s k below h) (fresh_one values count s k below (h k (omega arith) (omega arith)) f))

fresh_timed : (s : ℕ) (lines below : List (List ℕ)) → AreFresh below → AreFresh (pile lines (time_line s ∷ below)) → AreFresh (pile (timed s lines) below)
fresh_timed s [] below f g = f
fresh_timed s (line ∷ lines) below f g = g

fresh_cycle : (values : List Bool) (count s : ℕ) (below : List (List ℕ)) → Stand values count s 0 below → AreFresh below → AreFresh (pile (cycle_lines values count s) below)
unfolding Stand
fresh_cycle values count s below h f =
    fresh_timed s (changes_from values count s 0 count) below f (fresh_changes values count s 0 count (time_line s ∷ below) (omega arith) (λ j le lt. last_other ever (code_text j) (time_line s) below (time_tells (code_text j) s) ∙ h j le lt) (fresh_other (time_line s) below (omega arith) f))

stand_cycle : (values : List Bool) (count s : ℕ) (below : List (List ℕ)) → s < 2 ^ 64 → Stand values count s 0 below → Stand values count (s + 1) 0 (pile (cycle_lines values count s) below)
unfolding Stand
stand_cycle values count s below small h = λ j le lt. cycle_own ever values count s j below (before values count s j) lt small refl (h j le lt) ∙ before_step values count s j

fresh_cycles : (values : List Bool) (count s more : ℕ) (below : List (List ℕ)) → s + more < 2 ^ 64 → Stand values count s 0 below → AreFresh below → AreFresh (pile (cycles_from values count s more) below)
unfolding cycles_from
fresh_cycles values count s zero below small h f = f
fresh_cycles values count s (suc more) below small h f =
    subst AreFresh (sym (cycles_step values count s more below)) (fresh_cycles values count (s + 1) more (pile (cycle_lines values count s) below) (omega arith) (stand_cycle values count s below (omega arith) h) (fresh_cycle values count s below h f))

fresh_vars : (k : ℕ) (names rest below : List (List ℕ)) → AreFresh below → ((under : List (List ℕ)) → AreFresh under → AreFresh (pile rest under)) → AreFresh (pile (var_lines k names ++ rest) below)
fresh_vars k [] rest below f last = last below f
fresh_vars k (name ∷ names) rest below f last = fresh_vars (k + 1) names rest (var_line k name ∷ below) (fresh_other (var_line k name) below (omega arith) f) last

fresh_head : (names : List (List ℕ)) → AreFresh (pile (head_lines names) [])
unfolding AreFresh
fresh_head names =
    let first = codes "$timescale 1 ns $end" in
    let second = codes "$scope module tmr $end" in
    let up = codes "$upscope $end" in
    let last = codes "$enddefinitions $end" in
    fresh_vars 0 names (up ∷ last ∷ []) (second ∷ first ∷ []) (fresh_other second (first ∷ []) (omega arith) (fresh_other first [] (omega arith) tt)) (λ under f. fresh_other last (up ∷ under) (omega arith) (fresh_other up under (omega arith) f))

fresh_end : (cycles : ℕ) (below : List (List ℕ)) → AreFresh below → AreFresh (pile (end_lines cycles) below)
fresh_end zero below f = f
fresh_end (suc t) below f = fresh_other (time_line (suc t)) below (omega arith) f

-- no change line repeats the value that stands
pub text_repeats_nothing : (bytes : List ℕ) (names : List (List ℕ)) (cycles : ℕ) (values : List Bool) → cycles < 2 ^ 32 → AreNames names → bytes ≡ vcd_text names cycles values → RepeatsNothing bytes
unfolding Stand
text_repeats_nothing bytes names cycles values small a e later earlier code value cut =
    let head = pile (head_lines names) [] in
    let all : AreFresh (pile (vcd_lines names cycles values) []) = subst AreFresh (sym (pieces names cycles values)) (fresh_end cycles (pile (cycles_from values (length names) 0 cycles) head) (fresh_cycles values (length names) 0 cycles head (omega arith) (λ j le lt. head_none ever names values j) (fresh_head names))) in
    fresh_at later earlier code value (subst AreFresh (sym (latest_are bytes names cycles values small a e) ∙ cut) (fresh_other [] (pile (vcd_lines names cycles values) []) (omega arith) all))
