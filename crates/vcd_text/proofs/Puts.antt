-- Lines that are put one after the other.
use Rattle.std.proofs.Common.{◌≡◌, ℕ, zero, suc, ◌+◌, ◌-◌, ◌/◌, ◌%◌, ◌<◌, ◌≤◌, Bool, true, false, List, [], ◌∷◌, ◌++◌, length, drop, get_or, refl, sym, ap, ◌∙◌, append_assoc, arith, nat_lt, cond}
use Rattle.std.proofs.lemmas.List.{append-nil, drop_more}
use Rattle.std.proofs.lemmas.List.Concat.{flat_map-append}
use Rattle.std.specs.Prelude.{codes}
use Rattle.std.proofs.lemmas.Bool.{ltb-false, lt-ltb, le-ltb}
use Rattle.vcd_text.specs.Text.{digits, code_text, is_changed, value_at, change_line, change_lines, changes_from, has_lines, cycle_lines, cycles_from, end_lines, head_lines, vcd_lines, vcd_text, var_line, var_lines, line_text, lines_text}

pub one_line : (line : List ℕ) → lines_text (line ∷ []) ≡ line_text line
one_line line = append-nil (line_text line)

-- the first lines of these are put
pub more_put : (out new total : List ℕ) (all first rest : List (List ℕ)) → all ≡ first ++ rest → new ≡ out ++ lines_text first → out ++ lines_text all ≡ total → new ++ lines_text rest ≡ total
more_put out new total all first rest cut put e =
    ap (λ (o : List ℕ). o ++ lines_text rest) put ∙ (append_assoc out (lines_text first) (lines_text rest) ∙ (ap (λ (t : List ℕ). out ++ t) (sym (ap lines_text cut ∙ flat_map-append line_text first rest)) ∙ e))

suc_left : (n k : ℕ) → k < n → n - k ≡ suc (n - (k + 1))
suc_left n k lt = omega arith

pub changes_more : (values : List Bool) (count t k n : ℕ) → k < n → changes_from values count t k (n - k) ≡ change_lines values count t k ++ changes_from values count t (k + 1) (n - (k + 1))
unfolding changes_from
changes_more values count t k n lt = ap (λ m. changes_from values count t k m) (suc_left n k lt)

pub cycles_more : (values : List Bool) (count t n : ℕ) → t < n → cycles_from values count t (n - t) ≡ cycle_lines values count t ++ cycles_from values count (t + 1) (n - (t + 1))
unfolding cycles_from
cycles_more values count t n lt = ap (λ m. cycles_from values count t m) (suc_left n t lt)

pub no_changes : (values : List Bool) (count t k n : ℕ) → n ≤ k → changes_from values count t k (n - k) ≡ []
unfolding changes_from
no_changes values count t k n le = ap (λ m. changes_from values count t k m) (let e : n - k ≡ 0 = omega arith in e)

pub no_cycles : (values : List Bool) (count t n : ℕ) → n ≤ t → cycles_from values count t (n - t) ≡ []
unfolding cycles_from
no_cycles values count t n le = ap (λ m. cycles_from values count t m) (let e : n - t ≡ 0 = omega arith in e)

first_quiet : (b : Bool) (line : List ℕ) (rest : List (List ℕ)) → b ≡ false → has_lines (cond b (line ∷ []) [] ++ rest) ≡ has_lines rest
first_quiet false line rest e = refl
first_quiet true line rest e = absurd cc

first_loud : (b : Bool) (line : List ℕ) (rest : List (List ℕ)) → b ≡ true → has_lines (cond b (line ∷ []) [] ++ rest) ≡ true
first_loud true line rest e = refl
first_loud false line rest e = absurd cc

-- one name more has no other value
pub quiet_more : (values : List Bool) (count t k n : ℕ) → k < n → is_changed values count t k ≡ false → has_lines (changes_from values count t (k + 1) (n - (k + 1))) ≡ has_lines (changes_from values count t k (n - k))
quiet_more values count t k n lt same = sym (ap has_lines (changes_more values count t k n lt) ∙ first_quiet (is_changed values count t k) (change_line (value_at values count t k) (code_text k)) (changes_from values count t (k + 1) (n - (k + 1))) same)

-- a name has another value
pub loud : (values : List Bool) (count t k n : ℕ) → k < n → is_changed values count t k ≡ true → has_lines (changes_from values count t k (n - k)) ≡ true
loud values count t k n lt other = ap has_lines (changes_more values count t k n lt) ∙ first_loud (is_changed values count t k) (change_line (value_at values count t k) (code_text k)) (changes_from values count t (k + 1) (n - (k + 1))) other

pub vars_more : (names : List (List ℕ)) (k : ℕ) → k < length names → var_lines k (drop k names) ≡ var_line k (get_or names k []) ∷ var_lines (k + 1) (drop (k + 1) names)
vars_more names k lt = ap (var_lines k) (drop_more names k [] lt)

-- the digits of a number, one at a time
pub low : (most k : ℕ) → nat_lt k 94 ≡ true → digits (suc most) k ≡ (33 + k % 94) ∷ []
unfolding digits
low most k e = ap (λ b. (33 + k % 94) ∷ cond b [] (digits most (k / 94))) e

pub high : (most k : ℕ) → nat_lt k 94 ≡ false → digits (suc most) k ≡ (33 + k % 94) ∷ digits most (k / 94)
unfolding digits
high most k e = ap (λ b. (33 + k % 94) ∷ cond b [] (digits most (k / 94))) e

pub le_of : (a b : ℕ) → nat_lt a b ≡ false → b ≤ a
le_of a b f = ltb-false a b f

-- more digits than there are make no difference
pub enough : (m n k : ℕ) → k < m → k < n → digits m k ≡ digits n k
enough zero n k lm ln = absurd (omega arith)
enough (suc m) zero k lm ln = absurd (omega arith)
enough (suc m) (suc n) k lm ln = one_more m n k lm ln (nat_lt k 94) refl (λ a b. enough m n (k / 94) a b)
  where
    one_more : (m n k : ℕ) → k < suc m → k < suc n → (b : Bool) → nat_lt k 94 ≡ b → (k / 94 < m → k / 94 < n → digits m (k / 94) ≡ digits n (k / 94)) → digits (suc m) k ≡ digits (suc n) k
    one_more m n k lm ln true e again = low m k e ∙ sym (low n k e)
    one_more m n k lm ln false e again =
        let big : 94 ≤ k = le_of k 94 e in
        high m k e ∙ (ap (λ (ds : List ℕ). (33 + k % 94) ∷ ds) (again (omega (arith, big)) (omega (arith, big))) ∙ sym (high n k e))

pub code_low : (k : ℕ) → k < 94 → code_text k ≡ (33 + k) ∷ []
code_low k lt = low k k (lt-ltb k 94 lt) ∙ ap (λ (d : ℕ). (33 + d) ∷ []) (let e : k % 94 ≡ k = omega arith in e)

pub code_high : (k : ℕ) → 94 ≤ k → code_text k ≡ (33 + k % 94) ∷ code_text (k / 94)
code_high k le = high k k (le-ltb k 94 le) ∙ ap (λ (ds : List ℕ). (33 + k % 94) ∷ ds) (enough k (suc (k / 94)) (k / 94) (omega arith) (omega arith))

-- bytes are put, and more bytes behind them
pub then_put : (o1 o2 o3 a b : List ℕ) → o2 ≡ o1 ++ a → o3 ≡ o2 ++ b → o3 ≡ o1 ++ (a ++ b)
then_put o1 o2 o3 a b e1 e2 = e2 ∙ (ap (λ (o : List ℕ). o ++ b) e1 ∙ append_assoc o1 a b)

pub var_put : (k : ℕ) (name old o1 o2 o3 o4 o5 : List ℕ) → o1 ≡ old ++ codes "$var wire 1 " → o2 ≡ o1 ++ code_text k → o3 ≡ o2 ++ 32 ∷ [] → o4 ≡ o3 ++ name → o5 ≡ o4 ++ (codes " $end" ++ 10 ∷ []) → o5 ≡ old ++ line_text (var_line k name)
var_put k name old o1 o2 o3 o4 o5 e1 e2 e3 e4 e5 =
    let last : List ℕ = codes " $end" in
    let feed : List ℕ = 10 ∷ [] in
    let all = then_put old o1 o5 (codes "$var wire 1 ") (code_text k ++ (32 ∷ (name ++ (last ++ feed)))) e1 (then_put o1 o2 o5 (code_text k) (32 ∷ (name ++ (last ++ feed))) e2 (then_put o2 o3 o5 (32 ∷ []) (name ++ (last ++ feed)) e3 (then_put o3 o4 o5 name (last ++ feed) e4 e5))) in
    all ∙ ap (λ (t : List ℕ). old ++ (codes "$var wire 1 " ++ t)) (ap (λ (t : List ℕ). code_text k ++ (32 ∷ t)) (sym (append_assoc name last feed)) ∙ sym (append_assoc (code_text k) (32 ∷ (name ++ last)) feed))

pub head_put : (names : List (List ℕ)) (old o1 o2 o3 : List ℕ) → o1 ≡ old ++ codes "$timescale 1 ns $end\n$scope module tmr $end\n" → o2 ≡ o1 ++ lines_text (var_lines 0 names) → o3 ≡ o2 ++ codes "$upscope $end\n$enddefinitions $end\n" → o3 ≡ old ++ lines_text (head_lines names)
head_put names old o1 o2 o3 e1 e2 e3 =
    let last : List (List ℕ) = codes "$upscope $end" ∷ codes "$enddefinitions $end" ∷ [] in
    then_put old o1 o3 (codes "$timescale 1 ns $end\n$scope module tmr $end\n") (lines_text (var_lines 0 names) ++ lines_text last) e1 (then_put o1 o2 o3 (lines_text (var_lines 0 names)) (lines_text last) e2 e3)
    ∙ ap (λ (t : List ℕ). old ++ (codes "$timescale 1 ns $end\n$scope module tmr $end\n" ++ t)) (sym (flat_map-append line_text (var_lines 0 names) last))

pub text_put : (names : List (List ℕ)) (cycles : ℕ) (values : List Bool) (o0 o1 o2 o3 : List ℕ) → o0 ≡ [] → o1 ≡ o0 ++ lines_text (head_lines names) → o2 ≡ o1 ++ lines_text (cycles_from values (length names) 0 cycles) → o3 ≡ o2 ++ lines_text (end_lines cycles) → o3 ≡ vcd_text names cycles values
unfolding vcd_lines
text_put names cycles values o0 o1 o2 o3 e0 e1 e2 e3 =
    let body : List (List ℕ) = cycles_from values (length names) 0 cycles in
    then_put o0 o1 o3 (lines_text (head_lines names)) (lines_text body ++ lines_text (end_lines cycles)) e1 (then_put o1 o2 o3 (lines_text body) (lines_text (end_lines cycles)) e2 e3)
    ∙ (ap (λ (o : List ℕ). o ++ (lines_text (head_lines names) ++ (lines_text body ++ lines_text (end_lines cycles)))) e0
    ∙ (ap (λ (t : List ℕ). lines_text (head_lines names) ++ t) (sym (flat_map-append line_text body (end_lines cycles))) ∙ sym (flat_map-append line_text (head_lines names) (body ++ end_lines cycles))))

-- nothing is left
pub all_put : (out total : List ℕ) (rest : List (List ℕ)) → rest ≡ [] → out ++ lines_text rest ≡ total → out ≡ total
all_put out total rest none e = sym (append-nil out) ∙ (ap (λ (ls : List (List ℕ)). out ++ lines_text ls) (sym none) ∙ e)
