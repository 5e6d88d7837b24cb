-- Names of waves, and their text.
use Rattle.std.proofs.Common.{◌≡◌, ◌≢◌, ℕ, zero, suc, ◌+◌, ◌*◌, ◌<◌, ◌≤◌, ◌⊎◌, inl, inr, Bool, true, false, List, [], ◌∷◌, ◌++◌, length, drop, get_or, refl, sym, ap, ◌∙◌, subst, append_assoc, append-nil, add-one, drop-cons, mul-suc, arith}
use Rattle.std.specs.Prelude.{codes, slice_index_or, Some}
use Rattle.std.specs.List.{flat_map}
use Rattle.std.proofs.lemmas.Bool.Decides.{nat_tests}
use Rattle.std.proofs.lemmas.List.{nil_from_length, length-drop, length-append}
use Rattle.tmr_base.specs.Names.{is_name}
use Rattle.tmr_base.proofs.NameLaws.{name_append}
use Rattle.flat_net.specs.Net.{Net, IsValid, name_of, net_count}
use Rattle.certificate.specs.Cert.{PlainCert}
use Rattle.triplicate.proofs.Sizes.{outputs_few}
use Rattle.triplicate.proofs.Texts.{two_alike}
use Rattle.schedule_replay.specs.declared.outcome.Difference.{Difference}
use Rattle.schedule_replay.specs.Outcome.{outputs_in, outputs_until, output_at}
use Rattle.schedules.specs.Schedule.{PlainSchedule}
use Rattle.schedule_replay.specs.Waves.{waves, wave_of, AreFreeWaves}
use Rattle.vcd_text.specs.Text.{vcd_text}
use Rattle.limits.specs.Most.{widest_nets}
use Rattle.tmr_texts.specs.ReplayText.{output_name, waves_of, waves_at, output_waves}
use Rattle.tmr_top.specs.Replayed.{AreSaved, is_too_large}

-- a name with such bytes behind it is one
pub is_no_name : (x suffix bytes : List ℕ) → is_name x ≡ true → is_name suffix ≡ true → bytes ≡ x ++ suffix → is_name bytes ≡ false → ⊥
is_no_name x suffix bytes one other is bad = let good : is_name bytes ≡ true = ap is_name is ∙ name_append x suffix one other in absurd cc

pub ruleset suffixes = (is_no_name)

-- ---- names

-- those of output x
abbrev names_at : Net → ℕ → List (List ℕ)
names_at n x = waves_of (name_of n x)

next : (i : ℕ) (xs : List ℕ) → i < length xs → drop i xs ≡ get_or xs i 0 ∷ drop (i + 1) xs
next i xs h = rw (add-one, drop-cons xs i 0) refl

pub waves_more : (n : Net) (k : ℕ) (x : List ℕ) (names all whole : List (List ℕ)) → k < length n.outputs → x ≡ output_name n k → all ≡ names ++ waves_of x → names ++ waves_at n (drop k n.outputs) ≡ whole → all ++ waves_at n (drop (k + 1) n.outputs) ≡ whole
waves_more n k x names all whole h named is e =
    ap (λ (ns : List (List ℕ)). ns ++ waves_at n (drop (k + 1) n.outputs)) (is ∙ ap (λ (y : List ℕ). names ++ waves_of y) named)
    ∙ (append_assoc names (waves_of (output_name n k)) (waves_at n (drop (k + 1) n.outputs))
    ∙ (ap (λ (nets : List ℕ). names ++ waves_at n nets) (sym (next k n.outputs h)) ∙ e))

pub waves_all : (n : Net) (k : ℕ) (names whole : List (List ℕ)) → length n.outputs ≤ k → names ++ waves_at n (drop k n.outputs) ≡ whole → names ≡ whole
waves_all n k names whole h e =
    let none : drop k n.outputs ≡ [] = nil_from_length (drop k n.outputs) (omega (arith, length-drop k n.outputs)) in
    sym (append-nil names) ∙ (ap (λ (nets : List ℕ). names ++ waves_at n nets) (sym none) ∙ e)

pub ruleset listing = (waves_more, waves_all)

-- the byte that a wave's name ends with
abbrev wave_byte : ℕ → ℕ
wave_byte zero = 111
wave_byte (suc zero) = 48
wave_byte (suc (suc zero)) = 49
wave_byte (suc (suc (suc r))) = 50

byte_apart : (r q : ℕ) → r < 4 → q < 4 → wave_byte r ≡ wave_byte q → r ≡ q
byte_apart zero zero h l e = refl
byte_apart zero (suc zero) h l e = absurd (omega arith)
byte_apart zero (suc (suc zero)) h l e = absurd (omega arith)
byte_apart zero (suc (suc (suc q))) h l e = absurd (omega arith)
byte_apart (suc zero) zero h l e = absurd (omega arith)
byte_apart (suc zero) (suc zero) h l e = refl
byte_apart (suc zero) (suc (suc zero)) h l e = absurd (omega arith)
byte_apart (suc zero) (suc (suc (suc q))) h l e = absurd (omega arith)
byte_apart (suc (suc zero)) zero h l e = absurd (omega arith)
byte_apart (suc (suc zero)) (suc zero) h l e = absurd (omega arith)
byte_apart (suc (suc zero)) (suc (suc zero)) h l e = refl
byte_apart (suc (suc zero)) (suc (suc (suc q))) h l e = absurd (omega arith)
byte_apart (suc (suc (suc r))) zero h l e = absurd (omega arith)
byte_apart (suc (suc (suc r))) (suc zero) h l e = absurd (omega arith)
byte_apart (suc (suc (suc r))) (suc (suc zero)) h l e = absurd (omega arith)
byte_apart (suc (suc (suc r))) (suc (suc (suc q))) h l e = omega arith

not_d : (r : ℕ) → wave_byte r ≡ 100 → ⊥
not_d zero e = absurd (omega arith)
not_d (suc zero) e = absurd (omega arith)
not_d (suc (suc zero)) e = absurd (omega arith)
not_d (suc (suc (suc r))) e = absurd (omega arith)

-- name j is wave r of output i
record IsWave (n : Net) (xs : List ℕ) (j : ℕ) (name : List ℕ) : Type 0 where
  output : ℕ
  wave : ℕ
  within : output < length xs
  few : wave < 4
  place : j ≡ 4 * output + wave
  is : name ≡ name_of n (get_or xs output 0) ++ 126 ∷ wave_byte wave ∷ []

wave_at : (n : Net) (xs : List ℕ) (j : ℕ) → j < length (flat_map (names_at n) xs) → IsWave n xs j (get_or (flat_map (names_at n) xs) j [])
wave_at n [] j l = absurd (omega arith)
wave_at n (x ∷ xs) zero l = record { output = 0; wave = 0; within = omega arith; few = omega arith; place = omega arith; is = refl }
wave_at n (x ∷ xs) (suc zero) l = record { output = 0; wave = 1; within = omega arith; few = omega arith; place = omega arith; is = refl }
wave_at n (x ∷ xs) (suc (suc zero)) l = record { output = 0; wave = 2; within = omega arith; few = omega arith; place = omega arith; is = refl }
wave_at n (x ∷ xs) (suc (suc (suc zero))) l = record { output = 0; wave = 3; within = omega arith; few = omega arith; place = omega arith; is = refl }
wave_at n (x ∷ xs) (suc (suc (suc (suc j)))) l =
    let at = wave_at n xs j (omega arith) in
    record { output = suc at.output; wave = at.wave; within = (let w = at.within in omega arith); few = at.few; place = (let p = at.place in omega arith); is = at.is }

length-waves : (n : Net) (xs : List ℕ) → length (flat_map (names_at n) xs) ≡ 4 * length xs
length-waves n [] = refl
length-waves n (x ∷ xs) = let rest = length-waves n xs in omega arith

module _ (n : Net) (valid : IsValid n) (names : List (List ℕ)) (are : names ≡ output_waves n) where
  wave_of_name : (j : ℕ) → j < length names → IsWave n n.outputs j (slice_index_or names j (codes ""))
  wave_of_name j l = subst (λ (ns : List (List ℕ)). IsWave n n.outputs j (get_or ns j [])) (sym are) (wave_at n n.outputs j (let e = ap length are in omega arith))

  same_output : (i j : ℕ) → i < length n.outputs → j < length n.outputs → get_or n.outputs i 0 ≡ get_or n.outputs j 0 → i ≡ j
  same_output i j h l e = go (order i j)
    where
      order : (i j : ℕ) → (i ≡ j) ⊎ ((i < j) ⊎ (j < i))
      order i j = grind arith

      go : (i ≡ j) ⊎ ((i < j) ⊎ (j < i)) → i ≡ j
      go (inl same) = same
      go (inr (inl less)) = absurd (valid.unordered.outputs_differ i j less l e)
      go (inr (inr less)) = absurd (valid.unordered.outputs_differ j i less h (sym e))

  pub waves_differ : (j k : ℕ) → j < k → k < length names → slice_index_or names j (codes "") ≢ slice_index_or names k (codes "")
  waves_differ j k less l e =
      let one = wave_of_name j (omega arith) in
      let other = wave_of_name k l in
      let both = two_alike _ _ 126 126 (wave_byte one.wave) (wave_byte other.wave) (sym one.is ∙ (e ∙ other.is)) in
      let net = valid.unordered.names_differ _ _ (valid.unordered.outputs_in_range one.output 0 one.within) (valid.unordered.outputs_in_range other.output 0 other.within) both.0 in
      let output = same_output one.output other.output one.within other.within net in
      let wave = byte_apart one.wave other.wave one.few other.few both.2 in
      let a = one.place in
      let b = other.place in
      absurd (omega arith)

  pub waves_no_end : (k : ℕ) → k < length names → slice_index_or names k (codes "") ≢ codes "$end"
  waves_no_end k l e =
      let one = wave_of_name k l in
      let both = two_alike _ (36 ∷ 101 ∷ []) 126 110 (wave_byte one.wave) 100 (sym one.is ∙ e) in
      not_d one.wave both.2

  pub waves_few : 4 * net_count n ≤ widest_nets → length names ≤ widest_nets
  waves_few few = let a = outputs_few n valid in let b = length-waves n n.outputs in let e = ap length are in omega arith

-- ---- values

length-values : (xs ys : List Difference) → length (waves (xs ++ ys)) ≡ length (waves xs) + length (waves ys)
length-values [] ys = omega arith
length-values (d ∷ xs) ys =
    let rest = length-values xs ys in
    let one = length-append (wave_of d) (waves (xs ++ ys)) in
    let other = length-append (wave_of d) (waves xs) in
    omega arith

values_in : (n h : Net) (tr ft : List (List Bool)) (t i : ℕ) → length (waves (outputs_in n h tr ft t i)) ≡ 4 * i
values_in n h tr ft t zero = refl
values_in n h tr ft t (suc i) =
    let rest = values_in n h tr ft t i in
    let more = length-values (outputs_in n h tr ft t i) (output_at n h tr ft t i ∷ []) in
    omega arith

values_until : (n h : Net) (tr ft : List (List Bool)) (count t : ℕ) → count ≡ 4 * length n.outputs → count * t ≡ length (waves (outputs_until n h tr ft t))
values_until n h tr ft count zero e = omega arith
values_until n h tr ft count (suc t) e =
    let rest = values_until n h tr ft count t e in
    let more = length-values (outputs_until n h tr ft t) (outputs_in n h tr ft t (length n.outputs)) in
    let now = values_in n h tr ft t (length n.outputs) in
    let product = mul-suc count t in
    omega arith

module _ (n : Net) (f : List Bool) (h : Net) (g : List Bool) (k : PlainCert) (s : PlainSchedule) (names : List (List ℕ)) (values : List Bool) (are : AreFreeWaves n f h g k s values) (is : names ≡ output_waves n) where
  pub values_long : length names * length s.rows ≡ length values
  values_long =
      let tr = are.original.trace in
      let ft = are.hardened.trace in
      let count : length names ≡ 4 * length n.outputs = ap length is ∙ length-waves n n.outputs in
      values_until n h tr ft (length names) (length s.rows) count ∙ ap length (sym (are.values_are tr ft are.original.is_trace are.hardened.is_trace))

  pub saved_waves : (text : List ℕ) → text ≡ vcd_text names (length s.rows) values → AreSaved (record { original = n; free = f; hardened = h; hardened_free = g; certificate = k }) s (text ∷ [])
  saved_waves text told = record {
    values = values;
    waves = are;
    text = ap (λ (t : List ℕ). t ∷ []) (told ∙ ap (λ (ns : List (List ℕ)). vcd_text ns (length s.rows) values) is);
  }

pub ruleset texts = (waves_differ, waves_no_end, waves_few, values_long, saved_waves)

pub small_enough : (n : Net) (name : List ℕ) (cycles : ℕ) → is_too_large (Some name) n cycles ≡ false → length n.outputs * cycles ≤ 4194304
small_enough n name cycles e = grind (arith, nat_tests)

pub ruleset saving = (small_enough)
