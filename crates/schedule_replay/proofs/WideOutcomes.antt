-- Numbers of outcomes that are counted in words, of which each run has a bit.
use Rattle.std.proofs.Common.{◌≡◌, ◌∙◌, ℕ, suc, ◌+◌, ◌<◌, ◌≤◌, Bool, true, false, List, [], ◌∷◌, ◌++◌, append_assoc, length, slice_get, slice_index, Option, Some, None, refl, sym, ap, subst, arith}
use Rattle.std.specs.Prelude.{IfSome, IsSome, IsSomeAnd, option_map, if◌then◌else◌}
use Rattle.std.specs.List.{count_by}
use Rattle.std.proofs.lemmas.List.{append-nil}
use Rattle.std.proofs.lemmas.Option.{get_or_from_slice_get}
use Rattle.tmr_base.specs.declared.ids.Upset.{Upset}
use Rattle.flat_net.specs.Net.{Net}
use Rattle.certificate.specs.Cert.{PlainCert, part_of, depth_of}
use Rattle.table_cover.specs.Words.{word_bit, bits_of}
use Rattle.net_meaning.specs.Meaning.{bit, row_at, value_at}
use Rattle.net_simulator.proofs.Lanes.{bit_of_words}
use Rattle.schedule_replay.specs.declared.outcome.Difference.{Difference}
use Rattle.schedule_replay.specs.declared.outcome.Outcome.{Outcome}
use Rattle.schedule_replay.specs.declared.wide_comparing.FourWords.{FourWords}
use Rattle.schedule_replay.specs.Outcome.{Counts, bits_differ, one_if, output_at, outputs_in, is_quiet, copies_wrong, late_at}
use Rattle.schedule_replay.specs.Wide.{difference_in, wrong_in, late_in_run, is_told_quiet, HasNoted, Notes}
use Rattle.schedule_replay.specs.Private.Telling.{TellQuiet}
use Rattle.schedule_replay.proofs.Counting.{counts_none}

-- run j of simulators that are stepped together
pub run_of : (P : List Bool → Type 0) (j : ℕ) (o : Option (List ℕ)) → IsSomeAnd o (λ words. P (bits_of j words)) → IsSomeAnd (option_map (bits_of j) o) P
run_of P j None is = is
run_of P j (Some words) is = is

pub some_of : (P : List ℕ → Type 0) (o : Option (List ℕ)) → IsSomeAnd o P → IsSome o
some_of P None is = absurd is
some_of P (Some words) is = refl

-- what is read of the last words is the trace's value
pub read_run : (o : Option (List ℕ)) (tr : List (List Bool)) (t x j word : ℕ) → IfSome o (λ words. word ≡ slice_index words x) → option_map (bits_of j) o ≡ Some (row_at tr t) → word_bit j word ≡ value_at tr t x
read_run None tr t x j word is e = absurd (cc)
read_run (Some words) tr t x j word is e =
    let same : bits_of j words ≡ row_at tr t = cc in
    ap (word_bit j) is ∙ (sym (bit_of_words j words x) ∙ ap (λ (row : List Bool). bit row x) same)

pub output_is : (outputs : List ℕ) (i x : ℕ) → slice_get outputs i ≡ Some x → x ≡ slice_index outputs i
output_is outputs i x e = sym (get_or_from_slice_get outputs i x 0 e)

abbrev pub difference_of : ℕ → ℕ → Bool → Bool → Bool → Bool → Difference
difference_of t i o a b c = record { cycle = t; output = i; original = o; copies = a ∷ b ∷ c ∷ [] }

three_same : (o a b c : Bool) → a ≡ o → b ≡ o → c ≡ o → count_by (bits_differ o) (a ∷ b ∷ c ∷ []) ≡ 0
three_same o a b c e f g = rw (e, f, g) (three o)
  where
    three : (o : Bool) → count_by (bits_differ o) (o ∷ o ∷ o ∷ []) ≡ 0
    three true = refl
    three false = refl

none_differ : (o a b c : Bool) → a ≡ o → b ≡ o → c ≡ o → one_if (bits_differ o a) + one_if (bits_differ o b) + one_if (bits_differ o c) ≡ 0
none_differ o a b c e f g = rw (e, f, g) (three o)
  where
    three : (o : Bool) → one_if (bits_differ o o) + one_if (bits_differ o o) + one_if (bits_differ o o) ≡ 0
    three true = refl
    three false = refl

-- words that are the same differ in no run
module _ (w : FourWords) (first : w.first ≡ w.original) (second : w.second ≡ w.original) (third : w.third ≡ w.original) (j : ℕ) where
  pub none_late : (quiet : Bool) → late_in_run w quiet j ≡ 0
  none_late true = none_differ (word_bit j w.original) (word_bit j w.first) (word_bit j w.second) (word_bit j w.third) (ap (word_bit j) first) (ap (word_bit j) second) (ap (word_bit j) third)
  none_late false = refl

  pub none_noted : (t i : ℕ) (o : Outcome) → Notes (difference_in w t i j ∷ []) o o
  none_noted t i o ds is =
      counts_none ds (difference_in w t i j) o.first.items o.differences o.wrong is
      (three_same (word_bit j w.original) (word_bit j w.first) (word_bit j w.second) (word_bit j w.third) (ap (word_bit j) first) (ap (word_bit j) second) (ap (word_bit j) third))

-- nothing is noted
pub nothing_grown : (o : Outcome) (count : ℕ) → HasNoted count o o
nothing_grown o count = record { differences = omega arith; wrong = omega arith; late = refl; allowed = refl }

pub grown : (a m b : Outcome) (i : ℕ) → HasNoted i a m → HasNoted 1 m b → HasNoted (i + 1) a b
grown a m b i before more = record {
  differences = let x = before.differences in let y = more.differences in omega arith;
  wrong = let x = before.wrong in let y = more.wrong in omega arith;
  late = more.late ∙ before.late;
  allowed = more.allowed ∙ before.allowed;
}

-- no output is noted
pub nothing_noted : (o : Outcome) → Notes [] o o
nothing_noted o ds is = subst (λ (xs : List Difference). Counts xs o.first.items o.differences o.wrong) (sym (append-nil ds)) is

-- one output more
pub noted_more : (n h : Net) (tr ft : List (List Bool)) (t i : ℕ) (d : Difference) (a m b : Outcome) → d ≡ output_at n h tr ft t i → Notes (outputs_in n h tr ft t i) a m → Notes (d ∷ []) m b → Notes (outputs_in n h tr ft t (i + 1)) a b
noted_more n h tr ft t i d a m b here before more ds is =
    let front : List Difference = outputs_in n h tr ft t i in
    let next : i + 1 ≡ suc i = omega arith in
    let joined : (ds ++ front) ++ d ∷ [] ≡ ds ++ outputs_in n h tr ft t (i + 1) =
    append_assoc ds front (d ∷ []) ∙ (ap (λ (e : Difference). ds ++ (front ++ e ∷ [])) here ∙ ap (λ (k : ℕ). ds ++ outputs_in n h tr ft t k) (sym next)) in
    subst (λ (xs : List Difference). Counts xs b.first.items b.differences b.wrong) joined (more (ds ++ front) (before ds is))

-- what counts of a node in run j
pub late_here : (k : PlainCert) (s : List Upset) (tr ft : List (List Bool)) (t x p depth j : ℕ) (w : FourWords) (lasts : List ℕ) → part_of k x ≡ Some p → p < length k.depth → depth ≡ depth_of k p → TellQuiet k s t lasts → wrong_in w j ≡ copies_wrong k tr ft t x
    → late_in_run w (is_told_quiet (slice_index lasts p) depth t) j ≡ late_at k s tr ft t x (part_of k x)
late_here k s tr ft t x p depth j w lasts part range deep told wrong =
    let quiet : is_told_quiet (slice_index lasts p) depth t ≡ is_quiet k s p t = ap (λ (d : ℕ). is_told_quiet (slice_index lasts p) d t) deep ∙ sym (told p range) in
    ap (λ (q : Bool). late_in_run w q j) quiet
    ∙ (ap (λ (m : ℕ). if is_quiet k s p t then m else 0) wrong ∙ ap (late_at k s tr ft t x) (sym part))

-- an outcome with more that is late
abbrev pub Later : ℕ → Outcome → Outcome → Type 0
Later count a b = b ≡ record a { late = a.late + count }

pub later_none : (o : Outcome) (count : ℕ) → count ≡ 0 → Later count o o
later_none o count e = let same : o.late ≡ o.late + count = omega arith in ap (λ (m : ℕ). record o { late = m }) same

pub later_more : (a m b : Outcome) (x y z : ℕ) → Later x a m → Later y m b → x + y ≡ z → Later z a b
later_more a m b x y z first second e =
    let total : a.late + x + y ≡ a.late + z = omega arith in
    second ∙ (ap (λ (o : Outcome). record o { late = o.late + y }) first ∙ ap (λ (k : ℕ). record a { late = k }) total)

pub same_difference : (t i : ℕ) (o a b c p d e f : Bool) → o ≡ p → a ≡ d → b ≡ e → c ≡ f → difference_of t i o a b c ≡ difference_of t i p d e f
same_difference t i o a b c p d e f w x y z = rw (w, x, y, z) refl

pub same_wrong : (o a b c p d e f : Bool) → o ≡ p → a ≡ d → b ≡ e → c ≡ f → one_if (bits_differ o a) + one_if (bits_differ o b) + one_if (bits_differ o c) ≡ one_if (bits_differ p d) + one_if (bits_differ p e) + one_if (bits_differ p f)
same_wrong o a b c p d e f w x y z = rw (w, x, y, z) refl

one_at_most : (b : Bool) → one_if b ≤ 1
one_at_most true = omega arith
one_at_most false = omega arith

pub few_late : (w : FourWords) (quiet : Bool) (j : ℕ) → late_in_run w quiet j ≤ 3
few_late w true j =
    omega (arith, one_at_most (bits_differ (word_bit j w.original) (word_bit j w.first)), one_at_most (bits_differ (word_bit j w.original) (word_bit j w.second)), one_at_most (bits_differ (word_bit j w.original) (word_bit j w.third)))
few_late w false j = omega arith

-- all but what is late stays as it was
pub only_later : (a m b : Outcome) (count : ℕ) → m ≡ record a { late = m.late } → Later count m b → b ≡ record a { late = b.late }
only_later a m b count before more =
    let total : m.late + count ≡ b.late = sym (ap (λ (o : Outcome). o.late) more) in
    more ∙ (ap (λ (o : Outcome). record o { late = m.late + count }) before ∙ ap (λ (k : ℕ). record a { late = k }) total)
