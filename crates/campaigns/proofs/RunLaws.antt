-- What the runs of a campaign come to.
use Rattle.std.proofs.Common.{◌≡◌, ℕ, zero, suc, ◌+◌, ◌*◌, ◌<◌, ◌≤◌, ◌⊎◌, inl, inr, List, [], ◌∷◌, ◌++◌, length, get_or, take, slice_get, Option, Some, None, refl, sym, ap, subst, ◌∙◌, append_assoc, arith}
use Rattle.std.specs.Prelude.{◌%◌, ◌^◌, All, Bool, true, false, sum_by, slice_index, filter, IfSome, if◌then◌else◌}
use Rattle.std.specs.List.{flat_map}
use Rattle.std.proofs.lemmas.List.{length-append, flat_map_more}
use Rattle.std.proofs.lemmas.List.Elements.{All-append, All-filter, All-take, All-weaker}
use Rattle.std.proofs.lemmas.List.FromFn.{length-map-range_with_len}
use Rattle.std.proofs.lemmas.List.Sums.{length-filter, count_by-le-length, sum_by_more, sum_by-le}
use Rattle.std.proofs.lemmas.Option.{slice_get-get_or, get_or_from_slice_get, slice_get_within}
use Rattle.tmr_base.specs.declared.ids.Upset.{Upset}
use Rattle.flat_net.specs.Net.{Net, IsValid, name_of}
use Rattle.flat_net.specs.Free.{AreMarks}
use Rattle.flat_net.proofs.Slots.{slice_get_there}
use Rattle.certificate.specs.Cert.{PlainCert, Fits, IsCert, part_of}
use Rattle.certificate.specs.Schedules.{Allowed}
use Rattle.certificate.specs.Rules.{FreeCorresponds}
use Rattle.validator.specs.Masking.{Masks}
use Rattle.validator.proofs.Laws.{masks_too}
use Rattle.schedule_replay.specs.declared.outcome.Difference.{Difference}
use Rattle.schedule_replay.specs.declared.outcome.Outcome.{Outcome}
use Rattle.schedule_replay.specs.Many.{AreReplaysOf, HaveOneLength}
use Rattle.schedule_replay.specs.Outcome.{PlainOutcome, IsReplayOf, differs, is_wrong, output_at, outputs_in, outputs_until, one_if, copies_wrong, late_at, late_in, late_until, is_quiet}
use Rattle.schedule_replay.specs.OutcomeView.{plain_outcome}
use Rattle.schedules.specs.Schedule.{PlainSchedule}
use Rattle.schedules.proofs.Kept.{append_cases}
use Rattle.schedule_replay.proofs.Quiet.{three_outputs}
use Rattle.schedule_replay.proofs.Unharmed.{plain_unharmed}
use Rattle.tmr_trial.specs.Schedules.{IsDrawnSchedule}
use Rattle.tmr_trial.specs.NearSchedules.{IsNearSchedule}
use Rattle.campaigns.specs.declared.first_wrong.WrongOutput.{WrongOutput}
use Rattle.campaigns.specs.declared.sums.CampaignSums.{CampaignSums}
use Rattle.certificate.specs.Text.{line_text}
use Rattle.campaigns.specs.Campaign.{AreCampaignSchedules, AreSumsOf, IsCampaign, campaign_lines, campaign_text}
use Rattle.campaigns.specs.NearCampaign.{IsKeptWrong, IsFirst, first_wrong_line, near_lines}
use Rattle.campaigns.specs.Private.Running.{IsRunnable, IsBounded}

-- ---- the schedules

pub cycles_drawn : (number : ℕ) (n h : Net) (k : PlainCert) (cycles : ℕ) (s : PlainSchedule) → IsDrawnSchedule number n h k cycles s → length s.rows ≡ cycles
cycles_drawn number n h k cycles s is = ap length is.rows ∙ length-map-range_with_len _ 0 cycles

pub near_cycles : (number : ℕ) (n h : Net) (k : PlainCert) (cycles : ℕ) (s : PlainSchedule) → IsNearSchedule number n h k cycles s → length s.rows ≡ cycles
near_cycles number n h k cycles s is = ap length is.rows ∙ length-map-range_with_len _ 0 cycles

pub runnable_at : (n h : Net) (cycles : ℕ) (list : List PlainSchedule) → All (λ s. IsRunnable n h cycles s) list → (j : ℕ) (s : PlainSchedule) → slice_get list j ≡ Some s → IsRunnable n h cycles s
runnable_at n h cycles list all j s at =
    subst (λ (r : PlainSchedule). IsRunnable n h cycles r) (get_or_from_slice_get list j s s at) (all j s (slice_get_within list j s at))

-- all have the same number of cycles
pub one_length : (n h : Net) (cycles : ℕ) (list : List PlainSchedule) → All (λ s. IsRunnable n h cycles s) list → HaveOneLength list
one_length n h cycles list all i j s r at there = (runnable_at n h cycles list all i s at).cycles ∙ sym ((runnable_at n h cycles list all j r there).cycles)

-- one schedule more
pub drawn_more : (number : ℕ) (P : ℕ → PlainSchedule → Type 0) (old new : List PlainSchedule) (s : PlainSchedule) (i next : ℕ) → ((j : ℕ) (r : PlainSchedule) → slice_get old j ≡ Some r → P ((number + (j + 1)) % 2 ^ 64) r)
    → length old ≡ i → new ≡ old ++ s ∷ [] → next ≡ (number + (i + 1)) % 2 ^ 64 → P next s → (j : ℕ) (r : PlainSchedule) → slice_get new j ≡ Some r → P ((number + (j + 1)) % 2 ^ 64) r
drawn_more number P old new s i next before long pushed is drawn j r there = go (append_cases old s r j (subst (λ (ss : List PlainSchedule). slice_get ss j ≡ Some r) pushed there))
  where
    go : (slice_get old j ≡ Some r) ⊎ ((j ≡ length old) × (r ≡ s)) → P ((number + (j + 1)) % 2 ^ 64) r
    go (inl earlier) = before j r earlier
    go (inr (last, same)) =
        let number_is : next ≡ (number + (j + 1)) % 2 ^ 64 = is ∙ ap (λ (m : ℕ). (number + (m + 1)) % 2 ^ 64) (sym (last ∙ long)) in
        subst (λ (q : PlainSchedule). P ((number + (j + 1)) % 2 ^ 64) q) (sym same) (subst (λ (m : ℕ). P m s) number_is drawn)

-- ---- the outcomes

outputs_many : (n h : Net) (tr ft : List (List Bool)) (t count : ℕ) → length (outputs_in n h tr ft t count) ≡ count
outputs_many n h tr ft t zero = refl
outputs_many n h tr ft t (suc count) = omega (arith, length-append (outputs_in n h tr ft t count) (output_at n h tr ft t count ∷ []), outputs_many n h tr ft t count)

-- so many outputs are compared
outputs_compared : (n h : Net) (tr ft : List (List Bool)) (cycles : ℕ) → length n.outputs < 4294967295 → length (outputs_until n h tr ft cycles) ≤ cycles * 4294967295
outputs_compared n h tr ft zero few = omega arith
outputs_compared n h tr ft (suc cycles) few =
    omega (arith, few, length-append (outputs_until n h tr ft cycles) (outputs_in n h tr ft cycles (length n.outputs)), outputs_many n h tr ft cycles (length n.outputs), outputs_compared n h tr ft cycles few)

one_at_most : (b : Bool) → one_if b ≤ 1
one_at_most true = omega arith
one_at_most false = omega arith

three_at_most : (k : PlainCert) (tr ft : List (List Bool)) (t x : ℕ) → copies_wrong k tr ft t x ≤ 3
three_at_most k tr ft t x = omega (arith, one_at_most)

late_of_node : (k : PlainCert) (s : List Upset) (tr ft : List (List Bool)) (t x : ℕ) (o : Option ℕ) → late_at k s tr ft t x o ≤ 3
late_of_node k s tr ft t x None = omega arith
late_of_node k s tr ft t x (Some p) = go (is_quiet k s p t)
  where
    go : (b : Bool) → (if b then copies_wrong k tr ft t x else 0) ≤ 3
    go true = three_at_most k tr ft t x
    go false = omega arith

late_of_cycle : (n : Net) (k : PlainCert) (s : List Upset) (tr ft : List (List Bool)) (t count : ℕ) → late_in n k s tr ft t count ≤ 3 * count
late_of_cycle n k s tr ft t zero = omega arith
late_of_cycle n k s tr ft t (suc count) =
    omega (arith, late_of_cycle n k s tr ft t count, late_of_node k s tr ft t (length n.inputs + count) (part_of k (length n.inputs + count)))

-- so many copies are looked at
late_compared : (n : Net) (k : PlainCert) (s : List Upset) (tr ft : List (List Bool)) (cycles : ℕ) → length n.nodes < 4294967295 → late_until n k s tr ft cycles ≤ cycles * 12884901885
late_compared n k s tr ft zero few = omega arith
late_compared n k s tr ft (suc cycles) few = omega (arith, few, late_compared n k s tr ft cycles few, late_of_cycle n k s tr ft cycles (length n.nodes))

bounded_outcome : (n h : Net) (k : PlainCert) (s : PlainSchedule) (o : Outcome) → length n.outputs < 4294967295 → length n.nodes < 4294967295 → length s.rows ≤ 100000 → IsReplayOf n [] [] h [] [] k s (plain_outcome o) → IsBounded o
bounded_outcome n h k s o few_outputs few_nodes short is =
    let tr = is.original.trace in
    let ft = is.hardened.trace in
    let outcome = is.outcome tr ft is.original.is_trace is.hardened.is_trace in
    let compared = outputs_compared n h tr ft (length s.rows) few_outputs in
    let seen = outputs_until n h tr ft (length s.rows) in
    record {
      differences = omega (arith, short, outcome.counts.differences_are, length-filter differs (outputs_until n h tr ft (length s.rows)), count_by-le-length differs (outputs_until n h tr ft (length s.rows)), compared);
      wrong = omega (arith, short, outcome.counts.wrong_are, length-filter is_wrong (outputs_until n h tr ft (length s.rows)), count_by-le-length is_wrong (outputs_until n h tr ft (length s.rows)), compared);
      late = omega (arith, short, outcome.late, late_compared n k s.upsets tr ft (length s.rows) few_nodes);
    }

pub bounded_outcomes : (n h : Net) (k : PlainCert) (cycles : ℕ) (list : List PlainSchedule) (outcomes : List Outcome) → length n.outputs < 4294967295 → length n.nodes < 4294967295 → cycles ≤ 100000 → All (λ s. IsRunnable n h cycles s) list
    → AreReplaysOf n h k list outcomes → All (λ o. IsBounded o) outcomes
bounded_outcomes n h k cycles list outcomes few_outputs few_nodes short all replays j d within =
    let (s, at) = slice_get_there list j (omega (arith, within, replays.long)) in
    bounded_outcome n h k s (get_or outcomes j d) few_outputs few_nodes (let e : length s.rows ≡ cycles = (runnable_at n h cycles list all j s at).cycles in omega (arith, e, short)) (replays.each j s (get_or outcomes j d) at (slice_get-get_or outcomes j d within))

-- ---- which outputs differ

-- a difference is of some output
abbrev IsOfOutput : ℕ → Difference → Type 0
IsOfOutput count d = d.output < count

lower : (i : ℕ) (d : Difference) → d.output < i → d.output < suc i
lower i d l = omega arith

one_output : (i : ℕ) (d : Difference) → d.output ≡ i → All (IsOfOutput (suc i)) (d ∷ [])
one_output i d e zero x l = omega arith
one_output i d e (suc j) x l = absurd (omega arith)

shown_in : (n h : Net) (tr ft : List (List Bool)) (t i : ℕ) → All (IsOfOutput i) (outputs_in n h tr ft t i)
shown_in n h tr ft t zero = λ j x l. absurd (omega arith)
shown_in n h tr ft t (suc i) =
    All-append (IsOfOutput (suc i)) (outputs_in n h tr ft t i) (output_at n h tr ft t i ∷ [])
    (All-weaker (IsOfOutput i) (IsOfOutput (suc i)) (lower i) (outputs_in n h tr ft t i) (shown_in n h tr ft t i))
    (one_output i (output_at n h tr ft t i) refl)

shown_until : (n h : Net) (tr ft : List (List Bool)) (t : ℕ) → All (IsOfOutput (length n.outputs)) (outputs_until n h tr ft t)
shown_until n h tr ft zero = λ j x l. absurd (omega arith)
shown_until n h tr ft (suc t) = All-append (IsOfOutput (length n.outputs)) (outputs_until n h tr ft t) (outputs_in n h tr ft t (length n.outputs)) (shown_until n h tr ft t) (shown_in n h tr ft t (length n.outputs))

pub shown_outputs : (n : Net) (f w : List Bool) (h : Net) (g u : List Bool) (k : PlainCert) (s : PlainSchedule) (o : PlainOutcome) → IsReplayOf n f w h g u k s o → All (λ d. d.output < length n.outputs) o.first
shown_outputs n f w h g u k s o is =
    let tr = is.original.trace in
    let ft = is.hardened.trace in
    let outcome = is.outcome tr ft is.original.is_trace is.hardened.is_trace in
    subst (All (IsOfOutput (length n.outputs))) (sym outcome.counts.first_are)
    (All-take (IsOfOutput (length n.outputs)) 1000 (filter differs (outputs_until n h tr ft (length s.rows)))
    (All-filter differs (IsOfOutput (length n.outputs)) (outputs_until n h tr ft (length s.rows)) (shown_until n h tr ft (length s.rows))))

-- a wrong output that is kept is an output of the original
kept_output : (n h : Net) (k : PlainCert) (list : List PlainSchedule) (outcomes : List Outcome) (w : WrongOutput) → AreReplaysOf n h k list outcomes → IsKeptWrong outcomes w → w.output < length n.outputs
kept_output n h k list outcomes w replays kept =
    let within : w.run < length outcomes = slice_get_within outcomes w.run kept.outcome kept.of_run in
    let (s, at) = slice_get_there list w.run (omega (arith, within, replays.long)) in
    let shown = shown_outputs n [] [] h [] [] k s (plain_outcome kept.outcome) (replays.each w.run s kept.outcome at kept.of_run) in
    let here : (get_or kept.outcome.first.items kept.place kept.difference).output < length n.outputs = shown kept.place kept.difference (slice_get_within kept.outcome.first.items kept.place kept.difference kept.there) in
    let same : get_or kept.outcome.first.items kept.place kept.difference ≡ kept.difference = get_or_from_slice_get kept.outcome.first.items kept.place kept.difference kept.difference kept.there in
    let output : (get_or kept.outcome.first.items kept.place kept.difference).output ≡ kept.difference.output = ap (λ (d : Difference). d.output) same in
    omega (arith, here, output, kept.output)

pub told_output : (n h : Net) (k : PlainCert) (list : List PlainSchedule) (outcomes : List Outcome) (first : Option WrongOutput) → AreReplaysOf n h k list outcomes → IsFirst (IsKeptWrong outcomes) first → IfSome first (λ w. w.output < length n.outputs)
told_output n h k list outcomes None replays is = tt
told_output n h k list outcomes (Some w) replays (kept, first) = kept_output n h k list outcomes w replays kept

pub named_output : (n : Net) (i x : ℕ) (name : List ℕ) → slice_get n.outputs i ≡ Some x → name ≡ name_of n x → name ≡ name_of n (slice_index n.outputs i)
named_output n i x name at is = is ∙ ap (name_of n) (sym (get_or_from_slice_get n.outputs i x 0 at))

pub ruleset names = (named_output)

-- ---- no harm

-- a schedule that the certificate allows does no harm where the pair masks
unharmed : (n h : Net) (k : PlainCert) (cycles : ℕ) (s : PlainSchedule) (o : Outcome) → Masks n h k → IsRunnable n h cycles s → Allowed s.upsets k → IsReplayOf n [] [] h [] [] k s (plain_outcome o) → (o.wrong ≡ 0) × (o.late ≡ 0)
unharmed n h k cycles s o masks run allowed is =
    let outcome = is.outcome is.original.trace is.hardened.trace is.original.is_trace is.hardened.is_trace in
    plain_unharmed n h k s (plain_outcome o) run.plain run.inputs run.nodes masks is (outcome.allowed.1 allowed)

-- of all runs
pub none_harmed : (n h : Net) (k : PlainCert) (cycles : ℕ) (list : List PlainSchedule) (outcomes : List Outcome) → Masks n h k → All (λ s. IsRunnable n h cycles s) list → All (λ s. Allowed s.upsets k) list → AreReplaysOf n h k list outcomes
    → (sum_by (λ o. o.wrong) outcomes ≡ 0) × (sum_by (λ o. o.late) outcomes ≡ 0)
none_harmed n h k cycles list outcomes masks run allowed replays = (
  omega (arith, sum_by-le (λ (o : Outcome). o.wrong) 0 outcomes (λ j d l. let e : (get_or outcomes j d).wrong ≡ 0 = (each j d l).0 in omega (arith, e))),
  omega (arith, sum_by-le (λ (o : Outcome). o.late) 0 outcomes (λ j d l. let e : (get_or outcomes j d).late ≡ 0 = (each j d l).1 in omega (arith, e))),
)
  where
    each : (j : ℕ) (d : Outcome) → j < length outcomes → ((get_or outcomes j d).wrong ≡ 0) × ((get_or outcomes j d).late ≡ 0)
    each j d within =
        let (s, at) = slice_get_there list j (omega (arith, within, replays.long)) in
        let is_allowed : Allowed s.upsets k = subst (λ (r : PlainSchedule). Allowed r.upsets k) (get_or_from_slice_get list j s s at) (allowed j s (slice_get_within list j s at)) in
        unharmed n h k cycles s (get_or outcomes j d) masks (runnable_at n h cycles list run j s at) is_allowed (replays.each j s (get_or outcomes j d) at (slice_get-get_or outcomes j d within))

pub pair_masks : (n : Net) (f : List Bool) (h : Net) (g : List Bool) (k : PlainCert) → IsValid n → IsValid h → AreMarks n f → AreMarks h g → Fits n h k → IsCert k → FreeCorresponds n f h g k → Masks n h k
pair_masks n f h g k = masks_too n f h g k

-- ---- the sums

-- one run more
pub run_added : {A : Type 0} (f : A → ℕ) (xs : List A) (i : ℕ) (x : A) (old new : ℕ) → i < length xs → x ≡ get_or xs i x → old ≡ sum_by f (take i xs) → new ≡ old + f x → new ≡ sum_by f (take (i + 1) xs)
run_added {A = A} f xs i x old new within is before added =
    added ∙ (ap (λ (m : ℕ). m + f x) before ∙ (ap (λ (y : A). sum_by f (take i xs) + f y) is ∙ sym (sum_by_more f xs i x within)))

-- an outcome at its place
pub bounded_at : (outcomes : List Outcome) (j : ℕ) (o : Outcome) → All (λ x. IsBounded x) outcomes → j < length outcomes → o ≡ get_or outcomes j o → IsBounded o
bounded_at outcomes j o all within is = subst (λ (x : Outcome). IsBounded x) (sym is) (all j o within)

-- ---- the campaign

pub three_inputs : (n : Net) (f : List Bool) (h : Net) (g : List Bool) (k : PlainCert) → FreeCorresponds n f h g k → length h.inputs ≡ 3 * length n.inputs
three_inputs n f h g k all_hold = (all_hold 1 0).inputs refl refl

pub three_of_each : (n : Net) (f : List Bool) (h : Net) (g : List Bool) (k : PlainCert) → FreeCorresponds n f h g k → length h.outputs ≡ 3 * length n.outputs
three_of_each n f h g k all_hold = three_outputs n h k (λ place. (all_hold 8 place).outputs refl)

pub campaign_is : (number cycles : ℕ) (n h : Net) (k : PlainCert) (list : List PlainSchedule) (outcomes : List Outcome) (sums : CampaignSums) → Masks n h k → AreCampaignSchedules number cycles n h k list
    → All (λ s. IsRunnable n h cycles s) list → AreReplaysOf n h k list outcomes → AreSumsOf list outcomes sums → IsCampaign number cycles n h k sums
campaign_is number cycles n h k list outcomes sums masks drawn run replays are =
    let none = none_harmed n h k cycles list outcomes masks run drawn.allowed replays in
    record {
      schedules = list;
      outcomes = outcomes;
      are_drawn = drawn;
      replays = replays;
      are_sums = are;
      none_wrong = are.wrong ∙ none.0;
      none_late = are.late ∙ none.1;
    }

-- ---- the lines

-- five pieces put one behind the other
pub three_words : (old first second third fourth new a x y z : List ℕ) → first ≡ old ++ a → second ≡ first ++ (32 ∷ x) → third ≡ second ++ (32 ∷ y) → fourth ≡ third ++ (32 ∷ z) → new ≡ fourth ++ (10 ∷ []) → new ≡ old ++ (a ++ ((32 ∷ (x ++ (32 ∷ (y ++ (32 ∷ z))))) ++ (10 ∷ [])))
three_words old first second third fourth new a x y z e1 e2 e3 e4 e5 =
    let words : fourth ≡ first ++ (32 ∷ (x ++ (32 ∷ (y ++ (32 ∷ z))))) =
    e4 ∙ (ap (λ (m : List ℕ). m ++ (32 ∷ z)) e3 ∙ (append_assoc second (32 ∷ y) (32 ∷ z) ∙ (ap (λ (m : List ℕ). m ++ (32 ∷ (y ++ (32 ∷ z)))) e2 ∙ append_assoc first (32 ∷ x) (32 ∷ (y ++ (32 ∷ z)))))) in
    e5
    ∙ (ap (λ (m : List ℕ). m ++ (10 ∷ [])) words
    ∙ (append_assoc first (32 ∷ (x ++ (32 ∷ (y ++ (32 ∷ z))))) (10 ∷ [])
    ∙ (ap (λ (m : List ℕ). m ++ ((32 ∷ (x ++ (32 ∷ (y ++ (32 ∷ z))))) ++ (10 ∷ []))) e1 ∙ append_assoc old a ((32 ∷ (x ++ (32 ∷ (y ++ (32 ∷ z))))) ++ (10 ∷ [])))))

pub near_told : (n : Net) (sums : CampaignSums) (first : Option WrongOutput) (w : WrongOutput) (old new : List ℕ) → first ≡ Some w → old ≡ campaign_text sums → new ≡ old ++ line_text (first_wrong_line n w) → new ≡ flat_map line_text (near_lines n sums first)
near_told n sums first w old new is before more =
    more
    ∙ (ap (λ (text : List ℕ). text ++ line_text (first_wrong_line n w)) before
    ∙ (flat_map_more line_text [] (campaign_lines sums) (first_wrong_line n w) ∙ ap (λ (o : Option WrongOutput). flat_map line_text (near_lines n sums o)) (sym is)))

pub five_told : (n : Net) (sums : CampaignSums) (first : Option WrongOutput) (text : List ℕ) → first ≡ None → text ≡ campaign_text sums → text ≡ flat_map line_text (near_lines n sums first)
five_told n sums first text is told = told ∙ ap (λ (o : Option WrongOutput). flat_map line_text (near_lines n sums o)) (sym is)
