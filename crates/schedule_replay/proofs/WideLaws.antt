-- Runs of schedules that are stepped together.
use Rattle.std.proofs.Common.{◌≡◌, ◌≢◌, ◌∙◌, ◌⊎◌, inl, inr, ℕ, suc, ◌+◌, ◌*◌, ◌<◌, ◌≤◌, Bool, List, [], ◌++◌, ◌∷◌, length, slice_get, Option, Some, sym, ap, subst, arith}
use Rattle.std.specs.Prelude.{All}
use Rattle.std.proofs.lemmas.List.{length-replicate}
use Rattle.tmr_base.specs.declared.ids.NetId.{NetId}
use Rattle.tmr_base.specs.declared.ids.Upset.{Upset}
use Rattle.flat_net.specs.Net.{Net, net_count}
use Rattle.net_meaning.specs.Meaning.{row_at, start_at, upset_at}
use Rattle.certificate.specs.Cert.{PlainCert, Fits}
use Rattle.net_simulator.specs.Cycle.{forced_in}
use Rattle.schedule_replay.specs.declared.outcome.Outcome.{Outcome}
use Rattle.schedule_replay.specs.Outcome.{outputs_in, outputs_until, late_in}
use Rattle.schedule_replay.specs.Running.{HasCounted, CountsFit}
use Rattle.schedule_replay.specs.Wide.{AreStartsIn, AreReplaysFrom, HasNoted, Notes, HasBegun, HasTaken, IsFresh}
use Rattle.schedule_replay.specs.declared.starts.Starts.{Starts}
use Rattle.schedule_replay.specs.declared.wide_rows.Progress.{Progress}
use Rattle.schedule_replay.specs.Many.{AreReplaysOf}
use Rattle.schedule_replay.specs.Striking.{IsTaken, AreLatest}
use Rattle.schedules.proofs.Kept.{append_cases}
use Rattle.schedule_replay.proofs.Quiet.{none_taken, none_struck}
use Rattle.schedule_replay.proofs.RunWords.{equal_or_not}
use Rattle.schedules.specs.Schedule.{PlainSchedule, IsPlainSchedule}
use Rattle.schedules.specs.Reading.{IsNodeOf}
use Rattle.schedule_replay.specs.Starts.{or_else, start_in}
use Rattle.schedule_replay.proofs.Starting.{high_nets, low_nets, unmarked, none_given}
use Rattle.schedule_replay.proofs.WideRows.{forced_in-append}

-- what upsets and start values force together in run j
pub both_forced : (n : Net) (free w : List Bool) (t j : ℕ) (struck starts all : List (NetId × ℕ × ℕ)) (us : List Upset) → all ≡ struck ++ starts → ((x : ℕ) → forced_in j struck x ≡ upset_at us t x) → AreStartsIn n free w t j starts
    → (x : ℕ) → x < net_count n → forced_in j all x ≡ or_else (upset_at us t x) (start_in t (start_at n free w x))
both_forced n free w t j struck starts all us e upsets values x l =
    ap (λ (fs : List (NetId × ℕ × ℕ)). forced_in j fs x) e ∙ (forced_in-append j struck starts x ∙ (ap (λ (o : Option Bool). or_else o (forced_in j starts x)) (upsets x) ∙ ap (or_else (upset_at us t x)) (values x l)))

-- behind cycle 0 there are no start values
pub no_more_starts : (n : Net) (free w : List Bool) (t j : ℕ) (starts : List (NetId × ℕ × ℕ)) → starts ≡ [] → AreStartsIn n free w (suc t) j starts
no_more_starts n free w t j starts e x l = ap (λ (fs : List (NetId × ℕ × ℕ)). forced_in j fs x) e

pub all_high_nets : (n h : Net) (k : PlainCert) (list : List PlainSchedule) → Fits n h k → All (λ s. All (λ u. u.net.0 < net_count h) s.upsets) list → All (λ s. All (λ u. u.net.0 < k.hardened_inputs + length k.roles) s.upsets) list
all_high_nets n h k list fits all i d l = high_nets n h k _ fits (all i d l)

pub all_low_nets : (n h : Net) (k : PlainCert) (list : List PlainSchedule) → Fits n h k → length h.inputs ≡ 3 * length n.inputs → All (λ s. All (λ u. u.net.0 < k.hardened_inputs → u.net.0 < 3 * k.original_inputs) s.upsets) list
all_low_nets n h k list fits three i d l = low_nets n h k _ fits three

pub ruleset all_in_range = (all_high_nets, all_low_nets)

-- rows have a bit for each input
pub rows_wide : (list : List PlainSchedule) (t inputs : ℕ) → All (λ s. IsPlainSchedule s) list → All (λ s. s.inputs ≡ inputs) list → All (λ s. t < length s.rows) list → All (λ s. length (row_at s.rows t) ≡ inputs) list
rows_wide list t inputs plain same within i d l = (plain i d l).wide t [] (within i d l) ∙ same i d l

module _ (n h : Net) (k : PlainCert) (us : List Upset) (tr ft : List (List Bool)) (t : ℕ) (a m b : Outcome) where
  -- a cycle more was counted
  pub cycle_counted : HasCounted n h k us tr ft t a → Notes (outputs_in n h tr ft t (length n.outputs)) a m → m.late ≡ a.late → b ≡ record m { late = m.late + late_in n k us tr ft t (length n.nodes) } → HasCounted n h k us tr ft (t + 1) b
  cycle_counted before notes same e =
      let next : t + 1 ≡ suc t = omega arith in
      subst (λ (o : Outcome). HasCounted n h k us tr ft (t + 1) o) (sym e) (rw next (record {
        counts = notes (outputs_until n h tr ft t) before.counts;
        late = ap (λ (l : ℕ). l + late_in n k us tr ft t (length n.nodes)) (same ∙ before.late);
      }))

pub cycle_bounded : (t count : ℕ) (a m b : Outcome) → count ≤ 4294967295 → CountsFit t a → HasNoted 4294967295 a m → b ≡ record m { late = b.late } → b.late ≤ m.late + 3 * count → CountsFit (t + 1) b
cycle_bounded t count a m b few before noted same more =
    let differences : b.differences ≡ m.differences = ap (λ (o : Outcome). o.differences) same in
    let wrong : b.wrong ≡ m.wrong = ap (λ (o : Outcome). o.wrong) same in
    record {
      differences = let x = before.differences in let y = noted.differences in omega arith;
      wrong = let x = before.wrong in let y = noted.wrong in omega arith;
      late = let x = before.late in let y = noted.late in omega arith;
    }

-- before the first cycle nothing was counted
pub begun_counted : (n h : Net) (k : PlainCert) (s : PlainSchedule) (tr ft : List (List Bool)) (o : Outcome) → HasBegun k s o → HasCounted n h k s.upsets tr ft 0 o
begun_counted n h k s tr ft o is = record { counts = record { first_are = is.first; differences_are = is.differences; wrong_are = is.wrong }; late = is.late }

pub begun_bounded : (k : PlainCert) (s : PlainSchedule) (o : Outcome) → HasBegun k s o → CountsFit 0 o
begun_bounded k s o is = record { differences = let x = is.differences in omega arith; wrong = let x = is.wrong in omega arith; late = let x = is.late in omega arith }

-- one element more behind a list
pub pushed_each : {A : Type 0} (P : ℕ → A → Type 0) (old new : List A) (x : A) → new ≡ old ++ x ∷ [] → ((i : ℕ) (a : A) → slice_get old i ≡ Some a → P i a) → P (length old) x → (i : ℕ) (a : A) → slice_get new i ≡ Some a → P i a
pushed_each {A} P old new x e each is i a at = go (append_cases old x a i (subst (λ (xs : List A). slice_get xs i ≡ Some a) e at))
  where
    go : (slice_get old i ≡ Some a) ⊎ ((i ≡ length old) × (a ≡ x)) → P i a
    go (inl earlier) = each i a earlier
    go (inr (last, same)) = subst (λ (y : A). P i y) (sym same) (subst (λ (m : ℕ). P m x) (sym last) is)

pub one_plain_more : (list : List PlainSchedule) (j : ℕ) (r : PlainSchedule) → slice_get list j ≡ Some r → IsPlainSchedule r → ((i : ℕ) (s : PlainSchedule) → i < j → slice_get list i ≡ Some s → IsPlainSchedule s) → (i : ℕ) (s : PlainSchedule) → i < j + 1 → slice_get list i ≡ Some s → IsPlainSchedule s
one_plain_more list j r listed is before i s l at = go (equal_or_not i j)
  where
    go : (i ≡ j) ⊎ (i ≢ j) → IsPlainSchedule s
    go (inl e) =
        let there : slice_get list j ≡ Some s = subst (λ (m : ℕ). slice_get list m ≡ Some s) e at in
        subst IsPlainSchedule (let same : r ≡ s = cc in same) is
    go (inr e) = before i s (omega arith) at

pub fresh_taken : (k : PlainCert) (us : List Upset) (p : Progress) → IsFresh k p → HasTaken k us 0 p
fresh_taken k us p is = record {
  next = let e = is.next in omega arith;
  taken = subst (λ (m : ℕ). IsTaken us 0 m) (sym is.next) (none_taken us);
  lasts = ap length is.lasts ∙ length-replicate (length k.depth) 0;
  latest = subst (λ (m : ℕ). AreLatest k us m p.lasts.items) (sym is.next) (none_struck k us p.lasts.items is.lasts);
}

pub nodes_listed_nets : (h : Net) (list : List PlainSchedule) → All (λ s. All (λ u. IsNodeOf h u.net.0) s.upsets) list → All (λ s. All (λ u. u.net.0 < net_count h) s.upsets) list
nodes_listed_nets h list all i d l j e m = (all i d l j e m).1

pub ruleset nodes_listed = (nodes_listed_nets)

-- where nothing is marked there are no start values
pub replays_unmarked : (n h : Net) (starts : Starts) (k : PlainCert) (list : List PlainSchedule) (outcomes : List Outcome) → starts.original.items ≡ [] → starts.hardened.items ≡ [] → AreReplaysFrom n h starts k list outcomes → AreReplaysOf n h k list outcomes
replays_unmarked n h starts k list outcomes e f is = record {
  long = is.long;
  each = λ j s o at_s at_o. is.each j s o [] [] [] [] at_s at_o (unmarked n) (unmarked h) (none_given n [] starts.original.items e) (none_given h [] starts.hardened.items f);
}
