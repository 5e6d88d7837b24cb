-- The first wrong output of those that were looked at.
use Rattle.std.proofs.Common.{◌≡◌, ℕ, ◌+◌, ◌<◌, ◌≤◌, ◌⊎◌, inl, inr, Bool, true, false, cond, ◌&&◌, ◌||◌, List, length, slice_get, Option, Some, None, refl, sym, ◌∙◌, ap, subst, arith}
use Rattle.std.specs.Prelude.{nat_lt, nat_eq}
use Rattle.std.proofs.lemmas.Bool.{cases_lt}
use Rattle.std.proofs.lemmas.Bool.Decides.{nat_tests}
use Rattle.std.proofs.lemmas.Option.{slice_get_within}
use Rattle.schedule_replay.specs.declared.outcome.Difference.{Difference}
use Rattle.schedule_replay.specs.declared.outcome.Outcome.{Outcome}
use Rattle.schedule_replay.specs.Outcome.{is_wrong}
use Rattle.campaigns.specs.declared.first_wrong.WrongOutput.{WrongOutput}
use Rattle.campaigns.specs.NearCampaign.{IsKeptWrong, IsNoLater, IsFirst}
use Rattle.campaigns.specs.Private.Seeking.{IsSeenWrong, is_earlier, earlier_one, with_difference}

-- ---- which one comes first

or_cases : (a b : Bool) → (a || b) ≡ true → (a ≡ true) ⊎ (b ≡ true)
or_cases true b e = inl refl
or_cases false b e = inr e

or_left : (a b : Bool) → (a || b) ≡ false → a ≡ false
or_left true b e = absurd (cc)
or_left false b e = refl

or_right : (a b : Bool) → (a || b) ≡ false → b ≡ false
or_right true b e = absurd (cc)
or_right false b e = e

less : (a b : ℕ) → nat_lt a b ≡ true → a < b
less a b e = grind (arith, nat_tests)

not_less : (a b : ℕ) → nat_lt a b ≡ false → b ≤ a
not_less a b e = grind (arith, nat_tests)

level : (a b x y : ℕ) → (nat_eq a b && nat_lt x y) ≡ true → a ≡ b
level a b x y e = grind (arith, nat_tests)

level_less : (a b x y : ℕ) → (nat_eq a b && nat_lt x y) ≡ true → x < y
level_less a b x y e = grind (arith, nat_tests)

level_not_less : (a b x y : ℕ) → (nat_eq a b && nat_lt x y) ≡ false → a ≡ b → y ≤ x
level_not_less a b x y e same = grind (arith, nat_tests)

then_earlier : (w u v : WrongOutput) → is_earlier w u ≡ true → IsNoLater u v → IsNoLater w v
then_earlier w u v e after = go (or_cases (nat_lt w.cycle u.cycle) (nat_eq w.cycle u.cycle && nat_lt w.output u.output) e) after
  where
    by_cycle : w.cycle < u.cycle → IsNoLater u v → IsNoLater w v
    by_cycle l (inl m) = inl (omega (arith, l, m))
    by_cycle l (inr (same, rest)) = inl (omega (arith, l, same))

    by_output : w.cycle ≡ u.cycle → w.output < u.output → IsNoLater u v → IsNoLater w v
    by_output at l (inl m) = inl (omega (arith, at, m))
    by_output at l (inr (same, inl m)) = inr (at ∙ same, inl (omega (arith, l, m)))
    by_output at l (inr (same, inr (here, run))) = inr (at ∙ same, inl (omega (arith, l, here)))

    go : (nat_lt w.cycle u.cycle ≡ true) ⊎ ((nat_eq w.cycle u.cycle && nat_lt w.output u.output) ≡ true) → IsNoLater u v → IsNoLater w v
    go (inl test) = by_cycle (less w.cycle u.cycle test)
    go (inr test) = by_output (level w.cycle u.cycle w.output u.output test) (level_less w.cycle u.cycle w.output u.output test)

none_earlier : (w u : WrongOutput) → is_earlier w u ≡ false → u.run ≤ w.run → IsNoLater u w
none_earlier w u e run = go (cases_lt u.cycle w.cycle)
  where
    here : u.cycle ≡ w.cycle → (u.output < w.output) ⊎ (w.output ≤ u.output) → IsNoLater u w
    here same (inl l) = inr (same, inl l)
    here same (inr l) =
        let m : u.output ≤ w.output = level_not_less w.cycle u.cycle w.output u.output (or_right (nat_lt w.cycle u.cycle) (nat_eq w.cycle u.cycle && nat_lt w.output u.output) e) (sym same) in
        inr (same, inr (omega (arith, l, m), run))

    go : (u.cycle < w.cycle) ⊎ (w.cycle ≤ u.cycle) → IsNoLater u w
    go (inl l) = inl l
    go (inr l) =
        let m : u.cycle ≤ w.cycle = not_less w.cycle u.cycle (or_left (nat_lt w.cycle u.cycle) (nat_eq w.cycle u.cycle && nat_lt w.output u.output) e) in
        here (omega (arith, l, m)) (cases_lt u.output w.output)

-- the first one depends on no more than which ones there are
first_same : (P Q : WrongOutput → Type 0) → ((w : WrongOutput) → P w → Q w) → ((w : WrongOutput) → Q w → P w) → (o : Option WrongOutput) → IsFirst P o → IsFirst Q o
first_same P Q there back None none = λ w q. none w (back w q)
first_same P Q there back (Some w) (is, first) = (there w is, λ v q. first v (back v q))

some_same : {A : Type 0} (a b : A) → Some a ≡ Some b → a ≡ b
some_same a b e = cc

-- ---- one difference more

-- the new wrong output, if it is one
record IsNew (j : ℕ) (d : Difference) (w : WrongOutput) : Type 0 where
  wrong : is_wrong d ≡ true
  cycle : w.cycle ≡ d.cycle
  output : w.output ≡ d.output
  run : w.run ≡ j

module _ (outcomes : List Outcome) (j i : ℕ) (o : Outcome) (d : Difference) (of_run : slice_get outcomes j ≡ Some o) (there : slice_get o.first.items i ≡ Some d) where
  older : (w : WrongOutput) → IsSeenWrong outcomes j i w → IsSeenWrong outcomes j (i + 1) w
  older w is = record { kept = is.kept; seen = go is.seen }
    where
      go : (w.run < j) ⊎ ((w.run ≡ j) × (is.kept.place < i)) → (w.run < j) ⊎ ((w.run ≡ j) × (is.kept.place < i + 1))
      go (inl l) = inl l
      go (inr (same, l)) = inr (same, omega (arith, l))

  newer : (w : WrongOutput) → IsSeenWrong outcomes j (i + 1) w → IsSeenWrong outcomes j i w ⊎ IsNew j d w
  newer w is = go is.seen
    where
      kept : IsKeptWrong outcomes w
      kept = is.kept

      new : w.run ≡ j → kept.place ≡ i → IsNew j d w
      new same at =
          let one : kept.outcome ≡ o = some_same kept.outcome o (sym kept.of_run ∙ (ap (slice_get outcomes) same ∙ of_run)) in
          let last : kept.difference ≡ d = some_same kept.difference d (sym kept.there ∙ (ap (λ (p : Outcome). slice_get p.first.items kept.place) one ∙ (ap (slice_get o.first.items) at ∙ there))) in
          record {
            wrong = ap is_wrong (sym last) ∙ kept.wrong;
            cycle = kept.cycle ∙ ap (λ (e : Difference). e.cycle) last;
            output = kept.output ∙ ap (λ (e : Difference). e.output) last;
            run = same;
          }

      place : w.run ≡ j → kept.place < i + 1 → (kept.place < i) ⊎ (i ≤ kept.place) → IsSeenWrong outcomes j i w ⊎ IsNew j d w
      place same l (inl m) = inl (record { kept = kept; seen = inr (same, m) })
      place same l (inr m) = inr (new same (omega (arith, l, m)))

      go : (w.run < j) ⊎ ((w.run ≡ j) × (kept.place < i + 1)) → IsSeenWrong outcomes j i w ⊎ IsNew j d w
      go (inl l) = inl (record { kept = kept; seen = inl l })
      go (inr (same, l)) = place same l (cases_lt kept.place i)

  own : WrongOutput
  own = record { cycle = d.cycle; output = d.output; run = j }

  own_seen : is_wrong d ≡ true → IsSeenWrong outcomes j (i + 1) (record { cycle = d.cycle; output = d.output; run = j })
  own_seen wrong = record {
    kept = record { outcome = o; place = i; difference = d; of_run = of_run; there = there; wrong = wrong; cycle = refl; output = refl };
    seen = inr (refl, omega arith);
  }

  own_first : (v : WrongOutput) → IsNew j d v → IsNoLater (record { cycle = d.cycle; output = d.output; run = j }) v
  own_first v is = inr (sym is.cycle, inr (sym is.output, omega (arith, is.run)))

  no_run_later : (w : WrongOutput) → IsSeenWrong outcomes j i w → w.run ≤ j
  no_run_later w is = go is.seen
    where
      go : (w.run < j) ⊎ ((w.run ≡ j) × (is.kept.place < i)) → w.run ≤ j
      go (inl l) = omega (arith, l)
      go (inr (same, l)) = omega (arith, same)

  as_new : (u v : WrongOutput) → IsNoLater u (record { cycle = d.cycle; output = d.output; run = j }) → IsNew j d v → IsNoLater u v
  as_new u v (inl l) is = inl (omega (arith, l, is.cycle))
  as_new u v (inr (same, inl l)) is = inr (same ∙ sym is.cycle, inl (omega (arith, l, is.output)))
  as_new u v (inr (same, inr (here, run))) is = inr (same ∙ sym is.cycle, inr (here ∙ sym is.output, omega (arith, run, is.run)))

  add_none : (first : Option WrongOutput) → is_wrong d ≡ false → IsFirst (IsSeenWrong outcomes j i) first → IsFirst (IsSeenWrong outcomes j (i + 1)) first
  add_none first test is = first_same (IsSeenWrong outcomes j i) (IsSeenWrong outcomes j (i + 1)) older back first is
    where
      back : (w : WrongOutput) → IsSeenWrong outcomes j (i + 1) w → IsSeenWrong outcomes j i w
      back w seen = go (newer w seen)
        where
          go : IsSeenWrong outcomes j i w ⊎ IsNew j d w → IsSeenWrong outcomes j i w
          go (inl old) = old
          go (inr new) = absurd (let yes = new.wrong in cc)

  add_some : (first : Option WrongOutput) → is_wrong d ≡ true → IsFirst (IsSeenWrong outcomes j i) first → IsFirst (IsSeenWrong outcomes j (i + 1)) (Some (earlier_one first (record { cycle = d.cycle; output = d.output; run = j })))
  add_some None wrong none = (own_seen wrong, λ v seen. go v (newer v seen))
    where
      go : (v : WrongOutput) → IsSeenWrong outcomes j i v ⊎ IsNew j d v → IsNoLater (record { cycle = d.cycle; output = d.output; run = j }) v
      go v (inl old) = absurd (none v old)
      go v (inr new) = own_first v new
  add_some (Some u) wrong (is, first) = by (is_earlier (record { cycle = d.cycle; output = d.output; run = j }) u) refl
    where
      replaced : is_earlier (record { cycle = d.cycle; output = d.output; run = j }) u ≡ true → (v : WrongOutput) → IsSeenWrong outcomes j i v ⊎ IsNew j d v → IsNoLater (record { cycle = d.cycle; output = d.output; run = j }) v
      replaced test v (inl old) = then_earlier (record { cycle = d.cycle; output = d.output; run = j }) u v test (first v old)
      replaced test v (inr new) = own_first v new

      stays : is_earlier (record { cycle = d.cycle; output = d.output; run = j }) u ≡ false → (v : WrongOutput) → IsSeenWrong outcomes j i v ⊎ IsNew j d v → IsNoLater u v
      stays test v (inl old) = first v old
      stays test v (inr new) = as_new u v (none_earlier (record { cycle = d.cycle; output = d.output; run = j }) u test (no_run_later u is)) new

      by : (b : Bool) → is_earlier (record { cycle = d.cycle; output = d.output; run = j }) u ≡ b → IsFirst (IsSeenWrong outcomes j (i + 1)) (Some (cond b (record { cycle = d.cycle; output = d.output; run = j }) u))
      by true test = (own_seen wrong, λ v seen. replaced test v (newer v seen))
      by false test = (older u is, λ v seen. stays test v (newer v seen))

  pub one_more : (first : Option WrongOutput) → IsFirst (IsSeenWrong outcomes j i) first → (found : Option WrongOutput) → found ≡ with_difference first j d → IsFirst (IsSeenWrong outcomes j (i + 1)) found
  one_more first is found e = subst (IsFirst (IsSeenWrong outcomes j (i + 1))) (sym e) (by (is_wrong d) refl)
    where
      by : (b : Bool) → is_wrong d ≡ b → IsFirst (IsSeenWrong outcomes j (i + 1)) (cond b (Some (earlier_one first (record { cycle = d.cycle; output = d.output; run = j }))) first)
      by true test = add_some first test is
      by false test = add_none first test is

-- ---- all

pub run_seen : (outcomes : List Outcome) (j i : ℕ) (o : Outcome) (first : Option WrongOutput) → slice_get outcomes j ≡ Some o → length o.first.items ≤ i → IsFirst (IsSeenWrong outcomes j i) first → IsFirst (IsSeenWrong outcomes (j + 1) 0) first
run_seen outcomes j i o first of_run all is = first_same (IsSeenWrong outcomes j i) (IsSeenWrong outcomes (j + 1) 0) on back first is
  where
    on : (w : WrongOutput) → IsSeenWrong outcomes j i w → IsSeenWrong outcomes (j + 1) 0 w
    on w seen = record { kept = seen.kept; seen = go seen.seen }
      where
        go : (w.run < j) ⊎ ((w.run ≡ j) × (seen.kept.place < i)) → (w.run < j + 1) ⊎ ((w.run ≡ j + 1) × (seen.kept.place < 0))
        go (inl l) = inl (omega (arith, l))
        go (inr (same, l)) = inl (omega (arith, same))

    back : (w : WrongOutput) → IsSeenWrong outcomes (j + 1) 0 w → IsSeenWrong outcomes j i w
    back w seen = go seen.seen
      where
        kept : IsKeptWrong outcomes w
        kept = seen.kept

        last : w.run ≡ j → kept.place < i
        last same =
            let one : kept.outcome ≡ o = some_same kept.outcome o (sym kept.of_run ∙ (ap (slice_get outcomes) same ∙ of_run)) in
            let within : kept.place < length kept.outcome.first.items = slice_get_within kept.outcome.first.items kept.place kept.difference kept.there in
            let long : length kept.outcome.first.items ≡ length o.first.items = ap (λ (p : Outcome). length p.first.items) one in
            omega (arith, within, long, all)

        run : w.run < j + 1 → (w.run < j) ⊎ (j ≤ w.run) → IsSeenWrong outcomes j i w
        run l (inl m) = record { kept = kept; seen = inl m }
        run l (inr m) = let same : w.run ≡ j = omega (arith, l, m) in record { kept = kept; seen = inr (same, last same) }

        go : (w.run < j + 1) ⊎ ((w.run ≡ j + 1) × (kept.place < 0)) → IsSeenWrong outcomes j i w
        go (inl l) = run l (cases_lt w.run j)
        go (inr (same, l)) = absurd (omega (arith, l))

pub none_seen : (outcomes : List Outcome) (w : WrongOutput) → IsSeenWrong outcomes 0 0 w → ⊥
none_seen outcomes w seen = go seen.seen
  where
    go : (w.run < 0) ⊎ ((w.run ≡ 0) × (seen.kept.place < 0)) → ⊥
    go (inl l) = omega (arith, l)
    go (inr (same, l)) = omega (arith, l)

pub all_seen : (outcomes : List Outcome) (j : ℕ) (first : Option WrongOutput) → length outcomes ≤ j → IsFirst (IsSeenWrong outcomes j 0) first → IsFirst (IsKeptWrong outcomes) first
all_seen outcomes j first all is =
    first_same (IsSeenWrong outcomes j 0) (IsKeptWrong outcomes) (λ w seen. seen.kept)
    (λ w kept. record { kept = kept; seen = inl (let within : w.run < length outcomes = slice_get_within outcomes w.run kept.outcome kept.of_run in omega (arith, within, all)) }) first is
