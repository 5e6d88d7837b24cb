use Rattle.std.proofs.Common.{◌≡◌, ℕ, ◌<◌, ◌⊎◌, inl, inr, true, List, sym, ap, subst, ◌∙◌, arith}
use Rattle.std.specs.List.{list_any}
use Rattle.std.specs.List.Sorted.{IsStrictlySortedBy}
use Rattle.std.specs.Ordering.{is_eq, nat_cmp}
use Rattle.partitioner.specs.Private.Leading.{LeadsOpen}
use Rattle.partitioner.proofs.SetLaws.{rest_step, none_left}
use Rattle.partitioner.proofs.SpotLaws.{spots_lead, left_later, left_sorted}
use Rattle.partitioner.proofs.PlaceLaws.{kept_loses, later_leads}
use Rattle.partitioner.proofs.refinement.placing.consider_spots.Goals as goal

pub loop-q-init : goal.loop-q-init
loop-q-init c =
    let same : c.into_iter-q-iterator.result ≡ c.set-free.result.now.keys = c.into_iter-q-iterator.ensures.into_iter_gives ∙ c.iter-q-items.ensures.rest in
    record {
      lead = c.requires.lead;
      kept = λ q h. h;
      tried = λ q l h. inr (ap (list_any (λ k. is_eq (nat_cmp q k))) (same ∙ c.set-free.ensures) ∙ h);
      sorted = subst (λ (xs : List ℕ). IsStrictlySortedBy nat_cmp xs) (sym same) c.iter-q-items.ensures.ordered;
      hinted = c.requires.hints;
    }

pub loop-q-preserved : goal.loop-q-preserved
loop-q-preserved c =
    record {
      lead = c.loop-q.invariant.lead;
      kept = c.loop-q.invariant.kept;
      tried = λ q l h. at q l (c.loop-q.invariant.tried q l h);
      sorted = left_sorted c.in-Some.q.now c.loop-q.q-iterator c.next.new.self c.in-Some.ensures.steps c.loop-q.invariant.sorted;
      hinted = c.loop-q.invariant.hinted;
    }
  where
    step : (q : ℕ) → q < c.args.mover.now.parts.now.count → (q ≡ c.in-Some.q.now) ⊎ (list_any (λ k. is_eq (nat_cmp q k)) c.next.new.self ≡ true) → (LeadsOpen c.args.mover.now.net.now.net c.args.mover.now.size c.args.mover.now.parts.now c.args.mover.now.node c.loop-q.lead.place q) ⊎ (list_any (λ k. is_eq (nat_cmp q k)) c.next.new.self ≡ true)
    step q l (inl e) = absurd (omega (arith, l, e, c.if-q-p.false))
    step q l (inr h) = inr h

    at : (q : ℕ) → q < c.args.mover.now.parts.now.count → (LeadsOpen c.args.mover.now.net.now.net c.args.mover.now.size c.args.mover.now.parts.now c.args.mover.now.node c.loop-q.lead.place q) ⊎ (list_any (λ k. is_eq (nat_cmp q k)) c.loop-q.q-iterator ≡ true) → (LeadsOpen c.args.mover.now.net.now.net c.args.mover.now.size c.args.mover.now.parts.now c.args.mover.now.node c.loop-q.lead.place q) ⊎ (list_any (λ k. is_eq (nat_cmp q k)) c.next.new.self ≡ true)
    at q l (inl h) = inl h
    at q l (inr h) = step q l (rest_step q c.in-Some.q.now c.loop-q.q-iterator c.next.new.self c.in-Some.ensures.steps h)

pub loop-q-preserved-else-lead-tried : goal.loop-q-preserved-else-lead-tried
loop-q-preserved-else-lead-tried c =
    record {
      lead = c.consider_hinted-lead.ensures.lead;
      kept = λ q h. c.consider_hinted-lead.ensures.kept q (c.loop-q.invariant.kept q h);
      tried = λ q l h. at q (c.loop-q.invariant.tried q l h);
      sorted = left_sorted c.in-Some.q.now c.loop-q.q-iterator c.next.new.self c.in-Some.ensures.steps c.loop-q.invariant.sorted;
      hinted = c.hint_late.ensures;
    }
  where
    step : (q : ℕ) → (q ≡ c.in-Some.q.now) ⊎ (list_any (λ k. is_eq (nat_cmp q k)) c.next.new.self ≡ true) → (LeadsOpen c.args.mover.now.net.now.net c.args.mover.now.size c.args.mover.now.parts.now c.args.mover.now.node c.consider_hinted-lead.result.place q) ⊎ (list_any (λ k. is_eq (nat_cmp q k)) c.next.new.self ≡ true)
    step q (inl e) = inl (subst (λ (k : ℕ). LeadsOpen c.args.mover.now.net.now.net c.args.mover.now.size c.args.mover.now.parts.now c.args.mover.now.node c.consider_hinted-lead.result.place k) (sym e) c.consider_hinted-lead.ensures.tried)
    step q (inr h) = inr h

    at : (q : ℕ) → (LeadsOpen c.args.mover.now.net.now.net c.args.mover.now.size c.args.mover.now.parts.now c.args.mover.now.node c.loop-q.lead.place q) ⊎ (list_any (λ k. is_eq (nat_cmp q k)) c.loop-q.q-iterator ≡ true) → (LeadsOpen c.args.mover.now.net.now.net c.args.mover.now.size c.args.mover.now.parts.now c.args.mover.now.node c.consider_hinted-lead.result.place q) ⊎ (list_any (λ k. is_eq (nat_cmp q k)) c.next.new.self ≡ true)
    at q (inl h) = inl (λ room. c.consider_hinted-lead.ensures.kept q (h room))
    at q (inr h) = step q (rest_step q c.in-Some.q.now c.loop-q.q-iterator c.next.new.self c.in-Some.ensures.steps h)

pub returns-then-lead-q-clause-kept : goal.returns-then-lead-q-clause-kept
returns-then-lead-q-clause-kept c = λ q h. c.consider_hinted-lead.ensures.kept q (c.loop-q.invariant.kept q h)

pub returns-then-lead-q-clause-tried : goal.returns-then-lead-q-clause-tried
returns-then-lead-q-clause-tried c =
    spots_lead c.args.mover.now.net.now.net c.args.mover.now.size c.args.mover.now.parts.now c.args.mover.now.spots.now c.args.mover.now.node c.args.x c.consider_hinted-lead.result.place c.requires.counted.tracks c.requires.spots c.requires.read c.requires.wide
    (λ q l h. at q l (c.loop-q.invariant.tried q l h))
  where
    step : (q : ℕ) → q < c.args.mover.now.parts.now.count → (q ≡ c.in-Some.q.now) ⊎ (list_any (λ k. is_eq (nat_cmp q k)) c.next.new.self ≡ true) → LeadsOpen c.args.mover.now.net.now.net c.args.mover.now.size c.args.mover.now.parts.now c.args.mover.now.node c.consider_hinted-lead.result.place q
    step q l (inl e) = subst (λ (k : ℕ). LeadsOpen c.args.mover.now.net.now.net c.args.mover.now.size c.args.mover.now.parts.now c.args.mover.now.node c.consider_hinted-lead.result.place k) (sym e) c.consider_hinted-lead.ensures.tried
    step q l (inr h) = λ room.
        later_leads c.args.mover.now.net.now.net c.args.mover.now.size c.args.mover.now.parts.now c.args.mover.now.node c.args.tried c.in-Some.q.now q c.consider_hinted-lead.result c.consider_hinted-lead.ensures.lead c.if-lead-tried.true c.if-lead-q.true
        (left_later c.in-Some.q.now q c.loop-q.q-iterator c.next.new.self c.in-Some.ensures.steps c.loop-q.invariant.sorted h)
        (kept_loses c.args.mover.now.net.now.net c.args.mover.now.parts.now c.args.mover.now.node c.args.lead.place c.consider_hinted-lead.result.place c.args.tried q (λ k g. c.consider_hinted-lead.ensures.kept k (c.loop-q.invariant.kept k g)) (c.requires.least q l room))

    at : (q : ℕ) → q < c.args.mover.now.parts.now.count → (LeadsOpen c.args.mover.now.net.now.net c.args.mover.now.size c.args.mover.now.parts.now c.args.mover.now.node c.loop-q.lead.place q) ⊎ (list_any (λ k. is_eq (nat_cmp q k)) c.loop-q.q-iterator ≡ true) → LeadsOpen c.args.mover.now.net.now.net c.args.mover.now.size c.args.mover.now.parts.now c.args.mover.now.node c.consider_hinted-lead.result.place q
    at q l (inl h) = λ room. c.consider_hinted-lead.ensures.kept q (h room)
    at q l (inr h) = step q l (rest_step q c.in-Some.q.now c.loop-q.q-iterator c.next.new.self c.in-Some.ensures.steps h)

pub returns-clause-tried : goal.returns-clause-tried
returns-clause-tried c =
    spots_lead c.args.mover.now.net.now.net c.args.mover.now.size c.args.mover.now.parts.now c.args.mover.now.spots.now c.args.mover.now.node c.args.x c.loop-q.lead.place c.requires.counted.tracks c.requires.spots c.requires.read c.requires.wide
    (λ q l h. at q (c.loop-q.invariant.tried q l h))
  where
    at : (q : ℕ) → (LeadsOpen c.args.mover.now.net.now.net c.args.mover.now.size c.args.mover.now.parts.now c.args.mover.now.node c.loop-q.lead.place q) ⊎ (list_any (λ k. is_eq (nat_cmp q k)) c.loop-q.q-iterator ≡ true) → LeadsOpen c.args.mover.now.net.now.net c.args.mover.now.size c.args.mover.now.parts.now c.args.mover.now.node c.loop-q.lead.place q
    at q (inl h) = h
    at q (inr h) = absurd (none_left q c.loop-q.q-iterator c.in-None.ensures.steps.0 h)
