use Rattle.std.proofs.Common.{◌≡◌, ℕ, ◌<◌, ◌⊎◌, inl, inr, true, refl, sym, ap, subst, ◌∙◌, arith}
use Rattle.std.specs.List.{list_any}
use Rattle.std.specs.Ordering.{is_eq, nat_cmp}
use Rattle.partitioner.specs.Private.Sets.{has}
use Rattle.partitioner.proofs.SetLaws.{rest_step, none_left}
use Rattle.partitioner.proofs.counts.spots.open_spots.Goals as goal

pub loop-x-init : goal.loop-x-init
loop-x-init c =
    record {
      long = refl;
      kept = λ z r h. h;
      opened = λ z l h. inr (ap (list_any (λ k. is_eq (nat_cmp z k))) (c.into_iter-x-iterator.ensures.into_iter_gives ∙ (c.iter-x-items.ensures.rest ∙ c.set.ensures)) ∙ h);
    }

pub loop-x-preserved-in-Continue-1 : goal.loop-x-preserved-in-Continue-1
loop-x-preserved-in-Continue-1 c =
    record {
      long = c.in_ok-insert.ensures.long ∙ c.loop-x.invariant.long;
      kept = λ z r h. c.in_ok-insert.ensures.kept z r (c.loop-x.invariant.kept z r h);
      opened = λ z l h. at z (c.loop-x.invariant.opened z l h);
    }
  where
    step : (z : ℕ) → (z ≡ c.in-Some.x.now) ⊎ (list_any (λ k. is_eq (nat_cmp z k)) c.next.new.self ≡ true) → (has c.insert.new.self z c.args.q ≡ true) ⊎ (list_any (λ k. is_eq (nat_cmp z k)) c.next.new.self ≡ true)
    step z (inl e) = inl (subst (λ (k : ℕ). has c.insert.new.self k c.args.q ≡ true) (sym e) c.in_ok-insert.ensures.added)
    step z (inr h) = inr h

    at : (z : ℕ) → (has c.loop-x.free z c.args.q ≡ true) ⊎ (list_any (λ k. is_eq (nat_cmp z k)) c.loop-x.x-iterator ≡ true) → (has c.insert.new.self z c.args.q ≡ true) ⊎ (list_any (λ k. is_eq (nat_cmp z k)) c.next.new.self ≡ true)
    at z (inl h) = inl (c.in_ok-insert.ensures.kept z c.args.q h)
    at z (inr h) = step z (rest_step z c.in-Some.x.now c.loop-x.x-iterator c.next.new.self c.in-Some.ensures.steps h)

pub loop-x-preserved : goal.loop-x-preserved
loop-x-preserved c =
    record {
      long = c.loop-x.invariant.long;
      kept = c.loop-x.invariant.kept;
      opened = λ z l h. at z l (c.loop-x.invariant.opened z l h);
    }
  where
    step : (z : ℕ) → z < c.args.nodes → (z ≡ c.in-Some.x.now) ⊎ (list_any (λ k. is_eq (nat_cmp z k)) c.next.new.self ≡ true) → (has c.loop-x.free z c.args.q ≡ true) ⊎ (list_any (λ k. is_eq (nat_cmp z k)) c.next.new.self ≡ true)
    step z l (inl e) = absurd (omega (arith, l, e, c.if-x-nodes.false))
    step z l (inr h) = inr h

    at : (z : ℕ) → z < c.args.nodes → (has c.loop-x.free z c.args.q ≡ true) ⊎ (list_any (λ k. is_eq (nat_cmp z k)) c.loop-x.x-iterator ≡ true) → (has c.loop-x.free z c.args.q ≡ true) ⊎ (list_any (λ k. is_eq (nat_cmp z k)) c.next.new.self ≡ true)
    at z l (inl h) = inl h
    at z l (inr h) = step z l (rest_step z c.in-Some.x.now c.loop-x.x-iterator c.next.new.self c.in-Some.ensures.steps h)

pub returns-clause-opened : goal.returns-clause-opened
returns-clause-opened c = λ full z l h. at z (c.loop-x.invariant.opened z l h)
  where
    at : (z : ℕ) → (has c.loop-x.free z c.args.q ≡ true) ⊎ (list_any (λ k. is_eq (nat_cmp z k)) c.loop-x.x-iterator ≡ true) → has c.loop-x.free z c.args.q ≡ true
    at z (inl h) = h
    at z (inr h) = absurd (none_left z c.loop-x.x-iterator (c.in-None.ensures.steps.0) h)
