use Rattle.std.proofs.Common.{◌≡◌, ℕ, ◌<◌, ◌∙◌, List, [], Bool, true, false, cond, length, get_or, refl, sym, ap, subst, arith}
use Rattle.std.specs.List.{list_any}
use Rattle.std.specs.Ordering.{is_eq, nat_cmp}
use Rattle.partitioner.specs.Private.Sets.{has, lists_of}
use Rattle.partitioner.proofs.PlacedLaws.{placed_long}
use Rattle.partitioner.proofs.SetLaws.{none_left, set_changed, set_pushed}
use Rattle.partitioner.proofs.counts.sets.Sets.insert.Goals as goal

in_either : (b o : Bool) → o ≡ true → cond b true o ≡ true
in_either true o e = refl
in_either false o e = e

pub returns-then-place-gt0-clause-kept : goal.returns-then-place-gt0-clause-kept
returns-then-place-gt0-clause-kept c = λ z r h.
    let place = c.place_of-place.ensures ∙ ap (λ (xs : List ℕ). get_or xs c.args.x 0) c.deref.ensures.value in
    set_changed (λ z was now. (r : ℕ) → list_any (λ k. is_eq (nat_cmp r k)) was ≡ true → list_any (λ k. is_eq (nat_cmp r k)) now ≡ true) c.self.inside.places.items c.self.inside.sets.items c.args.x c.place_of-place.result c.index_mut.result.now c.insert.new.self c.self.invariant place c.if-place-gt0.true c.index_mut.ensures.value
    (λ z row ne r h. h)
    (λ r e. c.in_ok-insert.ensures.updates.0 r ∙ in_either (is_eq (nat_cmp c.args.q r)) _ e) z r
    (subst (λ (v : List (List ℕ)). has v z r ≡ true) (sym c.self.view_is) h)

pub returns-then-place-gt0-clause-added : goal.returns-then-place-gt0-clause-added
returns-then-place-gt0-clause-added c =
    let place = c.place_of-place.ensures ∙ ap (λ (xs : List ℕ). get_or xs c.args.x 0) c.deref.ensures.value in
    set_changed (λ z was now. z ≡ c.args.x → list_any (λ k. is_eq (nat_cmp c.args.q k)) now ≡ true) c.self.inside.places.items c.self.inside.sets.items c.args.x c.place_of-place.result c.index_mut.result.now c.insert.new.self c.self.invariant place c.if-place-gt0.true c.index_mut.ensures.value
    (λ z row ne e. absurd (ne e))
    (λ e. c.in_ok-insert.ensures.updates.1) c.args.x refl

pub returns-clause-kept : goal.returns-clause-kept
returns-clause-kept c = λ z r h.
    let within : c.args.x < length c.self.inside.places.items = omega (arith, c.requires, ap length c.self.view_is, placed_long c.self.inside.places.items (lists_of c.self.inside.sets.items)) in
    let none : get_or c.self.inside.places.items c.args.x 0 ≡ 0 = omega (arith, c.place_of-place.ensures, ap (λ (xs : List ℕ). get_or xs c.args.x 0) c.deref.ensures.value, c.if-place-gt0.false) in
    set_pushed (λ z was now. (r : ℕ) → list_any (λ k. is_eq (nat_cmp r k)) was ≡ true → list_any (λ k. is_eq (nat_cmp r k)) now ≡ true) c.self.inside.places.items c.self.inside.sets.items c.push.new.self.items c.args.x c.in_ok-next.next c.in_ok-set.set c.self.invariant within none (omega (arith, c.in_ok-next.ensures, c.len.ensures)) c.in_ok-push.ensures.items
    (λ z row ne r h. h)
    (λ r e. absurd (none_left r [] refl e)) z r
    (subst (λ (v : List (List ℕ)). has v z r ≡ true) (sym c.self.view_is) h)

pub returns-clause-added : goal.returns-clause-added
returns-clause-added c =
    let within : c.args.x < length c.self.inside.places.items = omega (arith, c.requires, ap length c.self.view_is, placed_long c.self.inside.places.items (lists_of c.self.inside.sets.items)) in
    let none : get_or c.self.inside.places.items c.args.x 0 ≡ 0 = omega (arith, c.place_of-place.ensures, ap (λ (xs : List ℕ). get_or xs c.args.x 0) c.deref.ensures.value, c.if-place-gt0.false) in
    set_pushed (λ z was now. z ≡ c.args.x → list_any (λ k. is_eq (nat_cmp c.args.q k)) now ≡ true) c.self.inside.places.items c.self.inside.sets.items c.push.new.self.items c.args.x c.in_ok-next.next c.in_ok-set.set c.self.invariant within none (omega (arith, c.in_ok-next.ensures, c.len.ensures)) c.in_ok-push.ensures.items
    (λ z row ne e. absurd (ne e))
    (λ e. c.in_ok-set.ensures) c.args.x refl
