use Rattle.std.proofs.Common.{◌≡◌, ℕ, ◌∙◌, List, true, refl, sym, ap, subst, get_or}
use Rattle.std.proofs.lemmas.Bool.{ne_eqb}
use Rattle.std.specs.List.{list_any}
use Rattle.std.specs.Ordering.{is_eq, nat_cmp}
use Rattle.partitioner.specs.Private.Sets.{has}
use Rattle.partitioner.proofs.SetLaws.{same_number, set_changed}
use Rattle.partitioner.proofs.counts.sets.Sets.remove.Goals as goal

pub returns-then-place-gt0-clause-kept : goal.returns-then-place-gt0-clause-kept
returns-then-place-gt0-clause-kept c = λ z r apart h.
    let place = c.place_of-place.ensures ∙ ap (λ (xs : List ℕ). get_or xs c.args.x 0) c.deref.ensures.value in
    set_changed (λ z was now. (r : ℕ) → (c.args.q ≡ r → ⊥) → list_any (λ k. is_eq (nat_cmp r k)) was ≡ true → list_any (λ k. is_eq (nat_cmp r k)) now ≡ true) c.self.inside.places.items c.self.inside.sets.items c.args.x c.place_of-place.result c.index_mut.result.now c.remove-was.new.self c.self.invariant place c.if-place-gt0.true c.index_mut.ensures.value
    (λ z row ne r apart h. h)
    (λ r ne e. c.remove-was.ensures.updates.2 r (same_number c.args.q r ∙ ne_eqb c.args.q r ne) ∙ e) z r apart
    (subst (λ (v : List (List ℕ)). has v z r ≡ true) (sym c.self.view_is) h)

pub returns-then-place-gt0-clause-others : goal.returns-then-place-gt0-clause-others
returns-then-place-gt0-clause-others c = λ z r apart h.
    let place = c.place_of-place.ensures ∙ ap (λ (xs : List ℕ). get_or xs c.args.x 0) c.deref.ensures.value in
    set_changed (λ z was now. (z ≡ c.args.x → ⊥) → (r : ℕ) → list_any (λ k. is_eq (nat_cmp r k)) was ≡ true → list_any (λ k. is_eq (nat_cmp r k)) now ≡ true) c.self.inside.places.items c.self.inside.sets.items c.args.x c.place_of-place.result c.index_mut.result.now c.remove-was.new.self c.self.invariant place c.if-place-gt0.true c.index_mut.ensures.value
    (λ z row ne apart r h. h)
    (λ ne. absurd (ne refl)) z apart r
    (subst (λ (v : List (List ℕ)). has v z r ≡ true) (sym c.self.view_is) h)
