use Rattle.std.proofs.Common.{◌≡◌, ℕ, ◌∙◌, List, [], true, length, get_or, refl, sym, ap, subst}
use Rattle.partitioner.specs.Private.Marks.{has_bit, is_marked}
use Rattle.partitioner.proofs.PlacedLaws.{row_changed_at}
use Rattle.partitioner.proofs.counts.marks.Marks.unmark.Goals as goal

pub returns-then-place-gt0-clause-rows : goal.returns-then-place-gt0-clause-rows
returns-then-place-gt0-clause-rows c = λ z.
    let place = c.place_of-place.ensures ∙ ap (λ (xs : List ℕ). get_or xs c.args.x 0) c.deref.ensures.value in
    row_changed_at (λ z was now. length now ≡ length was) c.self.inside.places.items c.self.inside.rows.items c.args.x c.place_of-place.result c.index_mut.result.now c.clear.new.self c.self.invariant place c.if-place-gt0.true c.index_mut.ensures.value
    (λ z row ne. refl)
    c.clear.ensures.long z
    ∙ ap (λ (v : List (List ℕ)). length (get_or v z [])) c.self.view_is

pub returns-then-place-gt0-clause-kept : goal.returns-then-place-gt0-clause-kept
returns-then-place-gt0-clause-kept c = λ z r apart h.
    let place = c.place_of-place.ensures ∙ ap (λ (xs : List ℕ). get_or xs c.args.x 0) c.deref.ensures.value in
    row_changed_at (λ z was now. (r : ℕ) → (c.args.q ≡ r → ⊥) → has_bit was r ≡ true → has_bit now r ≡ true) c.self.inside.places.items c.self.inside.rows.items c.args.x c.place_of-place.result c.index_mut.result.now c.clear.new.self c.self.invariant place c.if-place-gt0.true c.index_mut.ensures.value
    (λ z row ne r apart h. h)
    (c.clear.ensures.kept) z r apart
    (subst (λ (v : List (List ℕ)). is_marked v z r ≡ true) (sym c.self.view_is) h)

pub returns-then-place-gt0-clause-others : goal.returns-then-place-gt0-clause-others
returns-then-place-gt0-clause-others c = λ z r apart h.
    let place = c.place_of-place.ensures ∙ ap (λ (xs : List ℕ). get_or xs c.args.x 0) c.deref.ensures.value in
    row_changed_at (λ z was now. (z ≡ c.args.x → ⊥) → (r : ℕ) → has_bit was r ≡ true → has_bit now r ≡ true) c.self.inside.places.items c.self.inside.rows.items c.args.x c.place_of-place.result c.index_mut.result.now c.clear.new.self c.self.invariant place c.if-place-gt0.true c.index_mut.ensures.value
    (λ z row ne apart r h. h)
    (λ ne. absurd (ne refl)) z apart r
    (subst (λ (v : List (List ℕ)). is_marked v z r ≡ true) (sym c.self.view_is) h)
