use Rattle.std.proofs.Common.{◌≡◌, ℕ, ◌∙◌, List, [], true, length, get_or, refl, sym, ap, subst, arith}
use Rattle.partitioner.specs.Private.Marks.{has_bit, is_marked}
use Rattle.partitioner.proofs.MarkLaws.{bit_past}
use Rattle.partitioner.proofs.PlacedLaws.{row_changed_at, row_none}
use Rattle.partitioner.proofs.counts.marks.Marks.mark.Goals as goal

pub returns-then-place-gt0-clause-rows : goal.returns-then-place-gt0-clause-rows
returns-then-place-gt0-clause-rows c = λ z.
    let place = c.place_of-place.ensures ∙ ap (λ (xs : List ℕ). get_or xs c.args.x 0) c.deref.ensures.value in
    row_changed_at (λ z was now. length now ≡ length was) c.self.inside.places.items c.self.inside.rows.items c.args.x c.place_of-place.result c.index_mut.result.now c.set.new.self c.self.invariant place c.if-place-gt0.true c.index_mut.ensures.value
    (λ z row ne. refl)
    c.set.ensures.long z
    ∙ ap (λ (v : List (List ℕ)). length (get_or v z [])) c.self.view_is

pub returns-then-place-gt0-clause-kept : goal.returns-then-place-gt0-clause-kept
returns-then-place-gt0-clause-kept c = λ z r h.
    let place = c.place_of-place.ensures ∙ ap (λ (xs : List ℕ). get_or xs c.args.x 0) c.deref.ensures.value in
    row_changed_at (λ z was now. (r : ℕ) → has_bit was r ≡ true → has_bit now r ≡ true) c.self.inside.places.items c.self.inside.rows.items c.args.x c.place_of-place.result c.index_mut.result.now c.set.new.self c.self.invariant place c.if-place-gt0.true c.index_mut.ensures.value
    (λ z row ne r h. h)
    (c.set.ensures.kept) z r
    (subst (λ (v : List (List ℕ)). is_marked v z r ≡ true) (sym c.self.view_is) h)

pub returns-else-place-gt0-clause-added : goal.returns-else-place-gt0-clause-added
returns-else-place-gt0-clause-added c =
    let none : get_or c.self.inside.places.items c.args.x 0 ≡ 0 = omega (arith, c.place_of-place.ensures, ap (λ (xs : List ℕ). get_or xs c.args.x 0) c.deref.ensures.value, c.if-place-gt0.false) in
    ap (λ (v : List (List ℕ)). is_marked v c.args.x c.args.q) (sym c.self.view_is)
    ∙ (ap (λ (row : List ℕ). has_bit row c.args.q) (row_none c.self.inside.places.items c.self.inside.rows.items c.args.x c.self.invariant none) ∙ bit_past [] c.args.q (omega arith))
