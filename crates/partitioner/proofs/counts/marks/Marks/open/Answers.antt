use Rattle.std.proofs.Common.{◌≡◌, ℕ, ◌<◌, ◌∙◌, List, [], length, get_or, refl, ap, arith}
use Rattle.partitioner.proofs.PlacedLaws.{placed_behind, placed_long, row_behind}
use Rattle.partitioner.proofs.counts.marks.Marks.open.Goals as goal

pub invariant_of-self-2 : goal.invariant_of-self-2
invariant_of-self-2 c =
    let within : c.args.x < length c.self.inside.places.items = omega (arith, c.requires, ap length c.self.view_is, placed_long c.self.inside.places.items c.self.inside.rows.items) in
    placed_behind c.self.inside.places.items c.self.inside.rows.items c.push.new.self.items c.args.x c.in_ok-next.next c.in_ok-row.row c.self.invariant within (omega (arith, c.in_ok-next.ensures, c.len.ensures)) c.in_ok-push.ensures.items

pub returns-clause-others : goal.returns-clause-others
returns-clause-others c = λ z apart.
    let within : c.args.x < length c.self.inside.places.items = omega (arith, c.requires, ap length c.self.view_is, placed_long c.self.inside.places.items c.self.inside.rows.items) in
    row_behind (λ z was now. (z ≡ c.args.x → ⊥) → now ≡ was) c.self.inside.places.items c.self.inside.rows.items c.push.new.self.items c.args.x c.in_ok-next.next c.in_ok-row.row c.self.invariant within (omega (arith, c.in_ok-next.ensures, c.len.ensures)) c.in_ok-push.ensures.items
    (λ z row ne apart. refl)
    (λ ne. absurd (ne refl)) z apart
    ∙ ap (λ (v : List (List ℕ)). get_or v z []) c.self.view_is
