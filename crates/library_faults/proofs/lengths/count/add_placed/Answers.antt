use Rattle.std.proofs.Common.{◌+◌, ◌*◌, ◌∙◌, List, ℕ, min, length, ap, subst}
use Rattle.library_faults.specs.Private.Counts.{IsGrown}
use Rattle.library_faults.proofs.PlacedCounts.{placed_added}
use Rattle.library_faults.proofs.lengths.count.add_placed.Goals as goal

pub returns-clause-adds : goal.returns-clause-adds
returns-clause-adds c = λ apart fixed uses count. placed_added c.args.placed.now fixed uses count c.args.bindings.now apart c.args.count.now c.bind_formals-moved.new.count c.add_places.new.count c.args.number _ _ c.saturating_sub-unbound.result c.saturating_sub-unbound_bytes.result c.saturating_add-nets.result c.saturating_mul-paths.result c.saturating_add-bytes.result
    c.bind_formals-moved.ensures.adds c.bind_formals-moved.ensures.moved c.bind_formals-moved.ensures.bytes c.saturating_sub-unbound.ensures c.saturating_sub-unbound_bytes.ensures c.saturating_add-nets.ensures
    (c.saturating_mul-paths.ensures ∙ ap (λ (bs : List ℕ). min (length bs * c.saturating_add-nets.result) 18446744073709551615) (c.as_bytes.ensures.value ∙ c.in_ok-text.ensures))
    (c.saturating_add-bytes.ensures ∙ ap (λ s. min (s + c.saturating_sub-unbound_bytes.result) 18446744073709551615) c.saturating_add.ensures)
    (subst (IsGrown c.bind_formals-moved.new.count c.add_places.new.count c.saturating_add-nets.result) c.saturating_add-2.ensures c.add_places.ensures)
