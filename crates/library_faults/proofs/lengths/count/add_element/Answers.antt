use Rattle.std.proofs.Common.{◌<◌, ◌+◌, ◌∙◌, ℕ, Option, List, [], ◌∷◌, ◌++◌, map, sym, ap, subst}
use Rattle.std.specs.Prelude.{option_copied}
use Rattle.std.specs.List.{sum_by}
use Rattle.tmr_base.specs.declared.ids.Edge.{Edge}
use Rattle.blif_text.specs.declared.library.Element.{Element}
use Rattle.blif_text.specs.Kind.{is_among}
use Rattle.blif_text.specs.Models.{Instance}
use Rattle.blif_text.specs.Views.{plain_element}
use Rattle.library_faults.specs.FlatText.{rows_length}
use Rattle.library_faults.specs.Private.Counts.{use_of, placed_use, control_names, control_fixed, least, Adds, sum_of, fixed_with, uses_with, IsTold, IsOutcome, IsCount, AreApart}
use Rattle.library_faults.specs.Private.Entries.{entry_named}
use Rattle.library_faults.proofs.ElementCounts.{table_added, latch_added, instance_added, large_instance}
use Rattle.library_faults.proofs.lengths.count.add_element.Goals as goal

pub returns-in-Table-clause-adds : goal.returns-in-Table-clause-adds
returns-in-Table-clause-adds c = λ limit fixed uses told. subst (λ (e : Element). Adds c.args.count.now c.add_table.new.count (fixed_with fixed (plain_element e ∷ [])) (sum_of (uses_with (is_among c.args.count.now.formals.keys) uses c.args.number (plain_element e ∷ [])))) (sym c.in-Table.is)
    (table_added (is_among c.args.count.now.formals.keys) c.args.count.now c.add_table.new.count c.in-Table.pins.items c.in-Table.out c.in-Table.cover fixed uses c.args.number
    (subst (λ (pins : List (List ℕ)). Adds c.args.count.now c.add_table.new.count (7 + rows_length c.in-Table.cover) (sum_of (map (use_of (is_among c.args.count.now.formals.keys)) (pins ++ c.in-Table.out ∷ [])))) c.deref.ensures.value c.add_table.ensures))

pub returns-in-Latch-clause-adds : goal.returns-in-Latch-clause-adds
returns-in-Latch-clause-adds c = λ limit fixed uses told. subst (λ (e : Element). Adds c.args.count.now c.add_latch.new.count (fixed_with fixed (plain_element e ∷ [])) (sum_of (uses_with (is_among c.args.count.now.formals.keys) uses c.args.number (plain_element e ∷ [])))) (sym c.in-Latch.is)
    (latch_added (is_among c.args.count.now.formals.keys) c.args.count.now c.add_latch.new.count c.in-Latch.pin c.in-Latch.out c.in-Latch.control.value c.in-Latch.init fixed uses c.args.number
    (subst (λ (control : Option (Edge × List ℕ)). Adds c.args.count.now c.add_latch.new.count (9 + control_fixed control) (sum_of (map (use_of (is_among c.args.count.now.formals.keys)) (c.in-Latch.pin ∷ c.in-Latch.out ∷ control_names control)))) c.deref-in-Latch.ensures c.add_latch.ensures))

pub returns-in_ok-add_placed-in-Some-clause-adds : goal.returns-in_ok-add_placed-in-Some-clause-adds
returns-in_ok-add_placed-in-Some-clause-adds c = λ limit fixed uses told.
    let here : IsTold limit (entry_named c.args.names.now.keys c.args.positions.now c.args.counts.now) fixed uses (Instance c.in-Instance.model c.in-Instance.bindings.items) = subst (λ (e : Element). IsTold limit (entry_named c.args.names.now.keys c.args.positions.now c.args.counts.now) fixed uses (plain_element e)) c.in-Instance.is told in
    let count : IsCount c.in-Some.placed.now (fixed c.in-Instance.model) (uses c.in-Instance.model) = subst (λ o. IsOutcome limit o (fixed c.in-Instance.model) (uses c.in-Instance.model)) (sym c.entry_of.ensures ∙ ap option_copied c.in-Some.is) here.0 in
    let added : Adds c.args.count.now c.add_placed.new.count (fixed c.in-Instance.model) (sum_of (map (placed_use (is_among c.args.count.now.formals.keys) c.args.number c.deref-in-Some.result.now) (uses c.in-Instance.model))) = c.in_ok-add_placed-in-Some.ensures.adds (subst AreApart (sym c.deref-in-Some.ensures.value) here.1) (fixed c.in-Instance.model) (uses c.in-Instance.model) count in
    let same : Adds c.args.count.now c.add_placed.new.count (fixed c.in-Instance.model) (sum_of (map (placed_use (is_among c.args.count.now.formals.keys) c.args.number c.in-Instance.bindings.items) (uses c.in-Instance.model))) = subst (λ (bs : List (List ℕ × List ℕ)). Adds c.args.count.now c.add_placed.new.count (fixed c.in-Instance.model) (sum_of (map (placed_use (is_among c.args.count.now.formals.keys) c.args.number bs) (uses c.in-Instance.model)))) c.deref-in-Some.ensures.value added in
    subst (λ (e : Element). Adds c.args.count.now c.add_placed.new.count (fixed_with fixed (plain_element e ∷ [])) (sum_of (uses_with (is_among c.args.count.now.formals.keys) uses c.args.number (plain_element e ∷ [])))) (sym c.in-Instance.is)
    (instance_added (is_among c.args.count.now.formals.keys) c.args.count.now c.add_placed.new.count c.in-Instance.model c.in-Instance.bindings.items fixed uses c.args.number same)

pub returns-in-None-clause-adds : goal.returns-in-None-clause-adds
returns-in-None-clause-adds c = λ limit fixed uses told.
    let here : IsTold limit (entry_named c.args.names.now.keys c.args.positions.now c.args.counts.now) fixed uses (Instance c.in-Instance.model c.in-Instance.bindings.items) = subst (λ (e : Element). IsTold limit (entry_named c.args.names.now.keys c.args.positions.now c.args.counts.now) fixed uses (plain_element e)) c.in-Instance.is told in
    let large : limit < fixed c.in-Instance.model + sum_by least (uses c.in-Instance.model) = subst (λ o. IsOutcome limit o (fixed c.in-Instance.model) (uses c.in-Instance.model)) (sym c.entry_of.ensures ∙ ap option_copied c.in-None.is) here.0 in
    subst (λ (e : Element). limit < fixed_with fixed (plain_element e ∷ []) + sum_by least (uses_with (is_among c.args.count.now.formals.keys) uses c.args.number (plain_element e ∷ []))) (sym c.in-Instance.is)
    (large_instance (is_among c.args.count.now.formals.keys) limit c.in-Instance.model c.in-Instance.bindings.items fixed uses c.args.number large)
