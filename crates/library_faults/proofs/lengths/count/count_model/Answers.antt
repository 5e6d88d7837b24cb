use Rattle.std.proofs.Common.{map}
use Rattle.blif_text.specs.Kind.{is_among}
use Rattle.blif_text.specs.Views.{plain_element}
use Rattle.library_faults.specs.Private.Counts.{fixed_with, uses_with}
use Rattle.library_faults.specs.Private.Entries.{entry_named}
use Rattle.library_faults.proofs.ModelCounts.{rebased, too_large, too_many, counted}
use Rattle.library_faults.proofs.lengths.count.count_model.Goals as goal

pub returns-then-not-branch : goal.returns-then-not-branch
returns-then-not-branch c = λ fixed uses told. too_large c.args.limit c.in_ok-count.count c.add_elements.new.count (fixed_with fixed (map plain_element c.args.model.now.elements.items)) (uses_with (is_among c.args.formals.keys) uses 0 (map plain_element c.args.model.now.elements.items)) c.args.formals.keys c.requires c.in_ok-count.ensures c.in_ok-add_elements.field-0
    (rebased c.args.limit c.in_ok-add_elements.field-0 (entry_named c.args.names.now.keys c.args.positions.now c.args.counts.now) fixed uses c.in_ok-count.count c.add_elements.new.count c.deref.result.now c.args.model.now.elements.items c.args.formals.keys c.deref.ensures.value c.in_ok-count.ensures.keys c.in_ok-add_elements.ensures told) c.if-not-branch.true

pub returns-then-saturating_add-limit : goal.returns-then-saturating_add-limit
returns-then-saturating_add-limit c = λ fixed uses told. too_many c.args.limit c.in_ok-count.count c.add_elements.new.count (fixed_with fixed (map plain_element c.args.model.now.elements.items)) (uses_with (is_among c.args.formals.keys) uses 0 (map plain_element c.args.model.now.elements.items)) c.args.formals.keys c.requires c.in_ok-count.ensures c.in_ok-add_elements.field-0 c.saturating_add.result
    (rebased c.args.limit c.in_ok-add_elements.field-0 (entry_named c.args.names.now.keys c.args.positions.now c.args.counts.now) fixed uses c.in_ok-count.count c.add_elements.new.count c.deref.result.now c.args.model.now.elements.items c.args.formals.keys c.deref.ensures.value c.in_ok-count.ensures.keys c.in_ok-add_elements.ensures told) c.if-not-branch.false c.saturating_add.ensures c.if-saturating_add-limit.true

pub returns-then-count-lt18446744073709551615 : goal.returns-then-count-lt18446744073709551615
returns-then-count-lt18446744073709551615 c = λ fixed uses told. counted c.args.limit c.in_ok-count.count c.add_elements.new.count (fixed_with fixed (map plain_element c.args.model.now.elements.items)) (uses_with (is_among c.args.formals.keys) uses 0 (map plain_element c.args.model.now.elements.items)) c.args.formals.keys c.requires c.in_ok-count.ensures c.in_ok-add_elements.field-0 c.saturating_add.result
    (rebased c.args.limit c.in_ok-add_elements.field-0 (entry_named c.args.names.now.keys c.args.positions.now c.args.counts.now) fixed uses c.in_ok-count.count c.add_elements.new.count c.deref.result.now c.args.model.now.elements.items c.args.formals.keys c.deref.ensures.value c.in_ok-count.ensures.keys c.in_ok-add_elements.ensures told) c.if-not-branch.false c.saturating_add.ensures c.if-saturating_add-limit.false c.if-count-lt18446744073709551615.true
