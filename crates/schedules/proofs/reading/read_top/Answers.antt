use Rattle.std.proofs.Common.{◌≡◌, ◌∙◌, Some, Result, length, sym, subst, true}
use Rattle.std.specs.Prelude.{IfOk, IfErr}
use Rattle.toml.specs.View.{items_view, table_view}
use Rattle.schedules.specs.declared.fault.ScheduleFault.{ScheduleFault}
use Rattle.schedules.specs.Document.{Listed, inputs_of, only_keys, is_file_key}
use Rattle.schedules.specs.Gives.{Fails}
use Rattle.schedules.specs.Reading.{IsReadAs}
use Rattle.schedules.proofs.Places.{top_listed}
use Rattle.schedules.proofs.reading.read_top.Goals as goal

pub returns-in-Some-Some-clause-ok : goal.returns-in-Some-Some-clause-ok
returns-in-Some-Some-clause-ok c =
    let keys : only_keys (is_file_key c.args.designs.now.version) (table_view c.args.top.now) ≡ true = sym c.has_file_keys.ensures ∙ c.if-not-has_file_keys.false in
    let rows : inputs_of (table_view c.args.top.now) ≡ Some (items_view c.deref.result.now) = rw c.deref.ensures.value (sym c.in-Some-Some.ensures) in
    let same = top_listed c.args.designs.now.version c.args.designs.now.starts c.args.designs.now.original.now.net c.args.designs.now.hardened.now.net (table_view c.args.top.now) c.deref.result.now c.in-Some-Some.entries.now keys rows (sym c.in-Some-Some.ensures') in
    subst (λ (r : Result Listed ScheduleFault). IfOk c.read_arrays.result (λ s. IsReadAs (length c.args.designs.now.original.now.net.inputs) r s)) (sym same) c.read_arrays.ensures.ok

pub returns-in-Some-Some-clause-err : goal.returns-in-Some-Some-clause-err
returns-in-Some-Some-clause-err c =
    let keys : only_keys (is_file_key c.args.designs.now.version) (table_view c.args.top.now) ≡ true = sym c.has_file_keys.ensures ∙ c.if-not-has_file_keys.false in
    let rows : inputs_of (table_view c.args.top.now) ≡ Some (items_view c.deref.result.now) = rw c.deref.ensures.value (sym c.in-Some-Some.ensures) in
    let same = top_listed c.args.designs.now.version c.args.designs.now.starts c.args.designs.now.original.now.net c.args.designs.now.hardened.now.net (table_view c.args.top.now) c.deref.result.now c.in-Some-Some.entries.now keys rows (sym c.in-Some-Some.ensures') in
    subst (λ (r : Result Listed ScheduleFault). IfErr c.read_arrays.result (λ f. Fails f r)) (sym same) c.read_arrays.ensures.err
