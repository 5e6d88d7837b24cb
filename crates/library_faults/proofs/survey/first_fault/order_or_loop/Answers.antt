use Rattle.std.proofs.Common.{rules, map, sym, subst, ◌<◌, length}
use Rattle.std.specs.Prelude.{All}
use Rattle.blif_text.specs.Views.{plain_model}
use Rattle.library_faults.specs.Private.Rows.{AreWithin}
use Rattle.library_faults.specs.Library.{IsLoop}
use Rattle.library_faults.proofs.GraphLaws.{graph_within}
use Rattle.library_faults.proofs.Loops.{loop_at}
use Rattle.library_faults.proofs.survey.first_fault.order_or_loop.Goals as goal

pub order_models-requires-clause-within : goal.order_models-requires-clause-within
order_models-requires-clause-within c = subst AreWithin (sym c.requires.graph) (graph_within (map plain_model c.args.models.now))

pub names_at-requires : goal.names_at-requires
names_at-requires c =
    let loop : IsLoop c.args.graph.now c.in-Loop.found.items = search rules in
    subst (λ found. All (λ x. x < length c.args.names.now.keys) found) (sym c.deref.ensures.value)
    (loop_at (map plain_model c.args.models.now) c.args.graph.now c.args.names.now.keys c.in-Loop.found.items c.requires.library c.requires.names c.requires.graph loop)
