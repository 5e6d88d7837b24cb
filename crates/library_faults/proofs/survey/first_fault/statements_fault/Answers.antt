use Rattle.std.proofs.Common.{map, sym, subst}
use Rattle.blif_text.specs.Views.{plain_model}
use Rattle.library_faults.specs.Private.Rows.{AreWithin}
use Rattle.library_faults.proofs.GraphLaws.{graph_within}
use Rattle.library_faults.proofs.survey.first_fault.statements_fault.Goals as goal

pub reached_models-requires-clause-within : goal.reached_models-requires-clause-within
reached_models-requires-clause-within c = subst AreWithin (sym c.requires.graph) (graph_within (map plain_model c.args.models.now))
