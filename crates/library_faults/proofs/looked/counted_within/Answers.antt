use Rattle.std.proofs.Common.{map}
use Rattle.blif_text.specs.Views.{plain_model}
use Rattle.library_faults.proofs.AllCounts.{counts_exact}
use Rattle.library_faults.proofs.looked.counted_within.Goals as goal

pub returns-clause-counts : goal.returns-clause-counts
returns-clause-counts c = counts_exact (map plain_model c.args.models.now) c.args.limit c.args.order.now c.in_ok-counts.counts.items c.in_ok-counts.ensures.counted
