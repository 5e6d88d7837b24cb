use Rattle.std.proofs.Common.{heap_len}
use Rattle.clustering.proofs.filling.waiting_group.Given as goal

abbrev pub decreases-waiting : goal.decreases-waiting
decreases-waiting l = heap_len l.f.waiting
