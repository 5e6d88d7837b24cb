use Rattle.feedback_cut.proofs.GroupLaws.{IsGrouped}
use Rattle.feedback_cut.proofs.numbering.number_vertices.Given as goal

abbrev pub invariant-roots : goal.invariant-roots
invariant-roots l = IsGrouped l.graph l.searched.order.items l.count l.numbers.items l.groups l.left

abbrev pub decreases-roots : goal.decreases-roots
decreases-roots l = l.left
