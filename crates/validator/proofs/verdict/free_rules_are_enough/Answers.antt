use Rattle.validator.proofs.Laws.{free_masks}
use Rattle.validator.proofs.verdict.free_rules_are_enough.Goals as goal

pub returns-clause-free : goal.returns-clause-free
returns-clause-free c = free_masks
