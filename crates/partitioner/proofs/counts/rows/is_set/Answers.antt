use Rattle.partitioner.proofs.ScanLaws.{bit_tested}
use Rattle.partitioner.proofs.counts.rows.is_set.Goals as goal

pub returns : goal.returns
returns c = bit_tested c.args.word c.args.c
