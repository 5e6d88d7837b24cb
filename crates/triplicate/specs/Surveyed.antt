-- What planning looks up of a design.
use Rattle.flat_net.specs.Net.{Net}
use Rattle.partitioner.specs.Reads.{AreReads}
use Rattle.triplicate.specs.declared.surveying.Survey.{Survey}

-- the nodes that read each node, and those that each node reads, are those of the design. What the lean form looks up beside them needs no
-- clause: its partitions may be any that keep the rule of sizes and are cheap enough
abbrev pub IsSurvey : Net → Survey → Type 0
IsSurvey n survey = AreReads n survey.reads
