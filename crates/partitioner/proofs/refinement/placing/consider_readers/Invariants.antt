use Rattle.std.proofs.Common.{ℕ, ◌<◌, List, get_or}
use Rattle.flat_net.specs.Net.{Net}
use Rattle.partitioner.specs.declared.counts.partitioning.Partitioning.{Partitioning}
use Rattle.partitioner.specs.declared.refinement.placing.Lead.{Lead}
use Rattle.partitioner.specs.Private.Leading.{IsLead, Leads, LeadsOpen, start_of}
use Rattle.partitioner.proofs.refinement.placing.consider_readers.Given as goal

-- a lead that is as good as before, and as the first j readers' partitions
pub record Tried (n : Net) (size : ℕ) (p : Partitioning) (i before : ℕ) (now : Lead) (row : List ℕ) (j : ℕ) : Type 0 where
  pub lead : IsLead n size p i now
  pub kept : (c : ℕ) → Leads n p i before c → Leads n p i now.place c
  pub tried : (k : ℕ) → k < j → LeadsOpen n size p i now.place (start_of p (get_or row k 0))

abbrev pub invariant-loop-y : goal.invariant-loop-y
invariant-loop-y l = Tried l.mover.net.now.net l.mover.size l.mover.parts.now l.mover.node l.initial.lead.place l.lead l.y-items l.y-index
