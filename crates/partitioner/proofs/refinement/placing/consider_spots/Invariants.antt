use Rattle.std.proofs.Common.{◌≡◌, ℕ, ◌<◌, ◌⊎◌, true, List}
use Rattle.std.specs.List.{list_any}
use Rattle.std.specs.List.Sorted.{IsStrictlySortedBy}
use Rattle.std.specs.Ordering.{is_eq, nat_cmp}
use Rattle.flat_net.specs.Net.{Net}
use Rattle.partitioner.specs.declared.counts.partitioning.Partitioning.{Partitioning}
use Rattle.partitioner.specs.declared.costs.gains.Gains.{Gains}
use Rattle.partitioner.specs.declared.refinement.placing.Lead.{Lead}
use Rattle.partitioner.specs.Private.Hinting.{AreHints}
use Rattle.partitioner.specs.Private.Sets.{has}
use Rattle.partitioner.specs.Private.Leading.{IsLead, Leads, LeadsOpen}
use Rattle.partitioner.proofs.refinement.placing.consider_spots.Given as goal

-- a lead that is as good as before, and as the partitions of the set that are not left, and hints that are right
pub record Walked (n : Net) (size : ℕ) (p : Partitioning) (i before : ℕ) (now : Lead) (free : List (List ℕ)) (x : ℕ) (left : List ℕ) (gains hints : Gains) : Type 0 where
  pub lead : IsLead n size p i now
  pub kept : (c : ℕ) → Leads n p i before c → Leads n p i now.place c
  pub tried : (c : ℕ) → c < p.count → has free x c ≡ true → (LeadsOpen n size p i now.place c) ⊎ (list_any (λ k. is_eq (nat_cmp c k)) left ≡ true)
  pub sorted : IsStrictlySortedBy nat_cmp left
  pub hinted : AreHints n size p i gains hints

abbrev pub invariant-loop-q : goal.invariant-loop-q
invariant-loop-q l = Walked l.mover.net.now.net l.mover.size l.mover.parts.now l.mover.node l.initial.lead.place l.lead l.mover.spots.now.free l.x l.q-iterator l.mover.gains.now l.hints
