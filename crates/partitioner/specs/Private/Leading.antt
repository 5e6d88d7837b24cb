-- The best partition found so far for a node.
use Rattle.std.specs.Prelude.{◌≡◌, ℕ, ◌<◌, ◌≤◌, ◌==◌, Bool, true, false, not, nat_lt, ◌&&◌, ◌||◌, ◌⊎◌, All, slice_index}
use Rattle.flat_net.specs.Net.{Net}
use Rattle.tmr_base.specs.Parts.{PlainParts}
use Rattle.partitioner.specs.declared.counts.partitioning.Partitioning.{Partitioning}
use Rattle.partitioner.specs.declared.refinement.placing.Lead.{Lead}
use Rattle.node_reads.specs.Sources.{other_readers}
use Rattle.partitioner.specs.Private.Loss.{loss}
use Rattle.partitioner.specs.Refining.{has_room}
use Rattle.partitioner.specs.Private.Tracking.{held_parts}

-- a is as good as c: f is lower there, or it is the same and a is the start or no later
abbrev pub AsGood : (ℕ → ℕ) → ℕ → ℕ → ℕ → Type 0
AsGood f start a c = (f a < f c) ⊎ ((f a ≡ f c) × ((a ≡ start) ⊎ (a ≤ c)))

-- a is the start, or passes below the bound and f is lower there than at the start
abbrev pub IsReached : (ℕ → ℕ) → (ℕ → Bool) → ℕ → ℕ → ℕ → Type 0
IsReached f passes start bound a = (a ≡ start) ⊎ ((a < bound) × (passes a ≡ true) × (f a < f start))

-- where node i stands
abbrev pub start_of : Partitioning → ℕ → ℕ
start_of p i = slice_index p.of.items i

-- the partition that leads for node i has its loss beside it
pub record IsLead (n : Net) (size : ℕ) (p : Partitioning) (i : ℕ) (lead : Lead) : Type 0 where
  pub value : lead.loss ≡ loss n p.of.items i lead.place
  pub reached : IsReached (loss n p.of.items i) (has_room size (held_parts p)) (start_of p i) p.count lead.place

-- partition a is as good for node i as c
abbrev pub Leads : Net → Partitioning → ℕ → ℕ → ℕ → Type 0
Leads n p i a c = AsGood (loss n p.of.items i) (start_of p i) a c

-- as good as c where c has room
abbrev pub LeadsOpen : Net → ℕ → Partitioning → ℕ → ℕ → ℕ → Type 0
LeadsOpen n size p i a c = has_room size (held_parts p) c ≡ true → Leads n p i a c

-- as good as c, or c loses at least so many
abbrev pub LeadsOrLoses : Net → Partitioning → ℕ → ℕ → ℕ → ℕ → Type 0
LeadsOrLoses n p i a tried c = Leads n p i a c ⊎ (tried ≤ loss n p.of.items i c)

-- no partition has room
abbrev pub HasNoRoom : ℕ → PlainParts → Type 0
HasNoRoom size parts = (q : ℕ) → q < parts.count → has_room size parts q ≡ false

-- no node can move: no partition has room, or there is one partition at most
abbrev pub IsFixed : ℕ → PlainParts → Type 0
IsFixed size parts = HasNoRoom size parts ⊎ (parts.count ≤ 1)

-- as good as the partitions of all other readers of x
abbrev pub LeadsReaders : Net → ℕ → Partitioning → ℕ → ℕ → ℕ → Type 0
LeadsReaders n size p i a x = All (λ y. LeadsOpen n size p i a (start_of p y)) (other_readers n x)

-- a loss at q that takes the lead
abbrev pub is_better : Lead → ℕ → ℕ → ℕ → Bool
is_better lead start found q = nat_lt found lead.loss || ((found == lead.loss) && (not (lead.place == start) && nat_lt q lead.place))

-- a partition that was not met yet, and so loses at least `tried`, cannot take the lead
abbrev pub is_settled : Lead → ℕ → ℕ → Bool
is_settled lead start tried = nat_lt lead.loss tried || ((lead.loss == tried) && (lead.place == start))
