-- Counting all partitions, 64 at once.
use Rattle.std.specs.Prelude.{◌≡◌, ℕ, ◌<◌, ◌≤◌, ◌+◌, ◌-◌, ◌*◌, ◌⊎◌, false, [], take, slice_index_or, count_by}
use Rattle.flat_net.specs.Net.{Net}
use Rattle.partitioner.specs.declared.counts.partitioning.Partitioning.{Partitioning}
use Rattle.partitioner.specs.declared.costs.gains.Gains.{Gains}
use Rattle.table_cover.specs.Words.{word_bit}
use Rattle.partitioner.specs.declared.counts.rows.Level.{Level}
use Rattle.partitioner.specs.declared.costs.lanes.Lanes.{Lanes}
use Rattle.partitioner.specs.declared.refinement.placing.Lead.{Lead}
use Rattle.partitioner.specs.Below.{one_if}
use Rattle.partitioner.specs.Private.Gaining.{is_near, near_in}
use Rattle.partitioner.specs.Private.Lanes.{Reaches}
use Rattle.partitioner.specs.Private.Leading.{Leads, LeadsOpen}
use Rattle.partitioner.specs.Private.Loss.{is_wanted}
use Rattle.partitioner.specs.Private.Marks.{lane_of}

-- how many are near in partition q of the first j nodes that node i reads, and one more where another node reads node i
abbrev pub near_first : Net → Partitioning → ℕ → ℕ → ℕ → ℕ
near_first n p i q j = one_if (is_wanted n p.of.items i q) + count_by (is_near n p.of.items i q) (take j (slice_index_or p.sources i []))

-- the lanes reach `bias` and how many of the first j are near beyond what the gains count, in each partition of a lane of word w
abbrev pub AreCounted : Net → Partitioning → ℕ → Gains → Level → ℕ → ℕ → Lanes → ℕ → Type 0
AreCounted n p i gains level w bias lanes j =
    (c q : ℕ) → c < 64 → q < p.count → lane_of level q ≡ w * 64 + c → Reaches lanes c (bias + (near_first n p i q j - near_in gains q))

-- partition a is as good for node i as those of the 64 lanes from `first` on whose bits are not set
abbrev pub AreShut : Net → Partitioning → ℕ → Level → ℕ → ℕ → ℕ → Type 0
AreShut n p i level first chosen a =
    (c q : ℕ) → c < 64 → q < p.count → lane_of level q ≡ first + c → word_bit c chosen ≡ false → Leads n p i a q

-- partition a is as good for node i as those of so many lanes from `first` on that have room
abbrev pub AreTried : Net → ℕ → Partitioning → ℕ → Level → ℕ → ℕ → ℕ → Type 0
AreTried n size p i level first lanes a =
    (c q : ℕ) → c < lanes → q < p.count → lane_of level q ≡ first + c → LeadsOpen n size p i a q

-- a partition from `first` on in which fewer are near than needed does not take the lead, where at most `most` more are near than these and
-- the node reads `all`
abbrev pub IsNeeded : ℕ → ℕ → ℕ → ℕ → Lead → ℕ → Type 0
IsNeeded all start first most lead need =
    0 < need → (need + (lead.loss + most) ≤ all + 1) ⊎ ((need + (lead.loss + most) ≤ all + 2) × ((lead.place ≡ start) ⊎ (lead.place ≤ first)))
