-- Only private functions cite this: how many nets one copy of each partition has in the hardened design, net by net of the original.
use Rattle.std.specs.Prelude.{◌≡◌, ℕ, ◌<◌, List, length, count_by, slice_index}
use Rattle.std.specs.List.{flat_map, range_with_len}
use Rattle.tmr_base.specs.declared.copies.CopyNo.{CopyNo}
use Rattle.flat_net.specs.Net.{Net}
use Rattle.triplicate.specs.declared.planning.Plan.{Plan}
use Rattle.triplicate.specs.Blocks.{block}
use Rattle.triplicate.specs.Planned.{plan_votes, cert_in}
use Rattle.exposure.specs.Counts.{is_of, copy_count}

-- how many of what stands for the first count nets belong to partition p and copy c
abbrev pub count_so_far : Net → Plan → ℕ → CopyNo → ℕ → ℕ
count_so_far n plan p c count =
    count_by (is_of (cert_in n plan) p c) (flat_map (block n plan.parts (plan_votes n plan)) (range_with_len 0 count))

-- a number for each partition, that of each of its copies among what stands for the first nets
pub record AreSoFar (n : Net) (plan : Plan) (nets : ℕ) (counts : List ℕ) : Type 0 where
  pub long : length counts ≡ plan.parts.count
  pub each : (p : ℕ) (c : CopyNo) → p < plan.parts.count → slice_index counts p ≡ count_so_far n plan p c nets

-- a number for each partition, that of each of its copies
pub record AreCounts (n : Net) (plan : Plan) (counts : List ℕ) : Type 0 where
  pub long : length counts ≡ plan.parts.count
  pub each : (p : ℕ) (c : CopyNo) → p < plan.parts.count → slice_index counts p ≡ copy_count (cert_in n plan) p c
