use Rattle.std.proofs.Common.{◌≡◌, ℕ, ◌<◌, Bool, false, slice_index}
use Rattle.tmr_base.specs.Parts.{PlainParts}
use Rattle.flat_net.specs.Net.{Net}
use Rattle.partitioner.specs.declared.counts.partitioning.Partitioning.{Partitioning}
use Rattle.partitioner.specs.declared.counts.spots.Spots.{Spots}
use Rattle.partitioner.specs.declared.costs.hints.Tallies.{Tallies}
use Rattle.partitioner.specs.declared.refinement.resting.Rest.{Rest}
use Rattle.partitioner.specs.Refining.{moves, place}
use Rattle.partitioner.specs.Private.Tracking.{held_parts}
use Rattle.partitioner.specs.Private.Ready.{IsReady}
use Rattle.partitioner.specs.Private.Resting.{Rests}
use Rattle.partitioner.proofs.refinement.refining.pass_once.Given as goal

-- the first k nodes were moved
pub record Moved (n : Net) (size : ℕ) (before : PlainParts) (p : Partitioning) (spots : Spots) (tallies : Tallies) (rest : Rest) (k : ℕ) (moved : Bool) : Type 0 where
  pub ready : IsReady n size p spots tallies
  pub rests : Rests n p.of.items rest
  pub parts : held_parts p ≡ moves n size before k
  pub still : moved ≡ false → held_parts p ≡ before
  pub stays : moved ≡ false → (j : ℕ) → j < k → place n size before j ≡ slice_index before.of j

abbrev pub invariant-loop-i : goal.invariant-loop-i
invariant-loop-i l = Moved l.n.net l.size (held_parts l.initial.p) l.p l.spots l.tallies l.rest l.i l.moved
