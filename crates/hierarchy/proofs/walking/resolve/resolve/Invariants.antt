use Rattle.std.proofs.Common.{◌≡◌, ◌≤◌, map, length, take}
use Rattle.std.specs.Prelude.{reverse}
use Rattle.library_faults.specs.Flat.{resolve}
use Rattle.hierarchy.specs.Private.Walk.{level_of, library_of, net_at}
use Rattle.hierarchy.proofs.walking.resolve.resolve.Given as goal

abbrev pub invariant-loop-depth : goal.invariant-loop-depth
invariant-loop-depth l = record {
  within : l.depth ≤ length l.place.walk.now.frames.items;
  same : resolve (map (level_of (library_of l.place.ready) l.place.walk.now.path.items) (reverse (take l.depth l.place.walk.now.frames.items))) l.found ≡ net_at l.place l.name;
}

abbrev pub decreases-loop-depth : goal.decreases-loop-depth
decreases-loop-depth l = l.depth
