use Rattle.std.proofs.Common.{◌≡◌, ◌++◌, take}
use Rattle.std.specs.List.{flat_map}
use Rattle.triplicate.specs.Blocks.{voters_for}
use Rattle.hardened_pair.specs.Private.Made.{IsMade}
use Rattle.hardened_pair.proofs.tripling.push_voters.Given as goal

abbrev pub invariant-loop-p : goal.invariant-loop-p
invariant-loop-p l = record {
  made : IsMade l.layout l.made;
  roles : l.made.roles.items ≡ l.fn.made.roles.items ++ flat_map (voters_for l.voted.net.0) (take l.p-index l.row);
}
