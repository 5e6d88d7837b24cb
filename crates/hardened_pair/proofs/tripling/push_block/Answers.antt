use Rattle.std.proofs.Common.{arith}
use Rattle.hardened_pair.specs.Private.Layouts.{net_of, partitions, voted}
use Rattle.triplicate.proofs.Places.{copy_few}
use Rattle.hardened_pair.proofs.tripling.push_block.Goals as goal

pub push_voters-requires-clause-voted : goal.push_voters-requires-clause-voted
push_voters-requires-clause-voted c = record {
  range = c.requires.range;
  copy = c.first_copy-copy.ensures;
  few = omega (arith, c.first_copy-copy.ensures, c.requires.layout.room.nets, copy_few (net_of c.args.layout.now) (partitions c.args.layout.now) (voted c.args.layout.now) c.args.x c.requires.range);
  cover = c.requires.cover;
}
