use Rattle.std.proofs.Common.{◌+◌, arith}
use Rattle.tmr_base.specs.declared.copies.CopyNo.TheVariants.{First}
use Rattle.hardened_pair.specs.Private.Layouts.{net_of, partitions, voted}
use Rattle.triplicate.proofs.Numbering.{voter_net_is}
use Rattle.triplicate.proofs.Places.{voter_few, start_more, start_few}
use Rattle.hardened_pair.proofs.pins.first_voter.Goals as goal

pub overflow_add-result : goal.overflow_add-result
overflow_add-result c =
    omega (arith, c.copies-copied.ensures, c.start_of.ensures, start_more (net_of c.args.layout.now) (partitions c.args.layout.now) (voted c.args.layout.now) c.args.x, start_few (net_of c.args.layout.now) (partitions c.args.layout.now) (voted c.args.layout.now) (c.args.x + 1) (omega (arith, c.requires.net)), c.requires.layout.room.nets)

pub overflow_mul-result : goal.overflow_mul-result
overflow_mul-result c =
    omega (arith, c.requires.place, voter_few (net_of c.args.layout.now) (partitions c.args.layout.now) (voted c.args.layout.now) c.args.x c.args.p c.requires.net c.requires.part c.requires.needed, voter_net_is (net_of c.args.layout.now) (partitions c.args.layout.now) (voted c.args.layout.now) c.args.x c.args.p First, c.requires.layout.room.nets)

pub overflow_add-result-2 : goal.overflow_add-result-2
overflow_add-result-2 c =
    omega (arith, c.requires.place, c.copies-copied.ensures, c.start_of.ensures, voter_few (net_of c.args.layout.now) (partitions c.args.layout.now) (voted c.args.layout.now) c.args.x c.args.p c.requires.net c.requires.part c.requires.needed, voter_net_is (net_of c.args.layout.now) (partitions c.args.layout.now) (voted c.args.layout.now) c.args.x c.args.p First, c.requires.layout.room.nets)

pub returns : goal.returns
returns c =
    omega (arith, c.requires.place, c.copies-copied.ensures, c.start_of.ensures, voter_net_is (net_of c.args.layout.now) (partitions c.args.layout.now) (voted c.args.layout.now) c.args.x c.args.p First)
