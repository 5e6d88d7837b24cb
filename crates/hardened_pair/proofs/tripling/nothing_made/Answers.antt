use Rattle.std.proofs.Common.{map}
use Rattle.triplicate.specs.Blocks.{hardened_inputs, hardened_roles, role_name}
use Rattle.hardened_pair.specs.Private.Layouts.{net_of, partitions, voted}
use Rattle.hardened_pair.proofs.RoleSteps.{distinct_front}
use Rattle.hardened_pair.proofs.tripling.nothing_made.Goals as goal

pub input_names-requires : goal.input_names-requires
input_names-requires c = distinct_front (hardened_inputs (net_of c.args.layout.now)) (map (role_name (net_of c.args.layout.now)) (hardened_roles (net_of c.args.layout.now) (partitions c.args.layout.now) (voted c.args.layout.now))) c.requires.room.names
