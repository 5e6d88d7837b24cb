use Rattle.std.proofs.Common.{arith, ◌∙◌}
use Rattle.hardened_pair.specs.Private.Layouts.{net_of, partitions, voted}
use Rattle.triplicate.specs.Blocks.{block}
use Rattle.hardened_pair.proofs.RoleSteps.{next_block, next_nothing, next_end, block_more, all_blocks}
use Rattle.hardened_pair.proofs.tripling.make_tripled.Goals as goal

pub push_block-requires-clause-next : goal.push_block-requires-clause-next
push_block-requires-clause-next c = next_block c.args.layout.now c.loop-x.made.roles.items c.loop-x.x c.loop-x.invariant.roles (omega (arith, c.loop-x-test.true, c.input_count.ensures.count, c.nodes_of.ensures.count))

pub put_if_many-requires-clause-next : goal.put_if_many-requires-clause-next
put_if_many-requires-clause-next c =
    let next = next_block c.args.layout.now c.loop-x.made.roles.items c.loop-x.x c.loop-x.invariant.roles (omega (arith, c.loop-x-test.true, c.input_count.ensures.count, c.nodes_of.ensures.count)) in
    next_nothing c.args.layout.now c.loop-x.made.roles.items c.push_block.new.made.roles.items (block (net_of c.args.layout.now) (partitions c.args.layout.now) (voted c.args.layout.now) c.loop-x.x) next c.in_ok-push_block.ensures.roles

pub loop-x-preserved : goal.loop-x-preserved
loop-x-preserved c = record {
  made = c.in_ok-put_if_many.ensures.made;
  roles = block_more (net_of c.args.layout.now) (partitions c.args.layout.now) (voted c.args.layout.now) c.loop-x.made.roles.items c.put_if_many.new.made.roles.items c.loop-x.x c.loop-x.invariant.roles (c.in_ok-put_if_many.ensures.roles ∙ c.in_ok-push_block.ensures.roles);
}

pub put_waiting-requires-clause-next : goal.put_waiting-requires-clause-next
put_waiting-requires-clause-next c = next_end c.args.layout.now c.loop-x.made.roles.items (all_blocks (net_of c.args.layout.now) (partitions c.args.layout.now) (voted c.args.layout.now) c.loop-x.made.roles.items c.loop-x.x c.loop-x.invariant.roles (omega (arith, c.loop-x-test.false, c.input_count.ensures.count, c.nodes_of.ensures.count)))

pub returns-clause-roles : goal.returns-clause-roles
returns-clause-roles c = c.in_ok-put_waiting.ensures.roles ∙ all_blocks (net_of c.args.layout.now) (partitions c.args.layout.now) (voted c.args.layout.now) c.loop-x.made.roles.items c.loop-x.x c.loop-x.invariant.roles (omega (arith, c.loop-x-test.false, c.input_count.ensures.count, c.nodes_of.ensures.count))
