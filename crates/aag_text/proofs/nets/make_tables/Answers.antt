use Rattle.std.proofs.Common.{arith, refl, ◌∙◌}
use Rattle.hierarchy.specs.Sizes.{row_total}
use Rattle.aag_text.proofs.Stacks.{grows_none}
use Rattle.aag_text.proofs.Making.{right_goes, only_goes, right_starts}
use Rattle.aag_text.proofs.Rows.{all_rows, rows_more, all_gates, gates_more, gates_end}
use Rattle.flat_net.proofs.Orders.{length-order}
use Rattle.aag_text.proofs.nets.make_tables.Goals as goal

pub loop-i-init : goal.loop-i-init
loop-i-init c = record {
  right = right_starts c.args.n.now.net c.args.n.now.order c.args.literals.now c.args.gates.now;
  others = λ x no_table. refl;
  below = c.requires.below;
  long = refl;
  zero = c.requires.zero;
  room = let rows = all_rows c.args.n.now.net c.args.n.now.order c.input_count.ensures.design.order in omega (arith, rows);
  count = let gates = all_gates c.args.n.now.net c.args.n.now.order c.input_count.ensures.design.order in omega (arith, gates);
  grows = grows_none (row_total c.args.n.now.net) c.args.gates.now;
}

pub make_node-requires-clause-room : goal.make_node-requires-clause-room
make_node-requires-clause-room c =
    let rows = rows_more c.args.n.now.net c.args.n.now.order c.loop-i.i c.ordered-x.result.0 c.ordered-x.ensures.ordered in
    omega (arith, rows, c.loop-i.invariant.room, c.requires.room)

pub loop-i-preserved : goal.loop-i-preserved
loop-i-preserved c =
    let so_far = c.loop-i.invariant.grows in
    let grows = c.in_ok-make_node.ensures.grows in
    let rows = rows_more c.args.n.now.net c.args.n.now.order c.loop-i.i c.ordered-x.result.0 c.ordered-x.ensures.ordered in
    record {
      right = right_goes c.args.n.now.net c.args.n.now.order c.input_count.ensures.design.order c.input_count.ensures.design.valid c.loop-i.i c.ordered-x.result.0 c.args.literals.now c.loop-i.literals c.make_node.new.literals c.loop-i.gates c.make_node.new.gates c.ordered-x.ensures.ordered c.loop-i.invariant.right c.in_ok-make_node.ensures.made grows.met;
      others = only_goes c.args.n.now.net c.ordered-x.result.0 c.args.literals.now c.loop-i.literals c.make_node.new.literals c.make_node.new.gates c.loop-i.invariant.others c.in_ok-make_node.ensures.made;
      below = c.in_ok-make_node.ensures.below;
      long = c.in_ok-make_node.ensures.made.long ∙ c.loop-i.invariant.long;
      zero = omega (arith, c.loop-i.invariant.zero, grows.first, grows.longer);
      room = omega (arith, rows, c.loop-i.invariant.room, grows.first, grows.bound);
      count = let more = gates_more c.args.n.now.net c.args.n.now.order c.loop-i.i c.ordered-x.result.0 c.ordered-x.ensures.ordered in omega (arith, more, c.loop-i.invariant.count, c.in_ok-make_node.ensures.count);
      grows = record {
        first = grows.first ∙ so_far.first;
        longer = omega (arith, so_far.longer, grows.longer);
        bound = omega (arith, rows, c.loop-i.invariant.room, so_far.first, grows.bound);
        met = λ values m. so_far.met values (grows.met values m);
      };
    }

pub returns-clause-count : goal.returns-clause-count
returns-clause-count c =
    let long = length-order c.args.n.now.net c.args.n.now.order c.input_count.ensures.design.order in
    let none = gates_end c.args.n.now.net c.args.n.now.order c.loop-i.i (omega (arith, long, c.loop-i-test.false, c.node_count-i-end.ensures)) in
    omega (arith, none, c.loop-i.invariant.count)
