use Rattle.std.proofs.Common.{◌*◌, length, ap, arith}
use Rattle.library_faults.specs.Private.Counts.{used, limited}
use Rattle.library_faults.proofs.Additions.{bound_more, moved_more}
use Rattle.library_faults.proofs.lengths.count.bind_formals.Goals as goal

pub loop-formal-preserved : goal.loop-formal-preserved
loop-formal-preserved c = record {
  adds = bound_more c.args.count.now c.loop-formal.count c.add_net.new.count c.args.placed.now c.args.bindings.now c.loop-formal.formal-index c.loop-formal-item.result c.times_used-times.result c.loop-formal-test.true c.loop-formal-item.is c.times_used-times.ensures c.loop-formal.invariant.adds c.add_net.ensures;
  moved = moved_more (λ b. used c.args.placed.now b.0) c.args.bindings.now c.loop-formal.formal-index c.loop-formal-item.result c.loop-formal.moved c.times_used-times.result c.saturating_add-moved.result c.loop-formal-test.true c.loop-formal-item.is c.loop-formal.invariant.moved (omega (arith, c.times_used-times.ensures)) c.saturating_add-moved.ensures;
  bytes = moved_more (λ b. used c.args.placed.now b.0 * limited (length b.0)) c.args.bindings.now c.loop-formal.formal-index c.loop-formal-item.result c.loop-formal.bytes c.saturating_mul.result c.saturating_add-bytes.result c.loop-formal-test.true c.loop-formal-item.is c.loop-formal.invariant.bytes (omega (arith, c.saturating_mul.ensures, ap (λ r. r * c.limited_length.result) c.times_used-times.ensures, ap (λ r. used c.args.placed.now c.loop-formal-item.result.0 * r) c.limited_length.ensures)) c.saturating_add-bytes.ensures;
}
