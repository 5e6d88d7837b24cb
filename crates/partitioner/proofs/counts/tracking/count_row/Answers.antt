use Rattle.std.proofs.Common.{refl, get_or, arith}
use Rattle.partitioner.specs.Private.Counting.{count_at}
use Rattle.partitioner.proofs.RunLaws.{run_from, row_counted}
use Rattle.partitioner.proofs.counts.tracking.count_row.Goals as goal

pub loop-first-preserved : goal.loop-first-preserved
loop-first-preserved c =
    let of = c.args.of.now in
    let row = c.args.row.now in
    let p = get_or of (get_or row c.loop-first.first 0) 0 in
    record {
      within = c.run_end-end.ensures.within;
      counted = row_counted of row c.args.x p c.loop-first.first c.run_end-end.result (count_at c.args.counts.now) (count_at c.loop-first.counts) (count_at c.add_count.new.counts)
          (omega (arith, c.run_end-end.ensures.first)) c.run_end-end.ensures.within (run_from of row p c.loop-first.first c.run_end-end.result refl c.run_end-end.ensures.run) c.loop-first.invariant.counted c.in_ok-add_count.ensures;
    }
