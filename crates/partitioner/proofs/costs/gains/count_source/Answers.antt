use Rattle.std.proofs.Common.{◌<◌, ◌∙◌, ◌+◌, ℕ, cond, eqb, not, ◌&&◌, List, sym, ap, subst, length, get_or}
use Rattle.partitioner.specs.Below.{one_if}
use Rattle.node_reads.specs.Sources.{reads_other}
use Rattle.partitioner.specs.Private.Gaining.{last_in, near_in}
use Rattle.partitioner.specs.declared.costs.gains.Gains.{Gains}
use Rattle.partitioner.proofs.GainLaws.{IsTurned, met_of, met_more, met_skipped, turn_goes_on, turn_same}
use Rattle.node_reads.proofs.SourceLaws.{rows_below}
use Rattle.partitioner.proofs.costs.gains.count_source.Goals as goal
use Rattle.partitioner.proofs.costs.gains.count_source.Goals.{then-y-i, else-y-i}

pub part_of-requires-then-y-i-clause-node : goal.part_of-requires-then-y-i-clause-node
part_of-requires-then-y-i-clause-node c =
    subst (λ (xs : List ℕ). c.loop-y.y-index < length xs → get_or xs c.loop-y.y-index 0 < length c.args.n.now.net.nodes) (sym c.requires.readers)
    (rows_below (reads_other c.args.n.now.net) (length c.args.n.now.net.nodes) (length c.args.n.now.net.nodes) c.args.p.now.readers c.args.x c.loop-y.y-index c.requires.tracks.readers c.requires.source) c.loop-y-test.true

pub loop-y-preserved : goal.loop-y-preserved
loop-y-preserved c =
    let of = c.args.p.now.of.items in
    let row = c.args.readers.now in
    let j = c.loop-y.y-index in
    let turn = c.args.gains.now.turn in
    let met = met_of of c.args.i c.args.x row in
    let is = c.loop-y.invariant in
    elim c.if-y-i.branch [
      | then-y-i w ↦
          let q = w.part_of-then-y-i.result in
          let new = w.count_once-then-y-i.ensures in
          subst (λ (g : Gains). IsTurned c.args.gains.now g c.args.p.now.count (met (j + 1))) (sym w.gains-is) (record {
            turned = turn_goes_on (near_in c.args.gains.now) (near_in c.loop-y.gains) (last_in c.loop-y.gains) (near_in w.count_once-then-y-i.new.gains) (last_in w.count_once-then-y-i.new.gains) turn q (met j) (met (j + 1)) is.turned
                (λ r. new.near r ∙ ap (λ (t : ℕ). near_in c.loop-y.gains r + one_if (eqb q r && not (eqb (last_in c.loop-y.gains r) t))) is.turn)
                (λ r. new.last r ∙ ap (λ (t : ℕ). cond (eqb q r) t (last_in c.loop-y.gains r)) is.turn)
                (λ r. met_more of c.args.i c.args.x row j q r c.loop-y-test.true w.if-y-i.true w.part_of-then-y-i.ensures.value);
            counted = new.counted ∙ is.counted;
            from = new.from ∙ is.from;
            turn = new.turn ∙ is.turn;
            long = new.long ∙ is.long;
            most = new.most;
          })
      | else-y-i w ↦
          subst (λ (g : Gains). IsTurned c.args.gains.now g c.args.p.now.count (met (j + 1))) (sym w.gains-is) (record {
            turned = turn_same (near_in c.args.gains.now) (near_in c.loop-y.gains) (last_in c.loop-y.gains) turn (met j) (met (j + 1)) (λ r. met_skipped of c.args.i c.args.x row j r c.loop-y-test.true w.if-y-i.false) is.turned;
            counted = is.counted;
            from = is.from;
            turn = is.turn;
            long = is.long;
            most = is.most;
          })
    ]
