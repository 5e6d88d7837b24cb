use Rattle.std.proofs.Common.{◌≡◌, ◌<◌, ◌∙◌, ◌+◌, ℕ, cond, eqb, not, ◌&&◌, List, sym, ap, subst, length, get_or, arith}
use Rattle.partitioner.specs.Below.{one_if}
use Rattle.node_reads.specs.Sources.{reads_other, other_readers}
use Rattle.partitioner.specs.Private.Gaining.{last_in, near_in}
use Rattle.partitioner.proofs.GainLaws.{begun_none, held_by, held_more, readers_near, turn_few, turn_goes_on}
use Rattle.node_reads.proofs.SourceLaws.{rows_below}
use Rattle.partitioner.proofs.costs.gains.count_readers.Goals as goal

pub part_of-requires-clause-node : goal.part_of-requires-clause-node
part_of-requires-clause-node c =
    subst (λ (xs : List ℕ). c.loop-y.y-index < length xs → get_or xs c.loop-y.y-index 0 < length c.args.n.now.net.nodes) (sym c.row-y-items.ensures)
    (rows_below (reads_other c.args.n.now.net) (length c.args.n.now.net.nodes) (length c.args.n.now.net.nodes) c.args.p.now.readers c.args.i c.loop-y.y-index c.requires.tracks.readers c.requires.node) c.loop-y-test.true

pub count_once-requires-clause-few : goal.count_once-requires-clause-few
count_once-requires-clause-few c =
    turn_few (near_in c.args.gains.now) (near_in c.loop-y.gains) (last_in c.loop-y.gains) (c.args.gains.now.turn + 1) (held_by c.args.p.now.of.items c.row-y-items.result.now c.loop-y.y-index) c.part_of.result c.loop-y.invariant.turned
    (omega (arith, begun_none c.args.p.now.count c.args.gains.now c.requires.begun c.part_of.result))

pub loop-y-preserved : goal.loop-y-preserved
loop-y-preserved c =
    let of = c.args.p.now.of.items in
    let row = c.row-y-items.result.now in
    let j = c.loop-y.y-index in
    let q = c.part_of.result in
    let new = c.count_once.ensures in
    let is = c.loop-y.invariant in
    record {
      turned = turn_goes_on (near_in c.args.gains.now) (near_in c.loop-y.gains) (last_in c.loop-y.gains) (near_in c.count_once.new.gains) (last_in c.count_once.new.gains) (c.args.gains.now.turn + 1) q (held_by of row j) (held_by of row (j + 1)) is.turned
          (λ r. new.near r ∙ ap (λ (t : ℕ). near_in c.loop-y.gains r + one_if (eqb q r && not (eqb (last_in c.loop-y.gains r) t))) is.turn)
          (λ r. new.last r ∙ ap (λ (t : ℕ). cond (eqb q r) t (last_in c.loop-y.gains r)) is.turn)
          (λ r. held_more of row j q r c.loop-y-test.true c.part_of.ensures.value);
      counted = new.counted ∙ is.counted;
      from = new.from ∙ is.from;
      turn = new.turn ∙ is.turn;
      long = new.long ∙ is.long;
      most = new.most;
    }

pub returns-clause-near : goal.returns-clause-near
returns-clause-near c =
    let row : c.row-y-items.result.now ≡ other_readers c.args.n.now.net c.args.i = c.row-y-items.ensures ∙ c.requires.tracks.readers.row c.args.i c.requires.node in
    readers_near c.args.n.now.net c.args.p.now.of.items c.args.i c.row-y-items.result.now c.loop-y.y-index (c.args.gains.now.turn + 1) (near_in c.args.gains.now) (near_in c.loop-y.gains) (last_in c.loop-y.gains) c.loop-y-test.false row
    (begun_none c.args.p.now.count c.args.gains.now c.requires.begun) c.loop-y.invariant.turned
