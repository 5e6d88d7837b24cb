use Rattle.std.proofs.Common.{◌≡◌, ◌<◌, ◌≤◌, ◌∙◌, ℕ, List, length, get_or, sym, ap, subst, arith, replicate}
use Rattle.std.proofs.lemmas.List.{length-replicate}
use Rattle.std.specs.List.{All}
use Rattle.tmr_base.specs.Parts.{PlainParts}
use Rattle.partitioner.specs.Below.{sum_below, count_below}
use Rattle.node_reads.specs.Sources.{reads_other}
use Rattle.partitioner.specs.Private.Meeting.{is_met}
use Rattle.partitioner.specs.Cost.{foreign_count}
use Rattle.partitioner.proofs.BelowLaws.{sum_more, sum_none}
use Rattle.node_reads.proofs.SourceLaws.{related_below}
use Rattle.partitioner.proofs.CostLaws.{foreign_is, cost_is, product_more}
use Rattle.partitioner.proofs.MeetingLaws.{none_past}
use Rattle.partitioner.proofs.costs.pairs.pairs_in.Goals as goal

pub loop-x-init : goal.loop-x-init
loop-x-init c =
    let zeros : c.in_ok-last.last.items ≡ replicate c.args.count 0 = c.in_ok-last.ensures.items_if_clones_equal (λ y e. e) in
    record {
      total = sym (sum_none (foreign_count c.args.n.now.net (record { count = c.args.count; of = c.args.of.now })));
      few = omega arith;
      long = ap (λ (xs : List ℕ). length xs) zeros ∙ length-replicate {A = ℕ} c.args.count 0;
      past = λ q. subst (λ (xs : List ℕ). get_or xs q 0 ≤ 0) (sym zeros) (none_past c.args.count q);
    }

pub met_count-total-requires-clause-row : goal.met_count-total-requires-clause-row
met_count-total-requires-clause-row c =
    let net = c.args.n.now.net in
    let within : c.loop-x.x < length net.nodes = omega (arith, c.nodes_of-x-end.ensures.count, c.loop-x-test.true) in
    let row = c.row.ensures ∙ c.requires.readers.row c.loop-x.x within in
    let below : All (λ y. y < length net.nodes) c.row.result.now = subst (λ (xs : List ℕ). All (λ y. y < length net.nodes) xs) (sym row) (related_below (reads_other net) (length net.nodes) c.loop-x.x) in
    subst (λ (bound : ℕ). All (λ y. y < bound) c.row.result.now) (sym c.requires.long) below

pub loop-x-preserved : goal.loop-x-preserved
loop-x-preserved c =
    let net = c.args.n.now.net in
    let parts : PlainParts = record { count = c.args.count; of = c.args.of.now } in
    let x = c.loop-x.x in
    let within : x < length net.nodes = omega (arith, c.nodes_of-x-end.ensures.count, c.loop-x-test.true) in
    let long = ap (λ (xs : List ℕ). length xs) c.in_ok-read_block.ensures ∙ c.loop-x.invariant.long in
    let here : c.met_count-total.result ≡ foreign_count net parts x =
    c.met_count-total.ensures.count ∙ (ap (λ (b : ℕ). count_below b (is_met (get_or parts.of x 0) parts.of c.row.result.now (length c.row.result.now))) long
    ∙ (ap (λ (row : List ℕ). count_below parts.count (is_met (get_or parts.of x 0) parts.of row (length row))) c.row.ensures ∙ foreign_is net parts c.args.readers.now x c.requires.readers within)) in
    let more = sum_more x (foreign_count net parts) in
    let wide = product_more x c.args.count in
    record {
      total = omega (arith, here, c.loop-x.invariant.total, more);
      few = omega (arith, c.met_count-total.ensures.few, c.loop-x.invariant.few, long, wide);
      long = c.met_count-total.ensures.long ∙ long;
      past = c.met_count-total.ensures.past;
    }

pub returns : goal.returns
returns c =
    let parts : PlainParts = record { count = c.args.count; of = c.args.of.now } in
    let all : c.loop-x.x ≡ length c.args.n.now.net.nodes = omega (arith, c.nodes_of-x-end.ensures.count, c.loop-x-test.false) in
    c.loop-x.invariant.total ∙ (ap (λ (k : ℕ). sum_below k (foreign_count c.args.n.now.net parts)) all ∙ sym (cost_is c.args.n.now.net parts))
