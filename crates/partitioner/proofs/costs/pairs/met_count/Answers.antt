use Rattle.std.proofs.Common.{◌≡◌, ◌<◌, ◌∙◌, Bool, not, eqb, ◌&&◌, ◌||◌, get_or, length, refl, sym, ap, arith}
use Rattle.std.proofs.lemmas.Bool.{ne_eqb}
use Rattle.partitioner.specs.Below.{one_if}
use Rattle.partitioner.specs.Private.Meeting.{is_met}
use Rattle.partitioner.proofs.BelowLaws.{count_le, one_if_le, byte_of}
use Rattle.partitioner.proofs.MeetingLaws.{met_step, met_more, met_none, met_none_counted}
use Rattle.partitioner.proofs.costs.pairs.met_count.Goals as goal

pub loop-y-init : goal.loop-y-init
loop-y-init c =
    let of = c.args.of.now in
    let row = c.args.row.now in
    record {
      met = λ q. let h = c.requires.fresh q in ne_eqb (get_or c.args.last.now.items q 0) c.args.turn (λ e. omega (arith, e, h)) ∙ sym (met_none (get_or of c.args.x 0) of row q);
      counted = sym (met_none_counted (get_or of c.args.x 0) of row (length c.args.last.now.items));
      few = omega arith;
      long = omega arith;
      past = λ q. let h = c.requires.fresh q in omega (arith, h);
    }

pub loop-y-preserved : goal.loop-y-preserved
loop-y-preserved c =
    let own = get_or c.args.of.now c.args.x 0 in
    let of = c.args.of.now in
    let row = c.args.row.now in
    let j = c.loop-y.y-index in
    let p = get_or of (get_or row j 0) 0 in
    let bound = length c.args.last.now.items in
    let new = c.meet.result in
    let byte : c.from-count.result ≡ one_if new = c.from-count.ensures ∙ byte_of new in
    let is : new ≡ (not (eqb own p) && not (is_met own of row j p)) = c.meet.ensures.new ∙ ap (λ (b : Bool). not (eqb own p) && not b) (c.loop-y.invariant.met p) in
    let below : p < bound = c.requires.in_range (get_or row j 0) 0 (c.requires.row j 0 c.loop-y-test.true) in
    let more = met_more own of row j p bound new c.loop-y-test.true refl below is in
    let most = one_if_le new in
    record {
      met = λ q. c.meet.ensures.after q ∙ (ap (λ (b : Bool). b || (not (eqb own p) && eqb p q)) (c.loop-y.invariant.met q) ∙ sym (met_step own of row j p q c.loop-y-test.true refl));
      counted = omega (arith, more, byte, c.loop-y.invariant.counted);
      few = omega (arith, most, byte, c.loop-y.invariant.few);
      long = c.meet.ensures.long ∙ c.loop-y.invariant.long;
      past = λ q. c.meet.ensures.past q (c.loop-y.invariant.past q);
    }

pub returns-clause-few : goal.returns-clause-few
returns-clause-few c = omega (arith, c.loop-y.invariant.counted, count_le (length c.args.last.now.items) (is_met (get_or c.args.of.now c.args.x 0) c.args.of.now c.args.row.now c.loop-y.y-index))
