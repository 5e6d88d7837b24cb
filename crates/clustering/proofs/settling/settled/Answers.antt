use Rattle.std.proofs.Common.{◌≡◌, ◌∙◌, ◌<◌, ◌+◌, ℕ, length, take, get_or, ap, sym, subst, arith}
use Rattle.clustering.specs.Private.Settling.{IsPut, StandsBy}
use Rattle.clustering.proofs.SettleLaws.{held_few, stands_more}
use Rattle.clustering.proofs.settling.settled.Goals as goal

pub loop-i-preserved : goal.loop-i-preserved
loop-i-preserved c =
    let of = c.loop-i.of.items in
    let i = c.loop-i.i in
    let each : length of ≡ i = c.loop-i.invariant.each in
    let asked : c.at.result ≡ get_or c.args.wanted.now (length of) 0 = c.at.ensures ∙ ap (λ (k : ℕ). get_or c.args.wanted.now k 0) (sym each) in
    let put = subst (λ (parts : ℕ). IsPut c.room_of-room.result parts c.at.result of c.settle_node.new.of.items) c.loop-i.invariant.parts c.in_ok-first.ensures.put in
    record {
      settled = c.in_ok-first.ensures.settled;
      keeps = c.in_ok-first.ensures.keeps;
      each = omega (arith, c.in_ok-first.ensures.more, each);
      parts = c.in_ok-first.ensures.parts ∙ c.loop-i.invariant.parts;
      stands = λ j l. stands_more c.room_of-room.result c.args.parts c.at.result c.args.wanted.now of c.settle_node.new.of.items put asked (λ k m. c.loop-i.invariant.stands k (omega (arith, m, each))) j (omega (arith, l, each));
    }

pub returns-clause-held_few : goal.returns-clause-held_few
returns-clause-held_few c = λ p h.
    let within : p < length c.loop-i.holds.items = omega (arith, h, c.loop-i.invariant.parts) in
    let few = held_few c.loop-i.of.items c.loop-i.holds.items c.room_of-room.result c.loop-i.first p c.loop-i.invariant.settled c.loop-i.invariant.keeps within in
    omega (arith, few, c.room_of-room.ensures)

pub returns-clause-stands : goal.returns-clause-stands
returns-clause-stands c = λ i h.
    subst (λ (room : ℕ). StandsBy room c.args.parts (get_or c.args.wanted.now i 0) (take i c.loop-i.of.items) (get_or c.loop-i.of.items i 0)) c.room_of-room.ensures (c.loop-i.invariant.stands i (omega (arith, h, c.loop-i-test.false)))
