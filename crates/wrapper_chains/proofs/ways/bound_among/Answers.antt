use Rattle.std.proofs.Common.{◌∙◌, sym, arith}
use Rattle.wrapper_chains.proofs.Handing.{alike_more, alike_passed, none_alike, AreAlike}
use Rattle.std.proofs.Common.{◌+◌, take, subst}
use Rattle.wrapper_chains.proofs.ways.bound_among.Goals as goal
use Rattle.wrapper_chains.proofs.ways.bound_among.Goals.{then-times_used-gt0+in_ok-formal+in_ok-actual+in_ok-push, else-times_used-gt0}

pub loop-name-init : goal.loop-name-init
loop-name-init c = none_alike c.args.count.now c.new-nets.result.items c.new-nets.ensures.items

pub loop-name-preserved : goal.loop-name-preserved
loop-name-preserved c = elim c.if-times_used-gt0.branch [
  | then-times_used-gt0+in_ok-formal+in_ok-actual+in_ok-push w ↦ subst (λ nets. AreAlike c.args.count.now (take (c.loop-name.name-index + 1) c.args.names.now) nets.items) (sym w.nets-is) (alike_more c.args.count.now c.args.names.now c.loop-name.name-index c.name-item.result w.in_ok-formal.formal w.in_ok-actual.actual c.loop-name.nets.items w.push.new.self.items c.loop-name-test.true c.name-item.is w.in_ok-formal.ensures w.in_ok-actual.ensures w.in_ok-push.ensures.items c.loop-name.invariant)
  | else-times_used-gt0 w ↦ subst (λ nets. AreAlike c.args.count.now (take (c.loop-name.name-index + 1) c.args.names.now) nets.items) (sym w.nets-is) (alike_passed c.args.count.now c.args.names.now c.loop-name.name-index c.name-item.result c.loop-name.nets.items c.loop-name-test.true c.name-item.is (sym c.times_used.ensures ∙ omega (arith, w.if-times_used-gt0.false)) c.loop-name.invariant)
]
