use Rattle.std.proofs.Common.{◌∷◌, [], List, length, refl, sym, ap, subst, arith}
use Rattle.std.specs.Prelude.{All}
use Rattle.std.proofs.lemmas.List.{length-append}
use Rattle.std.proofs.lemmas.List.Elements.{All-push}
use Rattle.certificate.specs.Schedules.{Allowed}
use Rattle.schedules.specs.Schedule.{PlainSchedule}
use Rattle.tmr_trial.specs.Schedules.{IsDrawnSchedule}
use Rattle.campaigns.specs.Private.Running.{IsRunnable}
use Rattle.campaigns.proofs.RunLaws.{drawn_more}
use Rattle.campaigns.proofs.drawing.draw_schedules.Goals as goal

pub loop-j-preserved : goal.loop-j-preserved
loop-j-preserved c =
    let n = c.args.n.now.net in
    let h = c.args.h.now.net in
    let k = c.args.c.now in
    let cycles = c.args.cycles in
    let old : List PlainSchedule = c.loop-j.list.items in
    let new : List PlainSchedule = c.push.new.self.items in
    let s : PlainSchedule = c.in_ok-s.s in
    record {
      many = let same = ap length c.in_ok-push.ensures.items in let before = c.loop-j.invariant.many in omega (arith, same, before, length-append old (s ∷ []));
      drawn = drawn_more c.args.number (λ m r. IsDrawnSchedule m n h k cycles r) old new s c.loop-j.j _ c.loop-j.invariant.drawn c.loop-j.invariant.many c.in_ok-push.ensures.items refl c.in_ok-s.ensures.drawn;
      allowed = subst (λ (ss : List PlainSchedule). All (λ s. Allowed s.upsets k) ss) (sym c.in_ok-push.ensures.items) (All-push (λ s. Allowed s.upsets k) old s c.loop-j.invariant.allowed c.in_ok-s.ensures.allowed);
      runnable = subst (λ (ss : List PlainSchedule). All (λ s. IsRunnable n h cycles s) ss) (sym c.in_ok-push.ensures.items) (All-push (λ s. IsRunnable n h cycles s) old s c.loop-j.invariant.runnable c.in_ok-s.ensures.runnable);
    }
