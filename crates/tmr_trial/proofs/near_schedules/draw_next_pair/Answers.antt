use Rattle.std.proofs.Common.{inl, inr, sym, arith}
use Rattle.tmr_trial.proofs.NearLaws.{skipped, taken, nets_apart, in_time}
use Rattle.tmr_trial.proofs.near_schedules.draw_next_pair.Goals as goal

pub returns-then-t-next : goal.returns-then-t-next
returns-then-t-next c =
    skipped c.args.trial.now.number c.args.trial.now.original.now.net c.args.trial.now.hardened.now.net c.args.trial.now.certificate.now c.args.cycles c.args.t c.args.numbers.now.state c.args.next.now c.draw_pair-pair.new.numbers.state c.args.s.now c.requires.drawn c.draw_pair-pair.ensures.state (inl c.if-t-next.true)

pub push_pair-requires-clause-apart : goal.push_pair-requires-clause-apart
push_pair-requires-clause-apart c = nets_apart c.args.trial.now.hardened.now.net c.args.trial.now.certificate.now c.args.cycles c.args.t c.args.numbers.now.state c.in-Some.q (sym c.in-Some.ensures.pair)

pub push_pair-requires-clause-later : goal.push_pair-requires-clause-later
push_pair-requires-clause-later c = (in_time c.args.trial.now.hardened.now.net c.args.trial.now.certificate.now c.args.cycles c.args.t c.args.numbers.now.state c.in-Some.q (sym c.in-Some.ensures.pair)).1

pub push_pair-requires-clause-earlier : goal.push_pair-requires-clause-earlier
push_pair-requires-clause-earlier c = λ i d within.
    let begins = (in_time c.args.trial.now.hardened.now.net c.args.trial.now.certificate.now c.args.cycles c.args.t c.args.numbers.now.state c.in-Some.q (sym c.in-Some.ensures.pair)).0 in
    let before = c.requires.drawn.earlier i d within in
    omega (arith, c.if-t-next.false, begins, before)

pub push_pair-requires-clause-range : goal.push_pair-requires-clause-range
push_pair-requires-clause-range c =
    let range = (in_time c.args.trial.now.hardened.now.net c.args.trial.now.certificate.now c.args.cycles c.args.t c.args.numbers.now.state c.in-Some.q (sym c.in-Some.ensures.pair)).2 in
    omega (arith, range, c.requires.drawn.long)

pub overflow_add-next : goal.overflow_add-next
overflow_add-next c =
    let range = (in_time c.args.trial.now.hardened.now.net c.args.trial.now.certificate.now c.args.cycles c.args.t c.args.numbers.now.state c.in-Some.q (sym c.in-Some.ensures.pair)).2 in
    omega (arith, range, c.requires.few)

pub returns-in-None : goal.returns-in-None
returns-in-None c =
    skipped c.args.trial.now.number c.args.trial.now.original.now.net c.args.trial.now.hardened.now.net c.args.trial.now.certificate.now c.args.cycles c.args.t c.args.numbers.now.state c.args.next.now c.draw_pair-pair.new.numbers.state c.args.s.now c.requires.drawn c.draw_pair-pair.ensures.state (inr (sym c.in-None.ensures.pair))

pub returns-in_ok-push_pair-in-Some : goal.returns-in_ok-push_pair-in-Some
returns-in_ok-push_pair-in-Some c =
    taken c.args.trial.now.number c.args.trial.now.original.now.net c.args.trial.now.hardened.now.net c.args.trial.now.certificate.now c.args.cycles c.args.t c.args.numbers.now.state c.args.next.now c.draw_pair-pair.new.numbers.state c.args.s.now c.requires.drawn c.draw_pair-pair.ensures.state c.in-Some.q c.push_pair.new.s (sym c.in-Some.ensures.pair) (omega (arith, c.if-t-next.false)) c.in_ok-push_pair-in-Some.ensures
