use Rattle.std.proofs.Common.{◌≡◌, ℕ, List, Option, Some, None, true, false, refl, ap, sym, ◌∙◌, subst, arith}
use Rattle.std.specs.Prelude.{slice_set}
use Rattle.std.proofs.lemmas.List.{get_or_default}
use Rattle.tmr_base.specs.declared.ids.Upset.{Upset}
use Rattle.certificate.specs.Cert.{depth_of}
use Rattle.certificate.specs.Schedules.{Allowed}
use Rattle.schedules.specs.Schedule.{PlainSchedule}
use Rattle.tmr_trial.specs.declared.strikes.Strike.{Strike}
use Rattle.tmr_trial.specs.Strikes.{strike_at, is_near, AreStrikes}
use Rattle.tmr_trial.proofs.StrikeLaws.{left_out, added, far_allowed, strikes_more}
use Rattle.tmr_trial.proofs.allowed_schedules.add_if_allowed.Goals as goal

pub returns-then-is_near-clause-added : goal.returns-then-is_near-clause-added
returns-then-is_near-clause-added c =
    let last : strike_at c.args.strikes.now.items c.domain-copy.result.0.0 ≡ c.index.result.now = get_or_default c.args.strikes.now.items c.domain-copy.result.0.0 None c.index.result.now (omega (arith, c.domain-copy.ensures.range, c.requires.strikes_are.long)) ∙ sym c.index.ensures in
    let test : is_near (strike_at c.args.strikes.now.items c.domain-copy.result.0.0) c.domain-copy.result.1 c.args.u.cycle (depth_of c.args.c.now c.domain-copy.result.0.0) ≡ true =
    ap (λ (o : Option Strike). is_near o c.domain-copy.result.1 c.args.u.cycle (depth_of c.args.c.now c.domain-copy.result.0.0)) last
    ∙ (ap (λ (m : ℕ). is_near c.index.result.now c.domain-copy.result.1 c.args.u.cycle m) (sym c.depth.ensures) ∙ (sym c.is_near.ensures ∙ c.if-is_near.true)) in
    left_out c.args.c.now c.args.s.now.upsets c.args.strikes.now.items c.requires.strikes_are c.args.u c.domain-copy.result.0.0 c.domain-copy.result.1 c.domain-copy.ensures.is_in c.requires.earlier test

pub returns-clause-added : goal.returns-clause-added
returns-clause-added c =
    let last : strike_at c.args.strikes.now.items c.domain-copy.result.0.0 ≡ c.index.result.now = get_or_default c.args.strikes.now.items c.domain-copy.result.0.0 None c.index.result.now (omega (arith, c.domain-copy.ensures.range, c.requires.strikes_are.long)) ∙ sym c.index.ensures in
    let test : is_near (strike_at c.args.strikes.now.items c.domain-copy.result.0.0) c.domain-copy.result.1 c.args.u.cycle (depth_of c.args.c.now c.domain-copy.result.0.0) ≡ false =
    ap (λ (o : Option Strike). is_near o c.domain-copy.result.1 c.args.u.cycle (depth_of c.args.c.now c.domain-copy.result.0.0)) last
    ∙ (ap (λ (m : ℕ). is_near c.index.result.now c.domain-copy.result.1 c.args.u.cycle m) (sym c.depth.ensures) ∙ (sym c.is_near.ensures ∙ c.if-is_near.false)) in
    added c.args.c.now c.args.s.now.upsets c.args.strikes.now.items c.requires.strikes_are c.args.u c.domain-copy.result.0.0 c.domain-copy.result.1 c.domain-copy.ensures.is_in c.requires.earlier c.requires.allowed test c.push_upset.new.self.upsets (ap (λ (s : PlainSchedule). s.upsets) c.in_ok-push_upset.ensures.ok)

pub returns-clause-allowed : goal.returns-clause-allowed
returns-clause-allowed c =
    let last : strike_at c.args.strikes.now.items c.domain-copy.result.0.0 ≡ c.index.result.now = get_or_default c.args.strikes.now.items c.domain-copy.result.0.0 None c.index.result.now (omega (arith, c.domain-copy.ensures.range, c.requires.strikes_are.long)) ∙ sym c.index.ensures in
    let test : is_near (strike_at c.args.strikes.now.items c.domain-copy.result.0.0) c.domain-copy.result.1 c.args.u.cycle (depth_of c.args.c.now c.domain-copy.result.0.0) ≡ false =
    ap (λ (o : Option Strike). is_near o c.domain-copy.result.1 c.args.u.cycle (depth_of c.args.c.now c.domain-copy.result.0.0)) last
    ∙ (ap (λ (m : ℕ). is_near c.index.result.now c.domain-copy.result.1 c.args.u.cycle m) (sym c.depth.ensures) ∙ (sym c.is_near.ensures ∙ c.if-is_near.false)) in
    subst (λ (us : List Upset). Allowed us c.args.c.now) (sym (ap (λ (s : PlainSchedule). s.upsets) c.in_ok-push_upset.ensures.ok)) (far_allowed c.args.c.now c.args.s.now.upsets c.args.strikes.now.items c.requires.strikes_are c.args.u c.domain-copy.result.0.0 c.domain-copy.result.1 c.domain-copy.ensures.is_in c.requires.earlier c.requires.allowed test)

pub returns-clause-strikes : goal.returns-clause-strikes
returns-clause-strikes c =
    let new : List (Option Strike) = slice_set c.args.strikes.now.items c.domain-copy.result.0.0 (Some (record { cycle = c.args.u.cycle; copy = c.domain-copy.result.1 })) in
    subst (λ (us : List Upset). AreStrikes c.args.c.now us new) (sym (ap (λ (s : PlainSchedule). s.upsets) c.in_ok-push_upset.ensures.ok)) (strikes_more c.args.c.now c.args.s.now.upsets c.args.strikes.now.items c.requires.strikes_are c.args.u c.domain-copy.result.0.0 c.domain-copy.result.1 c.domain-copy.ensures.is_in c.requires.earlier c.domain-copy.ensures.range new refl)
