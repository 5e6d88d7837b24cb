use Rattle.std.proofs.Common.{◌≡◌, refl, sym, ap, subst, ◌∙◌}
use Rattle.flat_net.specs.Net.{Design}
use Rattle.dwc.specs.declared.check.GuardAnswer.{GuardAnswer}
use Rattle.dwc.specs.Answer.{BreaksFirst, IsAnswer}
use Rattle.dwc.specs.Guard.{guard_net}
use Rattle.dwc.specs.Tells.{Guards}
use Rattle.tmr_top.proofs.RoomLaws.{done_over, denied_over}
use Rattle.tmr_top.proofs.commands.guarded.tell.Goals as goal

pub returns-in_ok-text-in-Guarded : goal.returns-in_ok-text-in-Guarded
returns-in_ok-text-in-Guarded c =
    let n = c.args.designs.now.original.design.net in
    let g = c.args.designs.now.hardened.design.net in
    let found : guard_net c.net.result.now.net ≡ c.net-2.result.now.net =
    subst (λ (a : GuardAnswer). IsAnswer (guard_net c.net.result.now.net) c.net-2.result.now.net a) c.in-Guarded.is c.in_ok-check_guard.ensures.answer in
    let is : guard_net n ≡ g = sym (ap (λ (d : Design). guard_net d.net) c.net.ensures.net) ∙ (found ∙ ap (λ (d : Design). d.net) c.net-2.ensures.net) in
    let guards : Guards n g =
    subst (λ (d : Design). Guards n d.net) c.net-2.ensures.net (subst (λ (d : Design). Guards d.net c.net-2.result.now.net) c.net.ensures.net (c.in_ok-check_guard.ensures.guards c.in-Guarded.is)) in
    done_over _ _ _ _ _ _ c.telling.ensures refl (λ t e. cc)
    (λ held are. (
      record {
        files = record { original = n; free = _; original_read = are.original_read; guarded = g; guarded_free = _; guarded_read = are.hardened_read };
        is = is;
        guards = guards;
        says = c.in_ok-text-in-Guarded.ensures;
      },
      refl,
    ))
    (λ held are p e. absurd cc)

pub returns-in_ok-text-in-Not : goal.returns-in_ok-text-in-Not
returns-in_ok-text-in-Not c =
    let n = c.args.designs.now.original.design.net in
    let g = c.args.designs.now.hardened.design.net in
    let found : BreaksFirst (guard_net c.net.result.now.net) c.net-2.result.now.net c.in-Not.rule c.in-Not.at =
    subst (λ (a : GuardAnswer). IsAnswer (guard_net c.net.result.now.net) c.net-2.result.now.net a) c.in-Not.is c.in_ok-check_guard.ensures.answer in
    let first : BreaksFirst (guard_net n) g c.in-Not.rule c.in-Not.at =
    subst (λ (d : Design). BreaksFirst (guard_net n) d.net c.in-Not.rule c.in-Not.at) c.net-2.ensures.net
    (subst (λ (d : Design). BreaksFirst (guard_net d.net) c.net-2.result.now.net c.in-Not.rule c.in-Not.at) c.net.ensures.net found) in
    denied_over _ _ _ _ c.denying.ensures refl (λ t e. cc)
    (λ held are saved. record {
      files = record { original = n; free = _; original_read = are.original_read; guarded = g; guarded_free = _; guarded_read = are.hardened_read };
      rule = c.in-Not.rule;
      place = c.in-Not.at;
      first = first;
      says = c.in_ok-text-in-Not.ensures;
    })
