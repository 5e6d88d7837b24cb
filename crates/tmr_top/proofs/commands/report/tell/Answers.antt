use Rattle.std.proofs.Common.{[], refl, subst, sym}
use Rattle.flat_net.specs.Net.{Design}
use Rattle.certificate.specs.Rules.{AllHold}
use Rattle.certificate.specs.Starts.{counted}
use Rattle.certificate.proofs.Unmarked.{without_marks}
use Rattle.reports.specs.Report.{IsReport}
use Rattle.tmr_top.proofs.RoomLaws.{if_ok, done_over, denied_over}
use Rattle.tmr_top.proofs.commands.report.tell.Goals as goal

pub report-requires-clause-corresponds : goal.report-requires-clause-corresponds
report-requires-clause-corresponds c =
    let pair = c.args.pair.now in
    subst (λ (d : Design). AllHold d.net [] c.net-in-Ok.result.now.net [] pair.certificate) (sym c.net.ensures.net)
    (subst (λ (d : Design). AllHold pair.original.design.net [] d.net [] pair.certificate) (sym c.net-in-Ok.ensures.net)
    (without_marks pair.original.design.net pair.hardened.design.net (counted pair.certificate pair.original.free) (counted pair.certificate pair.hardened.free) pair.certificate c.in-Ok.ensures.accepts))

pub returns-in_ok-text-in-Ok : goal.returns-in_ok-text-in-Ok
returns-in_ok-text-in-Ok c =
    let pair = c.args.pair.now in
    done_over _ _ _ _ _ _ c.telling.ensures refl (λ t e. cc)
    (λ held holds. (
      record {
        pair = _;
        holds = holds;
        accepts = c.in-Ok.ensures.accepts;
        says = subst (λ (d : Design). IsReport pair.original.design.net d.net pair.certificate c.in_ok-text-in-Ok.text.items) c.net-in-Ok.ensures.net
            (subst (λ (d : Design). IsReport d.net c.net-in-Ok.result.now.net pair.certificate c.in_ok-text-in-Ok.text.items) c.net.ensures.net c.in_ok-text-in-Ok.ensures);
      },
      refl,
    ))
    (λ held holds p e. absurd cc)

pub returns-in-Err : goal.returns-in-Err
returns-in-Err c = if_ok c.deny.result _ _ (λ w is. denied_over _ _ _ w is refl (λ t e. cc)
    (λ held holds saved. record { pair = _; holds = holds; rule = _; place = _; first = c.in-Err.ensures.denies; says = refl })) c.deny.ensures
