use Rattle.std.proofs.Common.{refl}
use Rattle.certificate.specs.declared.progress.Stage.TheVariants.{Begun, Versioned, Counted, Ended}
use Rattle.certificate.specs.declared.fault.CertFault.TheVariants.{Line}
use Rattle.certificate.proofs.Carries.{first_passes, first_refuses, count_passes, count_refuses, more_refused, passes_so, refuses_so, passed_on}
use Rattle.certificate.proofs.progress.take_line.Goals as goal

pub returns-in_err-version-in-Begun-clause-refuses : goal.returns-in_err-version-in-Begun-clause-refuses
returns-in_err-version-in-Begun-clause-refuses c =
    let p = c.args.progress.now in
    passed_on _ _ c.in_err-version-in-Begun.field-0.0 c.from_residual.ensures.1
    (refuses_so c.args.n.now.net c.args.h.now.net p c.args.text.now c.args.line Begun c.in_err-version-in-Begun.field-0.0 c.in-Begun.is
    (first_refuses c.args.n.now.net c.args.h.now.net p.depth.items p.nodes p.roles.items c.args.text.now c.args.line c.in_err-version-in-Begun.field-0.0 c.in_err-version-in-Begun.ensures))

pub returns-in_ok-version-in-Begun-clause-passes : goal.returns-in_ok-version-in-Begun-clause-passes
returns-in_ok-version-in-Begun-clause-passes c =
    let p = c.args.progress.now in
    passes_so c.args.n.now.net c.args.h.now.net p c.args.text.now c.args.line Begun (Versioned c.in_ok-version-in-Begun.version) (Versioned c.in_ok-version-in-Begun.version) p.depth.items p.nodes p.roles.items c.in-Begun.is refl
    (first_passes c.args.n.now.net c.args.h.now.net p.depth.items p.nodes p.roles.items c.args.text.now c.args.line c.in_ok-version-in-Begun.version c.in_ok-version-in-Begun.ensures)

pub returns-in_err-parts-in-Versioned-clause-refuses : goal.returns-in_err-parts-in-Versioned-clause-refuses
returns-in_err-parts-in-Versioned-clause-refuses c =
    let p = c.args.progress.now in
    passed_on _ _ c.in_err-parts-in-Versioned.field-0.0 c.from_residual-in_err-parts-in-Versioned.ensures.1
    (refuses_so c.args.n.now.net c.args.h.now.net p c.args.text.now c.args.line (Versioned c.in-Versioned.version) c.in_err-parts-in-Versioned.field-0.0 c.in-Versioned.is
    (count_refuses c.args.n.now.net c.args.h.now.net p.depth.items p.nodes p.roles.items c.args.text.now c.args.line c.in-Versioned.version c.in_err-parts-in-Versioned.field-0.0 c.in_err-parts-in-Versioned.ensures))

pub returns-in_ok-parts-in-Versioned-clause-passes : goal.returns-in_ok-parts-in-Versioned-clause-passes
returns-in_ok-parts-in-Versioned-clause-passes c =
    let p = c.args.progress.now in
    passes_so c.args.n.now.net c.args.h.now.net p c.args.text.now c.args.line (Versioned c.in-Versioned.version) (Counted c.in-Versioned.version c.in_ok-parts-in-Versioned.parts) (Counted c.in-Versioned.version c.in_ok-parts-in-Versioned.parts) p.depth.items p.nodes p.roles.items c.in-Versioned.is refl
    (count_passes c.args.n.now.net c.args.h.now.net p.depth.items p.nodes p.roles.items c.args.text.now c.args.line c.in-Versioned.version c.in_ok-parts-in-Versioned.parts c.in_ok-parts-in-Versioned.ensures)

pub returns-in-Ended-clause-refuses : goal.returns-in-Ended-clause-refuses
returns-in-Ended-clause-refuses c =
    let p = c.args.progress.now in
    refuses_so c.args.n.now.net c.args.h.now.net p c.args.text.now c.args.line (Ended c.in-Ended.version) (Line c.args.line) c.in-Ended.is
    (more_refused c.args.n.now.net c.args.h.now.net p.depth.items p.nodes p.roles.items c.args.text.now c.args.line c.in-Ended.version)
