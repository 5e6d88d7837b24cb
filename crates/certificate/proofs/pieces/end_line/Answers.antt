use Rattle.certificate.proofs.Carries.{passed_on}
use Rattle.certificate.proofs.PieceLines.{line_passes, line_refuses}
use Rattle.certificate.proofs.pieces.end_line.Goals as goal

pub returns-in_err-take_line-clause-refuses : goal.returns-in_err-take_line-clause-refuses
returns-in_err-take_line-clause-refuses c =
    passed_on _ _ c.in_err-take_line.field-0.0 c.from_residual.ensures.1
    (line_refuses c.args.n.now.net c.args.h.now.net c.args.progress.now c.args.line.now.number c.args.line.now.part.items c.deref.result.now c.requires.ready.one_line c.deref.ensures.value c.in_err-take_line.field-0.0 c.in_err-take_line.ensures.refuses)

pub returns-clause-passes : goal.returns-clause-passes
returns-clause-passes c =
    line_passes c.args.n.now.net c.args.h.now.net c.args.progress.now c.args.line.now.number c.args.line.now.part.items c.deref.result.now c.requires.ready.one_line c.deref.ensures.value c.take_line.new.progress c.clear.new.self.items c.clear.ensures.items c.in_ok-take_line.ensures.passes
