use Rattle.std.proofs.Common.{◌≡◌, [], ◌∷◌, ◌++◌, ◌∙◌, refl, sym, arith}
use Rattle.std.proofs.lemmas.Bool.Decides.{nat_tests}
use Rattle.std.proofs.lemmas.List.{nil_from_length}
use Rattle.certificate.proofs.Carries.{passed_on, fails_so}
use Rattle.certificate.proofs.PieceLines.{line_passes, line_refuses, nothing_in_hand}
use Rattle.certificate.proofs.pieces.take_last.Goals as goal

pub returns-in_err-take_line-clause-refuses : goal.returns-in_err-take_line-clause-refuses
returns-in_err-take_line-clause-refuses c =
    let none : c.args.line.now.part.items ≡ [] = nil_from_length _ (grind (arith, nat_tests, c.is_empty.ensures, c.if-is_empty.true)) in
    passed_on _ _ c.in_err-take_line.field-0.0 c.from_residual.ensures.1 (λ more.
    fails_so c.in_err-take_line.field-0.0 _ _ (sym (nothing_in_hand c.args.n.now.net c.args.h.now.net c.args.progress.now c.args.line.now.number c.args.line.now.part.items (c.args.bytes.now ++ 10 ∷ more) none))
    (line_refuses c.args.n.now.net c.args.h.now.net c.args.progress.now c.args.line.now.number c.args.bytes.now c.args.bytes.now c.requires.one_line refl c.in_err-take_line.field-0.0 c.in_err-take_line.ensures.refuses more))

pub returns-then-is_empty-clause-passes : goal.returns-then-is_empty-clause-passes
returns-then-is_empty-clause-passes c =
    let none : c.args.line.now.part.items ≡ [] = nil_from_length _ (grind (arith, nat_tests, c.is_empty.ensures, c.if-is_empty.true)) in
    λ more.
    nothing_in_hand c.args.n.now.net c.args.h.now.net c.args.progress.now c.args.line.now.number c.args.line.now.part.items (c.args.bytes.now ++ 10 ∷ more) none
    ∙ line_passes c.args.n.now.net c.args.h.now.net c.args.progress.now c.args.line.now.number c.args.bytes.now c.args.bytes.now c.requires.one_line refl c.take_line.new.progress c.args.line.now.part.items none c.in_ok-take_line.ensures.passes more
