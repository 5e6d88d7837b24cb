use Rattle.std.proofs.Common.{◌≡◌, ◌+◌, ◌++◌, ◌∙◌, Some, None, drop, sym, ap, subst}
use Rattle.std.specs.List.{position}
use Rattle.text_lines.specs.Lines.{is_line_feed}
use Rattle.text_lines.specs.Pending.{IsOneLine}
use Rattle.certificate.specs.Carrying.{to_come}
use Rattle.certificate.proofs.Carries.{passed_on, fails_so}
use Rattle.certificate.proofs.PieceLines.{front_one_line, longer_one_line, cut_more}
use Rattle.certificate.proofs.pieces.take_front.Goals as goal

pub take_last-requires-clause-one_line : goal.take_last-requires-clause-one_line
take_last-requires-clause-one_line c = front_one_line c.args.bytes.now c.in-Some.end (cc)

pub returns-in_err-take_last-in-Some-clause-refuses : goal.returns-in_err-take_last-in-Some-clause-refuses
returns-in_err-take_last-in-Some-clause-refuses c =
    let e : position is_line_feed c.args.bytes.now ≡ Some c.in-Some.end = cc in
    passed_on _ _ c.in_err-take_last-in-Some.field-0.0 c.from_residual.ensures.1 (λ more.
    fails_so c.in_err-take_last-in-Some.field-0.0 _ _ (ap (to_come c.args.n.now.net c.args.h.now.net c.args.line.now c.args.progress.now) (sym (cut_more c.args.bytes.now more c.in-Some.end e)))
    (c.in_err-take_last-in-Some.ensures.refuses (drop (c.in-Some.end + 1) c.args.bytes.now ++ more)))

pub returns-in_ok-take_last-in-Some-clause-passes : goal.returns-in_ok-take_last-in-Some-clause-passes
returns-in_ok-take_last-in-Some-clause-passes c =
    let e : position is_line_feed c.args.bytes.now ≡ Some c.in-Some.end = cc in
    λ more.
    ap (to_come c.args.n.now.net c.args.h.now.net c.args.line.now c.args.progress.now) (cut_more c.args.bytes.now more c.in-Some.end e)
    ∙ c.in_ok-take_last-in-Some.ensures.passes (drop (c.in-Some.end + 1) c.args.bytes.now ++ more)

pub returns-in_ok-extend-in-None-clause-ready : goal.returns-in_ok-extend-in-None-clause-ready
returns-in_ok-extend-in-None-clause-ready c =
    let e : position is_line_feed c.args.bytes.now ≡ None = cc in
    record {
      one_line = subst IsOneLine (sym c.in_ok-extend-in-None.ensures.part) (longer_one_line c.args.line.now.part.items c.args.bytes.now c.requires.ready.one_line e);
      roles = c.requires.ready.roles;
    }
