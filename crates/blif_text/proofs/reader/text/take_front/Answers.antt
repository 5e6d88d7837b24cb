use Rattle.std.proofs.Common.{◌≡◌, ◌++◌, Some, None, take, subst, refl}
use Rattle.std.specs.List.{position}
use Rattle.blif_text.specs.Text.{is_line_feed}
use Rattle.blif_text.specs.Private.Pending.{with_bytes}
use Rattle.blif_text.specs.Private.Stands.{Stands}
use Rattle.blif_text.proofs.Taken.{front_taken, all_taken, line_front, bad_line, passed_on}
use Rattle.blif_text.proofs.reader.text.take_front.Goals as goal

pub returns-in_ok-take_line-in-Some-clause-ok : goal.returns-in_ok-take_line-in-Some-clause-ok
returns-in_ok-take_line-in-Some-clause-ok c = λ given s.
    let e : position is_line_feed c.args.bytes.now ≡ Some c.in-Some.end = cc in
    subst (λ xs. Stands c.take_line.new.lines c.take_line.new.progress xs) (line_front given c.args.bytes.now c.in-Some.end e)
    (c.in_ok-take_line-in-Some.ensures.ok (given ++ take c.in-Some.end c.args.bytes.now)
    (front_taken c.args.lines.now (with_bytes c.args.lines.now (take c.in-Some.end c.args.bytes.now)) c.args.progress.now c.args.bytes.now c.in-Some.end e refl given s))

pub returns-in_err-take_line-in-Some-clause-bad : goal.returns-in_err-take_line-in-Some-clause-bad
returns-in_err-take_line-in-Some-clause-bad c =
    let e : position is_line_feed c.args.bytes.now ≡ Some c.in-Some.end = cc in
    passed_on _ _ c.in_err-take_line-in-Some.field-0.0 c.from_residual.ensures.1 (λ given s.
    bad_line given c.args.bytes.now c.in-Some.end c.in_err-take_line-in-Some.field-0.0 e
    (c.in_err-take_line-in-Some.ensures.bad (given ++ take c.in-Some.end c.args.bytes.now)
    (front_taken c.args.lines.now (with_bytes c.args.lines.now (take c.in-Some.end c.args.bytes.now)) c.args.progress.now c.args.bytes.now c.in-Some.end e refl given s)))

pub returns-in_ok-take_inner-in-None-clause-ok : goal.returns-in_ok-take_inner-in-None-clause-ok
returns-in_ok-take_inner-in-None-clause-ok c = λ given s.
    let e : position is_line_feed c.args.bytes.now ≡ None = cc in
    all_taken c.args.lines.now c.take_inner.new.lines c.args.progress.now c.args.bytes.now e c.in_ok-take_inner-in-None.ensures.ok given s
