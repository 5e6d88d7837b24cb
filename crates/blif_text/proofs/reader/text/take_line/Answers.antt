use Rattle.std.proofs.Common.{refl}
use Rattle.blif_text.specs.Private.Pending.{with_bytes, with_joined}
use Rattle.blif_text.proofs.Taken.{ok_then, err_then, taken_there, refused_there, after_line, refused_line}
use Rattle.blif_text.proofs.reader.text.take_line.Goals as goal

pub returns-in-Some-clause-ok : goal.returns-in-Some-clause-ok
returns-in-Some-clause-ok c =
    let p = with_bytes c.args.lines.now c.args.bytes.now in
    ok_then c.take_statement.result _ _
    (λ taken. after_line p (with_joined p) c.pass.new.self c.args.progress.now c.take_statement.new.progress c.in-Some.ensures.ends refl c.in-Some.ensures.begun
    (taken_there p c.first-line.result c.in-Some.text.now _ _ _ c.first-line.ensures c.in-Some.ensures.text taken))
    c.take_statement.ensures.taken

pub returns-in-Some-clause-bad : goal.returns-in-Some-clause-bad
returns-in-Some-clause-bad c =
    let p = with_bytes c.args.lines.now c.args.bytes.now in
    err_then c.take_statement.result _ _
    (λ fault refused. refused_line p (with_joined p) c.args.progress.now c.take_statement.new.progress fault c.in-Some.ensures.ends refl
    (refused_there p c.first-line.result c.in-Some.text.now _ _ fault c.first-line.ensures c.in-Some.ensures.text refused))
    c.take_statement.ensures.refused
