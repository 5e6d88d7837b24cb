use Rattle.std.proofs.Common.{◌≡◌, ◌∙◌, [], drop, ap}
use Rattle.certificate.specs.Plain.{texts}
use Rattle.certificate.proofs.Puts.{all_put, drop_all}
use Rattle.exposure.proofs.lines.put_line.Goals as goal

pub returns : goal.returns
returns c =
    let none : drop c.loop-word.word-index c.args.rest.now ≡ [] = drop_all c.loop-word.word-index c.args.rest.now c.loop-word-test.false in
    c.in_ok-push-2.ensures.items ∙ all_put c.loop-word.out.items c.args.out.now.items c.args.first.now (texts c.args.rest.now) (texts (drop c.loop-word.word-index c.args.rest.now)) (ap texts none) c.loop-word.invariant
