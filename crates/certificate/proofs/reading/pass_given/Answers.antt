use Rattle.std.proofs.Common.{◌∙◌, arith}
use Rattle.certificate.proofs.Carries.{given_passed}
use Rattle.certificate.proofs.reading.pass_given.Goals as goal

pub loop-roles-preserved : goal.loop-roles-preserved
loop-roles-preserved c = λ version n h parts r.
    c.loop-roles.invariant version n h parts r
    ∙ given_passed version n h parts c.args.given.now c.loop-roles.roles.items c.push.new.self.items c.in-Some.role r (omega (arith, c.loop-roles-test.true, c.len.ensures)) (cc) c.in_ok-push-in-Some.ensures.items
