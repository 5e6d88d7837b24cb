use Rattle.std.proofs.Common.{◌++◌, take, subst, arith}
use Rattle.blif_text.specs.Private.Stands.{Stands}
use Rattle.blif_text.proofs.Taken.{part_taken, bad_left, rest_long, passed_on}
use Rattle.blif_text.proofs.reader.text.take_bytes.Goals as goal

pub loop-taken-preserved : goal.loop-taken-preserved
loop-taken-preserved c = record {
  within = omega (arith, c.in_ok-taken.ensures.some.1, c.loop-taken-test.true, rest_long c.args.piece.now c.loop-taken.taken);
  stands = λ given s.
      subst (λ xs. Stands c.take_front.new.lines c.take_front.new.progress xs) (part_taken given c.args.piece.now c.loop-taken.taken c.in_ok-taken.field-0)
      (c.in_ok-taken.ensures.ok (given ++ take c.loop-taken.taken c.args.piece.now) (c.loop-taken.invariant.stands given s));
  sound = λ h. c.in_ok-taken.ensures.sound (c.loop-taken.invariant.sound h);
  number = omega (arith, c.take_front.ensures.number, c.loop-taken.invariant.number, c.in_ok-taken.ensures.some.0);
}

pub returns-in_err-taken-clause-bad : goal.returns-in_err-taken-clause-bad
returns-in_err-taken-clause-bad c = passed_on _ _ c.in_err-taken.field-0.0 c.from_residual.ensures.1 (λ given s.
    bad_left given c.args.piece.now c.loop-taken.taken c.in_err-taken.field-0.0
    (c.in_err-taken.ensures.bad (given ++ take c.loop-taken.taken c.args.piece.now) (c.loop-taken.invariant.stands given s)))
