use Rattle.std.proofs.Common.{◌≤◌, ◌++◌, length, arith, sym, subst}
use Rattle.blif_text.specs.Reader.{StandsFor}
use Rattle.blif_text.proofs.Told.{told_none, told_some, bad_none, bad_some, for_all}
use Rattle.blif_text.proofs.reader.Reader.feed.Goals as goal
use Rattle.blif_text.proofs.reader.Reader.feed.Goals.{in-None, in-Some}

pub returns-clause-answer : goal.returns-clause-answer
returns-clause-answer c = λ given s.
    let read = c.take_piece-fault.ensures.read given (subst (λ r. StandsFor r given) (sym c.self.view_is) s).read in
    elim c.match-fault.branch [
      | in-None w ↦ told_none c.take_piece-fault.new.lines c.take_piece-fault.new.progress (given ++ c.args.piece.now) _ _ w.in-None.is w.result-is read
      | in-Some w ↦ told_some c.take_piece-fault.new.lines c.take_piece-fault.new.progress (given ++ c.args.piece.now) _ _ _ w.in-Some.is w.result-is read
    ]

pub returns-clause-bad : goal.returns-clause-bad
returns-clause-bad c = for_all c.match-fault.result (StandsFor c.args.self.now) c.args.piece.now (λ given s.
    let read = c.take_piece-fault.ensures.read given (subst (λ r. StandsFor r given) (sym c.self.view_is) s).read in
    elim c.match-fault.branch [
      | in-None w ↦ bad_none (given ++ c.args.piece.now) _ w.result-is
      | in-Some w ↦ bad_some c.take_piece-fault.new.lines c.take_piece-fault.new.progress (given ++ c.args.piece.now) _ _ _ w.in-Some.is w.result-is read
    ])

pub invariant_of-self : goal.invariant_of-self
invariant_of-self c =
    let room = c.self.inside.room in
    let piece = c.args.piece.now in
    let fits : length piece ≤ room = subst (λ r. length piece ≤ r.room) (sym c.self.view_is) c.requires in
    record {
      lines = omega (arith, fits, c.self.invariant.lines, c.take_piece-fault.ensures.number);
      sound = c.take_piece-fault.ensures.sound c.self.invariant.sound;
    }
