use Rattle.std.proofs.Common.{◌++◌, ◌∙◌, sym, ap, append_assoc}
use Rattle.std.proofs.KnownBytes.{Appends-trans}
use Rattle.tmr_outside.proofs.writing.write_pieces.Goals as goal

pub loop-to-preserved : goal.loop-to-preserved
loop-to-preserved g c = record {
  given = c.loop-to.invariant.given ++ c.piece.result.now;
  taken = append_assoc c.loop-to.invariant.given c.piece.result.now (g.G.Giver.rest c.advance.new.self)
      ∙ ap (λ l. c.loop-to.invariant.given ++ (l ++ g.G.Giver.rest c.advance.new.self)) c.piece.ensures
      ∙ ap (λ l. c.loop-to.invariant.given ++ l) (sym (c.in_ok-advance.ensures.next c.if-branch.true))
      ∙ c.loop-to.invariant.taken;
  written = Appends-trans _ _ _ c.loop-to.invariant.given c.piece.result.now c.loop-to.invariant.written c.in_ok-write_all.ensures.bytes;
}
