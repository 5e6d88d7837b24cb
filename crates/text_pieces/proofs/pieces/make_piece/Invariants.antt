use Rattle.std.proofs.Common.{◌≡◌, ◌<◌, ◌≤◌, ◌+◌, [], ◌++◌, ℕ, length}
use Rattle.text_pieces.specs.InPieces.{long_piece}
use Rattle.text_pieces.proofs.pieces.make_piece.Given as goal

-- what is put so far is what came since the piece began, and at its beginning that is nothing
abbrev pub invariant-loop-step : goal.invariant-loop-step
invariant-loop-step g l = record {
  same : g.T.Steps.in_steps l.text ≡ g.T.Steps.in_steps l.fn.text;
  put : (g.T.Steps.in_steps l.fn.text).rest l.from ≡ l.piece.items ++ (g.T.Steps.in_steps l.fn.text).rest l.step;
  none : l.step ≡ l.from → l.piece.items ≡ [];
  short : (k : ℕ) → l.from ≤ k → k < l.step
      → length ((g.T.Steps.in_steps l.fn.text).rest l.from) < length ((g.T.Steps.in_steps l.fn.text).rest k) + long_piece;
}
