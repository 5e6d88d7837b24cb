use Rattle.std.proofs.Common.{◌≡◌, ◌++◌, drop}
use Rattle.blif_writer.specs.Left.{spaced}
use Rattle.hardened_text.specs.Private.Pieces.{pins_of}
use Rattle.hardened_text.proofs.copies.put_pins.Given as goal

abbrev pub invariant-loop-j : goal.invariant-loop-j
invariant-loop-j l = l.out.items ++ spaced (drop l.j (pins_of l.pieces l.c)) ≡ l.fn.out.items ++ spaced (pins_of l.pieces l.c)
