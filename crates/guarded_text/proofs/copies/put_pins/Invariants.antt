use Rattle.std.proofs.Common.{◌≡◌, ◌++◌, drop}
use Rattle.flat_net.specs.Net.{node_of, pins_at}
use Rattle.blif_writer.specs.Left.{spaced}
use Rattle.guarded_text.specs.Private.Lines.{all_tailed}
use Rattle.guarded_text.proofs.copies.put_pins.Given as goal

abbrev pub invariant-loop-j : goal.invariant-loop-j
invariant-loop-j l = l.out.items ++ spaced (drop l.j (all_tailed l.n.net l.byte (pins_at (node_of l.n.net l.x.0)))) ≡ l.fn.out.items ++ spaced (all_tailed l.n.net l.byte (pins_at (node_of l.n.net l.x.0)))
