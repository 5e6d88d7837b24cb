use Rattle.std.proofs.Common.{◌≡◌, ◌++◌, drop}
use Rattle.flat_net.specs.Net.{node_of, pins_at}
use Rattle.blif_writer.specs.Text.{net_words}
use Rattle.blif_writer.specs.Left.{spaced}
use Rattle.blif_writer.proofs.words.put_pins.Given as goal

abbrev pub invariant-loop-j : goal.invariant-loop-j
invariant-loop-j l = l.out.items ++ spaced (drop l.j (net_words l.net.net (pins_at (node_of l.net.net l.x.0)))) ≡ l.fn.out.items ++ spaced (net_words l.net.net (pins_at (node_of l.net.net l.x.0)))
