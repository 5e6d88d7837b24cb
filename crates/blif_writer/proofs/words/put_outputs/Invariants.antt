use Rattle.std.proofs.Common.{◌≡◌, ◌++◌, drop}
use Rattle.blif_writer.specs.Text.{net_words}
use Rattle.blif_writer.specs.Left.{spaced}
use Rattle.blif_writer.proofs.words.put_outputs.Given as goal

abbrev pub invariant-loop-k : goal.invariant-loop-k
invariant-loop-k l = l.out.items ++ spaced (drop l.k (net_words l.net.net l.net.net.outputs)) ≡ l.fn.out.items ++ spaced (net_words l.net.net l.net.net.outputs)
