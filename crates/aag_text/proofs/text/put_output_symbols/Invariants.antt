use Rattle.std.proofs.Common.{◌≡◌, ◌++◌, map, drop}
use Rattle.blif_writer.specs.Text.{lines_text}
use Rattle.flat_net.specs.Net.{name_of}
use Rattle.aag_text.specs.Text.{symbol_lines}
use Rattle.aag_text.proofs.text.put_output_symbols.Given as goal

abbrev pub invariant-loop-k : goal.invariant-loop-k
invariant-loop-k l = l.out.items ++ lines_text (symbol_lines 111 l.k (drop l.k (map (name_of l.n.net) l.n.net.outputs))) ≡ l.fn.out.items ++ lines_text (symbol_lines 111 0 (map (name_of l.n.net) l.n.net.outputs))
