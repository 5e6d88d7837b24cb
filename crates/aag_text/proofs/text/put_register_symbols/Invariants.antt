use Rattle.std.proofs.Common.{◌≡◌, ◌≤◌, ◌+◌, ◌++◌, length, map, drop}
use Rattle.blif_writer.specs.Text.{lines_text}
use Rattle.flat_net.specs.Net.{name_of}
use Rattle.aag_text.specs.Same.{registers, registers_from}
use Rattle.aag_text.specs.Text.{symbol_lines}
use Rattle.aag_text.proofs.text.put_register_symbols.Given as goal

abbrev pub invariant-loop-i : goal.invariant-loop-i
invariant-loop-i l = record {
  same : l.out.items ++ lines_text (symbol_lines 108 l.j (map (name_of l.n.net) (registers_from (length l.n.net.inputs + l.i) (drop l.i l.n.net.nodes)))) ≡ l.fn.out.items ++ lines_text (symbol_lines 108 0 (map (name_of l.n.net) (registers l.n.net)));
  bound : l.j ≤ l.i;
}
