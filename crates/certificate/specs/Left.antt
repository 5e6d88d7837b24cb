-- What is still to be written of a certificate's text. Private functions alone cite it.
use Rattle.std.specs.Prelude.{ℕ, ◌+◌, List, drop}
use Rattle.std.specs.List.{flat_map}
use Rattle.flat_net.specs.Net.{Net}
use Rattle.certificate.specs.Cert.{PlainCert}
use Rattle.certificate.specs.Text.{line_text, part_lines, node_lines, voter_lines}

-- the lines of the partitions from p on
abbrev pub parts_left : PlainCert → ℕ → List ℕ
parts_left k p = flat_map line_text (part_lines p (drop p k.depth))

-- the lines of the original nodes but the first i
abbrev pub nodes_left : Net → Net → PlainCert → ℕ → List ℕ
nodes_left n h k i = flat_map line_text (node_lines n h (k.original_inputs + i) (drop i k.part) (drop i k.copies) (drop i k.labels))

-- the voters' lines of the hardened nodes but the first j
abbrev pub voters_left : Net → Net → PlainCert → ℕ → List ℕ
voters_left n h k j = flat_map line_text (voter_lines n h (k.hardened_inputs + j) (drop j k.roles))
