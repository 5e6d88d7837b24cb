-- What is read, without where it lies in memory. Private functions alone cite it.
use Rattle.std.specs.Prelude.{◌≡◌, ℕ, ◌<◌, ◌≤◌, List, map, length}
use Rattle.tmr_base.specs.Copies.{Three}
use Rattle.flat_net.specs.Net.{Net, net_count}
use Rattle.std.specs.Borrow.{Bor}
use Rattle.certificate.specs.declared.line_kinds.NodeLine as declared
use Rattle.certificate.specs.Threes.{three_of, three_ids}
use Rattle.certificate.specs.Folding.{NodeLine}

-- the bytes of a word
abbrev pub text : Bor (List ℕ) → List ℕ
text w = w.now

-- the bytes of each word
abbrev pub texts : List (Bor (List ℕ)) → List (List ℕ)
texts ws = map text ws

-- a node's line, as numbers
abbrev pub plain_line : declared.NodeLine → NodeLine
plain_line l = record { part = l.part; copies = three_ids l.copies; labels = three_of l.labels }

-- the number of a node, which no input has
abbrev pub IsNode : Net → ℕ → Type 0
IsNode n x = (length n.inputs ≤ x) × (x < net_count n)

-- the number of a net of which there may be voters: in version 1 that of a node
abbrev pub IsVoted : ℕ → Net → ℕ → Type 0
IsVoted version n x = (version ≡ 1 → length n.inputs ≤ x) × (x < net_count n)

-- three nodes of a design
abbrev pub AreNodes : Net → Three → Type 0
AreNodes n t = IsNode n t.first × IsNode n t.second × IsNode n t.third
