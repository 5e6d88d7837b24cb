-- Only private functions cite this: the lines of a node's copies, as they are put together.
use Rattle.std.specs.Prelude.{◌≡◌, ℕ, ◌<◌, List, ◌∷◌, ◌++◌, length}
use Rattle.tmr_base.specs.declared.copies.CopyNo.{CopyNo}
use Rattle.tmr_base.specs.Names.{copy_text}
use Rattle.flat_net.specs.Net.{net_count, name_of, node_of, pins_at}
use Rattle.blif_writer.specs.Left.{spaced}
use Rattle.hardened_text.specs.declared.copies.Pieces.{Pieces}
use Rattle.hardened_text.specs.Private.Spelled.{pins_spelled}

-- they are of a net of the design, and tell of each of its pins whether it is voted
pub record ArePieces (t : Pieces) : Type 0 where
  pub within : t.node.0 < net_count t.net.now.net
  pub votes : length t.votes.now ≡ length (pins_at (node_of t.net.now.net t.node.0))

-- what copy c reads
abbrev pub pins_of : Pieces → CopyNo → List (List ℕ)
pins_of t c = pins_spelled t.net.now.net t.digits.now t.votes.now t.node.0 c

-- the lines of copy c
abbrev pub copy_spelled : Pieces → CopyNo → List ℕ
copy_spelled t c = t.word.now ++ (spaced (pins_of t c) ++ 32 ∷ (copy_text (name_of t.net.now.net t.node.0) c ++ t.ending.now))
