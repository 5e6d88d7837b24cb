-- Whether the flat text of a design keeps a limit.
use Rattle.std.specs.Prelude.{ℕ, Bool, nat_le, length}
use Rattle.flat_net.specs.Free.{FreeDesign}
use Rattle.blif_writer.specs.Text.{free_text}

unfoldable pub is_small : FreeDesign → ℕ → Bool
is_small n limit = nat_le (length (free_text n.design.net n.free)) limit
