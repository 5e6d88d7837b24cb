-- Only private functions cite this: sizes that were swept, and lines that are still to be written.
use Rattle.std.specs.Prelude.{◌≡◌, ℕ, ◌+◌, ◌-◌, ◌*◌, ◌^◌, ◌<◌, List, map, drop, length, Some, slice_get}
use Rattle.std.specs.List.{flat_map}
use Rattle.flat_net.specs.Net.{Net}
use Rattle.flat_net.specs.Free.{FreeDesign}
use Rattle.certificate.specs.Text.{line_text}
use Rattle.triplicate.specs.declared.form.Form.{Form}
use Rattle.sweep.specs.declared.swept.Swept.{Swept}
use Rattle.sweep.specs.Sweep.{IsSwept, swept_line}

-- these sizes were swept, the last one of which is `size`
pub record IsSweeping (kind : Form) (n : FreeDesign) (version most : ℕ) (swept : List Swept) (size : ℕ) : Type 0 where
  pub some : 0 < length swept
  pub each : (i : ℕ) (s : Swept) → slice_get swept i ≡ Some s → IsSwept kind n (16 * 2 ^ i) version most s
  pub smaller : (i : ℕ) → i + 1 < length swept → 16 * 2 ^ i < length n.design.net.nodes
  pub last : size ≡ 16 * 2 ^ (length swept - 1)
  pub positive : 0 < size

-- the lines of the sizes from number i on
abbrev pub lines_left : Net → List Swept → ℕ → List ℕ
lines_left n swept i = flat_map line_text (map (swept_line n) (drop i swept))
