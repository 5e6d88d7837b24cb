-- A sweep over sizes of partitions: what the hardened form of each size has, as a text.
use Rattle.std.specs.Prelude.{◌≡◌, ℕ, ◌+◌, ◌-◌, ◌*◌, ◌/◌, ◌^◌, ◌==◌, ◌<◌, ◌≤◌, max, List, [], ◌∷◌, map, length, codes, Some, slice_get, if◌then◌else◌}
use Rattle.std.specs.List.{flat_map}
use Rattle.std.specs.Fmt.{decimal}
use Rattle.flat_net.specs.Net.{Net, IsValid, register_count}
use Rattle.flat_net.specs.Free.{FreeDesign}
use Rattle.certificate.specs.Cert.{IsCert, Fits}
use Rattle.certificate.specs.Text.{line_text}
use Rattle.triplicate.specs.declared.form.Form.{Form}
use Rattle.triplicate.specs.declared.hardened.HardenedFree.{HardenedFree}
use Rattle.triplicate.specs.Result.{IsBoundedPair}
use Rattle.exposure.specs.Counts.{near_total}
use Rattle.sweep.specs.declared.swept.Swept.{Swept}
use Rattle.sweep.specs.Levels.{AreLevels}

-- the greatest of the numbers, or 0 where there is none
abbrev pub greatest : List ℕ → ℕ
greatest [] = 0
greatest (d ∷ ds) = max d (greatest ds)

-- one pair in the hardened form, of which all that a line tells is told
pub record IsSwept (kind : Form) (n : FreeDesign) (size version most : ℕ) (s : Swept) : Type 0 where
  pub pair : HardenedFree
  pub bounded : IsBoundedPair kind n size version most pair
  pub valid : IsValid pair.net.design.net
  pub certified : IsCert pair.cert
  pub fits : Fits n.design.net pair.net.design.net pair.cert
  pub size_is : s.size ≡ size
  pub partitions : s.partitions ≡ length pair.cert.depth
  pub voters : s.voters ≡ pair.voters
  pub depth : s.depth ≡ greatest pair.cert.depth
  pub levels : AreLevels pair.net.design.net s.levels
  pub near : s.near ≡ near_total pair.cert

-- the sizes 16, 32, 64 and so on, up to the first that is at least the number of nodes
pub record IsSweep (kind : Form) (n : FreeDesign) (version most : ℕ) (swept : List Swept) : Type 0 where
  pub some : 0 < length swept
  pub each : (i : ℕ) (s : Swept) → slice_get swept i ≡ Some s → IsSwept kind n (16 * 2 ^ i) version most s
  pub smaller : (i : ℕ) → i + 1 < length swept → 16 * 2 ^ i < length n.design.net.nodes
  pub enough : length n.design.net.nodes ≤ 16 * 2 ^ (length swept - 1)

-- so many voters in per cent of the three copies of so many nodes, rounded down
abbrev pub percent : ℕ → ℕ → ℕ
percent voters nodes = if nodes == 0 then 0 else 100 * voters / (3 * nodes)

-- `nodes N registers R levels L`
abbrev pub original_line : Net → ℕ → List (List ℕ)
original_line n levels =
    codes "nodes" ∷ decimal (length n.nodes) ∷ codes "registers" ∷ decimal (register_count n) ∷ codes "levels" ∷ decimal levels ∷ []

-- `size S partitions K voters V percent P depth D levels L near X`
abbrev pub swept_line : Net → Swept → List (List ℕ)
swept_line n s =
    codes "size" ∷ decimal s.size ∷
    codes "partitions" ∷ decimal s.partitions ∷
    codes "voters" ∷ decimal s.voters ∷
    codes "percent" ∷ decimal (percent s.voters (length n.nodes)) ∷
    codes "depth" ∷ decimal s.depth ∷
    codes "levels" ∷ decimal s.levels ∷
    codes "near" ∷ decimal s.near ∷ []

-- the line of the original, and a line for each size
abbrev pub sweep_text : Net → ℕ → List Swept → List ℕ
sweep_text n levels swept = flat_map line_text (original_line n levels ∷ map (swept_line n) swept)

-- the text of a sweep
pub record IsSweepText (kind : Form) (n : FreeDesign) (version most : ℕ) (text : List ℕ) : Type 0 where
  pub levels : ℕ
  pub swept : List Swept
  pub original : AreLevels n.design.net levels
  pub sizes : IsSweep kind n version most swept
  pub text_is : text ≡ sweep_text n.design.net levels swept
