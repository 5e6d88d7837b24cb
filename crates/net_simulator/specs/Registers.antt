-- Only private functions cite this: the registers as one list.
use Rattle.std.specs.Prelude.{◌≡◌, ℕ, ◌<◌, Bool, List, length, map, Option, Some, None, slice_index, All}
use Rattle.flat_net.specs.Net.{Net, Node, Table, Register, node_of, IsRegister}
use Rattle.net_simulator.specs.declared.registers.Held.{Held}

-- the node is a register with this initial value and this pin
abbrev pub IsHeld : Option Node → Bool → ℕ → Type 0
IsHeld None b p = ⊥
IsHeld (Some (Table name cover pins)) b p = ⊥
IsHeld (Some (Register name init pin)) b p = (init ≡ b) × (pin ≡ p)

abbrev pub Holds : Net → Held → Type 0
Holds n r = IsHeld (node_of n r.net.0) r.init r.pin.0

abbrev pub held_nets : List Held → List ℕ
held_nets rs = map (λ r. r.net.0) rs

-- registers of the design, and each of them
pub record AreRegisters (n : Net) (rs : List Held) : Type 0 where
  pub held : All (λ r. Holds n r) rs
  pub complete : (x : ℕ) → IsRegister (node_of n x) → (k : ℕ) × (k < length rs) × (slice_index (held_nets rs) k ≡ x)
