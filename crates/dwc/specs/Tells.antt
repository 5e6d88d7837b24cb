-- What the guarded design promises: its alarm tells when the two copies of an output differ.
use Rattle.std.specs.Prelude.{◌≡◌, ◌≢◌, ◌↔◌, ℕ, ◌+◌, ◌*◌, ◌<◌, ◌≤◌, Bool, true, false, List, [], ◌∷◌}
use Rattle.std.specs.Prelude.{length, map, slice_index, Contains}
use Rattle.tmr_base.specs.declared.ids.Upset.{Upset}
use Rattle.flat_net.specs.Net.{Net, net_count}
use Rattle.net_meaning.specs.Meaning.{value_at, AreRows, IsSchedule, IsTrace, IsFaultTrace}
use Rattle.dwc.specs.Guard.{twin}

-- each bit twice
abbrev pub twice : List Bool → List Bool
twice [] = []
twice (b ∷ row) = b ∷ b ∷ twice row

-- all upsets strike copies c of nodes: no comparator, no alarm and no input is struck
abbrev pub StrikesOne : Net → ℕ → List Upset → Type 0
StrikesOne n c s = (u : Upset) → Contains s u → (x : ℕ) × (length n.inputs ≤ x) × (x < net_count n) × (u.net.0 ≡ twin c x)

-- the value of copy c of output k in cycle t
abbrev pub copy_value : Net → List (List Bool) → ℕ → ℕ → ℕ → Bool
copy_value g ft t k c = value_at ft t (slice_index g.outputs (2 * k + c))

-- the value of the alarm, the output behind the copies of all outputs, in cycle t
abbrev pub alarm_value : Net → Net → List (List Bool) → ℕ → Bool
alarm_value n g ft t = value_at ft t (slice_index g.outputs (2 * length n.outputs))

-- the two copies of some output differ in cycle t
abbrev pub SomeDiffer : Net → Net → List (List Bool) → ℕ → Type 0
SomeDiffer n g ft t = (k : ℕ) × (k < length n.outputs) × (copy_value g ft t k 0 ≢ copy_value g ft t k 1)

-- the alarm is on exactly where the two copies of some output differ; where it is off, both copies of each output have the
-- original's value
pub record TellsInCycle (n g : Net) (tr ft : List (List Bool)) (t : ℕ) : Type 0 where
  pub alarmed : (alarm_value n g ft t ≡ true) ↔ SomeDiffer n g ft t
  pub right : alarm_value n g ft t ≡ false → (k c : ℕ) → k < length n.outputs → c < 2
      → copy_value g ft t k c ≡ value_at tr t (slice_index n.outputs k)

-- for all inputs, and all upsets that strike copies of one number alone, in each cycle the alarm tells whether they reach an output
abbrev pub Guards : Net → Net → Type 0
Guards n g =
    (ins tr ft : List (List Bool)) (s : List Upset) (c : ℕ) → AreRows n ins → IsTrace n ins tr → IsSchedule g (length ins) s → c < 2 →
    StrikesOne n c s → IsFaultTrace g (map twice ins) s ft → (t : ℕ) → t < length ins → TellsInCycle n g tr ft t
