-- The values of a design's nets over cycles, with and without upsets.
use Rattle.std.specs.Prelude.{◌≡◌, ◌≢◌, ℕ, zero, suc, ◌<◌, ◌≤◌, Bool, false, ◌&&◌, nat_eq, List, [], ◌∷◌, length, map, Option, Some, None, slice_get, slice_index_or, Contains, if◌then◌else◌}
use Rattle.std.specs.Option.{unwrap_or}
use Rattle.tmr_base.specs.declared.ids.Upset.{Upset}
use Rattle.table_cover.specs.Cover.{cover_value}
use Rattle.flat_net.specs.Net.{Net, Node, Table, Register, net_count, node_of}
use Rattle.flat_net.specs.Free.{node_bit}

-- bit x of a row
abbrev pub bit : List Bool → ℕ → Bool
bit row x = slice_index_or row x false

-- row t of a list of rows
abbrev pub row_at : List (List Bool) → ℕ → List Bool
row_at rows t = slice_index_or rows t []

-- the row of the cycle before; cycle 0 has none
abbrev pub row_before : List (List Bool) → ℕ → List Bool
row_before rows zero = []
row_before rows (suc t) = row_at rows t

-- the bit of cycle t and net x
abbrev pub value_at : List (List Bool) → ℕ → ℕ → Bool
value_at rows t x = bit (row_at rows t) x

-- the start value of node x, where it is marked as free; w has one bit for each node
abbrev pub start_at : Net → List Bool → List Bool → ℕ → Option Bool
start_at n free w x = if node_bit (length n.inputs) free x then Some (node_bit (length n.inputs) w x) else None

-- what a node's own equation gives it in cycle t, where `start` is its start value if it is free, `before` are the
-- values of the cycle before and v those of this one
abbrev pub node_value : Node → Option Bool → ℕ → List Bool → List Bool → Bool
node_value (Table name cover pins) start t before v = cover_value cover (map (bit v) pins)
node_value (Register name init pin) start zero before v = unwrap_or start init
node_value (Register name init pin) start (suc t) before v = bit before pin

-- an input has the value given, and a node its own
abbrev pub net_value : Option Node → Option Bool → ℕ → List Bool → List Bool → List Bool → ℕ → Bool
net_value None start t ins before v x = bit ins x
net_value (Some node) start t ins before v x = node_value node start t before v

-- the value that some upset puts on net x in cycle t
abbrev pub upset_at : List Upset → ℕ → ℕ → Option Bool
upset_at [] t x = None
upset_at (u ∷ s) t x = if nat_eq u.cycle t && nat_eq u.net.0 x then Some u.value else upset_at s t x

-- in cycle t net x has what an upset puts there, or else what its equation gives
abbrev pub FreeEquation : Net → List Bool → List Bool → List Upset → ℕ → List Bool → List Bool → List Bool → ℕ → Type 0
FreeEquation n free w s t before ins v x = bit v x ≡ unwrap_or (upset_at s t x) (net_value (node_of n x) (start_at n free w x) t ins before v x)

-- one bit for each input in each row
abbrev pub AreRows : Net → List (List Bool) → Type 0
AreRows n ins = (t : ℕ) → t < length ins → length (row_at ins t) ≡ length n.inputs

-- each cycle is below count, each net is one of the design, and in version 1 a node, and no two name the same cycle and net
pub record IsScheduleOf (version : ℕ) (n : Net) (count : ℕ) (s : List Upset) : Type 0 where
  pub cycles : (u : Upset) → Contains s u → u.cycle < count
  pub nets : (u : Upset) → Contains s u → u.net.0 < net_count n
  pub nodes : version ≡ 1 → (u : Upset) → Contains s u → length n.inputs ≤ u.net.0
  pub differ : (j k : ℕ) (u v : Upset) → j < k → slice_get s j ≡ Some u → slice_get s k ≡ Some v → u.cycle ≡ v.cycle → u.net.0 ≢ v.net.0

-- one row of values for each row of inputs, in which each net meets its equation
pub record IsFreeFaultTrace (n : Net) (free w : List Bool) (ins : List (List Bool)) (s : List Upset) (tr : List (List Bool)) : Type 0 where
  pub long : length tr ≡ length ins
  pub wide : (t : ℕ) → t < length ins → length (row_at tr t) ≡ net_count n
  pub equations : (t x : ℕ) → t < length ins → x < net_count n → FreeEquation n free w s t (row_before tr t) (row_at ins t) (row_at tr t) x

-- a trace without upsets
abbrev pub IsFreeTrace : Net → List Bool → List Bool → List (List Bool) → List (List Bool) → Type 0
IsFreeTrace n free w ins tr = IsFreeFaultTrace n free w ins [] tr

-- the same where no initial value is free and only nodes are struck
abbrev pub Equation : Net → List Upset → ℕ → List Bool → List Bool → List Bool → ℕ → Type 0
Equation n s t before ins v x = FreeEquation n [] [] s t before ins v x

abbrev pub IsSchedule : Net → ℕ → List Upset → Type 0
IsSchedule n count s = IsScheduleOf 1 n count s

abbrev pub IsFaultTrace : Net → List (List Bool) → List Upset → List (List Bool) → Type 0
IsFaultTrace n ins s tr = IsFreeFaultTrace n [] [] ins s tr

abbrev pub IsTrace : Net → List (List Bool) → List (List Bool) → Type 0
IsTrace n ins tr = IsFaultTrace n ins [] tr

-- each bit three times
abbrev pub spread_row : List Bool → List Bool
spread_row [] = []
spread_row (b ∷ row) = b ∷ b ∷ b ∷ spread_row row

abbrev pub spread : List (List Bool) → List (List Bool)
spread ins = map spread_row ins

-- for each schedule there is exactly one trace
pub record HasOneTrace (n : Net) (free w : List Bool) (ins : List (List Bool)) (s : List Upset) : Type 0 where
  pub trace : List (List Bool)
  pub is_trace : IsFreeFaultTrace n free w ins s trace
  pub only : (tr : List (List Bool)) → IsFreeFaultTrace n free w ins s tr → tr ≡ trace

abbrev pub TracesAreUnique : Net → Type 0
TracesAreUnique n =
    (ins : List (List Bool)) → AreRows n ins → (s : List Upset) → IsSchedule n (length ins) s → HasOneTrace n [] [] ins s

-- with all start values, and schedules of either version
abbrev pub FreeTracesAreUnique : Net → List Bool → Type 0
FreeTracesAreUnique n free =
    (version : ℕ) (w : List Bool) (ins : List (List Bool)) → AreRows n ins → (s : List Upset)
    → IsScheduleOf version n (length ins) s → HasOneTrace n free w ins s
