-- The guarded design: each net twice, a comparator for each output, and an alarm.
use Rattle.std.specs.Prelude.{ℕ, zero, suc, ◌+◌, ◌*◌, true, false, List, [], ◌∷◌, ◌++◌, length, map, replicate, codes}
use Rattle.std.specs.List.{flat_map, range_with_len}
use Rattle.std.specs.Option.{option_map}
use Rattle.tmr_base.specs.Names.{clock_text}
use Rattle.table_cover.specs.Cover.{PlainCover}
use Rattle.flat_net.specs.Net.{Net, Node, Table, Register, net_count, name_of}

-- the net number of copy c, 0 or 1, of net x
abbrev pub twin : ℕ → ℕ → ℕ
twin c x = 2 * x + c

-- copy c of net x is named `x~0` or `x~1`
abbrev pub twin_text : List ℕ → ℕ → List ℕ
twin_text x c = x ++ 126 ∷ (48 + c) ∷ []

-- one for copy 0, and one for copy 1
abbrev pub twofold : {A : Type 0} → (ℕ → A) → List A
twofold f = f 0 ∷ f 1 ∷ []

-- copy c of a node reads copies c
abbrev pub node_twin : Node → ℕ → Node
node_twin (Table name cover pins) c = Table (twin_text name c) cover (map (twin c) pins)
node_twin (Register name init pin) c = Register (twin_text name c) init (twin c pin)

-- on where two bits differ: `10 1`, `01 1`
abbrev pub differ_cover : PlainCover
differ_cover = record { width = 2; is_on = true; rows = codes "10" ∷ codes "01" ∷ [] }

-- the comparator `y~e` reads the two copies of net y
abbrev pub comparator : Net → ℕ → Node
comparator n y = Table (name_of n y ++ codes "~e") differ_cover (twofold (λ c. twin c y))

-- off where all of so many bits are off: the row of zeros with output `0`; for no bits there are no rows
abbrev pub any_cover : ℕ → PlainCover
any_cover zero = record { width = 0; is_on = true; rows = [] }
any_cover (suc count) = record { width = suc count; is_on = false; rows = replicate (suc count) 48 ∷ [] }

-- `alarm~z` reads all comparators, whose numbers come behind those of all copies
abbrev pub alarm : Net → Node
alarm n = Table (codes "alarm~z") (any_cover (length n.outputs)) (range_with_len (2 * net_count n) (length n.outputs))

-- the net number of the alarm
abbrev pub alarm_net : Net → ℕ
alarm_net n = 2 * net_count n + length n.outputs

-- the guarded design: the copies of all nodes, then the comparators of all outputs in their order, then the alarm. Behind the
-- two copies of each output the alarm is the last one
unfoldable pub guard_net : Net → Net
guard_net n = record {
  model = n.model;
  inputs = flat_map (λ name. twofold (twin_text name)) n.inputs;
  nodes = flat_map (λ node. twofold (node_twin node)) n.nodes ++ (map (comparator n) n.outputs ++ alarm n ∷ []);
  outputs = flat_map (λ y. twofold (λ c. twin c y)) n.outputs ++ alarm_net n ∷ [];
  clock = option_map (λ c. (c.0, clock_text c.1)) n.clock;
}
