-- One cycle of a design in which some nets are forced.
use Rattle.std.specs.Prelude.{◌≡◌, ℕ, ◌<◌, Bool, List, [], ◌∷◌, length, Option, Some, None, ◌&&◌, nat_eq, if◌then◌else◌}
use Rattle.tmr_base.specs.declared.ids.NetId.{NetId}
use Rattle.table_cover.specs.Words.{word_bit}
use Rattle.flat_net.specs.Net.{Net, net_count, node_of}
use Rattle.net_meaning.specs.Meaning.{bit}
use Rattle.net_simulator.specs.Forced.{forced_value}

-- the number of the cycle behind these values, as far as equations ask: the first has 0, and each later one counts as 1
abbrev pub cycle_after : Option (List Bool) → ℕ
cycle_after None = 0
cycle_after (Some before) = 1

-- the values of the cycle before, if there was one
abbrev pub values_of : Option (List Bool) → List Bool
values_of None = []
values_of (Some before) = before

-- v are the values of the cycle behind `last`: one for each net, which is what is forced on it, or else what its equation gives
pub record IsCycle (n : Net) (last : Option (List Bool)) (ins : List Bool) (forced : ℕ → Option Bool) (v : List Bool) : Type 0 where
  pub wide : length v ≡ net_count n
  pub equations : (x : ℕ) → x < net_count n → bit v x ≡ forced_value (node_of n x) (forced x) (cycle_after last) ins (values_of last) v x

-- what the first triple with net x forces on it in run j; None where no triple names it there. A triple is a net, a word of the runs in
-- which it is forced, and a word of its values there.
abbrev pub forced_in : ℕ → List (NetId × ℕ × ℕ) → ℕ → Option Bool
forced_in j [] x = None
forced_in j (f ∷ rest) x = if nat_eq f.0.0 x && word_bit j f.1 then Some (word_bit j f.2) else forced_in j rest x

-- a simulator of 64 runs: its design, and a word for each net in the last cycle, if there was one; bit j belongs to run j
pub record WideRun : Type 0 where
  pub net : Net
  pub last : Option (List ℕ)
