-- Start values of registers whose initial value is left free.
use Rattle.std.specs.Prelude.{◌≡◌, ℕ, zero, suc, ◌<◌, Bool, true, false, List, [], ◌∷◌, length, nat_eq, Option, Some, None, if◌then◌else◌}
use Rattle.tmr_base.specs.declared.ids.NetId.{NetId}
use Rattle.flat_net.specs.Net.{Net, net_count, node_of, IsInitOf}
use Rattle.flat_net.specs.Free.{node_bit}
use Rattle.net_meaning.specs.Meaning.{start_at}
use Rattle.certificate.specs.Cert.{PlainCert}
use Rattle.certificate.specs.Starts.{counted}
use Rattle.schedules.specs.Schedule.{PlainSchedule}

-- one bit for each node: the start values at the marked nodes, in order, and false elsewhere
abbrev pub placed_starts : List Bool → List Bool → List Bool
placed_starts [] starts = []
placed_starts (false ∷ marks) starts = false ∷ placed_starts marks starts
placed_starts (true ∷ marks) [] = false ∷ placed_starts marks []
placed_starts (true ∷ marks) (b ∷ starts) = b ∷ placed_starts marks starts

-- the start values that a schedule gives to the marked registers of the original, as far as marks count by the certificate
abbrev pub given_starts : PlainCert → List Bool → PlainSchedule → List Bool
given_starts k free s = placed_starts (counted k free) s.starts

-- what private functions alone cite

-- what the first pair with net x forces on it; None where no pair names it
abbrev pub forced_to : List (NetId × Bool) → ℕ → Option Bool
forced_to [] x = None
forced_to (f ∷ rest) x = if nat_eq f.0.0 x then Some f.1 else forced_to rest x

abbrev pub or_else : Option Bool → Option Bool → Option Bool
or_else None o = o
or_else (Some b) o = Some b

-- start values count in cycle 0 alone
abbrev pub start_in : ℕ → Option Bool → Option Bool
start_in zero o = o
start_in (suc t) o = None

-- marked are only registers
abbrev pub MarksRegisters : Net → List Bool → Type 0
MarksRegisters n free = (x : ℕ) → node_bit (length n.inputs) free x ≡ true → IsInitOf (node_of n x) false

-- these pairs give the marked registers their start values, and nothing else, as far as cycle t goes
abbrev pub AreStarts : Net → List Bool → List Bool → ℕ → List (NetId × Bool) → Type 0
AreStarts n free w t starts = (x : ℕ) → x < net_count n → forced_to starts x ≡ start_in t (start_at n free w x)
