-- Only private functions cite this: nets of a hardened design beside those that they stand for.
use Rattle.std.specs.Prelude.{◌≡◌, ℕ, ◌<◌, ◌≤◌, Bool, List, None, length, slice_index, IsSomeAnd}
use Rattle.tmr_base.specs.declared.copies.CopyNo.{CopyNo}
use Rattle.tmr_base.specs.declared.ids.NetId.{NetId}
use Rattle.flat_net.specs.Net.{Net, net_count, node_of, IsTable}
use Rattle.certificate.specs.Cert.{PlainCert, copy_of}
use Rattle.certificate.specs.declared.role.Role.{Role}
use Rattle.certificate.specs.declared.role.Role.TheVariants.{Copy, Voter}
use Rattle.net_simulator.specs.Cycle.{WideRun}
use Rattle.net_simulator.specs.Twins.{TwinRun, AreWordsBut}
use Rattle.schedule_replay.specs.Starts.{forced_to}

-- the net of which a role is a copy, or the voter
abbrev pub role_net : Role → ℕ
role_net (Copy x c) = x.0
role_net (Voter x p c) = x.0

-- each copy of a node stands for it
abbrev pub CopiesStandFor : Net → PlainCert → List ℕ → Type 0
CopiesStandFor n k origins = (x : ℕ) (d : CopyNo) → length n.inputs ≤ x → x < net_count n → slice_index origins (copy_of k x d) ≡ x

-- the hardened design runs beside the original
pub record RunsBeside (n h : Net) (k : PlainCert) (hardened : TwinRun) : Type 0 where
  pub original : hardened.original ≡ n
  pub long : length hardened.origins ≡ net_count h
  pub copies : CopiesStandFor n k hardened.origins

-- of the last cycle it is known which nets have the words of those that they stand for
abbrev pub IsCompared : WideRun → TwinRun → Type 0
IsCompared original hardened = IsSomeAnd original.last (λ own. IsSomeAnd hardened.last (λ words. AreWordsBut hardened.differing hardened.origins own words))

-- no table begins with a start value
abbrev pub NamesNoTable : Net → List (NetId × Bool) → Type 0
NamesNoTable n starts = (x : ℕ) → IsTable (node_of n x) → forced_to starts x ≡ None
