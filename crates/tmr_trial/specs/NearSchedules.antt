-- The schedule of pairs of upsets that a number gives for a hardened design: the two of a pair strike two copies of one partition exactly its depth apart,
-- the largest distance that the certificate forbids. k is the certificate.
use Rattle.std.specs.Prelude.{◌≡◌, ◌≢◌, ℕ, zero, suc, ◌+◌, ◌==◌, ◌&&◌, nat_lt, Bool, false, List, [], ◌∷◌, ◌++◌, map, length, slice_get, All, Option, Some, None, if◌then◌else◌}
use Rattle.std.specs.List.{range_with_len, filter, flat_map, list_all}
use Rattle.tmr_base.specs.declared.copies.CopyNo.{CopyNo}
use Rattle.tmr_base.specs.declared.copies.CopyNo.TheVariants.{First, Second, Third}
use Rattle.tmr_base.specs.declared.ids.Upset.{Upset}
use Rattle.tmr_base.specs.Copies.{copy_number}
use Rattle.flat_net.specs.Net.{Net}
use Rattle.certificate.specs.declared.role.Role.{Role}
use Rattle.certificate.specs.declared.role.Role.TheVariants.{Copy, Voter}
use Rattle.certificate.specs.Cert.{PlainCert, role_of, part_of, depth_of, part_depth}
use Rattle.certificate.specs.Schedules.{IsIn}
use Rattle.schedules.specs.Schedule.{PlainSchedule}
use Rattle.tmr_trial.specs.declared.near_pairs.NearPair.{NearPair}
use Rattle.tmr_trial.specs.Numbers.{state_after, draw}
use Rattle.tmr_trial.specs.Schedules.{state_before, row_drawn}

-- the two upsets strike two copies of one partition, and the second one comes exactly the partition's depth behind the first one
pub record IsTooNear (k : PlainCert) (q : NearPair) : Type 0 where
  pub part : ℕ
  pub copy : CopyNo
  pub other : CopyNo
  pub first_in : IsIn k q.first.net.0 (Some part) copy
  pub second_in : IsIn k q.second.net.0 (Some part) other
  pub differ : copy ≢ other
  pub apart : q.second.cycle ≡ q.first.cycle + depth_of k part

-- the partition and the copy that a hardened node of this role belongs to
abbrev pub role_part : PlainCert → Role → Option ℕ
role_part k (Copy x c) = part_of k x.0
role_part k (Voter x p c) = Some p.0

abbrev pub role_copy : Role → CopyNo
role_copy (Copy x c) = c
role_copy (Voter x p c) = c

abbrev pub is_part : Option ℕ → ℕ → Bool
is_part None p = false
is_part (Some q) p = q == p

-- a node of this role belongs to partition p and copy c
abbrev pub is_of : PlainCert → ℕ → CopyNo → Option Role → Bool
is_of k p c None = false
is_of k p c (Some r) = is_part (role_part k r) p && copy_number (role_copy r) == copy_number c

-- those of the first hardened nodes that belong to partition p and copy c, in order
abbrev pub nodes_among : PlainCert → ℕ → ℕ → CopyNo → List ℕ
nodes_among k count p c = filter (λ x. is_of k p c (role_of k x)) (range_with_len k.hardened_inputs count)

-- the hardened nodes of partition p and copy c, in order
abbrev pub nodes_of : PlainCert → Option ℕ → CopyNo → List ℕ
nodes_of k None c = []
nodes_of k (Some p) c = nodes_among k (length k.roles) p c

-- one of the two other copies: the higher one, or the lower one
abbrev pub other_copy : CopyNo → Bool → CopyNo
other_copy First higher = if higher then Third else Second
other_copy Second higher = if higher then Third else First
other_copy Third higher = if higher then Second else First

-- the pair of this first upset and one of this node in this later cycle; there is none where there is no such node, or no such cycle
abbrev pub pair_with : ℕ → Upset → ℕ → Bool → Option ℕ → Option NearPair
pair_with cycles first later value None = None
pair_with cycles first later value (Some y) =
    if nat_lt later cycles
    then Some (record { first = first; second = record { cycle = later; net = record { 0 = y }; value = value } })
    else None

-- the pair whose first upset strikes a node of this role, drawn behind state s: which of the other copies, the second value, and which of its nodes
abbrev pub pair_behind : PlainCert → ℕ → ℕ → Upset → Option Role → Option NearPair
pair_behind k cycles s first None = None
pair_behind k cycles s first (Some r) =
    pair_with cycles first (first.cycle + part_depth k (role_part k r)) (draw s 3 2 == 1)
    (slice_get (nodes_of k (role_part k r) (other_copy (role_copy r) (draw s 1 2 == 1)))
    (draw s 4 (length (nodes_of k (role_part k r) (other_copy (role_copy r) (draw s 1 2 == 1))))))

-- the first upset of the pair that cycle t draws behind state s: any hardened node, and its value
abbrev pub first_drawn : Net → ℕ → ℕ → Upset
first_drawn h t s = record { cycle = t; net = record { 0 = length h.inputs + draw s 0 (length h.nodes) }; value = draw s 2 2 == 1 }

-- the pair that cycle t draws behind state s
unfoldable pub pair_drawn : Net → PlainCert → ℕ → ℕ → ℕ → Option NearPair
pair_drawn h k cycles t s = pair_behind k cycles s (first_drawn h t s) (role_of k (first_drawn h t s).net.0)

-- a pair is added where each earlier one has ended before it begins
abbrev pub with_pair : List NearPair → Option NearPair → List NearPair
with_pair before None = before
with_pair before (Some q) = if list_all (λ r. nat_lt r.second.cycle q.first.cycle) before then before ++ q ∷ [] else before

-- the state before the five numbers of cycle t, where s is that before the first
unfoldable pub pair_state : ℕ → ℕ → ℕ
pair_state s zero = s
pair_state s (suc t) = state_after 5 (pair_state s t)

-- the pairs that the first t cycles draw
unfoldable pub pairs_until : Net → PlainCert → ℕ → ℕ → ℕ → List NearPair
pairs_until h k cycles s zero = []
pairs_until h k cycles s (suc t) = with_pair (pairs_until h k cycles s t) (pair_drawn h k cycles t (pair_state s t))

-- both upsets are in one cycle, and the second one strikes the lower net
abbrev pub is_turned : NearPair → Bool
is_turned q = q.first.cycle == q.second.cycle && nat_lt q.second.net.0 q.first.net.0

-- the upsets of a pair in a schedule's order
abbrev pub pair_upsets : NearPair → List Upset
pair_upsets q = if is_turned q then q.second ∷ q.first ∷ [] else q.first ∷ q.second ∷ []

-- the schedule of so many cycles that is drawn from this number: the rows of the trial's schedule of that number, and behind all of them the pairs, each
-- of which is too near
pub record IsNearSchedule (number : ℕ) (n h : Net) (k : PlainCert) (cycles : ℕ) (s : PlainSchedule) : Type 0 where
  pub inputs : s.inputs ≡ length n.inputs
  pub starts : s.starts ≡ []
  pub rows : s.rows ≡ map (λ t. row_drawn (length n.inputs) (state_before n h number t)) (range_with_len 0 cycles)
  pub pairs : List NearPair
  pub pairs_are : pairs ≡ pairs_until h k cycles (state_before n h number cycles) cycles
  pub upsets : s.upsets ≡ flat_map pair_upsets pairs
  pub near : All (IsTooNear k) pairs
