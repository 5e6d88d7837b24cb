-- What a schedule does, told by the values of both designs over its cycles.
use Rattle.std.specs.Prelude.{◌≡◌, ℕ, zero, suc, ◌+◌, ◌-◌, ◌*◌, ◌↔◌, Bool, true, false, not, ◌&&◌, nat_eq, nat_le, nat_lt, List, [], ◌∷◌, ◌++◌, length, take, slice_index, filter, count_by, Option, Some, None, IsTrue, if◌then◌else◌}
use Rattle.std.specs.List.{list_any}
use Rattle.tmr_base.specs.declared.copies.CopyNo.TheVariants.{First, Second, Third}
use Rattle.tmr_base.specs.declared.ids.Upset.{Upset}
use Rattle.flat_net.specs.Net.{Net}
use Rattle.net_meaning.specs.Meaning.{value_at, spread, IsFreeTrace, IsFreeFaultTrace, HasOneTrace}
use Rattle.certificate.specs.declared.role.Role.{Role}
use Rattle.certificate.specs.declared.role.Role.TheVariants.{Copy, Voter}
use Rattle.certificate.specs.Cert.{PlainCert, role_of, part_of, depth_of, copy_of}
use Rattle.certificate.specs.Schedules.{Allowed}
use Rattle.certificate.specs.Starts.{counted, spread_start}
use Rattle.schedule_replay.specs.declared.outcome.Difference.{Difference}
use Rattle.schedules.specs.Schedule.{PlainSchedule}
use Rattle.schedule_replay.specs.Starts.{given_starts}

abbrev pub bits_differ : Bool → Bool → Bool
bits_differ true b = not b
bits_differ false b = b

-- output i of the original and its three copies in cycle t
abbrev pub output_at : Net → Net → List (List Bool) → List (List Bool) → ℕ → ℕ → Difference
output_at n h tr ft t i = record {
  cycle = t;
  output = i;
  original = value_at tr t (slice_index n.outputs i);
  copies = value_at ft t (slice_index h.outputs (3 * i)) ∷ value_at ft t (slice_index h.outputs (3 * i + 1))
      ∷ value_at ft t (slice_index h.outputs (3 * i + 2)) ∷ [];
}

-- the first outputs in cycle t
abbrev pub outputs_in : Net → Net → List (List Bool) → List (List Bool) → ℕ → ℕ → List Difference
outputs_in n h tr ft t zero = []
outputs_in n h tr ft t (suc i) = outputs_in n h tr ft t i ++ output_at n h tr ft t i ∷ []

-- the outputs of the first cycles, cycle by cycle
abbrev pub outputs_until : Net → Net → List (List Bool) → List (List Bool) → ℕ → List Difference
outputs_until n h tr ft zero = []
outputs_until n h tr ft (suc t) = outputs_until n h tr ft t ++ outputs_in n h tr ft t (length n.outputs)

-- how many of the three copies differ from the original
abbrev pub count_wrong : Difference → ℕ
count_wrong d = count_by (bits_differ d.original) d.copies

-- some copy differs
abbrev pub differs : Difference → Bool
differs d = nat_lt 0 (count_wrong d)

-- fewer than two copies equal the original
abbrev pub is_wrong : Difference → Bool
is_wrong d = nat_lt 1 (count_wrong d)

-- the partition that a role belongs to
abbrev pub part_of_role : PlainCert → Option Role → Option ℕ
part_of_role k None = None
part_of_role k (Some (Copy x c)) = part_of k x.0
part_of_role k (Some (Voter x p c)) = Some p.0

abbrev pub is_that : Option ℕ → ℕ → Bool
is_that None p = false
is_that (Some q) p = nat_eq q p

-- the upset strikes partition p
abbrev pub strikes : PlainCert → ℕ → Upset → Bool
strikes k p u = is_that (part_of_role k (role_of k u.net.0)) p

-- no upset of partition p has a cycle in the window of its depth that ends at t
abbrev pub is_quiet : PlainCert → List Upset → ℕ → ℕ → Bool
is_quiet k s p t = not (list_any (λ u. strikes k p u && (nat_le (t - depth_of k p) u.cycle && nat_le u.cycle t)) s)

abbrev pub one_if : Bool → ℕ
one_if b = if b then 1 else 0

-- how many copies of original node x differ from it in cycle t
abbrev pub copies_wrong : PlainCert → List (List Bool) → List (List Bool) → ℕ → ℕ → ℕ
copies_wrong k tr ft t x =
    one_if (bits_differ (value_at tr t x) (value_at ft t (copy_of k x First)))
    + one_if (bits_differ (value_at tr t x) (value_at ft t (copy_of k x Second)))
    + one_if (bits_differ (value_at tr t x) (value_at ft t (copy_of k x Third)))

-- those that count, as their partition is quiet
abbrev pub late_at : PlainCert → List Upset → List (List Bool) → List (List Bool) → ℕ → ℕ → Option ℕ → ℕ
late_at k s tr ft t x None = 0
late_at k s tr ft t x (Some p) = if is_quiet k s p t then copies_wrong k tr ft t x else 0

-- over the first nodes in cycle t
abbrev pub late_in : Net → PlainCert → List Upset → List (List Bool) → List (List Bool) → ℕ → ℕ → ℕ
late_in n k s tr ft t zero = 0
late_in n k s tr ft t (suc i) = late_in n k s tr ft t i + late_at k s tr ft t (length n.inputs + i) (part_of k (length n.inputs + i))

-- over the first cycles
abbrev pub late_until : Net → PlainCert → List Upset → List (List Bool) → List (List Bool) → ℕ → ℕ
late_until n k s tr ft zero = 0
late_until n k s tr ft (suc t) = late_until n k s tr ft t + late_in n k s tr ft t (length n.nodes)

-- what a replay answers
pub record PlainOutcome : Type 0 where
  pub allowed : Bool
  pub first : List Difference
  pub differences : ℕ
  pub wrong : ℕ
  pub late : ℕ

-- the numbers of a list of outputs
pub record Counts (ds : List Difference) (first : List Difference) (differences wrong : ℕ) : Type 0 where
  pub first_are : first ≡ take 1000 (filter differs ds)
  pub differences_are : differences ≡ length (filter differs ds)
  pub wrong_are : wrong ≡ length (filter is_wrong ds)

-- the outcome over so many cycles with these values
pub record IsOutcome (n h : Net) (k : PlainCert) (s : List Upset) (tr ft : List (List Bool)) (cycles : ℕ) (o : PlainOutcome) : Type 0 where
  pub allowed : IsTrue o.allowed ↔ Allowed s k
  pub counts : Counts (outputs_until n h tr ft cycles) o.first o.differences o.wrong
  pub late : o.late ≡ late_until n k s tr ft cycles

-- what a replay tells: there is one trace of the original over the schedule's rows and one of the hardened design with its upsets
-- too, and the outcome is that of these two. f and g are the marks of n and h, w and u their start values.
pub record IsReplayOf (n : Net) (f w : List Bool) (h : Net) (g u : List Bool) (k : PlainCert) (s : PlainSchedule) (o : PlainOutcome) : Type 0 where
  pub original : HasOneTrace n f w s.rows []
  pub hardened : HasOneTrace h g u (spread s.rows) s.upsets
  pub outcome : (tr ft : List (List Bool)) → IsFreeTrace n f w s.rows tr → IsFreeFaultTrace h g u (spread s.rows) s.upsets ft
      → IsOutcome n h k s.upsets tr ft (length s.rows) o

-- the same with the marks that count by the certificate, where the marked registers have the schedule's start values
abbrev pub IsFreeReplay : Net → List Bool → Net → List Bool → PlainCert → PlainSchedule → PlainOutcome → Type 0
IsFreeReplay n f h g k s o = IsReplayOf n (counted k f) (given_starts k f s) h (counted k g) (spread_start k (given_starts k f s)) k s o
