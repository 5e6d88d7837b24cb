-- What a report counts. k is the certificate of a hardened design; nodes of the original are counted from 0, in their order.
use Rattle.std.specs.Prelude.{ℕ, ◌==◌, Bool, true, false, not, ◌&&◌, length, slice_index, Option, Some, None}
use Rattle.std.specs.List.{list_any, range_with_len}
use Rattle.tmr_base.specs.Parts.{PlainParts}
use Rattle.certificate.specs.declared.role.Role.{Role}
use Rattle.certificate.specs.declared.role.Role.TheVariants.{Copy, Voter}
use Rattle.certificate.specs.Cert.{PlainCert, part_of}
use Rattle.feedback_cut.specs.Components.{PlainGroups, component_of, has_loop}
use Rattle.partitioner.specs.Below.{count_below}

-- the partitions of the original's nodes
abbrev pub partitions : PlainCert → PlainParts
partitions k = record { count = length k.depth; of = k.part }

-- the partition is this one; it is another one; it is that of the inputs
abbrev pub is_own : Option ℕ → ℕ → Bool
is_own None p = false
is_own (Some q) p = q == p

abbrev pub is_other : Option ℕ → ℕ → Bool
is_other None p = false
is_other (Some q) p = not (q == p)

abbrev pub is_of_inputs : Option ℕ → Bool
is_of_inputs None = true
is_of_inputs (Some q) = false

-- a voter of a node for another partition than its own
abbrev pub is_border_voter : PlainCert → Role → Bool
is_border_voter k (Copy x c) = false
is_border_voter k (Voter x p c) = is_other (part_of k x.0) p.0

-- a voter of a node for its own partition
abbrev pub is_feedback_voter : PlainCert → Role → Bool
is_feedback_voter k (Copy x c) = false
is_feedback_voter k (Voter x p c) = is_own (part_of k x.0) p.0

-- a voter of an input
abbrev pub is_input_voter : PlainCert → Role → Bool
is_input_voter k (Copy x c) = false
is_input_voter k (Voter x p c) = is_of_inputs (part_of k x.0)

-- how many nodes of partition p pass a test
abbrev pub count_in : PlainCert → (ℕ → Bool) → ℕ → ℕ
count_in k test p = count_below (length k.part) (λ x. slice_index k.part x == p && test x)

abbrev pub any_node : ℕ → Bool
any_node x = true

-- some node of partition p stands in component j
abbrev pub stands_in : PlainCert → PlainGroups → ℕ → ℕ → Bool
stands_in k g p j = list_any (λ x. slice_index k.part x == p && component_of g x == j) (range_with_len 0 (length k.part))

-- how many components of partition p have a loop
abbrev pub loops_in : PlainCert → PlainGroups → ℕ → ℕ
loops_in k g p = count_below (length g.loops) (λ j. has_loop g j && stands_in k g p j)
