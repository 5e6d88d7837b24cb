-- How many nets each copy of a partition has, and how many pairs of strikes are too near. k is the certificate of a hardened design.
use Rattle.std.specs.Prelude.{ℕ, ◌+◌, ◌*◌, ◌==◌, Bool, false, ◌&&◌, count_by, sum_by, length, Option, Some, None, if◌then◌else◌}
use Rattle.std.specs.List.{range_with_len}
use Rattle.tmr_base.specs.declared.copies.CopyNo.{CopyNo}
use Rattle.tmr_base.specs.declared.copies.CopyNo.TheVariants.{First, Second, Third}
use Rattle.tmr_base.specs.Copies.{copy_number}
use Rattle.certificate.specs.declared.role.Role.{Role}
use Rattle.certificate.specs.declared.role.Role.TheVariants.{Copy, Voter}
use Rattle.certificate.specs.Cert.{PlainCert, part_of, depth_of}

-- the partition that a hardened node belongs to: a copy to its node's, and a voter to the one that it votes for
abbrev pub role_part : PlainCert → Role → Option ℕ
role_part k (Copy x c) = part_of k x.0
role_part k (Voter x p c) = Some p.0

-- the copy that a hardened node is, or gives
abbrev pub role_copy : Role → CopyNo
role_copy (Copy x c) = c
role_copy (Voter x p c) = c

abbrev pub is_same_part : Option ℕ → ℕ → Bool
is_same_part None p = false
is_same_part (Some q) p = q == p

-- a node of this role belongs to partition p and copy c
abbrev pub is_of : PlainCert → ℕ → CopyNo → Role → Bool
is_of k p c r = is_same_part (role_part k r) p && copy_number (role_copy r) == copy_number c

-- how many hardened nodes belong to partition p and copy c
abbrev pub copy_count : PlainCert → ℕ → CopyNo → ℕ
copy_count k p c = count_by (is_of k p c) k.roles

-- how many pairs of nets and distances of cycles from -d to d are too near, where the three copies of a partition of depth d have so many
-- nets: pairs of nets of different copies, times 2 d + 1
abbrev pub near_of : ℕ → ℕ → ℕ → ℕ → ℕ
near_of first second third d = (first * second + first * third + second * third) * (2 * d + 1)

-- the same for partition p
abbrev pub near_in : PlainCert → ℕ → ℕ
near_in k p = near_of (copy_count k p First) (copy_count k p Second) (copy_count k p Third) (depth_of k p)

-- the same for the inputs, each of which has three copies. In version 1 they are not upset
abbrev pub near_inputs : PlainCert → ℕ
near_inputs k = if k.version == 1 then 0 else near_of k.original_inputs k.original_inputs k.original_inputs 0

-- all of them
abbrev pub near_total : PlainCert → ℕ
near_total k = near_inputs k + sum_by (near_in k) (range_with_len 0 (length k.depth))
