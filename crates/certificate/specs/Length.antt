-- How many bytes a certificate's text has.
use Rattle.std.specs.Prelude.{ℕ, ◌+◌, length, Option, Some, None, slice_index}
use Rattle.std.specs.List.{sum_by, range_with_len}
use Rattle.std.specs.Fmt.{decimal}
use Rattle.tmr_base.specs.declared.copies.CopyNo.TheVariants.{First, Second, Third}
use Rattle.flat_net.specs.Net.{Net, name_of}
use Rattle.certificate.specs.declared.role.Role.{Role}
use Rattle.certificate.specs.declared.role.Role.TheVariants.{Copy, Voter}
use Rattle.certificate.specs.Cert.{PlainCert, depth_of, copy_of, label_of, role_of}

-- the digits of a number
abbrev pub digits : ℕ → ℕ
digits n = length (decimal n)

-- the line of partition p
abbrev pub part_length : PlainCert → ℕ → ℕ
part_length k p = 13 + digits p + digits (depth_of k p)

-- the line of original node i, counted from 0
abbrev pub node_length : Net → Net → PlainCert → ℕ → ℕ
node_length n h k i =
    let x = k.original_inputs + i in
    13 + length (name_of n x) + digits (slice_index k.part i)
    + (length (name_of h (copy_of k x First)) + length (name_of h (copy_of k x Second)) + length (name_of h (copy_of k x Third)))
    + (digits (label_of k x First) + digits (label_of k x Second) + digits (label_of k x Third))

-- the line of hardened net g, which has one where it is a voter
abbrev pub role_length : Net → Net → ℕ → Option Role → ℕ
role_length n h g None = 0
role_length n h g (Some (Copy x c)) = 0
role_length n h g (Some (Voter x p c)) = 11 + length (name_of h g) + length (name_of n x.0) + digits p.0

-- the three lines that each text has, and those of all partitions, original nodes and hardened nodes
abbrev pub cert_length : Net → Net → PlainCert → ℕ
cert_length n h k =
    21 + digits k.version + digits (length k.depth)
    + sum_by (part_length k) (range_with_len 0 (length k.depth))
    + sum_by (node_length n h k) (range_with_len 0 (length k.part))
    + sum_by (λ j. role_length n h (k.hardened_inputs + j) (role_of k (k.hardened_inputs + j))) (range_with_len 0 (length k.roles))
