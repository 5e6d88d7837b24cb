-- How long a certificate's lines are beside the names of the original. Copies and voters are named as hardening names them.
use Rattle.std.proofs.Common.{◌≡◌, ℕ, ◌+◌, ◌*◌, ◌<◌, ◌≤◌, length, arith, slice_index}
use Rattle.std.specs.Prelude.{Some}
use Rattle.std.proofs.lemmas.Fmt.{length-decimal-le}
use Rattle.tmr_base.specs.declared.copies.CopyNo.{CopyNo}
use Rattle.tmr_base.specs.declared.copies.CopyNo.TheVariants.{First, Second, Third}
use Rattle.flat_net.specs.Net.{Net, name_of}
use Rattle.certificate.specs.declared.role.Role.TheVariants.{Voter}
use Rattle.certificate.specs.Cert.{PlainCert, depth_of, copy_of, label_of}
use Rattle.certificate.specs.Length.{digits, part_length, node_length, role_length}

few_digits : (p : ℕ) → p < 4294967296 → digits p ≤ 10
few_digits p l = length-decimal-le 10 p (omega arith) (omega (arith, l)) (omega (arith, l))

-- a partition's line
pub part_line_short : (k : PlainCert) (p : ℕ) → p < 4294967296 → depth_of k p < 4294967296 → part_length k p ≤ 33
part_line_short k p l m = omega (arith, few_digits p l, few_digits (depth_of k p) m)

-- an original node's line, at most thirty-two times the blank and the node's name
pub node_line_short : (n h : Net) (k : PlainCert) (i : ℕ) → slice_index k.part i < 4294967296 → ((c : CopyNo) → label_of k (k.original_inputs + i) c < 4294967296) → 0 < length (name_of n (k.original_inputs + i))
    → ((c : CopyNo) → length (name_of h (copy_of k (k.original_inputs + i) c)) ≡ length (name_of n (k.original_inputs + i)) + 2) → node_length n h k i ≤ 32 * (1 + length (name_of n (k.original_inputs + i)))
node_line_short n h k i part labels some copies =
    let x = k.original_inputs + i in
    omega (arith, some, few_digits (slice_index k.part i) part, few_digits (label_of k x First) (labels First), few_digits (label_of k x Second) (labels Second), few_digits (label_of k x Third) (labels Third), copies First, copies Second, copies Third)

-- a voter's line, at most eighteen times the blank and the name of its net
pub voter_line_short : (n h : Net) (g x p : ℕ) (c : CopyNo) → p < 4294967296 → 0 < length (name_of n x) → length (name_of h g) ≤ length (name_of n x) + 13 → role_length n h g (Some (Voter (record { 0 = x }) (record { 0 = p }) c)) ≤ 18 * (1 + length (name_of n x))
voter_line_short n h g x p c l some few = omega (arith, some, few, few_digits p l)
