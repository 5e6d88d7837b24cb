-- A certificate: what each hardened node is for.
use Rattle.std.specs.Prelude.{◌≡◌, ℕ, ◌+◌, ◌*◌, ◌<◌, ◌≤◌, ◌^◌, ◌⊎◌, List, length, Option, Some, None, slice_index, All}
use Rattle.tmr_base.specs.declared.copies.CopyNo.{CopyNo}
use Rattle.certificate.specs.declared.role.Role.{Role}
use Rattle.certificate.specs.declared.role.Role.TheVariants.{Copy, Voter}
use Rattle.tmr_base.specs.Copies.{Three, of_copy, copy_number}
use Rattle.flat_net.specs.Net.{Net, slot}

-- the version, which is 1 or 2; input counts of both designs; the depth of each partition; for each original node its
-- partition, its three copies and their labels; for each hardened node its role
pub record PlainCert : Type 0 where
  pub version : ℕ
  pub original_inputs : ℕ
  pub hardened_inputs : ℕ
  pub depth : List ℕ
  pub part : List ℕ
  pub copies : List Three
  pub labels : List Three
  pub roles : List Role

-- the role of hardened net h; an input has none
abbrev pub role_of : PlainCert → ℕ → Option Role
role_of k h = slot k.hardened_inputs k.roles h

-- the partition of original net x; the inputs are one of their own, None
abbrev pub part_of : PlainCert → ℕ → Option ℕ
part_of k x = slot k.original_inputs k.part x

abbrev pub depth_of : PlainCert → ℕ → ℕ
depth_of k p = slice_index k.depth p

-- the depth of a partition; that of the inputs has 0
abbrev pub part_depth : PlainCert → Option ℕ → ℕ
part_depth k None = 0
part_depth k (Some p) = depth_of k p

-- hardened net h is copy c of input i
abbrev pub IsInputCopy : PlainCert → ℕ → ℕ → CopyNo → Type 0
IsInputCopy k h i c = (i < k.original_inputs) × (h < k.hardened_inputs) × (h ≡ 3 * i + copy_number c)

-- the net that a triple names, or the input's copy
abbrev pub three_or_input : Option Three → ℕ → CopyNo → ℕ
three_or_input None x c = 3 * x + copy_number c
three_or_input (Some t) x c = of_copy t c

-- copy c of original net x
abbrev pub copy_of : PlainCert → ℕ → CopyNo → ℕ
copy_of k x c = three_or_input (slot k.original_inputs k.copies x) x c

abbrev pub three_or_zero : Option Three → CopyNo → ℕ
three_or_zero None c = 0
three_or_zero (Some t) c = of_copy t c

-- the label of copy c of original node x
abbrev pub label_of : PlainCert → ℕ → CopyNo → ℕ
label_of k x c = three_or_zero (slot k.original_inputs k.labels x) c

-- a copy counts its label, and an input or a voter 0
abbrev pub role_count : PlainCert → Option Role → ℕ
role_count k None = 0
role_count k (Some (Copy x c)) = label_of k x.0 c
role_count k (Some (Voter x p c)) = 0

abbrev pub count_of : PlainCert → ℕ → ℕ
count_of k h = role_count k (role_of k h)

-- what a role names is in range, and in version 1 no voter is of an input
abbrev pub RoleIsInRange : PlainCert → Role → Type 0
RoleIsInRange k (Copy x c) = (k.original_inputs ≤ x.0) × (x.0 < k.original_inputs + length k.part)
RoleIsInRange k (Voter x p c) = (k.version ≡ 1 → k.original_inputs ≤ x.0) × (x.0 < k.original_inputs + length k.part) × (p.0 < length k.depth)

-- what each certificate keeps
pub record IsCert (k : PlainCert) : Type 0 where
  pub known_version : (k.version ≡ 1) ⊎ (k.version ≡ 2)
  pub few_parts : length k.depth ≤ 4294967295
  pub few_original : k.original_inputs + length k.part < 4294967295
  pub few_hardened : k.hardened_inputs + length k.roles < 4294967295
  pub small_depths : All (λ d. d < 2 ^ 32) k.depth
  pub small_labels : All (λ t. (t.first < 2 ^ 32) × (t.second < 2 ^ 32) × (t.third < 2 ^ 32)) k.labels
  pub parts_in_range : All (λ p. p < length k.depth) k.part
  pub copies_long : length k.copies ≡ length k.part
  pub labels_long : length k.labels ≡ length k.part
  pub roles_in_range : (h : ℕ) (r : Role) → role_of k h ≡ Some r → RoleIsInRange k r
  pub copies_have_roles : (x : ℕ) (c : CopyNo) → k.original_inputs ≤ x → x < k.original_inputs + length k.part
      → role_of k (copy_of k x c) ≡ Some (Copy (record { 0 = x }) c)
  pub roles_are_copies : (h : ℕ) (x : ℕ) (c : CopyNo) → role_of k h ≡ Some (Copy (record { 0 = x }) c) → copy_of k x c ≡ h

-- the certificate counts the inputs and nodes of both designs
pub record Fits (n h : Net) (k : PlainCert) : Type 0 where
  pub original_inputs : k.original_inputs ≡ length n.inputs
  pub original_nodes : length k.part ≡ length n.nodes
  pub hardened_inputs : k.hardened_inputs ≡ length h.inputs
  pub hardened_nodes : length k.roles ≡ length h.nodes
