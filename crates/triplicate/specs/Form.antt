-- The hardened form: what a hardened design and its certificate are, for an original design and a size of partitions.
use Rattle.std.specs.Prelude.{◌≡◌, ℕ, ◌+◌, ◌<◌, ◌≤◌, ◌⊎◌, Bool, true, false, nat_eq, List, [], ◌∷◌, length, map, codes, slice_index, Option, Some, None}
use Rattle.std.specs.List.{flat_map}
use Rattle.tmr_base.specs.declared.copies.CopyNo.{CopyNo}
use Rattle.tmr_base.specs.declared.copies.CopyNo.TheVariants.{First}
use Rattle.tmr_base.specs.Copies.{Three}
use Rattle.tmr_base.specs.Parts.{PlainParts}
use Rattle.table_cover.specs.Cover.{PlainCover}
use Rattle.flat_net.specs.Net.{Net, node_of, node_name, pins_at, IsCoverOf}
use Rattle.certificate.specs.declared.role.Role.{Role}
use Rattle.certificate.specs.declared.role.Role.TheVariants.{Copy, Voter}
use Rattle.certificate.specs.Cert.{PlainCert, Fits, role_of, part_of, depth_of, copy_of, label_of}
use Rattle.certificate.specs.Rules.{AllHold, Rule6, Rule7}
use Rattle.certificate.specs.Starts.{spread_start, counted}
use Rattle.feedback_cut.specs.Inner.{node_pins}
use Rattle.recovery_depth.specs.Walks.{IsReach}
use Rattle.recovery_depth.specs.Chains.{relabeled}
use Rattle.recovery_depth.specs.Extra.{PlainExtra, is_extra, AreExtra}
use Rattle.recovery_depth.specs.Hardened.{role_at, ReadsCopy, own_original}
use Rattle.triplicate.specs.declared.form.Form.{Form}
use Rattle.triplicate.specs.declared.form.Form.TheVariants.{Plain}
use Rattle.triplicate.specs.Choices.{ArePartsOf}
use Rattle.triplicate.specs.Voting.{VotesFor, none_extra}
use Rattle.triplicate.specs.Blocks.{threefold, hardened_roles, role_name, hardened_inputs, hardened_clock}

-- the partitions that a certificate speaks of
abbrev pub parts_of : PlainCert → PlainParts
parts_of k = record { count = length k.depth; of = k.part }

abbrev pub is_voter : Option Role → Bool
is_voter None = false
is_voter (Some (Copy x c)) = false
is_voter (Some (Voter x p c)) = true

-- pin j of copy c of node y, counted from 0, reads a voter
abbrev pub reads_voter : Net → Net → PlainCert → CopyNo → ℕ → ℕ → Bool
reads_voter n h k c y j = is_voter (role_of k (slice_index (pins_at (node_of h (copy_of k (length n.inputs + y) c))) j))

-- a pin is voted where the same pin of its reader's first copy reads a voter
abbrev pub is_voted : Net → Net → PlainCert → ℕ → ℕ → Bool
is_voted n h k = reads_voter n h k First

-- the majority of three: `11- 1`, `1-1 1`, `-11 1`
abbrev pub majority_cover : PlainCover
majority_cover = record { width = 3; is_on = true; rows = codes "11-" ∷ codes "1-1" ∷ codes "-11" ∷ [] }

-- what hardening does to a design: which ports and nodes there are, with which names, and what each node is for. A voter of
-- a net for a partition is there exactly where a voted pin of that partition reads the net
pub record IsTripled (n h : Net) (k : PlainCert) : Type 0 where
  pub fits : Fits n h k
  pub model : h.model ≡ n.model
  pub inputs : h.inputs ≡ hardened_inputs n
  pub outputs : h.outputs ≡ flat_map (λ x. threefold (copy_of k x)) n.outputs
  pub clock : h.clock ≡ hardened_clock n.clock
  pub roles : k.roles ≡ hardened_roles n (parts_of k) (is_voted n h k)
  pub names : map node_name h.nodes ≡ map (role_name n) k.roles
  pub voters : (g x p : ℕ) (c : CopyNo) → role_of k g ≡ Some (Voter (record { 0 = x }) (record { 0 = p }) c)
      → IsCoverOf (node_of h g) majority_cover

-- the three copies of a node read voters at the same pins
abbrev pub VotesAlike : Net → Net → PlainCert → Type 0
VotesAlike n h k = (c : CopyNo) (y j : ℕ) → y < length n.nodes → j < length (node_pins n y) → reads_voter n h k c y j ≡ is_voted n h k y j

-- a pin is voted where it reads a node of another partition, and where it is in the form's cut of all loops inside the partitions; with
-- `inputs`, also where it reads an input; and where it is an extra one
pub record VotesAsNeeded (kind : Form) (n h : Net) (k : PlainCert) (inputs : Bool) (extra : ℕ → ℕ → Bool) : Type 0 where
  pub cut : List (List Bool)
  pub voted : VotesFor kind n (parts_of k) inputs cut extra (is_voted n h k)
  pub alike : VotesAlike n h k

-- the greatest label of the copies of the nodes of partition p, or 0
pub record IsGreatestLabel (k : PlainCert) (p depth : ℕ) : Type 0 where
  pub most : (x : ℕ) (c : CopyNo) → part_of k x ≡ Some p → label_of k x c ≤ depth
  pub some : (depth ≡ 0) ⊎ ((x : ℕ) × (c : CopyNo) × (part_of k x ≡ Some p) × (label_of k x c ≡ depth))

-- rules 6 and 7 hold at each hardened node, with these labels and depths in place of the certificate's own
pub record RulesAdmit (h : Net) (k : PlainCert) (labels : List Three) (depths : List ℕ) : Type 0 where
  pub reached : (g : ℕ) → Rule6 h (relabeled k labels depths) (length h.inputs + g)
  pub bounded : (g : ℕ) → Rule7 (relabeled k labels depths) (length h.inputs + g)

-- each label is the most registers of a walk of copies that ends in its copy, and each depth is the greatest label of its
-- partition's copies. They are the least: no certificate with the same roles and a smaller label or depth is accepted
pub record AreLeastLabels (h : Net) (k : PlainCert) : Type 0 where
  pub labels : (g x : ℕ) (c : CopyNo) → role_at h k g ≡ Some (Copy (record { 0 = x }) c)
      → IsReach (ReadsCopy h k) (own_original h k) g (label_of k x c)
  pub depths : (p : ℕ) → p < length k.depth → IsGreatestLabel k p (depth_of k p)
  pub no_smaller_label : (others : List Three) (depths : List ℕ) → RulesAdmit h k others depths
      → (x : ℕ) (c : CopyNo) → label_of k x c ≤ label_of (relabeled k others depths) x c
  pub no_smaller_depth : (others : List Three) (depths : List ℕ) → RulesAdmit h k others depths
      → (p : ℕ) → p < length k.depth → depth_of k p ≤ slice_index depths p

-- the version of a certificate: 2 where pins that read inputs are voted
abbrev pub version_of : Bool → ℕ
version_of false = 1
version_of true = 2

-- the hardened form of n, plain or lean, of which f are the marks, with the pins that are voted besides those that have to be;
-- with `inputs` the certificate has version 2, and pins that read inputs are voted
pub record HasForm (kind : Form) (n : Net) (f : List Bool) (size : ℕ) (h : Net) (g : List Bool) (k : PlainCert) (inputs : Bool)
    (extra : ℕ → ℕ → Bool) : Type 0 where
  pub version : k.version ≡ version_of inputs
  pub parts : ArePartsOf kind n size (parts_of k)
  pub tripled : IsTripled n h k
  pub voted : VotesAsNeeded kind n h k inputs extra
  pub corresponds : AllHold n f h g k
  pub labels : AreLeastLabels h k

-- the plain hardened form in version 1: pins that read inputs are not voted, and there are no extra voters
abbrev pub HardenedForm : Net → ℕ → Net → PlainCert → Type 0
HardenedForm n size h k = HasForm Plain n [] size h [] k false none_extra

-- the plain hardened form in version 2: pins that read inputs are voted, and copies are marked as their nodes are
pub record FreeHardenedForm (n : Net) (f : List Bool) (size : ℕ) (h : Net) (g : List Bool) (k : PlainCert) : Type 0 where
  pub form : HasForm Plain n f size h g k true none_extra
  pub marks : g ≡ spread_start k f

-- either form in either version with no depth above `most`: the pins of registers that would bring a greater label are
-- voted too. In version 2 copies are marked as their nodes are, and in version 1 none is
pub record BoundedForm (kind : Form) (n : Net) (f : List Bool) (size version most : ℕ) (h : Net) (g : List Bool) (k : PlainCert)
    : Type 0 where
  pub has_version : k.version ≡ version
  pub extra : PlainExtra
  pub form : HasForm kind n (counted k f) size h (counted k g) k (nat_eq version 2) (is_extra extra.marks)
  pub bound : AreExtra n (parts_of k) form.voted.cut most extra
  pub within : (p : ℕ) → p < length k.depth → depth_of k p ≤ most
  pub marks : g ≡ spread_start k (counted k f)
