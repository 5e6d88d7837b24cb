-- Rules at a hardened node whose role is known.
use Rattle.std.proofs.Common.{◌≡◌, ℕ, ◌≤◌, Bool, List, length, Option, Some, subst}
use Rattle.std.specs.Prelude.{IfSome, IfNone}
use Rattle.tmr_base.specs.declared.copies.CopyNo.{CopyNo}
use Rattle.tmr_base.specs.declared.ids.NetId.{NetId}
use Rattle.tmr_base.specs.declared.ids.PartId.{PartId}
use Rattle.flat_net.specs.Net.{Net, node_of}
use Rattle.flat_net.specs.Free.{node_bit}
use Rattle.certificate.specs.declared.role.Role.TheVariants.{Copy, Voter}
use Rattle.certificate.specs.Cert.{PlainCert, role_of, part_of, label_of, depth_of}
use Rattle.certificate.specs.Rules.{CopiesTable, CopiesRegister, Votes, LabelReaches, Rule3, Rule4, Rule5, Rule6, Rule7}
use Rattle.explaining.specs.declared.reason.Reason.{Reason}
use Rattle.explaining.specs.Reasons.{TableFails, RegisterFails, VoterFails, LabelFails, DepthFails, Explains3, Explains4, Explains5, Explains6, Explains7}
use Rattle.explaining.proofs.Options.{if_some, if_none}

module _ (k : PlainCert) (y : ℕ) (x : NetId) (c : CopyNo) (role : role_of k y ≡ Some (Copy x c)) where
  -- what holds of this copy holds of each that the role names
  same_copy : (P : ℕ → CopyNo → Type 0) → P x.0 c → (z : ℕ) (d : CopyNo) → role_of k y ≡ Some (Copy (record { 0 = z }) d) → P z d
  same_copy P h z d other =
      let same_x : x.0 ≡ z = cc (role, other) in
      let same_c : c ≡ d = cc (role, other) in
      subst (λ e. P z e) same_c (subst (λ u. P u c) same_x h)

  -- the same with the partition
  same_part : (p : ℕ) → part_of k x.0 ≡ Some p → (P : ℕ → CopyNo → ℕ → Type 0) → P x.0 c p → (z : ℕ) (d : CopyNo) (q : ℕ) → role_of k y ≡ Some (Copy (record { 0 = z }) d) → part_of k z ≡ Some q → P z d q
  same_part p part P h z d q other at = same_copy (λ u e. (q : ℕ) → part_of k u ≡ Some q → P u e q) here z d other q at
    where
      here : (q : ℕ) → part_of k x.0 ≡ Some q → P x.0 c q
      here q at = let same : p ≡ q = cc (part, at) in subst (λ v. P x.0 c v) same h

module _ (n h : Net) (k : PlainCert) (y : ℕ) (x : NetId) (c : CopyNo) (p : ℕ) (o : Option Reason) (role : role_of k y ≡ Some (Copy x c)) (part : part_of k x.0 ≡ Some p) where
  pub table_holds : IfNone o (CopiesTable k (node_of n x.0) (node_of h y) p c) → IfNone o (Rule3 n h k y)
  table_holds = if_none _ _ o (λ copies z d q other at. same_part k y x c role p part (λ u e v. CopiesTable k (node_of n u) (node_of h y) v e) copies z d q other at)

  pub table_fails : IfSome o (TableFails k (node_of n x.0) (node_of h y) p c) → IfSome o (Explains3 n h k y)
  table_fails = if_some _ _ o (λ reason is. record { x = x.0; c = c; p = p; role = role; part = part; is = is })

  pub register_holds : (f g : List Bool) → IfNone o (CopiesRegister k (node_of n x.0) (node_bit (length n.inputs) f x.0) (node_of h y) (node_bit (length h.inputs) g y) p c) → IfNone o (Rule4 n f h g k y)
  register_holds f g = if_none _ _ o (λ copies z d q other at. same_part k y x c role p part (λ u e v. CopiesRegister k (node_of n u) (node_bit (length n.inputs) f u) (node_of h y) (node_bit (length h.inputs) g y) v e) copies z d q other at)

  pub register_fails : (f g : List Bool) → IfSome o (RegisterFails k (node_of n x.0) (node_bit (length n.inputs) f x.0) (node_of h y) (node_bit (length h.inputs) g y) p c) → IfSome o (Explains4 n f h g k y)
  register_fails f g = if_some _ _ o (λ reason is. record { x = x.0; c = c; p = p; role = role; part = part; is = is })

pub label_holds : (h : Net) (k : PlainCert) (y : ℕ) (x : NetId) (c : CopyNo) (o : Option Reason) → role_of k y ≡ Some (Copy x c) → IfNone o (LabelReaches k (node_of h y) (label_of k x.0 c)) → IfNone o (Rule6 h k y)
label_holds h k y x c o role = if_none _ _ o (λ reaches z d other. same_copy k y x c role (λ u e. LabelReaches k (node_of h y) (label_of k u e)) reaches z d other)

pub label_fails : (h : Net) (k : PlainCert) (y : ℕ) (x : NetId) (c : CopyNo) (o : Option Reason) → role_of k y ≡ Some (Copy x c) → IfSome o (LabelFails k (node_of h y) (label_of k x.0 c)) → IfSome o (Explains6 h k y)
label_fails h k y x c o role = if_some _ _ o (λ reason is. record { x = x.0; c = c; role = role; is = is })

pub depth_holds : (k : PlainCert) (y : ℕ) (x : NetId) (c : CopyNo) (p : ℕ) (o : Option Reason) → role_of k y ≡ Some (Copy x c) → part_of k x.0 ≡ Some p → IfNone o (label_of k x.0 c ≤ depth_of k p) → IfNone o (Rule7 k y)
depth_holds k y x c p o role part = if_none _ _ o (λ within z d q other at. same_part k y x c role p part (λ u e v. label_of k u e ≤ depth_of k v) within z d q other at)

pub depth_fails : (k : PlainCert) (y : ℕ) (x : NetId) (c : CopyNo) (p : ℕ) (o : Option Reason) → role_of k y ≡ Some (Copy x c) → part_of k x.0 ≡ Some p → IfSome o (DepthFails k x.0 c p) → IfSome o (Explains7 k y)
depth_fails k y x c p o role part = if_some _ _ o (λ reason is. record { x = x.0; c = c; p = p; role = role; part = part; is = is })

pub voter_holds : (h : Net) (k : PlainCert) (y : ℕ) (x : NetId) (q : PartId) (d : CopyNo) (o : Option Reason) → role_of k y ≡ Some (Voter x q d) → IfNone o (Votes k (node_of h y) x.0) → IfNone o (Rule5 h k y)
voter_holds h k y x q d o role = if_none _ _ o (λ votes z p c other. let same : x.0 ≡ z = cc (role, other) in subst (λ (u : ℕ). Votes k (node_of h y) u) same votes)

pub voter_fails : (h : Net) (k : PlainCert) (y : ℕ) (x : NetId) (q : PartId) (d : CopyNo) (o : Option Reason) → role_of k y ≡ Some (Voter x q d) → IfSome o (VoterFails k (node_of h y) x.0) → IfSome o (Explains5 h k y)
voter_fails h k y x q d o role = if_some _ _ o (λ reason is. record { x = x.0; p = q.0; c = d; role = role; is = is })

pub ruleset tables_at = (table_holds, table_fails)

pub ruleset registers_at = (register_holds, register_fails)

pub ruleset voters_at = (voter_holds, voter_fails)

pub ruleset labels_at = (label_holds, label_fails)

pub ruleset depths_at = (depth_holds, depth_fails)
