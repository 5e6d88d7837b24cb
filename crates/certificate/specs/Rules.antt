-- The eight rules by which a hardened design corresponds to its original. f and g are the marks of n and h.
use Rattle.std.specs.Prelude.{◌≡◌, ℕ, ◌+◌, ◌*◌, ◌<◌, ◌≤◌, Bool, List, [], ◌∷◌, length, Option, Some, None, slice_get, slice_index}
use Rattle.tmr_base.specs.declared.copies.CopyNo.{CopyNo}
use Rattle.tmr_base.specs.declared.copies.CopyNo.TheVariants.{First, Second, Third}
use Rattle.tmr_base.specs.declared.ids.Edge.{Edge}
use Rattle.certificate.specs.declared.role.Role.TheVariants.{Copy, Voter}
use Rattle.table_cover.specs.Cover.{IsMajority}
use Rattle.flat_net.specs.Net.{Net, Node, Table, Register, node_of}
use Rattle.flat_net.specs.Free.{node_bit}
use Rattle.certificate.specs.Cert.{PlainCert, role_of, part_of, depth_of, copy_of, label_of, count_of}
use Rattle.certificate.specs.Reads.{Reads}
use Rattle.certificate.specs.Starts.{counted}
use Rattle.tmr_base.specs.Copies.{copy_number}

-- both have a clock with the same edge, or neither has one
abbrev pub SameEdge : Option (Edge × List ℕ) → Option (Edge × List ℕ) → Type 0
SameEdge None None = Unit {0}
SameEdge None (Some h) = ⊥
SameEdge (Some n) None = ⊥
SameEdge (Some n) (Some h) = n.0 ≡ h.0

-- each pin reads the original's pin at its place
abbrev pub PinsRead : PlainCert → List ℕ → List ℕ → ℕ → CopyNo → Type 0
PinsRead k hs xs p c = (j : ℕ) → j < length xs → Reads k (slice_index hs j) (slice_index xs j) p c

-- a table that copies a table
abbrev pub CopiesTable : PlainCert → Option Node → Option Node → ℕ → CopyNo → Type 0
CopiesTable k (Some (Table name cover pins)) (Some (Table hname hcover hpins)) p c = (hcover ≡ cover) × PinsRead k hpins pins p c
CopiesTable k (Some (Table name cover pins)) (Some (Register hname init pin)) p c = ⊥
CopiesTable k (Some (Table name cover pins)) None p c = ⊥
CopiesTable k (Some (Register name init pin)) h p c = Unit {0}
CopiesTable k None h p c = Unit {0}

-- a register that copies a register, each with its mark
abbrev pub CopiesRegister : PlainCert → Option Node → Bool → Option Node → Bool → ℕ → CopyNo → Type 0
CopiesRegister k (Some (Register name init pin)) free (Some (Register hname hinit hpin)) hfree p c =
    (hinit ≡ init) × (hfree ≡ free) × Reads k hpin pin p c
CopiesRegister k (Some (Register name init pin)) free (Some (Table hname cover pins)) hfree p c = ⊥
CopiesRegister k (Some (Register name init pin)) free None hfree p c = ⊥
CopiesRegister k (Some (Table name cover pins)) free h hfree p c = Unit {0}
CopiesRegister k None free h hfree p c = Unit {0}

-- a table that votes on the three copies of x
abbrev pub Votes : PlainCert → Option Node → ℕ → Type 0
Votes k None x = ⊥
Votes k (Some (Table name cover pins)) x = (pins ≡ copy_of k x First ∷ copy_of k x Second ∷ copy_of k x Third ∷ []) × IsMajority cover
Votes k (Some (Register name init pin)) x = ⊥

-- e reaches what the node's pins want
abbrev pub LabelReaches : PlainCert → Option Node → ℕ → Type 0
LabelReaches k None e = Unit {0}
LabelReaches k (Some (Table name cover pins)) e = (j : ℕ) → j < length pins → count_of k (slice_index pins j) ≤ e
LabelReaches k (Some (Register name init pin)) e = count_of k pin + 1 ≤ e

-- the rules at hardened net g
abbrev pub Rule3 : Net → Net → PlainCert → ℕ → Type 0
Rule3 n h k g = (x : ℕ) (c : CopyNo) (p : ℕ) → role_of k g ≡ Some (Copy (record { 0 = x }) c) → part_of k x ≡ Some p
    → CopiesTable k (node_of n x) (node_of h g) p c

abbrev pub Rule4 : Net → List Bool → Net → List Bool → PlainCert → ℕ → Type 0
Rule4 n f h g k y =
    (x : ℕ) (c : CopyNo) (p : ℕ) → role_of k y ≡ Some (Copy (record { 0 = x }) c) → part_of k x ≡ Some p →
    CopiesRegister k (node_of n x) (node_bit (length n.inputs) f x) (node_of h y) (node_bit (length h.inputs) g y) p c

abbrev pub Rule5 : Net → PlainCert → ℕ → Type 0
Rule5 h k g = (x p : ℕ) (c : CopyNo) → role_of k g ≡ Some (Voter (record { 0 = x }) (record { 0 = p }) c) → Votes k (node_of h g) x

abbrev pub Rule6 : Net → PlainCert → ℕ → Type 0
Rule6 h k g = (x : ℕ) (c : CopyNo) → role_of k g ≡ Some (Copy (record { 0 = x }) c) → LabelReaches k (node_of h g) (label_of k x c)

abbrev pub Rule7 : PlainCert → ℕ → Type 0
Rule7 k g = (x : ℕ) (c : CopyNo) (p : ℕ) → role_of k g ≡ Some (Copy (record { 0 = x }) c) → part_of k x ≡ Some p → label_of k x c ≤ depth_of k p

-- output position 3 * i + c holds copy c of output i, and there are no others
pub record Rule8 (n h : Net) (k : PlainCert) (j : ℕ) : Type 0 where
  pub no_more : j < length h.outputs → j < 3 * length n.outputs
  pub copy : (i x : ℕ) (c : CopyNo) → j ≡ 3 * i + copy_number c → slice_get n.outputs i ≡ Some x → slice_get h.outputs j ≡ Some (copy_of k x c)

-- rule r holds at `place`: of a hardened node's number, or in rule 8 of an output's
pub record Holds (n : Net) (f : List Bool) (h : Net) (g : List Bool) (k : PlainCert) (r place : ℕ) : Type 0 where
  pub inputs : r ≡ 1 → place ≡ 0 → length h.inputs ≡ 3 * length n.inputs
  pub clocks : r ≡ 2 → place ≡ 0 → SameEdge n.clock h.clock
  pub tables : r ≡ 3 → Rule3 n h k (length h.inputs + place)
  pub registers : r ≡ 4 → Rule4 n f h g k (length h.inputs + place)
  pub voters : r ≡ 5 → Rule5 h k (length h.inputs + place)
  pub labels : r ≡ 6 → Rule6 h k (length h.inputs + place)
  pub depths : r ≡ 7 → Rule7 k (length h.inputs + place)
  pub outputs : r ≡ 8 → Rule8 n h k place

-- nothing fails
abbrev pub AllHold : Net → List Bool → Net → List Bool → PlainCert → Type 0
AllHold n f h g k = (r place : ℕ) → Holds n f h g k r place

-- the pair of the least rule and, for it, the least place that fails
pub record FailsFirst (n : Net) (f : List Bool) (h : Net) (g : List Bool) (k : PlainCert) (r place : ℕ) : Type 0 where
  pub fails : Holds n f h g k r place → ⊥
  pub rules_before : (q other : ℕ) → q < r → Holds n f h g k q other
  pub places_before : (other : ℕ) → other < place → Holds n f h g k r other

abbrev pub FreeCorresponds : Net → List Bool → Net → List Bool → PlainCert → Type 0
FreeCorresponds n f h g k = AllHold n (counted k f) h (counted k g) k

abbrev pub IsFirstFreeFailure : Net → List Bool → Net → List Bool → PlainCert → ℕ → ℕ → Type 0
IsFirstFreeFailure n f h g k r place = FailsFirst n (counted k f) h (counted k g) k r place

-- the same in version 1, where nothing is marked
abbrev pub Corresponds : Net → Net → PlainCert → Type 0
Corresponds n h k = (k.version ≡ 1) × AllHold n [] h [] k

abbrev pub IsFirstFailure : Net → Net → PlainCert → ℕ → ℕ → Type 0
IsFirstFailure n h k r place = FailsFirst n [] h [] k r place
