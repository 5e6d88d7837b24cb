-- Why a rule fails at a place. n is the original, h the hardened design, and f and g are their marks that count. Of several causes the first is
-- told, in the order of the rule: the kind, the number of pins, the polarity, the rows, the initial value, and then pin by pin.
use Rattle.std.specs.Prelude.{◌≡◌, ◌≢◌, ℕ, ◌+◌, ◌*◌, ◌<◌, ◌≤◌, Bool, true, false, List, [], ◌∷◌, length, Option, Some, None, slice_get, slice_index, IsSome, IsNone, IsSomeAnd}
use Rattle.tmr_base.specs.declared.copies.CopyNo.{CopyNo}
use Rattle.tmr_base.specs.declared.copies.CopyNo.TheVariants.{First, Second, Third}
use Rattle.tmr_base.specs.declared.ids.Edge.{Edge}
use Rattle.tmr_base.specs.Copies.{copy_number}
use Rattle.table_cover.specs.Cover.{PlainCover, cover_value, majority_of}
use Rattle.flat_net.specs.Net.{Net, Node, Table, Register, node_of}
use Rattle.flat_net.specs.Free.{node_bit}
use Rattle.certificate.specs.declared.role.Role.TheVariants.{Copy, Voter}
use Rattle.certificate.specs.Cert.{PlainCert, role_of, part_of, depth_of, copy_of, label_of, count_of}
use Rattle.certificate.specs.Reads.{Reads}
use Rattle.explaining.specs.declared.rule.Rule.{Rule}
use Rattle.explaining.specs.declared.rule.Rule.TheVariants.{Inputs, Clocks, Tables, Registers, Voters, Labels, Depths, Outputs}
use Rattle.explaining.specs.declared.reason.Reason.{Reason}
use Rattle.explaining.specs.declared.reason.Reason.TheVariants.{InputCount, NoClock, NewClock, WrongEdge, IsTable, IsRegister, PinCount, Polarity, RowCount, Row, Initial, Pin, VoterPin, Minority, LowLabel, DeepLabel, WrongOutput, NoOutput, NewOutput}

-- the number of a rule
abbrev pub number : Rule → ℕ
number Inputs = 1
number Clocks = 2
number Tables = 3
number Registers = 4
number Voters = 5
number Labels = 6
number Depths = 7
number Outputs = 8

-- rule 1: there are not three inputs for each one
abbrev pub InputsFail : Net → Net → Reason → Type 0
InputsFail n h (InputCount is wanted) = (is ≡ length h.inputs) × (wanted ≡ 3 * length n.inputs) × (is ≢ wanted)
InputsFail n h _ = ⊥

-- rule 2: one design has a clock and the other has none, or the edges differ
abbrev pub ClocksFail : Option (Edge × List ℕ) → Option (Edge × List ℕ) → Reason → Type 0
ClocksFail n h NoClock = IsSome n × IsNone h
ClocksFail n h NewClock = IsNone n × IsSome h
ClocksFail n h (WrongEdge is wanted) = IsSomeAnd h (λ clock. clock.0 ≡ is) × IsSomeAnd n (λ clock. clock.0 ≡ wanted) × (is ≢ wanted)
ClocksFail n h _ = ⊥

-- the first place at which two lists of rows differ, and what stands there
pub record DifferFirst (xs ys : List (List ℕ)) (i : ℕ) (x y : List ℕ) : Type 0 where
  pub left : slice_get xs i ≡ Some x
  pub right : slice_get ys i ≡ Some y
  pub differ : x ≢ y
  pub before : (m : ℕ) → m < i → slice_get xs m ≡ slice_get ys m

-- cover h is not cover n
abbrev pub CoversDiffer : PlainCover → PlainCover → Reason → Type 0
CoversDiffer h n (PinCount is wanted) = (is ≡ h.width) × (wanted ≡ n.width) × (is ≢ wanted)
CoversDiffer h n Polarity = (h.width ≡ n.width) × (h.is_on ≢ n.is_on)
CoversDiffer h n (RowCount is wanted) =
    (h.width ≡ n.width) × (h.is_on ≡ n.is_on) × (is ≡ length h.rows) × (wanted ≡ length n.rows) × (is ≢ wanted)
CoversDiffer h n (Row i is wanted) =
    (h.width ≡ n.width) × (h.is_on ≡ n.is_on) × (length h.rows ≡ length n.rows) × DifferFirst h.rows n.rows i is.now wanted.now
CoversDiffer h n _ = ⊥

-- pin j reads g, which does not read x for partition p and copy c, and the pins before it read what they are to
pub record PinFailsFirst (k : PlainCert) (hs xs : List ℕ) (p : ℕ) (c : CopyNo) (j g x : ℕ) : Type 0 where
  pub within : j < length xs
  pub read : g ≡ slice_index hs j
  pub wanted : x ≡ slice_index xs j
  pub fails : Reads k g x p c → ⊥
  pub before : (i : ℕ) → i < j → Reads k (slice_index hs i) (slice_index xs i) p c

abbrev pub PinFails : PlainCert → List ℕ → List ℕ → ℕ → CopyNo → Reason → Type 0
PinFails k hs xs p c (Pin j g x q d) = (q.0 ≡ p) × (d ≡ c) × PinFailsFirst k hs xs p c j g.0 x.0
PinFails k hs xs p c _ = ⊥

-- a table that is to copy a table
abbrev pub TablesDiffer : PlainCert → PlainCover → List ℕ → PlainCover → List ℕ → ℕ → CopyNo → Reason → Type 0
TablesDiffer k cover pins hcover hpins p c (Pin j g x q d) = (hcover ≡ cover) × PinFails k hpins pins p c (Pin j g x q d)
TablesDiffer k cover pins hcover hpins p c reason = CoversDiffer hcover cover reason

-- rule 3: what is to copy a table does not
abbrev pub TableFails : PlainCert → Option Node → Option Node → ℕ → CopyNo → Reason → Type 0
TableFails k (Some (Table name cover pins)) (Some (Table hname hcover hpins)) p c reason = TablesDiffer k cover pins hcover hpins p c reason
TableFails k (Some (Table name cover pins)) (Some (Register hname hinit hpin)) p c reason = reason ≡ IsRegister
TableFails k (Some (Table name cover pins)) None p c reason = ⊥
TableFails k (Some (Register name init pin)) h p c reason = ⊥
TableFails k None h p c reason = ⊥

-- a register that is to copy a register, each with its mark
abbrev pub RegistersDiffer : PlainCert → Bool → Bool → ℕ → Bool → Bool → ℕ → ℕ → CopyNo → Reason → Type 0
RegistersDiffer k init free pin hinit hfree hpin p c (Initial is is_free wanted wanted_free) =
    (is ≡ hinit) × (is_free ≡ hfree) × (wanted ≡ init) × (wanted_free ≡ free) × ((hinit ≡ init) × (hfree ≡ free) → ⊥)
RegistersDiffer k init free pin hinit hfree hpin p c (Pin j g x q d) =
    (hinit ≡ init) × (hfree ≡ free) × PinFails k (hpin ∷ []) (pin ∷ []) p c (Pin j g x q d)
RegistersDiffer k init free pin hinit hfree hpin p c _ = ⊥

-- rule 4: what is to copy a register does not
abbrev pub RegisterFails : PlainCert → Option Node → Bool → Option Node → Bool → ℕ → CopyNo → Reason → Type 0
RegisterFails k (Some (Register name init pin)) free (Some (Register hname hinit hpin)) hfree p c reason =
    RegistersDiffer k init free pin hinit hfree hpin p c reason
RegisterFails k (Some (Register name init pin)) free (Some (Table hname hcover hpins)) hfree p c reason = reason ≡ IsTable
RegisterFails k (Some (Register name init pin)) free None hfree p c reason = ⊥
RegisterFails k (Some (Table name cover pins)) free h hfree p c reason = ⊥
RegisterFails k None free h hfree p c reason = ⊥

-- the pin for copy c reads g, which is not copy c of x, and those before it read their copies
pub record VoterPinFails (k : PlainCert) (x : ℕ) (pins : List ℕ) (g : ℕ) (c : CopyNo) : Type 0 where
  pub three : length pins ≡ 3
  pub read : g ≡ slice_index pins (copy_number c)
  pub fails : g ≢ copy_of k x c
  pub before : (d : CopyNo) → copy_number d < copy_number c → slice_index pins (copy_number d) ≡ copy_of k x d

abbrev pub bit_number : Bool → ℕ
bit_number false = 0
bit_number true = 1

-- the number that three bits write
abbrev pub bits_number : Bool → Bool → Bool → ℕ
bits_number a b c = 4 * bit_number a + 2 * bit_number b + bit_number c

abbrev pub IsVoteOn : PlainCover → Bool → Bool → Bool → Type 0
IsVoteOn cover a b c = cover_value cover (a ∷ b ∷ c ∷ []) ≡ majority_of a b c

-- the value on these bits is not their majority, and on those that write less it is
pub record VoteFailsFirst (cover : PlainCover) (a b c : Bool) : Type 0 where
  pub fails : IsVoteOn cover a b c → ⊥
  pub before : (d e f : Bool) → bits_number d e f < bits_number a b c → IsVoteOn cover d e f

-- a table that is to vote on the copies of x
abbrev pub VoteFails : PlainCert → ℕ → PlainCover → List ℕ → Reason → Type 0
VoteFails k x cover pins (PinCount is wanted) = (is ≡ length pins) × (wanted ≡ 3) × (is ≢ wanted)
VoteFails k x cover pins (VoterPin g y c) = (y.0 ≡ x) × VoterPinFails k x pins g.0 c
VoteFails k x cover pins (Minority a b c) =
    (pins ≡ copy_of k x First ∷ copy_of k x Second ∷ copy_of k x Third ∷ []) × VoteFailsFirst cover a b c
VoteFails k x cover pins _ = ⊥

-- rule 5: what is to vote does not
abbrev pub VoterFails : PlainCert → Option Node → ℕ → Reason → Type 0
VoterFails k (Some (Table name cover pins)) x reason = VoteFails k x cover pins reason
VoterFails k (Some (Register name init pin)) x reason = reason ≡ IsRegister
VoterFails k None x reason = ⊥

-- the first pin that wants a label above e: it reads g, which counts m, and wants w, which is so much more
pub record LabelFailsFirst (k : PlainCert) (pins : List ℕ) (more e w g m : ℕ) : Type 0 where
  pub pin : ℕ
  pub within : pin < length pins
  pub read : g ≡ slice_index pins pin
  pub count : m ≡ count_of k g
  pub wants : w ≡ m + more
  pub low : e < w
  pub before : (i : ℕ) → i < pin → count_of k (slice_index pins i) + more ≤ e

-- rule 6: e does not reach what the pins want, which a register's pin wants one more of
abbrev pub LabelFails : PlainCert → Option Node → ℕ → Reason → Type 0
LabelFails k (Some (Table name cover pins)) e (LowLabel label w g m) = (label ≡ e) × LabelFailsFirst k pins 0 e w g.0 m
LabelFails k (Some (Register name init pin)) e (LowLabel label w g m) = (label ≡ e) × LabelFailsFirst k (pin ∷ []) 1 e w g.0 m
LabelFails k _ e _ = ⊥

-- rule 7: the label is above the depth of the partition
abbrev pub DepthFails : PlainCert → ℕ → CopyNo → ℕ → Reason → Type 0
DepthFails k x c p (DeepLabel label depth q) = (label ≡ label_of k x c) × (depth ≡ depth_of k p) × (q.0 ≡ p) × (depth < label)
DepthFails k x c p _ = ⊥

-- output position j is to hold copy c of x
pub record IsWantedAt (n : Net) (j x : ℕ) (c : CopyNo) : Type 0 where
  pub output : ℕ
  pub place : j ≡ 3 * output + copy_number c
  pub is : slice_get n.outputs output ≡ Some x

-- rule 8: another net, none, or one too many
abbrev pub OutputFails : Net → Net → PlainCert → ℕ → Reason → Type 0
OutputFails n h k j (WrongOutput g x c) = IsWantedAt n j x.0 c × (slice_get h.outputs j ≡ Some g.0) × (g.0 ≢ copy_of k x.0 c)
OutputFails n h k j (NoOutput x c) = IsWantedAt n j x.0 c × (length h.outputs ≤ j)
OutputFails n h k j (NewOutput g) = (slice_get h.outputs j ≡ Some g.0) × (3 * length n.outputs ≤ j)
OutputFails n h k j _ = ⊥

-- hardened net y is copy c of original net x, and P is told of it
pub record AtCopy (k : PlainCert) (y : ℕ) (P : ℕ → CopyNo → Type 0) : Type 0 where
  pub x : ℕ
  pub c : CopyNo
  pub role : role_of k y ≡ Some (Copy (record { 0 = x }) c)
  pub is : P x c

-- the same of original net x, which stands in partition p
pub record AtCopyIn (k : PlainCert) (y : ℕ) (P : ℕ → CopyNo → ℕ → Type 0) : Type 0 where
  pub x : ℕ
  pub c : CopyNo
  pub p : ℕ
  pub role : role_of k y ≡ Some (Copy (record { 0 = x }) c)
  pub part : part_of k x ≡ Some p
  pub is : P x c p

-- hardened net y is a voter of original net x, and P is told of it
pub record AtVoter (k : PlainCert) (y : ℕ) (P : ℕ → Type 0) : Type 0 where
  pub x : ℕ
  pub p : ℕ
  pub c : CopyNo
  pub role : role_of k y ≡ Some (Voter (record { 0 = x }) (record { 0 = p }) c)
  pub is : P x

-- the rules at hardened net y
abbrev pub Explains3 : Net → Net → PlainCert → ℕ → Reason → Type 0
Explains3 n h k y reason = AtCopyIn k y (λ x c p. TableFails k (node_of n x) (node_of h y) p c reason)

abbrev pub Explains4 : Net → List Bool → Net → List Bool → PlainCert → ℕ → Reason → Type 0
Explains4 n f h g k y reason =
    AtCopyIn k y (λ x c p. RegisterFails k (node_of n x) (node_bit (length n.inputs) f x) (node_of h y) (node_bit (length h.inputs) g y) p c reason)

abbrev pub Explains5 : Net → PlainCert → ℕ → Reason → Type 0
Explains5 h k y reason = AtVoter k y (λ x. VoterFails k (node_of h y) x reason)

abbrev pub Explains6 : Net → PlainCert → ℕ → Reason → Type 0
Explains6 h k y reason = AtCopy k y (λ x c. LabelFails k (node_of h y) (label_of k x c) reason)

abbrev pub Explains7 : PlainCert → ℕ → Reason → Type 0
Explains7 k y reason = AtCopyIn k y (λ x c p. DepthFails k x c p reason)

-- the reason is why the rule fails at this place: a hardened node's number, or in rule 8 an output's, as in `Holds`
abbrev pub Explains : Net → List Bool → Net → List Bool → PlainCert → Rule → ℕ → Reason → Type 0
Explains n f h g k Inputs place reason = (place ≡ 0) × InputsFail n h reason
Explains n f h g k Clocks place reason = (place ≡ 0) × ClocksFail n.clock h.clock reason
Explains n f h g k Tables place reason = Explains3 n h k (length h.inputs + place) reason
Explains n f h g k Registers place reason = Explains4 n f h g k (length h.inputs + place) reason
Explains n f h g k Voters place reason = Explains5 h k (length h.inputs + place) reason
Explains n f h g k Labels place reason = Explains6 h k (length h.inputs + place) reason
Explains n f h g k Depths place reason = Explains7 k (length h.inputs + place) reason
Explains n f h g k Outputs place reason = OutputFails n h k place reason
