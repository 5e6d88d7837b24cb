-- Where a reason is told, the rule fails.
use Rattle.std.proofs.Common.{◌≡◌, ℕ, zero, suc, ◌+◌, ◌*◌, ◌<◌, ◌≤◌, Bool, List, [], ◌∷◌, length, Option, Some, None, slice_get, slice_index, refl, sym, ap, ◌∙◌, subst, arith}
use Rattle.tmr_base.specs.declared.copies.CopyNo.{CopyNo}
use Rattle.tmr_base.specs.declared.copies.CopyNo.TheVariants.{First, Second, Third}
use Rattle.tmr_base.specs.declared.ids.Edge.{Edge}
use Rattle.tmr_base.specs.Copies.{copy_number}
use Rattle.table_cover.specs.Cover.{PlainCover}
use Rattle.flat_net.specs.Net.{Net, Node, Table, Register, node_of}
use Rattle.flat_net.specs.Free.{node_bit}
use Rattle.std.proofs.lemmas.Option.{slice_get_within}
use Rattle.certificate.specs.Reads.{Reads}
use Rattle.certificate.specs.Cert.{PlainCert, copy_of, label_of, count_of, depth_of}
use Rattle.certificate.specs.Rules.{SameEdge, PinsRead, CopiesTable, CopiesRegister, Votes, LabelReaches, Rule8, Holds}
use Rattle.explaining.specs.declared.rule.Rule.{Rule}
use Rattle.explaining.specs.declared.rule.Rule.TheVariants.{Inputs, Clocks, Tables, Registers, Voters, Labels, Depths, Outputs}
use Rattle.explaining.specs.declared.reason.Reason.{Reason}
use Rattle.explaining.specs.declared.reason.Reason.TheVariants.{InputCount, NoClock, NewClock, WrongEdge, PinCount, Polarity, RowCount, Row, Initial, Pin, VoterPin, Minority, LowLabel, DeepLabel, WrongOutput, NoOutput, NewOutput}
use Rattle.explaining.specs.Reasons.{number, InputsFail, ClocksFail, CoversDiffer, PinFails, TablesDiffer, TableFails, RegistersDiffer, RegisterFails, VoteFails, VoterFails, LabelFailsFirst, LabelFails, DepthFails, OutputFails, Explains}
use Rattle.explaining.specs.Private.Found.{RuleHolds}
use Rattle.explaining.proofs.Numbers.{holds_rule}

inputs_wrong : (n h : Net) (reason : Reason) → InputsFail n h reason → length h.inputs ≡ 3 * length n.inputs → ⊥
inputs_wrong n h (InputCount is wanted) w e = w.2 (w.0 ∙ (e ∙ sym w.1))
inputs_wrong n h reason w e = w

clocks_wrong : (n h : Option (Edge × List ℕ)) (reason : Reason) → ClocksFail n h reason → SameEdge n h → ⊥
clocks_wrong None None NoClock w e = absurd (cc w.0)
clocks_wrong (Some n) None NoClock w e = e
clocks_wrong None (Some h) NoClock w e = e
clocks_wrong (Some n) (Some h) NoClock w e = absurd (cc w.1)
clocks_wrong None None NewClock w e = absurd (cc w.1)
clocks_wrong (Some n) None NewClock w e = e
clocks_wrong None (Some h) NewClock w e = e
clocks_wrong (Some n) (Some h) NewClock w e = absurd (cc w.0)
clocks_wrong None None (WrongEdge is wanted) w e = w.0
clocks_wrong (Some n) None (WrongEdge is wanted) w e = e
clocks_wrong None (Some h) (WrongEdge is wanted) w e = e
clocks_wrong (Some n) (Some h) (WrongEdge is wanted) w e = w.2 (sym w.0 ∙ (sym e ∙ w.1))
clocks_wrong n h reason w e = w

pub covers_wrong : (h n : PlainCover) (reason : Reason) → CoversDiffer h n reason → h ≡ n → ⊥
covers_wrong h n (PinCount is wanted) w e = w.2 (w.0 ∙ (ap (λ (c : PlainCover). c.width) e ∙ sym w.1))
covers_wrong h n Polarity w e = w.1 (ap (λ (c : PlainCover). c.is_on) e)
covers_wrong h n (RowCount is wanted) w e = w.4 (w.2 ∙ (ap (λ (c : PlainCover). length c.rows) e ∙ sym w.3))
covers_wrong h n (Row i is wanted) w e =
    let same : slice_get h.rows i ≡ slice_get n.rows i = ap (λ (c : PlainCover). slice_get c.rows i) e in
    let left : slice_get h.rows i ≡ Some is.now = w.3.left in
    let right : slice_get n.rows i ≡ Some wanted.now = w.3.right in
    w.3.differ (cc (same, left, right))
covers_wrong h n reason w e = w

pin_wrong : (k : PlainCert) (hs xs : List ℕ) (p : ℕ) (c : CopyNo) (reason : Reason) → PinFails k hs xs p c reason → PinsRead k hs xs p c → ⊥
pin_wrong k hs xs p c (Pin j g x q d) w all =
    let at = w.2 in
    at.fails (subst (λ u. Reads k u x.0 p c) (sym at.read) (subst (λ u. Reads k (slice_index hs j) u p c) (sym at.wanted) (all j at.within)))
pin_wrong k hs xs p c reason w all = w

tables_wrong : (k : PlainCert) (cover : PlainCover) (pins : List ℕ) (hcover : PlainCover) (hpins : List ℕ) (p : ℕ) (c : CopyNo) (reason : Reason) → TablesDiffer k cover pins hcover hpins p c reason → hcover ≡ cover → PinsRead k hpins pins p c → ⊥
tables_wrong k cover pins hcover hpins p c (Pin j g x q d) w e all = pin_wrong k hpins pins p c (Pin j g x q d) w.1 all
tables_wrong k cover pins hcover hpins p c reason w e all = covers_wrong hcover cover reason w e

table_wrong : (k : PlainCert) (a b : Option Node) (p : ℕ) (c : CopyNo) (reason : Reason) → TableFails k a b p c reason → CopiesTable k a b p c → ⊥
table_wrong k None b p c reason w is = w
table_wrong k (Some (Register name init pin)) b p c reason w is = w
table_wrong k (Some (Table name cover pins)) None p c reason w is = w
table_wrong k (Some (Table name cover pins)) (Some (Register hname hinit hpin)) p c reason w is = is
table_wrong k (Some (Table name cover pins)) (Some (Table hname hcover hpins)) p c reason w is = tables_wrong k cover pins hcover hpins p c reason w is.0 is.1

registers_wrong : (k : PlainCert) (init free : Bool) (pin : ℕ) (hinit hfree : Bool) (hpin p : ℕ) (c : CopyNo) (reason : Reason) → RegistersDiffer k init free pin hinit hfree hpin p c reason → hinit ≡ init → hfree ≡ free → Reads k hpin pin p c → ⊥
registers_wrong k init free pin hinit hfree hpin p c (Initial a b d e) w i f read = w.4 (i, f)
registers_wrong k init free pin hinit hfree hpin p c (Pin j g x q d) w i f read = pin_wrong k (hpin ∷ []) (pin ∷ []) p c (Pin j g x q d) w.2 only
  where
    only : PinsRead k (hpin ∷ []) (pin ∷ []) p c
    only zero l = read
    only (suc m) l = absurd (omega arith)
registers_wrong k init free pin hinit hfree hpin p c reason w i f read = w

register_wrong : (k : PlainCert) (a : Option Node) (free : Bool) (b : Option Node) (hfree : Bool) (p : ℕ) (c : CopyNo) (reason : Reason) → RegisterFails k a free b hfree p c reason → CopiesRegister k a free b hfree p c → ⊥
register_wrong k None free b hfree p c reason w is = w
register_wrong k (Some (Table name cover pins)) free b hfree p c reason w is = w
register_wrong k (Some (Register name init pin)) free None hfree p c reason w is = w
register_wrong k (Some (Register name init pin)) free (Some (Table hname hcover hpins)) hfree p c reason w is = is
register_wrong k (Some (Register name init pin)) free (Some (Register hname hinit hpin)) hfree p c reason w is = registers_wrong k init free pin hinit hfree hpin p c reason w is.0 is.1 is.2

votes_wrong : (k : PlainCert) (x : ℕ) (name : List ℕ) (cover : PlainCover) (pins : List ℕ) (reason : Reason) → VoteFails k x cover pins reason → Votes k (Some (Table name cover pins)) x → ⊥
votes_wrong k x name cover pins (PinCount is wanted) w votes = w.2 (w.0 ∙ (ap length votes.0 ∙ sym w.1))
votes_wrong k x name cover pins (VoterPin g y c) w votes = w.1.fails (w.1.read ∙ (ap (λ (ps : List ℕ). slice_index ps (copy_number c)) votes.0 ∙ at c))
  where
    at : (d : CopyNo) → slice_index (copy_of k x First ∷ copy_of k x Second ∷ copy_of k x Third ∷ []) (copy_number d) ≡ copy_of k x d
    at First = refl
    at Second = refl
    at Third = refl
votes_wrong k x name cover pins (Minority a b c) w votes = w.1.fails (votes.1.votes a b c)
votes_wrong k x name cover pins reason w votes = w

voter_wrong : (k : PlainCert) (b : Option Node) (x : ℕ) (reason : Reason) → VoterFails k b x reason → Votes k b x → ⊥
voter_wrong k None x reason w votes = w
voter_wrong k (Some (Register name init pin)) x reason w votes = votes
voter_wrong k (Some (Table name cover pins)) x reason w votes = votes_wrong k x name cover pins reason w votes

label_wrong : (k : PlainCert) (b : Option Node) (e : ℕ) (reason : Reason) → LabelFails k b e reason → LabelReaches k b e → ⊥
label_wrong k None e reason w reaches = w
label_wrong k (Some (Table name cover pins)) e (LowLabel label wants g m) w reaches =
    let at = w.1 in
    let here : m ≡ count_of k (slice_index pins at.pin) = at.count ∙ ap (count_of k) at.read in
    omega (arith, here, at.wants, at.low, reaches at.pin at.within)
label_wrong k (Some (Register name init pin)) e (LowLabel label wants g m) w reaches = one w.1.pin w.1
  where
    one : (j : ℕ) → LabelFailsFirst k (pin ∷ []) 1 e wants g.0 m → ⊥
    one j at =
        let index : at.pin ≡ 0 = omega (arith, at.within) in
        let read : g.0 ≡ pin = at.read ∙ ap (slice_index (pin ∷ [])) index in
        let here : m ≡ count_of k pin = at.count ∙ ap (count_of k) read in
        omega (arith, here, at.wants, at.low, reaches)
label_wrong k b e reason w reaches = w

depth_wrong : (k : PlainCert) (x : ℕ) (c : CopyNo) (p : ℕ) (reason : Reason) → DepthFails k x c p reason → label_of k x c ≤ depth_of k p → ⊥
depth_wrong k x c p (DeepLabel label depth q) w le = omega (arith, w.0, w.1, w.3)
depth_wrong k x c p reason w le = w

copy_number_lt : (c : CopyNo) → copy_number c < 3
copy_number_lt First = omega arith
copy_number_lt Second = omega arith
copy_number_lt Third = omega arith

output_wrong : (n h : Net) (k : PlainCert) (j : ℕ) (reason : Reason) → OutputFails n h k j reason → Rule8 n h k j → ⊥
output_wrong n h k j (WrongOutput g x c) w rule =
    let there : slice_get h.outputs j ≡ Some (copy_of k x.0 c) = rule.copy w.0.output x.0 c w.0.place w.0.is in
    let is : slice_get h.outputs j ≡ Some g.0 = w.1 in
    w.2 (cc (there, is))
output_wrong n h k j (NoOutput x c) w rule =
    let there : slice_get h.outputs j ≡ Some (copy_of k x.0 c) = rule.copy w.0.output x.0 c w.0.place w.0.is in
    omega (arith, w.1, slice_get_within h.outputs j _ there)
output_wrong n h k j (NewOutput g) w rule =
    omega (arith, w.1, rule.no_more (slice_get_within h.outputs j _ w.0))
output_wrong n h k j reason w rule = w

module _ (n : Net) (f : List Bool) (h : Net) (g : List Bool) (k : PlainCert) where
  wrong : (rule : Rule) (place : ℕ) (reason : Reason) → Explains n f h g k rule place reason → RuleHolds n f h g k rule place → ⊥
  wrong Inputs place reason w is = inputs_wrong n h reason w.1 (is w.0)
  wrong Clocks place reason w is = clocks_wrong n.clock h.clock reason w.1 (is w.0)
  wrong Tables place reason w is = table_wrong k (node_of n w.x) (node_of h (length h.inputs + place)) w.p w.c reason w.is (is w.x w.c w.p w.role w.part)
  wrong Registers place reason w is =
      register_wrong k (node_of n w.x) (node_bit (length n.inputs) f w.x) (node_of h (length h.inputs + place)) (node_bit (length h.inputs) g (length h.inputs + place)) w.p w.c reason w.is (is w.x w.c w.p w.role w.part)
  wrong Voters place reason w is = voter_wrong k (node_of h (length h.inputs + place)) w.x reason w.is (is w.x w.p w.c w.role)
  wrong Labels place reason w is = label_wrong k (node_of h (length h.inputs + place)) (label_of k w.x w.c) reason w.is (is w.x w.c w.role)
  wrong Depths place reason w is = depth_wrong k w.x w.c w.p reason w.is (is w.x w.c w.p w.role w.part)
  wrong Outputs place reason w is = output_wrong n h k place reason w is

  pub reason_true : (rule : Rule) (place : ℕ) (reason : Reason) → Explains n f h g k rule place reason → Holds n f h g k (number rule) place → ⊥
  reason_true rule place reason w is = wrong rule place reason w (holds_rule n f h g k rule place is)
