-- Two reasons of one place say the same.
use Rattle.std.proofs.Common.{◌≡◌, ◌≢◌, ℕ, ◌+◌, ◌*◌, ◌<◌, ◌≤◌, ◌⊎◌, inl, inr, Bool, List, [], ◌∷◌, length, Option, Some, None, slice_get, slice_index, refl, sym, ap, ◌∙◌, subst, arith}
use Rattle.std.specs.Prelude.{codes}
use Rattle.std.specs.List.{concat}
use Rattle.std.specs.Fmt.{decimal}
use Rattle.std.proofs.lemmas.Option.{slice_get_within}
use Rattle.tmr_base.specs.declared.copies.CopyNo.{CopyNo}
use Rattle.tmr_base.specs.declared.copies.CopyNo.TheVariants.{First, Second, Third}
use Rattle.tmr_base.specs.declared.ids.Edge.{Edge}
use Rattle.tmr_base.specs.declared.ids.NetId.{NetId}
use Rattle.tmr_base.specs.Copies.{copy_number}
use Rattle.table_cover.specs.Cover.{PlainCover}
use Rattle.flat_net.specs.Net.{Net, Node, Table, Register, node_of}
use Rattle.flat_net.specs.Free.{node_bit}
use Rattle.tmr_base.specs.declared.ids.PartId.{PartId}
use Rattle.certificate.specs.declared.role.Role.TheVariants.{Copy, Voter}
use Rattle.certificate.specs.Reads.{Reads}
use Rattle.certificate.specs.Cert.{PlainCert, role_of, part_of, copy_of, label_of, count_of}
use Rattle.explaining.specs.declared.rule.Rule.{Rule}
use Rattle.explaining.specs.declared.rule.Rule.TheVariants.{Inputs, Clocks, Tables, Registers, Voters, Labels, Depths, Outputs}
use Rattle.explaining.specs.declared.reason.Reason.{Reason}
use Rattle.explaining.specs.declared.reason.Reason.TheVariants.{InputCount, NoClock, NewClock, WrongEdge, PinCount, Polarity, RowCount, Row, Initial, Pin, VoterPin, Minority, LowLabel, DeepLabel, WrongOutput, NoOutput, NewOutput}
use Rattle.explaining.specs.Reasons.{InputsFail, ClocksFail, DifferFirst, CoversDiffer, PinFails, TablesDiffer, TableFails, RegistersDiffer, RegisterFails, VoterPinFails, VoteFailsFirst, AtCopy, AtCopyIn, AtVoter, VoteFails, VoterFails, bits_number, LabelFailsFirst, LabelFails, DepthFails, IsWantedAt, OutputFails, Explains}
use Rattle.explaining.specs.Words.{reason_text, count_text, edge_text}
use Rattle.explaining.proofs.Truth.{covers_wrong}
use Rattle.explaining.proofs.Differs.{bits_same}

-- one copy, and one voter, to a role
copy_told : (x y : NetId) (c d : CopyNo) → Some (Copy x c) ≡ Some (Copy y d) → (x.0 ≡ y.0) × (c ≡ d)
copy_told x y c d e = let net : x ≡ y = cc e in (ap (λ (u : NetId). u.0) net, cc e)

voter_told : (x y : NetId) (p q : PartId) (c d : CopyNo) → Some (Voter x p c) ≡ Some (Voter y q d) → x.0 ≡ y.0
voter_told x y p q c d e = let net : x ≡ y = cc e in ap (λ (u : NetId). u.0) net

-- two first places are one
same_place : (P : ℕ → Type 0) (i j : ℕ) → (P i → ⊥) → ((m : ℕ) → m < i → P m) → (P j → ⊥) → ((m : ℕ) → m < j → P m) → i ≡ j
same_place P i j fails before fails' before' = go (cases i j) (cases j i)
  where
    cases : (a b : ℕ) → (a < b) ⊎ (b ≤ a)
    cases a b = grind arith

    go : (i < j) ⊎ (j ≤ i) → (j < i) ⊎ (i ≤ j) → i ≡ j
    go (inl l) m = absurd (fails (before' i l))
    go (inr u) (inl l) = absurd (fails' (before j l))
    go (inr u) (inr v) = omega arith

module _ (n h : Net) (k : PlainCert) (place : ℕ) where
  abbrev says : Reason → List ℕ
  says reason = reason_text n h k place reason

  one_input : (a b : Reason) → InputsFail n h a → InputsFail n h b → says a ≡ says b
  one_input (InputCount i w) (InputCount j v) x y = λ t. count_text (codes "inputs") ((x.0 ∙ sym y.0) t) ((x.1 ∙ sym y.1) t)
  one_input (InputCount i w) b x y = absurd y
  one_input a b x y = absurd x

  one_clock : (c d : Option (Edge × List ℕ)) (a b : Reason) → ClocksFail c d a → ClocksFail c d b → says a ≡ says b
  one_clock None None NoClock b x y = absurd (cc x.0)
  one_clock None (Some d) NoClock b x y = absurd (cc x.0)
  one_clock (Some c) (Some d) NoClock b x y = absurd (cc x.1)
  one_clock (Some c) None NoClock NoClock x y = refl
  one_clock (Some c) None NoClock NewClock x y = absurd (cc y.0)
  one_clock (Some c) None NoClock (WrongEdge i w) x y = absurd y.0
  one_clock (Some c) None NoClock b x y = absurd y
  one_clock (Some c) d NewClock b x y = absurd (cc x.0)
  one_clock None None NewClock b x y = absurd (cc x.1)
  one_clock None (Some d) NewClock NewClock x y = refl
  one_clock None (Some d) NewClock NoClock x y = absurd (cc y.0)
  one_clock None (Some d) NewClock (WrongEdge i w) x y = absurd y.1
  one_clock None (Some d) NewClock b x y = absurd y
  one_clock None d (WrongEdge i w) b x y = absurd x.1
  one_clock (Some c) None (WrongEdge i w) b x y = absurd x.0
  one_clock (Some c) (Some d) (WrongEdge i w) (WrongEdge j v) x y = λ t. concat (codes "edge " ∷ edge_text ((sym x.0 ∙ y.0) t) ∷ codes ", not " ∷ edge_text ((sym x.1 ∙ y.1) t) ∷ [])
  one_clock (Some c) (Some d) (WrongEdge i w) NoClock x y = absurd (cc y.1)
  one_clock (Some c) (Some d) (WrongEdge i w) NewClock x y = absurd (cc y.0)
  one_clock (Some c) (Some d) (WrongEdge i w) b x y = absurd y
  one_clock c d a b x y = absurd x

  one_row : (xs ys : List (List ℕ)) (i j : ℕ) (a b c d : List ℕ) → DifferFirst xs ys i a b → DifferFirst xs ys j c d → (i ≡ j) × (a ≡ c) × (b ≡ d)
  one_row xs ys i j a b c d x y =
      let differs : (m : ℕ) (u v : List ℕ) → slice_get xs m ≡ Some u → slice_get ys m ≡ Some v → u ≢ v → slice_get xs m ≡ slice_get ys m → ⊥ = λ m u v is there ne same. ne (cc (is, there, same)) in
      let at : i ≡ j = same_place (λ m. slice_get xs m ≡ slice_get ys m) i j (differs i a b x.left x.right x.differ) x.before (differs j c d y.left y.right y.differ) y.before in
      let l : slice_get xs i ≡ Some c = ap (slice_get xs) at ∙ y.left in
      let r : slice_get ys i ≡ Some d = ap (slice_get ys) at ∙ y.right in
      let left : slice_get xs i ≡ Some a = x.left in
      let right : slice_get ys i ≡ Some b = x.right in
      (at, cc (l, left), cc (r, right))

  one_cover : (u v : PlainCover) (a b : Reason) → CoversDiffer u v a → CoversDiffer u v b → says a ≡ says b
  one_cover u v (PinCount i w) (PinCount j z) x y = λ t. count_text (codes "pins") ((x.0 ∙ sym y.0) t) ((x.1 ∙ sym y.1) t)
  one_cover u v (PinCount i w) Polarity x y = absurd (x.2 (x.0 ∙ (y.0 ∙ sym x.1)))
  one_cover u v (PinCount i w) (RowCount j z) x y = absurd (x.2 (x.0 ∙ (y.0 ∙ sym x.1)))
  one_cover u v (PinCount i w) (Row j c d) x y = absurd (x.2 (x.0 ∙ (y.0 ∙ sym x.1)))
  one_cover u v (PinCount i w) b x y = absurd y
  one_cover u v Polarity (PinCount j z) x y = absurd (y.2 (y.0 ∙ (x.0 ∙ sym y.1)))
  one_cover u v Polarity Polarity x y = refl
  one_cover u v Polarity (RowCount j z) x y = absurd (x.1 y.1)
  one_cover u v Polarity (Row j c d) x y = absurd (x.1 y.1)
  one_cover u v Polarity b x y = absurd y
  one_cover u v (RowCount i w) (PinCount j z) x y = absurd (y.2 (y.0 ∙ (x.0 ∙ sym y.1)))
  one_cover u v (RowCount i w) Polarity x y = absurd (y.1 x.1)
  one_cover u v (RowCount i w) (RowCount j z) x y = λ t. count_text (codes "rows") ((x.2 ∙ sym y.2) t) ((x.3 ∙ sym y.3) t)
  one_cover u v (RowCount i w) (Row j c d) x y = absurd (x.4 (x.2 ∙ (y.2 ∙ sym x.3)))
  one_cover u v (RowCount i w) b x y = absurd y
  one_cover u v (Row i c d) (PinCount j z) x y = absurd (y.2 (y.0 ∙ (x.0 ∙ sym y.1)))
  one_cover u v (Row i c d) Polarity x y = absurd (y.1 x.1)
  one_cover u v (Row i c d) (RowCount j z) x y = absurd (y.4 (y.2 ∙ (x.2 ∙ sym y.3)))
  one_cover u v (Row i c d) (Row j e f) x y =
      let same = one_row u.rows v.rows i j c.now d.now e.now f.now x.3 y.3 in
      λ t. concat (codes "row " ∷ decimal (same.0 t) ∷ codes " is " ∷ same.1 t ∷ codes ", not " ∷ same.2 t ∷ [])
  one_cover u v (Row i c d) b x y = absurd y
  one_cover u v a b x y = absurd x

  one_pin : (hs xs : List ℕ) (p : ℕ) (c : CopyNo) (a b : Reason) → PinFails k hs xs p c a → PinFails k hs xs p c b → says a ≡ says b
  one_pin hs xs p c (Pin j g x q d) (Pin i f z r e) u v =
      let P : ℕ → Type 0 = λ m. Reads k (slice_index hs m) (slice_index xs m) p c in
      let not_first : P j → ⊥ = λ reads. u.2.fails (subst (λ m. Reads k m x.0 p c) (sym u.2.read) (subst (λ m. Reads k (slice_index hs j) m p c) (sym u.2.wanted) reads)) in
      let not_second : P i → ⊥ = λ reads. v.2.fails (subst (λ m. Reads k m z.0 p c) (sym v.2.read) (subst (λ m. Reads k (slice_index hs i) m p c) (sym v.2.wanted) reads)) in
      let at : j ≡ i = same_place P j i not_first u.2.before not_second v.2.before in
      let net : g.0 ≡ f.0 = u.2.read ∙ (ap (slice_index hs) at ∙ sym v.2.read) in
      let node : x.0 ≡ z.0 = u.2.wanted ∙ (ap (slice_index xs) at ∙ sym v.2.wanted) in
      λ t. says (Pin (at t) (record { 0 = net t }) (record { 0 = node t }) (record { 0 = (u.0 ∙ sym v.0) t }) ((u.1 ∙ sym v.1) t))
  one_pin hs xs p c (Pin j g x q d) b u v = absurd v
  one_pin hs xs p c a b u v = absurd u

  one_table : (cover : PlainCover) (pins : List ℕ) (hcover : PlainCover) (hpins : List ℕ) (p : ℕ) (c : CopyNo) (a b : Reason) → TablesDiffer k cover pins hcover hpins p c a → TablesDiffer k cover pins hcover hpins p c b → says a ≡ says b
  one_table cover pins hcover hpins p c (Pin j g x q d) (Pin i f z r e) u v = one_pin hpins pins p c (Pin j g x q d) (Pin i f z r e) u.1 v.1
  one_table cover pins hcover hpins p c (Pin j g x q d) b u v = absurd (covers_wrong hcover cover b v u.0)
  one_table cover pins hcover hpins p c a (Pin i f z r e) u v = absurd (covers_wrong hcover cover a u v.0)
  one_table cover pins hcover hpins p c a b u v = one_cover hcover cover a b u v

  one_table_node : (a b : Option Node) (p : ℕ) (c : CopyNo) (r s : Reason) → TableFails k a b p c r → TableFails k a b p c s → says r ≡ says s
  one_table_node None b p c r s u v = absurd u
  one_table_node (Some (Register name init pin)) b p c r s u v = absurd u
  one_table_node (Some (Table name cover pins)) None p c r s u v = absurd u
  one_table_node (Some (Table name cover pins)) (Some (Register hname hinit hpin)) p c r s u v = ap says (u ∙ sym v)
  one_table_node (Some (Table name cover pins)) (Some (Table hname hcover hpins)) p c r s u v = one_table cover pins hcover hpins p c r s u v

  one_register : (init free : Bool) (pin : ℕ) (hinit hfree : Bool) (hpin p : ℕ) (c : CopyNo) (r s : Reason) → RegistersDiffer k init free pin hinit hfree hpin p c r → RegistersDiffer k init free pin hinit hfree hpin p c s → says r ≡ says s
  one_register init free pin hinit hfree hpin p c (Initial a b d e) (Initial a' b' d' e') u v =
      λ t. says (Initial ((u.0 ∙ sym v.0) t) ((u.1 ∙ sym v.1) t) ((u.2 ∙ sym v.2) t) ((u.3 ∙ sym v.3) t))
  one_register init free pin hinit hfree hpin p c (Initial a b d e) (Pin j g x q o) u v = absurd (u.4 (v.0, v.1))
  one_register init free pin hinit hfree hpin p c (Initial a b d e) s u v = absurd v
  one_register init free pin hinit hfree hpin p c (Pin j g x q o) (Initial a b d e) u v = absurd (v.4 (u.0, u.1))
  one_register init free pin hinit hfree hpin p c (Pin j g x q o) (Pin i f z r e) u v = one_pin (hpin ∷ []) (pin ∷ []) p c (Pin j g x q o) (Pin i f z r e) u.2 v.2
  one_register init free pin hinit hfree hpin p c (Pin j g x q o) s u v = absurd v
  one_register init free pin hinit hfree hpin p c r s u v = absurd u

  one_register_node : (a : Option Node) (free : Bool) (b : Option Node) (hfree : Bool) (p : ℕ) (c : CopyNo) (r s : Reason) → RegisterFails k a free b hfree p c r → RegisterFails k a free b hfree p c s → says r ≡ says s
  one_register_node None free b hfree p c r s u v = absurd u
  one_register_node (Some (Table name cover pins)) free b hfree p c r s u v = absurd u
  one_register_node (Some (Register name init pin)) free None hfree p c r s u v = absurd u
  one_register_node (Some (Register name init pin)) free (Some (Table hname hcover hpins)) hfree p c r s u v = ap says (u ∙ sym v)
  one_register_node (Some (Register name init pin)) free (Some (Register hname hinit hpin)) hfree p c r s u v = one_register init free pin hinit hfree hpin p c r s u v

  copy_order : (c d : CopyNo) → (copy_number c < copy_number d) ⊎ ((copy_number d < copy_number c) ⊎ (c ≡ d))
  copy_order First First = inr (inr refl)
  copy_order First Second = inl (omega arith)
  copy_order First Third = inl (omega arith)
  copy_order Second First = inr (inl (omega arith))
  copy_order Second Second = inr (inr refl)
  copy_order Second Third = inl (omega arith)
  copy_order Third First = inr (inl (omega arith))
  copy_order Third Second = inr (inl (omega arith))
  copy_order Third Third = inr (inr refl)

  at_copies : (x : ℕ) (pins : List ℕ) (c : CopyNo) → pins ≡ copy_of k x First ∷ copy_of k x Second ∷ copy_of k x Third ∷ [] → slice_index pins (copy_number c) ≡ copy_of k x c
  at_copies x pins c e = ap (λ (ps : List ℕ). slice_index ps (copy_number c)) e ∙ at c
    where
      at : (d : CopyNo) → slice_index (copy_of k x First ∷ copy_of k x Second ∷ copy_of k x Third ∷ []) (copy_number d) ≡ copy_of k x d
      at First = refl
      at Second = refl
      at Third = refl

  one_voter_pin : (x : ℕ) (pins : List ℕ) (g f : ℕ) (c d : CopyNo) → VoterPinFails k x pins g c → VoterPinFails k x pins f d → (g ≡ f) × (c ≡ d)
  one_voter_pin x pins g f c d u v = go (copy_order c d)
    where
      go : (copy_number c < copy_number d) ⊎ ((copy_number d < copy_number c) ⊎ (c ≡ d)) → (g ≡ f) × (c ≡ d)
      go (inl l) = absurd (u.fails (u.read ∙ v.before c l))
      go (inr (inl l)) = absurd (v.fails (v.read ∙ u.before d l))
      go (inr (inr e)) = (u.read ∙ (ap (λ (o : CopyNo). slice_index pins (copy_number o)) e ∙ sym v.read), e)

  one_minority : (cover : PlainCover) (a b c d e f : Bool) → VoteFailsFirst cover a b c → VoteFailsFirst cover d e f → (a ≡ d) × (b ≡ e) × (c ≡ f)
  one_minority cover a b c d e f u v = bits_same a b c d e f (go (cases (bits_number a b c) (bits_number d e f)) (cases (bits_number d e f) (bits_number a b c)))
    where
      cases : (m o : ℕ) → (m < o) ⊎ (o ≤ m)
      cases m o = grind arith

      go : (bits_number a b c < bits_number d e f) ⊎ (bits_number d e f ≤ bits_number a b c) → (bits_number d e f < bits_number a b c) ⊎ (bits_number a b c ≤ bits_number d e f) → bits_number a b c ≡ bits_number d e f
      go (inl l) m = absurd (u.fails (v.before a b c l))
      go (inr x) (inl l) = absurd (v.fails (u.before d e f l))
      go (inr x) (inr y) = omega arith

  one_vote : (x : ℕ) (cover : PlainCover) (pins : List ℕ) (r s : Reason) → VoteFails k x cover pins r → VoteFails k x cover pins s → says r ≡ says s
  one_vote x cover pins (PinCount i w) (PinCount j z) u v = λ t. count_text (codes "pins") ((u.0 ∙ sym v.0) t) ((u.1 ∙ sym v.1) t)
  one_vote x cover pins (PinCount i w) (VoterPin g y c) u v = absurd (u.2 (u.0 ∙ (v.1.three ∙ sym u.1)))
  one_vote x cover pins (PinCount i w) (Minority a b c) u v = absurd (u.2 (u.0 ∙ (ap length v.0 ∙ sym u.1)))
  one_vote x cover pins (PinCount i w) s u v = absurd v
  one_vote x cover pins (VoterPin g y c) (PinCount i w) u v = absurd (v.2 (v.0 ∙ (u.1.three ∙ sym v.1)))
  one_vote x cover pins (VoterPin g y c) (VoterPin f z d) u v =
      let same = one_voter_pin x pins g.0 f.0 c d u.1 v.1 in
      λ t. says (VoterPin (record { 0 = same.0 t }) (record { 0 = (u.0 ∙ sym v.0) t }) (same.1 t))
  one_vote x cover pins (VoterPin g y c) (Minority a b e) u v = absurd (u.1.fails (u.1.read ∙ at_copies x pins c v.0))
  one_vote x cover pins (VoterPin g y c) s u v = absurd v
  one_vote x cover pins (Minority a b c) (PinCount i w) u v = absurd (v.2 (v.0 ∙ (ap length u.0 ∙ sym v.1)))
  one_vote x cover pins (Minority a b e) (VoterPin g y c) u v = absurd (v.1.fails (v.1.read ∙ at_copies x pins c u.0))
  one_vote x cover pins (Minority a b c) (Minority d e f) u v =
      let same = one_minority cover a b c d e f u.1 v.1 in λ t. says (Minority (same.0 t) (same.1 t) (same.2 t))
  one_vote x cover pins (Minority a b c) s u v = absurd v
  one_vote x cover pins r s u v = absurd u

  one_voter_node : (b : Option Node) (x : ℕ) (r s : Reason) → VoterFails k b x r → VoterFails k b x s → says r ≡ says s
  one_voter_node None x r s u v = absurd u
  one_voter_node (Some (Register name init pin)) x r s u v = ap says (u ∙ sym v)
  one_voter_node (Some (Table name cover pins)) x r s u v = one_vote x cover pins r s u v

  one_low : (pins : List ℕ) (more e w g m w' g' m' : ℕ) → LabelFailsFirst k pins more e w g m → LabelFailsFirst k pins more e w' g' m' → (w ≡ w') × (g ≡ g') × (m ≡ m')
  one_low pins more e w g m w' g' m' u v =
      let P : ℕ → Type 0 = λ i. count_of k (slice_index pins i) + more ≤ e in
      let read_u : m ≡ count_of k (slice_index pins u.pin) = u.count ∙ ap (count_of k) u.read in
      let read_v : m' ≡ count_of k (slice_index pins v.pin) = v.count ∙ ap (count_of k) v.read in
      let at : u.pin ≡ v.pin = same_place P u.pin v.pin (λ le. omega (arith, le, read_u, u.wants, u.low)) u.before (λ le. omega (arith, le, read_v, v.wants, v.low)) v.before in
      let net : g ≡ g' = u.read ∙ (ap (slice_index pins) at ∙ sym v.read) in
      let count : m ≡ m' = u.count ∙ (ap (count_of k) net ∙ sym v.count) in
      (omega (arith, u.wants, v.wants, count), net, count)

  one_label : (b : Option Node) (e : ℕ) (r s : Reason) → LabelFails k b e r → LabelFails k b e s → says r ≡ says s
  one_label None e r s u v = absurd u
  one_label (Some (Table name cover pins)) e (LowLabel l w g m) (LowLabel l' w' g' m') u v =
      let same = one_low pins 0 e w g.0 m w' g'.0 m' u.1 v.1 in λ t. says (LowLabel ((u.0 ∙ sym v.0) t) (same.0 t) (record { 0 = same.1 t }) (same.2 t))
  one_label (Some (Table name cover pins)) e (LowLabel l w g m) s u v = absurd v
  one_label (Some (Register name init pin)) e (LowLabel l w g m) (LowLabel l' w' g' m') u v =
      let same = one_low (pin ∷ []) 1 e w g.0 m w' g'.0 m' u.1 v.1 in λ t. says (LowLabel ((u.0 ∙ sym v.0) t) (same.0 t) (record { 0 = same.1 t }) (same.2 t))
  one_label (Some (Register name init pin)) e (LowLabel l w g m) s u v = absurd v
  one_label b e r s u v = absurd u

  one_depth : (x : ℕ) (c : CopyNo) (p : ℕ) (r s : Reason) → DepthFails k x c p r → DepthFails k x c p s → says r ≡ says s
  one_depth x c p (DeepLabel l d q) (DeepLabel l' d' q') u v = λ t. says (DeepLabel ((u.0 ∙ sym v.0) t) ((u.1 ∙ sym v.1) t) (record { 0 = (u.2 ∙ sym v.2) t }))
  one_depth x c p (DeepLabel l d q) s u v = absurd v
  one_depth x c p r s u v = absurd u

  one_wanted : (x y : ℕ) (c d : CopyNo) → IsWantedAt n place x c → IsWantedAt n place y d → (x ≡ y) × (c ≡ d)
  one_wanted x y c d u v =
      let both = same_copy c d u.output v.output (sym u.place ∙ v.place) in
      let there : slice_get n.outputs u.output ≡ Some y = ap (slice_get n.outputs) both.0 ∙ v.is in
      let here : slice_get n.outputs u.output ≡ Some x = u.is in
      (cc (here, there), both.1)
    where
      same_copy : (c d : CopyNo) (i j : ℕ) → 3 * i + copy_number c ≡ 3 * j + copy_number d → (i ≡ j) × (c ≡ d)
      same_copy First First i j e = (omega arith, refl)
      same_copy First Second i j e = absurd (omega arith)
      same_copy First Third i j e = absurd (omega arith)
      same_copy Second First i j e = absurd (omega arith)
      same_copy Second Second i j e = (omega arith, refl)
      same_copy Second Third i j e = absurd (omega arith)
      same_copy Third First i j e = absurd (omega arith)
      same_copy Third Second i j e = absurd (omega arith)
      same_copy Third Third i j e = (omega arith, refl)

  wanted_low : (x : ℕ) (c : CopyNo) → IsWantedAt n place x c → 3 * length n.outputs ≤ place → ⊥
  wanted_low x First u past = omega (arith, u.place, slice_get_within n.outputs u.output x u.is)
  wanted_low x Second u past = omega (arith, u.place, slice_get_within n.outputs u.output x u.is)
  wanted_low x Third u past = omega (arith, u.place, slice_get_within n.outputs u.output x u.is)

  one_net : (g f : ℕ) → slice_get h.outputs place ≡ Some g → slice_get h.outputs place ≡ Some f → g ≡ f
  one_net g f a b = cc (a, b)

  one_output : (r s : Reason) → OutputFails n h k place r → OutputFails n h k place s → says r ≡ says s
  one_output (WrongOutput g x c) (WrongOutput f y d) u v =
      let same = one_wanted x.0 y.0 c d u.0 v.0 in λ t. says (WrongOutput (record { 0 = one_net g.0 f.0 u.1 v.1 t }) (record { 0 = same.0 t }) (same.1 t))
  one_output (WrongOutput g x c) (NoOutput y d) u v = absurd (omega (arith, v.1, slice_get_within h.outputs place g.0 u.1))
  one_output (WrongOutput g x c) (NewOutput f) u v = absurd (wanted_low x.0 c u.0 v.1)
  one_output (WrongOutput g x c) s u v = absurd v
  one_output (NoOutput x c) (WrongOutput f y d) u v = absurd (omega (arith, u.1, slice_get_within h.outputs place f.0 v.1))
  one_output (NoOutput x c) (NoOutput y d) u v = let same = one_wanted x.0 y.0 c d u.0 v.0 in λ t. says (NoOutput (record { 0 = same.0 t }) (same.1 t))
  one_output (NoOutput x c) (NewOutput f) u v = absurd (wanted_low x.0 c u.0 v.1)
  one_output (NoOutput x c) s u v = absurd v
  one_output (NewOutput g) (WrongOutput f y d) u v = absurd (wanted_low y.0 d v.0 u.1)
  one_output (NewOutput g) (NoOutput y d) u v = absurd (wanted_low y.0 d v.0 u.1)
  one_output (NewOutput g) (NewOutput f) u v = λ t. says (NewOutput (record { 0 = one_net g.0 f.0 u.0 v.0 t }))
  one_output (NewOutput g) s u v = absurd v
  one_output r s u v = absurd u

  -- one role of a hardened net
  same_role : (y : ℕ) (a b : Reason) (P : ℕ → CopyNo → Reason → Type 0) → ((x : ℕ) (c : CopyNo) → P x c a → P x c b → says a ≡ says b) → AtCopy k y (λ x c. P x c a) → AtCopy k y (λ x c. P x c b) → says a ≡ says b
  same_role y a b P one u v =
      let there : role_of k y ≡ Some (Copy (record { 0 = v.x }) v.c) = v.role in
      let here : role_of k y ≡ Some (Copy (record { 0 = u.x }) u.c) = u.role in
      let told = copy_told (record { 0 = v.x }) (record { 0 = u.x }) v.c u.c (sym there ∙ here) in
      let node : v.x ≡ u.x = told.0 in
      let copy : v.c ≡ u.c = told.1 in
      one u.x u.c u.is (subst (λ d. P u.x d b) copy (subst (λ z. P z v.c b) node v.is))

  same_part : (y : ℕ) (a b : Reason) (P : ℕ → CopyNo → ℕ → Reason → Type 0) → ((x : ℕ) (c : CopyNo) (p : ℕ) → P x c p a → P x c p b → says a ≡ says b) → AtCopyIn k y (λ x c p. P x c p a) → AtCopyIn k y (λ x c p. P x c p b) → says a ≡ says b
  same_part y a b P one u v =
      let there : role_of k y ≡ Some (Copy (record { 0 = v.x }) v.c) = v.role in
      let here : role_of k y ≡ Some (Copy (record { 0 = u.x }) u.c) = u.role in
      let told = copy_told (record { 0 = v.x }) (record { 0 = u.x }) v.c u.c (sym there ∙ here) in
      let node : v.x ≡ u.x = told.0 in
      let copy : v.c ≡ u.c = told.1 in
      let in_u : part_of k u.x ≡ Some u.p = u.part in
      let in_v : part_of k u.x ≡ Some v.p = ap (part_of k) (sym node) ∙ v.part in
      let part : v.p ≡ u.p = cc (in_u, in_v) in
      one u.x u.c u.p u.is (subst (λ q. P u.x u.c q b) part (subst (λ d. P u.x d v.p b) copy (subst (λ z. P z v.c v.p b) node v.is)))

  same_voter : (y : ℕ) (a b : Reason) (P : ℕ → Reason → Type 0) → ((x : ℕ) → P x a → P x b → says a ≡ says b) → AtVoter k y (λ x. P x a) → AtVoter k y (λ x. P x b) → says a ≡ says b
  same_voter y a b P one u v =
      let there : role_of k y ≡ Some (Voter (record { 0 = v.x }) (record { 0 = v.p }) v.c) = v.role in
      let here : role_of k y ≡ Some (Voter (record { 0 = u.x }) (record { 0 = u.p }) u.c) = u.role in
      let node : v.x ≡ u.x = voter_told (record { 0 = v.x }) (record { 0 = u.x }) (record { 0 = v.p }) (record { 0 = u.p }) v.c u.c (sym there ∙ here) in
      one u.x u.is (subst (λ z. P z b) node v.is)

pub reasons_say_one : (n : Net) (f : List Bool) (h : Net) (g : List Bool) (k : PlainCert) (rule : Rule) (place : ℕ) (a b : Reason) → Explains n f h g k rule place a → Explains n f h g k rule place b → reason_text n h k place a ≡ reason_text n h k place b
reasons_say_one n f h g k Inputs place a b u v = one_input n h k place a b u.1 v.1
reasons_say_one n f h g k Clocks place a b u v = one_clock n h k place n.clock h.clock a b u.1 v.1
reasons_say_one n f h g k Tables place a b u v =
    same_part n h k place (length h.inputs + place) a b (λ x c p r. TableFails k (node_of n x) (node_of h (length h.inputs + place)) p c r) (λ x c p. one_table_node n h k place (node_of n x) (node_of h (length h.inputs + place)) p c a b) u v
reasons_say_one n f h g k Registers place a b u v =
    same_part n h k place (length h.inputs + place) a b (λ x c p r. RegisterFails k (node_of n x) (node_bit (length n.inputs) f x) (node_of h (length h.inputs + place)) (node_bit (length h.inputs) g (length h.inputs + place)) p c r)
    (λ x c p. one_register_node n h k place (node_of n x) (node_bit (length n.inputs) f x) (node_of h (length h.inputs + place)) (node_bit (length h.inputs) g (length h.inputs + place)) p c a b) u v
reasons_say_one n f h g k Voters place a b u v =
    same_voter n h k place (length h.inputs + place) a b (λ x r. VoterFails k (node_of h (length h.inputs + place)) x r) (λ x. one_voter_node n h k place (node_of h (length h.inputs + place)) x a b) u v
reasons_say_one n f h g k Labels place a b u v =
    same_role n h k place (length h.inputs + place) a b (λ x c r. LabelFails k (node_of h (length h.inputs + place)) (label_of k x c) r) (λ x c. one_label n h k place (node_of h (length h.inputs + place)) (label_of k x c) a b) u v
reasons_say_one n f h g k Depths place a b u v =
    same_part n h k place (length h.inputs + place) a b (λ x c p r. DepthFails k x c p r) (λ x c p. one_depth n h k place x c p a b) u v
reasons_say_one n f h g k Outputs place a b u v = one_output n h k place a b u v
