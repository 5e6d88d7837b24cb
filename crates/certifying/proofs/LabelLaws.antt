-- Labels that are below all that are reached.
use Rattle.std.proofs.Common.{◌≡◌, ℕ, ◌+◌, ◌-◌, ◌<◌, ◌≤◌, List, [], ◌∷◌, ◌++◌, length, get_or, map, take, add-one, Option, Some, None, sym, ap, subst, ◌∙◌, arith}
use Rattle.std.specs.Prelude.{slice_get}
use Rattle.std.proofs.lemmas.List.{map-append}
use Rattle.std.proofs.Math.Seq.{take-suc}
use Rattle.tmr_base.specs.declared.ids.NetId.{NetId}
use Rattle.tmr_base.specs.declared.copies.CopyNo.{CopyNo}
use Rattle.tmr_base.specs.declared.copies.CopyNo.TheVariants.{First, Second, Third}
use Rattle.certificate.specs.Threes.{three_ids}
use Rattle.tmr_base.specs.Copies.{Three, of_copy}
use Rattle.flat_net.specs.Net.{Net, Node, Table, Register, node_of, pins_at, slot}
use Rattle.flat_net.specs.Kinds.{kind_of}
use Rattle.flat_net.specs.declared.kind.Kind.TheVariants as kind
use Rattle.flat_net.proofs.Slots.{slot_within, slot_at}
use Rattle.std.proofs.lemmas.Option.{slice_get-get_or}
use Rattle.certificate.specs.declared.role.Role.TheVariants.{Copy}
use Rattle.certificate.specs.Cert.{PlainCert, IsCert, Fits, role_of, role_count, copy_of, label_of, count_of, three_or_input}
use Rattle.certificate.specs.Rules.{Rule6, LabelReaches}
use Rattle.certifying.specs.Private.Labels.{Reaches, AreReached, AreBelow}
use Rattle.certifying.specs.Private.Depths.{three_at, no_three, AreLabels}

-- what rule 6 says of a node
pub reaches_of : (m : PlainCert) (o : Option Node) (e : ℕ) → LabelReaches m o e → Reaches (count_of m) o e
reaches_of m None e r = r
reaches_of m (Some (Table name cover pins)) e r = r
reaches_of m (Some (Register name init pin)) e r = r

-- where rule 6 holds of m, what its nets count is reached
pub reached_of : (h : Net) (b m : PlainCert) → ((a x : ℕ) (c : CopyNo) → role_of b a ≡ Some (Copy (record { 0 = x }) c) → role_of m a ≡ Some (Copy (record { 0 = x }) c)) → ((a : ℕ) → Rule6 h m a) → AreReached h b (count_of m)
reached_of h b m same rule a x c role =
    let there : role_of m a ≡ Some (Copy (record { 0 = x }) c) = same a x c role in
    let count : count_of m a ≡ label_of m x c = ap (role_count m) there in
    reaches_of m (node_of h a) (count_of m a) (subst (LabelReaches m (node_of h a)) (sym count) (rule a x c there))

module _ (n h : Net) (b : PlainCert) (cert : IsCert b) (fits : Fits n h b) (labels : List ℕ) (threes : List Three) (long : length labels ≡ length h.nodes) (below : AreBelow h b labels) (are : AreLabels n h b labels threes) where
  -- the role of a copy
  pub copy_role : (i : ℕ) (c : CopyNo) → i < length n.nodes → role_of b (copy_of b (length n.inputs + i) c) ≡ Some (Copy (record { 0 = length n.inputs + i }) c)
  copy_role i c l = cert.copies_have_roles (length n.inputs + i) c (omega (arith, fits.original_inputs)) (omega (arith, fits.original_inputs, fits.original_nodes, l))

  -- the label of a copy is at most each number that reaches what pins count
  pub label_below : (l : ℕ → ℕ) → AreReached h b l → (i : ℕ) (c : CopyNo) → i < length n.nodes → of_copy (three_at threes i) c ≤ l (copy_of b (length n.inputs + i) c)
  label_below l reached i c lt =
      let w = slot_within b.hardened_inputs b.roles (copy_of b (length n.inputs + i) c) _ (copy_role i c lt) in
      let here : length h.inputs + (copy_of b (length n.inputs + i) c - length h.inputs) ≡ copy_of b (length n.inputs + i) c = omega (arith, w.0, fits.hardened_inputs) in
      let at : of_copy (three_at threes i) c ≡ get_or labels (copy_of b (length n.inputs + i) c - length h.inputs) 0 = are.each i c (omega (arith, are.nodes, lt)) in
      let small : get_or labels (copy_of b (length n.inputs + i) c - length h.inputs) 0 ≤ l (length h.inputs + (copy_of b (length n.inputs + i) c - length h.inputs)) = below l reached (copy_of b (length n.inputs + i) c - length h.inputs) (omega (arith, w.0, w.1, long, fits.hardened_inputs, fits.hardened_nodes)) in
      let same : l (length h.inputs + (copy_of b (length n.inputs + i) c - length h.inputs)) ≡ l (copy_of b (length n.inputs + i) c) = ap l here in
      omega (arith, at, small, same)

-- the entry of a list with a number of its own, or none past it
pub slot_at_or : {A : Type 0} (start : ℕ) (xs : List A) (i : ℕ) (d : A) → i < length xs → slot start xs (start + i) ≡ Some (get_or xs i d)
slot_at_or {A} start xs i d l =
    let back : (start + i) - start ≡ i = omega arith in
    slot_at start xs (start + i) (omega arith) ∙ (ap (slice_get xs) back ∙ slice_get-get_or xs i d l)

-- what a table's pins count, and what a register's pin does
pub table_reaches : (l : ℕ → ℕ) (o : Option Node) (e : ℕ) → kind_of o ≡ kind.Table → Reaches l o e → (j : ℕ) → j < length (pins_at o) → l (get_or (pins_at o) j 0) ≤ e
table_reaches l None e k r j lt = absurd (omega arith)
table_reaches l (Some (Table name cover pins)) e k r j lt = r j lt
table_reaches l (Some (Register name init pin)) e k r j lt = absurd (cc)

pub register_reaches : (l : ℕ → ℕ) (o : Option Node) (e : ℕ) → kind_of o ≡ kind.Register → Reaches l o e → l (get_or (pins_at o) 0 0) + 1 ≤ e
register_reaches l None e k r = absurd (cc)
register_reaches l (Some (Table name cover pins)) e k r = absurd (cc)
register_reaches l (Some (Register name init pin)) e k r = r

-- triples with the same parts
three_eq : (s t : Three) → s.first ≡ t.first → s.second ≡ t.second → s.third ≡ t.third → s ≡ t
three_eq s t e f g =
    let one : s ≡ record { first = t.first; second = s.second; third = s.third } = ap (λ (a : ℕ). record { first = a; second = s.second; third = s.third }) e in
    let two : record { first = t.first; second = s.second; third = s.third } ≡ record { first = t.first; second = t.second; third = s.third } = ap (λ (a : ℕ). record { first = t.first; second = a; third = s.third }) f in
    let three : record { first = t.first; second = t.second; third = s.third } ≡ t = ap (λ (a : ℕ). record { first = t.first; second = t.second; third = a }) g in
    one ∙ (two ∙ three)

-- the copies of one node more
pub copies_more : (k : PlainCert) (copies more : List (List NetId)) (a b d : NetId) (i x : ℕ) → map three_ids copies ≡ take i k.copies → i < length k.copies → more ≡ copies ++ (a ∷ b ∷ d ∷ []) ∷ [] → x ≡ k.original_inputs + i
    → a.0 ≡ copy_of k x First → b.0 ≡ copy_of k x Second → d.0 ≡ copy_of k x Third → map three_ids more ≡ take (i + 1) k.copies
copies_more k copies more a b d i x so_far lt is at first second third =
    ap (map three_ids) is ∙ (map-append three_ids copies ((a ∷ b ∷ d ∷ []) ∷ [])
    ∙ (ap (λ (ts : List Three). ts ++ three_ids (a ∷ b ∷ d ∷ []) ∷ []) so_far
    ∙ (ap (λ (t : Three). take i k.copies ++ t ∷ []) same ∙ sym (rw add-one (take-suc k.copies i no_three lt)))))
  where
    here : (c : CopyNo) → copy_of k x c ≡ of_copy (get_or k.copies i no_three) c
    here c = ap (λ (z : ℕ). copy_of k z c) at ∙ ap (λ (o : Option Three). three_or_input o (k.original_inputs + i) c) (slot_at_or k.original_inputs k.copies i no_three lt)

    same : three_ids (a ∷ b ∷ d ∷ []) ≡ get_or k.copies i no_three
    same = three_eq (three_ids (a ∷ b ∷ d ∷ [])) (get_or k.copies i no_three) (first ∙ here First) (second ∙ here Second) (third ∙ here Third)
