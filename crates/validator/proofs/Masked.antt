-- A design that corresponds to its original masks upsets.
use Rattle.std.proofs.Common.{◌≡◌, ℕ, zero, suc, ◌+◌, ◌-◌, ◌*◌, ◌<◌, ◌≤◌, Bool, List, [], ◌∷◌, length, map, refl, sym, ◌∙◌, ap, subst, arith, slice_get, slice_index, Option, Some, None}
use Rattle.std.specs.Prelude.{if◌then◌else◌}
use Rattle.std.specs.Option.{unwrap_or}
use Rattle.std.specs.List.{Contains}
use Rattle.std.proofs.lemmas.Option.{slice_get_within, get_or_from_slice_get}
use Rattle.tmr_base.specs.declared.copies.CopyNo.{CopyNo}
use Rattle.tmr_base.specs.declared.copies.CopyNo.TheVariants.{First, Second, Third}
use Rattle.std.proofs.Math.Path.{subst₂}
use Rattle.std.proofs.lemmas.List.{length-map}
use Rattle.std.proofs.lemmas.Bool.Decides.{nat_tests}
use Rattle.tmr_base.specs.declared.ids.NetId.{NetId}
use Rattle.tmr_base.specs.declared.ids.PartId.{PartId}
use Rattle.tmr_base.specs.declared.ids.Upset.{Upset}
use Rattle.certificate.specs.declared.role.Role.{Role}
use Rattle.certificate.specs.declared.role.Role.TheVariants.{Copy, Voter}
use Rattle.table_cover.specs.Cover.{PlainCover, cover_value, IsMajority}
use Rattle.flat_net.specs.Net.{Net, Node, Table, Register, node_of, net_count, IsValid, slot}
use Rattle.flat_net.specs.Free.{node_bit}
use Rattle.net_meaning.specs.Meaning.{bit, row_at, row_before, value_at, node_value, upset_at, start_at, net_value, IsScheduleOf, IsFreeFaultTrace, IsFreeTrace, spread}
use Rattle.certificate.specs.Cert.{PlainCert, Fits, IsCert, depth_of, part_depth, role_of, part_of, count_of, label_of, copy_of, role_count, three_or_input, RoleIsInRange}
use Rattle.certificate.specs.Schedules.{IsIn, RoleIsIn, IsClear, Allowed}
use Rattle.certificate.specs.Starts.{spread_start}
use Rattle.certificate.specs.Reads.{Reads, RoleReads}
use Rattle.certificate.specs.Rules.{AllHold, Rule3, Rule4, Rule5, Rule6, Rule7, CopiesTable, CopiesRegister, Votes, LabelReaches, PinsRead}
use Rattle.validator.specs.Masking.{TwoOf, Gives, IsMasked}
use Rattle.flat_net.proofs.Slots.{slot_none_below, slot_within, slot_there, slot_none, slot_below}
use Rattle.net_meaning.proofs.Order.{net_induction}
use Rattle.net_meaning.proofs.Lists.{map_agree, bit-spread_row, row_at-spread}
use Rattle.validator.proofs.Two.{majority_of_two, TwoOf-map}
use Rattle.tmr_base.specs.Copies.{copy_number}
use Rattle.validator.proofs.Starts.{copy_starts}
use Rattle.validator.proofs.Windows.{two_clear}

input_copy_lt : (x : ℕ) (c : CopyNo) (m n : ℕ) → x < n → m ≡ 3 * n → 3 * x + copy_number c < m
input_copy_lt x First m n l e = omega arith
input_copy_lt x Second m n l e = omega arith
input_copy_lt x Third m n l e = omega arith

-- an upset list that names net x in no upset of cycle t puts nothing there
pub upset_at_none : (s : List Upset) (t x : ℕ) → ((u : Upset) → Contains s u → u.cycle ≡ t → u.net.0 ≡ x → ⊥) → upset_at s t x ≡ None
upset_at_none [] t x none = refl
upset_at_none (u ∷ s) t x none =
    let here : u.cycle ≡ t → u.net.0 ≡ x → ⊥ = none u (0, (omega arith), refl) in
    let rest : upset_at s t x ≡ None = upset_at_none s t x (λ v (i, l, is). none v (suc i, (omega arith), is)) in
    grind (arith, nat_tests)

-- a net that reads x for partition p and copy c, and has a role, belongs to them
reads_is_in : (k : PlainCert) (o : Option Role) (r : Role) (g x p : ℕ) (c : CopyNo) → o ≡ Some r → RoleReads k o g x p c → RoleIsIn k o g (Some p) c
reads_is_in k None r g x p c e reads = absurd (cc)
reads_is_in k (Some (Copy y d)) r g x p c e reads = (subst (λ (a : ℕ). part_of k a ≡ Some p) (sym reads.0) reads.2, reads.1)
reads_is_in k (Some (Voter y q d)) r g x p c e reads = (ap Some reads.1, reads.2)

copied_same : (y : NetId) (d c : CopyNo) (x : ℕ) → y.0 ≡ x → d ≡ c → Copy y d ≡ Copy (record { 0 = x }) c
copied_same y d c x e f = λ i. Copy (record { 0 = e i }) (f i)

voter_same : (y : NetId) (q : PartId) (d c : CopyNo) (x p : ℕ) → y.0 ≡ x → q.0 ≡ p → d ≡ c → Voter y q d ≡ Voter (record { 0 = x }) (record { 0 = p }) c
voter_same y q d c x p e f g = λ i. Voter (record { 0 = e i }) (record { 0 = f i }) (g i)

module _ (n : Net) (free : List Bool) (h : Net) (copy_free : List Bool) (k : PlainCert) (valid_n : IsValid n) (valid_h : IsValid h) (fits : Fits n h k) (is_cert : IsCert k) (all_hold : AllHold n free h copy_free k)
    (w : List Bool) (ins tr : List (List Bool)) (s : List Upset) (ft : List (List Bool))
    (is_trace : IsFreeTrace n free w ins tr) (is_schedule : IsScheduleOf k.version h (length ins) s) (allowed : Allowed s k) (is_fault_trace : IsFreeFaultTrace h copy_free (spread_start k w) (spread ins) s ft)
  where
    -- the start values of both designs
    abbrev start : ℕ → Option Bool
    start x = start_at n free w x

    abbrev copy_start : ℕ → Option Bool
    copy_start g = start_at h copy_free (spread_start k w) g

    -- what is kept: a net that reads x has x's value where its window is clear
    abbrev Kept : ℕ → ℕ → Type 0
    Kept t g = (x p : ℕ) (c : CopyNo) → Reads k g x p c → IsClear s k (Some p) c (count_of k g) t → value_at ft t g ≡ value_at tr t x

    abbrev Past : ℕ → Type 0
    Past zero = Unit {0}
    Past (suc t) = (g : ℕ) → Kept t g

    -- a node whose window is clear is not struck
    not_struck : (t g : ℕ) (p : Option ℕ) (c : CopyNo) (e : ℕ) → IsIn k g p c → IsClear s k p c e t → upset_at s t g ≡ None
    not_struck t g p c e is_in clear =
        upset_at_none s t g (λ u has cycle net. clear u has (subst (λ (y : ℕ). IsIn k y p c) (sym net) is_in) (omega arith) (omega arith))

    -- the original's equation
    original : (t x : ℕ) (node : Node) → t < length ins → node_of n x ≡ Some node → value_at tr t x ≡ node_value node (start x) t (row_before tr t) (row_at tr t)
    original t x node l e =
        subst (λ (o : Option Node). value_at tr t x ≡ net_value o (start x) t (row_at ins t) (row_before tr t) (row_at tr t) x) e (is_trace.equations t x l (slot_within _ _ x node e).1)

    in_spread : (t : ℕ) → t < length ins → t < length (spread ins)
    in_spread t l = simp length-map l

    -- the hardened design's equation at a node that is not struck
    hardened : (t g : ℕ) (node : Node) → t < length ins → node_of h g ≡ Some node → upset_at s t g ≡ None → value_at ft t g ≡ node_value node (copy_start g) t (row_before ft t) (row_at ft t)
    hardened t g node l e none =
        subst₂ (λ (o : Option Node) (u : Option Bool). value_at ft t g ≡ unwrap_or u (net_value o (copy_start g) t (row_at (spread ins) t) (row_before ft t) (row_at ft t) g)) e none
        (is_fault_trace.equations t g (in_spread t l) (slot_within _ _ g node e).1)

    -- an input's copy has its value, where it is not struck
    input_right : (t x : ℕ) (c : CopyNo) → t < length ins → x < length n.inputs → upset_at s t (3 * x + copy_number c) ≡ None → value_at ft t (3 * x + copy_number c) ≡ value_at tr t x
    input_right t x c l lt none =
        let g : ℕ = 3 * x + copy_number c in
        let g_lt : g < length h.inputs = input_within x c lt in
        let in_h : value_at ft t g ≡ bit (row_at (spread ins) t) g =
        subst₂ (λ (o : Option Node) (u : Option Bool). value_at ft t g ≡ unwrap_or u (net_value o (copy_start g) t (row_at (spread ins) t) (row_before ft t) (row_at ft t) g)) (slot_below _ h.nodes g g_lt) none
        (is_fault_trace.equations t g (in_spread t l) (omega arith)) in
        let in_n : value_at tr t x ≡ bit (row_at ins t) x =
        subst (λ (o : Option Node). value_at tr t x ≡ net_value o (start x) t (row_at ins t) (row_before tr t) (row_at tr t) x) (slot_below _ n.nodes x lt)
        (is_trace.equations t x l (omega arith)) in
        in_h ∙ (ap (λ (row : List Bool). bit row g) (row_at-spread ins t) ∙ (bit-spread_row (row_at ins t) x c ∙ sym in_n))
      where
        input_within : (x : ℕ) (c : CopyNo) → x < length n.inputs → 3 * x + copy_number c < length h.inputs
        input_within x c lt = input_copy_lt x c _ _ lt ((all_hold 1 0).inputs refl refl)

    -- in version 1 no input is struck
    input_not_struck : (t g : ℕ) → k.version ≡ 1 → g < length h.inputs → upset_at s t g ≡ None
    input_not_struck t g one lt = upset_at_none s t g (λ u has cycle net. absurd (omega (arith, is_schedule.nodes one u has)))

    input_case : (t : ℕ) → t < length ins → (g : ℕ) → node_of h g ≡ None → Kept t g
    input_case t l g e x p c reads clear =
        let no_role : role_of k g ≡ None = slot_none _ _ h.nodes k.roles g (sym fits.hardened_inputs) (sym fits.hardened_nodes) e in
        let (one, (lt, g_lt, same)) : RoleReads k None g x p c = subst (λ (o : Option Role). RoleReads k o g x p c) no_role reads in
        let g_lt' : g < length h.inputs = omega (arith, fits.hardened_inputs) in
        let lt' : x < length n.inputs = omega (arith, fits.original_inputs) in
        let none : upset_at s t (3 * x + copy_number c) ≡ None = subst (λ (y : ℕ). upset_at s t y ≡ None) same (input_not_struck t g one g_lt') in
        subst (λ (y : ℕ). value_at ft t y ≡ value_at tr t x) (sym same) (input_right t x c l lt' none)

    -- an input's copy whose window is clear has its value
    input_copy_right : (t x : ℕ) (c : CopyNo) → t < length ins → x < length n.inputs → IsClear s k None c 0 t → value_at ft t (3 * x + copy_number c) ≡ value_at tr t x
    input_copy_right t x c l lt clear = input_right t x c l lt (not_struck t (3 * x + copy_number c) None c 0 is_in clear)
      where
        three : length h.inputs ≡ 3 * length n.inputs
        three = (all_hold 1 0).inputs refl refl

        within : 3 * x + copy_number c < k.hardened_inputs
        within = let lt' = input_copy_lt x c _ _ lt three in omega (arith, fits.hardened_inputs, lt')

        is_in : IsIn k (3 * x + copy_number c) None c
        is_in = subst (λ (o : Option Role). RoleIsIn k o (3 * x + copy_number c) None c) (sym (slot_below k.hardened_inputs k.roles _ within)) (x, (omega (arith, fits.original_inputs), within, refl), refl)

    -- each hardened node has a role
    role_there : (g : ℕ) (node : Node) → node_of h g ≡ Some node → (r : Role) × (role_of k g ≡ Some r)
    role_there g node e =
        let (low, high) = slot_within _ _ g node e in
        slot_there k.hardened_inputs k.roles g (rw fits.hardened_inputs low) (rw (fits.hardened_inputs, fits.hardened_nodes) high)

    -- each original net with a partition is a node
    node_there : (x p : ℕ) → part_of k x ≡ Some p → (node : Node) × (node_of n x ≡ Some node)
    node_there x p e =
        let (low, high) = slot_within _ _ x p e in
        slot_there (length n.inputs) n.nodes x (rw (← fits.original_inputs) low) (rw (← fits.original_inputs, ← fits.original_nodes) high)

    -- a rule by a node's number, at its net
    at_net : (P : ℕ → Type 0) (g : ℕ) (node : Node) → node_of h g ≡ Some node → ((place : ℕ) → P (length h.inputs + place)) → P g
    at_net P g node e all =
        let (low, high) = slot_within _ _ g node e in
        let same : length h.inputs + (g - length h.inputs) ≡ g = omega arith in
        subst P same (all (g - length h.inputs))

    abbrev mark : ℕ → Bool
    mark x = node_bit (length n.inputs) free x

    abbrev copy_mark : ℕ → Bool
    copy_mark g = node_bit (length h.inputs) copy_free g

    -- a table's copy, a register's copy and a voter by their rules
    table_rule : (g x p : ℕ) (c : CopyNo) (node : Node) → node_of h g ≡ Some node → role_of k g ≡ Some (Copy (record { 0 = x }) c) → part_of k x ≡ Some p → CopiesTable k (node_of n x) (Some node) p c
    table_rule g x p c node e is part =
        subst (λ (o : Option Node). CopiesTable k (node_of n x) o p c) e
        (at_net (λ y. Rule3 n h k y) g node e (λ place. (all_hold 3 place).tables refl) x c p is part)

    register_rule : (g x p : ℕ) (c : CopyNo) (node : Node) → node_of h g ≡ Some node → role_of k g ≡ Some (Copy (record { 0 = x }) c) → part_of k x ≡ Some p → CopiesRegister k (node_of n x) (mark x) (Some node) (copy_mark g) p c
    register_rule g x p c node e is part =
        subst (λ (o : Option Node). CopiesRegister k (node_of n x) (mark x) o (copy_mark g) p c) e
        (at_net (λ y. Rule4 n free h copy_free k y) g node e (λ place. (all_hold 4 place).registers refl) x c p is part)

    voter_rule : (g x p : ℕ) (c : CopyNo) (node : Node) → node_of h g ≡ Some node → role_of k g ≡ Some (Voter (record { 0 = x }) (record { 0 = p }) c) → Votes k (Some node) x
    voter_rule g x p c node e is =
        subst (λ (o : Option Node). Votes k o x) e
        (at_net (λ y. Rule5 h k y) g node e (λ place. (all_hold 5 place).voters refl) x p c is)

    label_rule : (g x : ℕ) (c : CopyNo) (node : Node) → node_of h g ≡ Some node → role_of k g ≡ Some (Copy (record { 0 = x }) c) → LabelReaches k (Some node) (label_of k x c)
    label_rule g x c node e is =
        subst (λ (o : Option Node). LabelReaches k o (label_of k x c)) e
        (at_net (λ y. Rule6 h k y) g node e (λ place. (all_hold 6 place).labels refl) x c is)

    depth_rule : (g x p : ℕ) (c : CopyNo) → role_of k g ≡ Some (Copy (record { 0 = x }) c) → part_of k x ≡ Some p → label_of k x c ≤ depth_of k p
    depth_rule g x p c is part =
        let (low, high) = slot_within k.hardened_inputs k.roles g _ is in
        let (node, e) = slot_there (length h.inputs) h.nodes g (rw (← fits.hardened_inputs) low) (rw (← fits.hardened_inputs, ← fits.hardened_nodes) high) in
        at_net (λ y. Rule7 k y) g node e (λ place. (all_hold 7 place).depths refl) x c p is part

    copied_count : (g x : ℕ) (c : CopyNo) → role_of k g ≡ Some (Copy (record { 0 = x }) c) → count_of k g ≡ label_of k x c
    copied_count g x c is = ap (role_count k) is

    -- a copy whose partition's window is clear has the value of its original
    copy_right : (t x p : ℕ) (c : CopyNo) → part_of k x ≡ Some p → IsClear s k (Some p) c (depth_of k p) t → Kept t (copy_of k x c) → value_at ft t (copy_of k x c) ≡ value_at tr t x
    copy_right t x p c part clear kept =
        let (low, high) = slot_within k.original_inputs k.part x p part in
        let is : role_of k (copy_of k x c) ≡ Some (Copy (record { 0 = x }) c) = is_cert.copies_have_roles x c low high in
        let label : label_of k x c ≤ depth_of k p = depth_rule _ x p c is part in
        let count : count_of k (copy_of k x c) ≡ label_of k x c = copied_count _ x c is in
        kept x p c (subst (λ (o : Option Role). RoleReads k o (copy_of k x c) x p c) (sym is) (refl, refl, part))
        (λ u has is_in from upto. clear u has is_in (omega arith) upto)

    -- and so has the copy of any net
    net_right : (t x : ℕ) (c : CopyNo) → t < length ins → x < net_count n → IsClear s k (part_of k x) c (part_depth k (part_of k x)) t → Kept t (copy_of k x c) → value_at ft t (copy_of k x c) ≡ value_at tr t x
    net_right t x c l lt clear kept = go (part_of k x) refl clear
      where
        go : (o : Option ℕ) → part_of k x ≡ o → IsClear s k o c (part_depth k o) t → value_at ft t (copy_of k x c) ≡ value_at tr t x
        go (Some p) part clear = copy_right t x p c part clear kept
        go None part clear = subst (λ (y : ℕ). value_at ft t y ≡ value_at tr t x) (sym (ap (λ o. three_or_input o x c) no_three)) (input_copy_right t x c l below clear)
          where
            no_three : slot k.original_inputs k.copies x ≡ None
            no_three = slot_none _ _ k.part k.copies x refl (sym is_cert.copies_long) part

            below : x < length n.inputs
            below = subst (λ (i : ℕ). x < i) fits.original_inputs (slot_none_below _ k.part x part (rw (fits.original_inputs, fits.original_nodes) lt))

    -- a register's copy starts as the register does
    same_start : (g x : ℕ) (c : CopyNo) → role_of k g ≡ Some (Copy (record { 0 = x }) c) → copy_mark g ≡ mark x → copy_start g ≡ start x
    same_start g x c is marks =
        let bits : node_bit (length h.inputs) (spread_start k w) g ≡ node_bit (length n.inputs) w x =
        subst₂ (λ (a b : ℕ). node_bit a (spread_start k w) g ≡ node_bit b w x) fits.hardened_inputs fits.original_inputs (copy_starts k w g x c is) in
        λ i. if marks i then Some (bits i) else None

    register_copy : (t : ℕ) → t < length ins → Past t → (g : ℕ) (name : List ℕ) (init : Bool) (pin : ℕ) → node_of h g ≡ Some (Register name init pin) →
        (x p : ℕ) (c : CopyNo) → role_of k g ≡ Some (Copy (record { 0 = x }) c) → part_of k x ≡ Some p → IsClear s k (Some p) c (count_of k g) t → upset_at s t g ≡ None → value_at ft t g ≡ value_at tr t x
    register_copy t l past g name init pin e x p c is part clear none =
        let (node, e') = node_there x p part in
        go node e'
      where
        reaches : count_of k pin + 1 ≤ label_of k x c
        reaches = label_rule g x c _ e is

        count : count_of k g ≡ label_of k x c
        count = copied_count g x c is

        same : (t : ℕ) → t < length ins → Past t → IsClear s k (Some p) c (count_of k g) t → (init' : Bool) (pin' : ℕ) (name' : List ℕ) → init ≡ init' → copy_mark g ≡ mark x → Reads k pin pin' p c →
            node_value (Register name init pin) (copy_start g) t (row_before ft t) (row_at ft t) ≡ node_value (Register name' init' pin') (start x) t (row_before tr t) (row_at tr t)
        same zero l past clear init' pin' name' f marks reads = λ i. unwrap_or (same_start g x c is marks i) (f i)
        same (suc t) l past clear init' pin' name' f marks reads =
            past pin pin' p c reads (λ u has is_in from upto. clear u has is_in (omega (arith, reaches, count)) (omega arith))

        go : (node : Node) → node_of n x ≡ Some node → value_at ft t g ≡ value_at tr t x
        go (Table name' cover' pins') e' = absurd (subst (λ (o : Option Node). CopiesTable k o (Some (Register name init pin)) p c) e' (table_rule g x p c _ e is part))
        go (Register name' init' pin') e' =
            let rule : (init ≡ init') × (copy_mark g ≡ mark x) × Reads k pin pin' p c = subst (λ (o : Option Node). CopiesRegister k o (mark x) (Some (Register name init pin)) (copy_mark g) p c) e' (register_rule g x p c _ e is part) in
            hardened t g _ l e none ∙ (same t l past clear init' pin' name' rule.0 rule.1 rule.2 ∙ sym (original t x _ l e'))

    register_case : (t : ℕ) → t < length ins → Past t → (g : ℕ) (name : List ℕ) (init : Bool) (pin : ℕ) → node_of h g ≡ Some (Register name init pin) → Kept t g
    register_case t l past g name init pin e x p c reads clear =
        let (r, is) = role_there g _ e in
        go r is
      where
        go : (r : Role) → role_of k g ≡ Some r → value_at ft t g ≡ value_at tr t x
        go (Copy y d) is =
            let reads' : RoleReads k (Some (Copy y d)) g x p c = subst (λ (o : Option Role). RoleReads k o g x p c) is reads in
            let is_in : IsIn k g (Some p) c = reads_is_in k _ _ g x p c is reads in
            register_copy t l past g name init pin e x p c (is ∙ ap Some (copied_same y d c x reads'.0 reads'.1)) reads'.2 clear (not_struck t g (Some p) c _ is_in clear)
        go (Voter y q d) is =
            let reads' : RoleReads k (Some (Voter y q d)) g x p c = subst (λ (o : Option Role). RoleReads k o g x p c) is reads in
            absurd (voter_rule g x p c _ e (is ∙ ap Some (voter_same y q d c x p reads'.0 reads'.1 reads'.2)))

    table_copy : (t : ℕ) → t < length ins → (g : ℕ) (name : List ℕ) (cover : PlainCover) (pins : List ℕ) → node_of h g ≡ Some (Table name cover pins) → ((j : ℕ) → j < length pins → Kept t (slice_index pins j)) →
        (x p : ℕ) (c : CopyNo) → role_of k g ≡ Some (Copy (record { 0 = x }) c) → part_of k x ≡ Some p → IsClear s k (Some p) c (count_of k g) t → upset_at s t g ≡ None → value_at ft t g ≡ value_at tr t x
    table_copy t l g name cover pins e pins_kept x p c is part clear none =
        let (node, e') = node_there x p part in
        go node e'
      where
        reaches : (j : ℕ) → j < length pins → count_of k (slice_index pins j) ≤ label_of k x c
        reaches = label_rule g x c _ e is

        count : count_of k g ≡ label_of k x c
        count = copied_count g x c is

        go : (node : Node) → node_of n x ≡ Some node → value_at ft t g ≡ value_at tr t x
        go (Register name' init' pin') e' = absurd (subst (λ (o : Option Node). CopiesRegister k o (mark x) (Some (Table name cover pins)) (copy_mark g) p c) e' (register_rule g x p c _ e is part))
        go (Table name' cover' pins') e' =
            let rule : (cover ≡ cover') × PinsRead k pins pins' p c = subst (λ (o : Option Node). CopiesTable k o (Some (Table name cover pins)) p c) e' (table_rule g x p c _ e is part) in
            let long : length pins ≡ length pins' = (valid_h.unordered.wired g _ e).1 ∙ (ap (λ (w : PlainCover). w.width) rule.0 ∙ sym (valid_n.unordered.wired x _ e').1) in
            let agree : map (bit (row_at ft t)) pins ≡ map (bit (row_at tr t)) pins' =
            map_agree (bit (row_at ft t)) (bit (row_at tr t)) pins pins' long (λ j m.
            let in_pins : j < length pins = omega arith in
            let reach : count_of k (slice_index pins j) ≤ label_of k x c = reaches j in_pins in
            pins_kept j in_pins (slice_index pins' j) p c (rule.1 j m) (λ u has is_in from upto. clear u has is_in (omega (arith, count)) upto)) in
            let values : cover_value cover (map (bit (row_at ft t)) pins) ≡ cover_value cover' (map (bit (row_at tr t)) pins') = λ i. cover_value (rule.0 i) (agree i) in
            hardened t g _ l e none ∙ (values ∙ sym (original t x _ l e'))

    voter_case : (t : ℕ) → t < length ins → (g : ℕ) (name : List ℕ) (cover : PlainCover) (pins : List ℕ) → node_of h g ≡ Some (Table name cover pins) → ((j : ℕ) → j < length pins → Kept t (slice_index pins j)) →
        (x p : ℕ) (c : CopyNo) → role_of k g ≡ Some (Voter (record { 0 = x }) (record { 0 = p }) c) → upset_at s t g ≡ None → value_at ft t g ≡ value_at tr t x
    voter_case t l g name cover pins e pins_kept x p c is none =
        let range : RoleIsInRange k (Voter (record { 0 = x }) (record { 0 = p }) c) = is_cert.roles_in_range g _ is in
        let lt : x < net_count n = omega (arith, range.1, fits.original_inputs, fits.original_nodes) in
        let right : TwoOf (λ d. value_at ft t (copy_of k x d) ≡ value_at tr t x) = TwoOf-map _ _ (λ d clear. net_right t x d l lt clear (copy_kept d)) (two_clear s k (part_of k x) t allowed) in
        hardened t g _ l e none ∙ (ap (λ (ps : List ℕ). cover_value cover (map (bit (row_at ft t)) ps)) rule.0 ∙ (rule.1.votes _ _ _ ∙ majority_of_two (λ d. value_at ft t (copy_of k x d)) _ right))
      where
        rule : (pins ≡ copy_of k x First ∷ copy_of k x Second ∷ copy_of k x Third ∷ []) × IsMajority cover
        rule = voter_rule g x p c _ e is

        kept_at : (j : ℕ) → j < 3 → Kept t (slice_index (copy_of k x First ∷ copy_of k x Second ∷ copy_of k x Third ∷ []) j)
        kept_at j m = subst (λ (ps : List ℕ). Kept t (slice_index ps j)) rule.0 (pins_kept j (rw rule.0 m))

        copy_kept : (d : CopyNo) → Kept t (copy_of k x d)
        copy_kept First = kept_at 0 (omega arith)
        copy_kept Second = kept_at 1 (omega arith)
        copy_kept Third = kept_at 2 (omega arith)

    table_case : (t : ℕ) → t < length ins → (g : ℕ) (name : List ℕ) (cover : PlainCover) (pins : List ℕ) → node_of h g ≡ Some (Table name cover pins) → ((j : ℕ) → j < length pins → Kept t (slice_index pins j)) → Kept t g
    table_case t l g name cover pins e pins_kept x p c reads clear =
        let (r, is) = role_there g _ e in
        go r is
      where
        go : (r : Role) → role_of k g ≡ Some r → value_at ft t g ≡ value_at tr t x
        go (Copy y d) is =
            let reads' : RoleReads k (Some (Copy y d)) g x p c = subst (λ (o : Option Role). RoleReads k o g x p c) is reads in
            let is_in : IsIn k g (Some p) c = reads_is_in k _ _ g x p c is reads in
            table_copy t l g name cover pins e pins_kept x p c (is ∙ ap Some (copied_same y d c x reads'.0 reads'.1)) reads'.2 clear (not_struck t g (Some p) c _ is_in clear)
        go (Voter y q d) is =
            let reads' : RoleReads k (Some (Voter y q d)) g x p c = subst (λ (o : Option Role). RoleReads k o g x p c) is reads in
            let is_in : IsIn k g (Some p) c = reads_is_in k _ _ g x p c is reads in
            voter_case t l g name cover pins e pins_kept x p c (is ∙ ap Some (voter_same y q d c x p reads'.0 reads'.1 reads'.2)) (not_struck t g (Some p) c _ is_in clear)

    cycle : (t : ℕ) → t < length ins → Past t → (g : ℕ) → Kept t g
    cycle t l past = net_induction h valid_h.ordered.0 valid_h.ordered.1 (Kept t) (input_case t l) (register_case t l past) (table_case t l)

    kept : (t : ℕ) → t < length ins → (g : ℕ) → Kept t g
    kept zero l = cycle zero l tt
    kept (suc t) l = cycle (suc t) l (kept t (omega arith))

    -- two copies of each net
    two_right : (t : ℕ) → t < length ins → (x : ℕ) → x < net_count n → TwoOf (λ c. value_at ft t (copy_of k x c) ≡ value_at tr t x)
    two_right t l x lt = TwoOf-map _ _ (λ c clear. net_right t x c l lt clear (kept t l _)) (two_clear s k (part_of k x) t allowed)

    outputs_right : (t : ℕ) → t < length ins → (i x : ℕ) → slice_get n.outputs i ≡ Some x → x < net_count n → TwoOf (λ c. Gives h ft t (3 * i + copy_number c) (value_at tr t x))
    outputs_right t l i x is lt = TwoOf-map _ _ gives (two_right t l x lt)
      where
        at : (c : CopyNo) → slice_get h.outputs (3 * i + copy_number c) ≡ Some (copy_of k x c)
        at c = ((all_hold 8 (3 * i + copy_number c)).outputs refl).copy i x c refl is

        gives : (c : CopyNo) → value_at ft t (copy_of k x c) ≡ value_at tr t x → Gives h ft t (3 * i + copy_number c) (value_at tr t x)
        gives c right = (copy_of k x c, at c, right)

    -- the eight rules are enough
    pub all_masked : (t : ℕ) → t < length ins → IsMasked n h k tr s ft t
    all_masked t l = record {
      outputs = λ i x is. outputs_right t l i x is (output_lt i x is);
      copies = λ x lt quiet c. net_right t x c l lt (quiet c) (kept t l _);
    }
      where
        output_lt : (i x : ℕ) → slice_get n.outputs i ≡ Some x → x < net_count n
        output_lt i x is =
            subst (λ (y : ℕ). y < net_count n) (get_or_from_slice_get n.outputs i x 0 is) (valid_n.unordered.outputs_in_range i 0 (slice_get_within n.outputs i x is))
