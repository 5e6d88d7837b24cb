-- One role more of the hardened design.
use Rattle.std.proofs.Common.{◌≡◌, ℕ, zero, suc, ◌+◌, ◌-◌, ◌*◌, ◌<◌, ◌≤◌, List, [], ◌∷◌, ◌++◌, length, map, take, drop, get_or, Option, Some, None, refl, sym, ap, ◌∙◌, subst, arith, append_assoc, append-nil, Bool, true, false, All, if◌then◌else◌}
use Rattle.std.specs.Prelude.{slice_index, sum_by}
use Rattle.std.specs.List.{range_with_len, flat_map}
use Rattle.std.specs.Str.{bytes_eq}
use Rattle.std.proofs.lemmas.List.{length-append, length-map, map-append, get_or_append_left, get_or-append-add}
use Rattle.std.proofs.lemmas.List.FromFn.{get_or-map-range_with_len, length-map-range_with_len}
use Rattle.std.proofs.lemmas.List.Sums.{sum_by-append, sum_by-cons, count_by-le-length}
use Rattle.tmr_base.specs.declared.copies.CopyNo.{CopyNo}
use Rattle.tmr_base.specs.declared.copies.CopyNo.TheVariants.{First, Second, Third}
use Rattle.tmr_base.specs.Copies.{copy_number}
use Rattle.tmr_base.specs.Names.{copy_text, voter_text}
use Rattle.tmr_base.specs.Parts.{PlainParts}
use Rattle.table_cover.specs.Cover.{PlainCover}
use Rattle.flat_net.specs.Net.{Net, Node, Table, Register, net_count, node_of, node_name, name_of, pins_of, pins_at, is_register, IsValid, IsTable, IsRegister, IsCoverOf, IsInitOf}
use Rattle.flat_net.specs.Kinds.{kind_of}
use Rattle.flat_net.specs.declared.kind.Kind.TheVariants as kind
use Rattle.flat_net.specs.declared.nodes.PackedNodes.{PackedNodes}
use Rattle.flat_net.specs.Nodes.{number_of}
use Rattle.flat_net.specs.Packs.{Packs}
use Rattle.flat_net.specs.Faults.{is_among}
use Rattle.flat_net.proofs.Slots.{slot_there}
use Rattle.indexmap.specs.IndexSet.{insert_key}
use Rattle.flat_net.proofs.Names.{not_among, insert_new}
use Rattle.flat_net.proofs.PackedLaws.{total-nodes_from}
use Rattle.feedback_cut.specs.Inner.{node_pins}
use Rattle.certificate.specs.declared.role.Role.{Role}
use Rattle.certificate.specs.declared.role.Role.TheVariants.{Copy, Voter}
use Rattle.hardened_pair.specs.declared.tripling.Made.{Made}
use Rattle.triplicate.specs.Blocks.{threefold, block, hardened_roles, hardened_inputs, role_name}
use Rattle.triplicate.specs.Form.{majority_cover}
use Rattle.std.proofs.lemmas.List.Concat.{flat_map-append}
use Rattle.triplicate.specs.Numbers.{copy_net, voter_net}
use Rattle.triplicate.specs.Construction.{pin_net, role_node, node_copy, hardened_net}
use Rattle.hardened_pair.specs.declared.layout.Layout.{Layout}
use Rattle.hardened_pair.specs.Private.Layouts.{net_of, partitions, voted, roles_of, HasRoom}
use Rattle.hardened_pair.specs.Private.Made.{IsMade, IsNext, shifted_node}
use Rattle.flat_net.specs.Draft.{AreDistinct}
use Rattle.node_reads.proofs.Numbers.{numbers_more}
use Rattle.triplicate.proofs.Lists.{blocks_cut}
use Rattle.triplicate.proofs.VoterRows.{pin_in_range}
use Rattle.triplicate.proofs.Tripled.{needs_from_pin}
use Rattle.triplicate.proofs.Places.{copy_net_more, voter_net_more, copy_few, voter_few}
use Rattle.triplicate.proofs.Formed.{name_of_node, map_map}

pub table_copied : (o : Option Node) (c : CopyNo) (ps nets : List ℕ) (k : PlainCover) → IsTable o → IsCoverOf o k → nets ≡ map (λ p. p + copy_number c) ps → Table (node_name (shifted_node c ps o)) k nets ≡ shifted_node c ps o
table_copied None c ps nets k is cover e = absurd is
table_copied (Some (Table name cover pins)) c ps nets k is same e = rw (← same, e) refl
table_copied (Some (Register name init pin)) c ps nets k is cover e = absurd is

pub register_copied : (o : Option Node) (c : CopyNo) (ps : List ℕ) (b : Bool) (v : ℕ) → IsRegister o → IsInitOf o b → v ≡ slice_index ps 0 + copy_number c → Register (node_name (shifted_node c ps o)) b v ≡ shifted_node c ps o
register_copied None c ps b v is init e = absurd is
register_copied (Some (Table name cover pins)) c ps b v is init e = absurd is
register_copied (Some (Register name init pin)) c ps b v is same e = rw (← same, e) refl

pub node_is_no_input : (n : Net) (x : ℕ) → length n.inputs ≤ x → x < net_count n → kind.Input ≡ kind_of (node_of n x) → ⊥
node_is_no_input n x low high e = go (slot_there (length n.inputs) n.nodes x low high)
  where
    differs : (node : Node) → kind.Input ≡ kind_of (Some node) → ⊥
    differs (Table name cover pins) f = cc
    differs (Register name init pin) f = cc

    go : (node : Node) × (node_of n x ≡ Some node) → ⊥
    go (node, at) = differs node (e ∙ ap kind_of at)

-- ---- the roles that come next

pub next_head : (l : Layout) (done : List Role) (r : Role) (rs : List Role) → IsNext l done (r ∷ rs) → IsNext l done (r ∷ [])
next_head l done r rs i = record { rest = rs ++ i.rest; split = i.split }

pub next_tail : (l : Layout) (done new : List Role) (r : Role) (rs : List Role) → IsNext l done (r ∷ rs) → new ≡ done ++ r ∷ [] → IsNext l new rs
next_tail l done new r rs i e = record { rest = i.rest; split = i.split ∙ (sym (append_assoc done (r ∷ []) (rs ++ i.rest)) ∙ ap (λ (xs : List Role). xs ++ (rs ++ i.rest)) (sym e)) }

pub next_first : (l : Layout) (done some rs : List Role) → IsNext l done (some ++ rs) → IsNext l done some
next_first l done some rs i = record { rest = rs ++ i.rest; split = i.split ∙ ap (λ (xs : List Role). done ++ xs) (append_assoc some rs i.rest) }

pub next_behind : (l : Layout) (done new some rs : List Role) → IsNext l done (some ++ rs) → new ≡ done ++ some → IsNext l new rs
next_behind l done new some rs i e = record { rest = i.rest; split = i.split ∙ (ap (λ (xs : List Role). done ++ xs) (append_assoc some rs i.rest) ∙ (sym (append_assoc done some (rs ++ i.rest)) ∙ ap (λ (xs : List Role). xs ++ (rs ++ i.rest)) (sym e))) }

-- one for each copy, cut behind the first few
three_cut : (f : CopyNo → Role) (i : ℕ) → i < 3 → threefold f ≡ take i (threefold f) ++ (f (get_or (First ∷ Second ∷ Third ∷ []) i First) ∷ drop (suc i) (threefold f))
three_cut f zero h = refl
three_cut f (suc zero) h = refl
three_cut f (suc (suc zero)) h = refl
three_cut f (suc (suc (suc i))) h = absurd (omega (arith, h))

-- behind the first few of the three copies comes the next one
pub next_copy : (l : Layout) (f : CopyNo → Role) (done now : List Role) (i : ℕ) → IsNext l done (threefold f) → i < 3 → now ≡ done ++ take i (threefold f) → IsNext l now (f (get_or (First ∷ Second ∷ Third ∷ []) i First) ∷ [])
next_copy l f done now i next h e =
    next_first l now (f (get_or (First ∷ Second ∷ Third ∷ []) i First) ∷ []) (drop (suc i) (threefold f))
    (next_behind l done now (take i (threefold f)) (f (get_or (First ∷ Second ∷ Third ∷ []) i First) ∷ drop (suc i) (threefold f)) (subst (λ (rs : List Role). IsNext l done rs) (three_cut f i h) next) e)

-- so one more of them is done
pub copy_more : (f : CopyNo → Role) (done now new : List Role) (i : ℕ) → i < 3 → now ≡ done ++ take i (threefold f) → new ≡ now ++ f (get_or (First ∷ Second ∷ Third ∷ []) i First) ∷ [] → new ≡ done ++ take (i + 1) (threefold f)
copy_more f done now new i h e more = more ∙ (ap (λ (rs : List Role). rs ++ f (get_or (First ∷ Second ∷ Third ∷ []) i First) ∷ []) e ∙ (append_assoc done (take i (threefold f)) (f (get_or (First ∷ Second ∷ Third ∷ []) i First) ∷ []) ∙ ap (λ (rs : List Role). done ++ rs) (longer i h)))
  where
    longer : (i : ℕ) → i < 3 → take i (threefold f) ++ f (get_or (First ∷ Second ∷ Third ∷ []) i First) ∷ [] ≡ take (i + 1) (threefold f)
    longer zero h = refl
    longer (suc zero) h = refl
    longer (suc (suc zero)) h = refl
    longer (suc (suc (suc i))) h = absurd (omega (arith, h))

-- behind what is done, nothing at once
pub next_nothing : (l : Layout) (done new some : List Role) → IsNext l done some → new ≡ done ++ some → IsNext l new []
next_nothing l done new some i e = record { rest = i.rest; split = i.split ∙ (sym (append_assoc done some i.rest) ∙ ap (λ (xs : List Role). xs ++ i.rest) (sym e)) }

-- or all is done
pub next_end : (l : Layout) (done : List Role) → done ≡ roles_of l → IsNext l done []
next_end l done e = record { rest = []; split = sym e ∙ sym (append-nil done) }

-- ---- names that are new

pub distinct_front : (xs ys : List (List ℕ)) → AreDistinct (xs ++ ys) → AreDistinct xs
distinct_front xs ys d j k h l e = d j k h (omega (arith, length-append xs ys)) (get_or_append_left xs ys [] j (omega arith) ∙ (e ∙ sym (get_or_append_left xs ys [] k l)))

-- a name of the hardened design is none of those before it
pub none_before : (xs ys : List (List ℕ)) (x : List ℕ) → AreDistinct (xs ++ x ∷ ys) → is_among xs x ≡ false
none_before xs ys x distinct = not_among xs x (λ k h e. distinct k (length xs) h within (get_or_append_left xs (x ∷ ys) [] k h ∙ (e ∙ sym here)))
  where
    within : length xs < length (xs ++ x ∷ ys)
    within = omega (arith, length-append xs (x ∷ ys))

    here : get_or (xs ++ x ∷ ys) (length xs) [] ≡ x
    here =
        let z : length xs ≡ length xs + 0 = omega arith in
        ap (λ k. get_or (xs ++ x ∷ ys) k []) z ∙ get_or-append-add xs (x ∷ ys) 0 []

-- it goes behind them, before those that are left
pub put_next : (whole keys left rest new : List (List ℕ)) (x : List ℕ) → AreDistinct whole → keys ++ left ≡ whole → left ≡ x ∷ rest → new ≡ insert_key bytes_eq keys x → new ++ rest ≡ whole
put_next whole keys left rest new x distinct all begins put =
    let here : keys ++ x ∷ rest ≡ whole = sym (ap (λ (ys : List (List ℕ)). keys ++ ys) begins) ∙ all in
    ap (λ (ys : List (List ℕ)). ys ++ rest) (put ∙ insert_new keys x (none_before keys rest x (subst AreDistinct (sym here) distinct))) ∙ (append_assoc keys (x ∷ []) rest ∙ here)

-- the names of the first roles differ
pub names_apart : (l : Layout) (made : Made) → HasRoom (net_of l) (partitions l) (voted l) → IsMade l made → IsNext l made.roles.items [] → AreDistinct (made.names.keys ++ made.waiting.items)
names_apart l made room is next = rw is.named (distinct_front (hardened_inputs (net_of l) ++ map (role_name (net_of l)) made.roles.items) (map (role_name (net_of l)) next.rest) (subst AreDistinct whole room.names))
  where
    whole : hardened_inputs (net_of l) ++ map (role_name (net_of l)) (roles_of l) ≡ (hardened_inputs (net_of l) ++ map (role_name (net_of l)) made.roles.items) ++ map (role_name (net_of l)) next.rest
    whole = ap (λ (rs : List Role). hardened_inputs (net_of l) ++ map (role_name (net_of l)) rs) next.split ∙ (ap (λ (xs : List (List ℕ)). hardened_inputs (net_of l) ++ xs) (map-append (role_name (net_of l)) made.roles.items next.rest) ∙ sym (append_assoc (hardened_inputs (net_of l)) (map (role_name (net_of l)) made.roles.items) (map (role_name (net_of l)) next.rest)))

-- one role more
pub made_more : (l : Layout) (old new : Made) (r : Role) (node : Node) → IsMade l old → new.names.keys ≡ old.names.keys → new.waiting.items ≡ old.waiting.items ++ role_name (net_of l) r ∷ [] → new.roles.items ≡ old.roles.items ++ r ∷ [] → node ≡ role_node (net_of l) (partitions l) (voted l) r → node_name node ≡ role_name (net_of l) r →
    ((names : List (List ℕ)) (done : List Node) → Packs names old.nodes done → Packs (names ++ node_name node ∷ []) new.nodes (done ++ node ∷ [])) → IsMade l new
made_more l old new r node made names waiting roles same name packs = record {
  named =
      let front : new.names.keys ++ new.waiting.items ≡ (old.names.keys ++ old.waiting.items) ++ role_name (net_of l) r ∷ [] = ap (λ (xs : List (List ℕ)). xs ++ new.waiting.items) names ∙ (ap (λ (xs : List (List ℕ)). old.names.keys ++ xs) waiting ∙ sym (append_assoc old.names.keys old.waiting.items (role_name (net_of l) r ∷ []))) in
      front ∙ (ap (λ (xs : List (List ℕ)). xs ++ role_name (net_of l) r ∷ []) made.named ∙ (append_assoc (hardened_inputs (net_of l)) (map (role_name (net_of l)) old.roles.items) (role_name (net_of l) r ∷ []) ∙ ap (λ (xs : List (List ℕ)). hardened_inputs (net_of l) ++ xs) (sym (ap (map (role_name (net_of l))) roles ∙ map-append (role_name (net_of l)) old.roles.items (r ∷ [])))));
  packed =
      let nodes : map (role_node (net_of l) (partitions l) (voted l)) new.roles.items ≡ map (role_node (net_of l) (partitions l) (voted l)) old.roles.items ++ node ∷ [] = ap (map (role_node (net_of l) (partitions l) (voted l))) roles ∙ (map-append (role_node (net_of l) (partitions l) (voted l)) old.roles.items (r ∷ []) ∙ ap (λ (m : Node). map (role_node (net_of l) (partitions l) (voted l)) old.roles.items ++ m ∷ []) (sym same)) in
      let names' : map (role_name (net_of l)) new.roles.items ≡ map (role_name (net_of l)) old.roles.items ++ node_name node ∷ [] = ap (map (role_name (net_of l))) roles ∙ (map-append (role_name (net_of l)) old.roles.items (r ∷ []) ∙ ap (λ (m : List ℕ). map (role_name (net_of l)) old.roles.items ++ m ∷ []) (sym name)) in
      rw (nodes, names') (packs (map (role_name (net_of l)) old.roles.items) (map (role_node (net_of l) (partitions l) (voted l)) old.roles.items) made.packed);
}

-- ---- room

packs_total : (names : List (List ℕ)) (packed : PackedNodes) (nodes : List Node) → Packs names packed nodes → sum_by (λ node. length (pins_of node)) nodes ≡ length packed.pins.items
packs_total names packed nodes k =
    let long = length-map packed.pins.items number_of in
    ap (sum_by (λ node. length (pins_of node))) (sym k.is) ∙ (total-nodes_from names packed.bodies.items packed.ends.items (map number_of packed.pins.items) k.named (rw long k.cut) ∙ long)

pub room_for_pins : (l : Layout) (made : Made) (r : Role) → HasRoom (net_of l) (partitions l) (voted l) → IsMade l made → IsNext l made.roles.items (r ∷ []) → length made.nodes.pins.items + length (pins_of (role_node (net_of l) (partitions l) (voted l) r)) < 4294967296
unfolding hardened_net
room_for_pins l made r room is next =
    let f : Node → ℕ = λ node. length (pins_of node) in
    let whole : map (role_node (net_of l) (partitions l) (voted l)) (roles_of l) ≡ map (role_node (net_of l) (partitions l) (voted l)) made.roles.items ++ role_node (net_of l) (partitions l) (voted l) r ∷ map (role_node (net_of l) (partitions l) (voted l)) next.rest = ap (map (role_node (net_of l) (partitions l) (voted l))) next.split ∙ map-append (role_node (net_of l) (partitions l) (voted l)) made.roles.items (r ∷ next.rest) in
    omega (arith, room.pins, ap (sum_by f) whole, sum_by-append f (map (role_node (net_of l) (partitions l) (voted l)) made.roles.items) (role_node (net_of l) (partitions l) (voted l) r ∷ map (role_node (net_of l) (partitions l) (voted l)) next.rest), sum_by-cons f (role_node (net_of l) (partitions l) (voted l) r) (map (role_node (net_of l) (partitions l) (voted l)) next.rest), packs_total (map (role_name (net_of l)) made.roles.items) made.nodes (map (role_node (net_of l) (partitions l) (voted l)) made.roles.items) is.packed)

pub room_for_registers : (l : Layout) (made : Made) (r : Role) → HasRoom (net_of l) (partitions l) (voted l) → IsMade l made → IsNext l made.roles.items (r ∷ []) → made.nodes.registers + 1 < 4294967296
room_for_registers l made r room is next =
    omega (arith, room.nets, ap length next.split, length-append made.roles.items (r ∷ next.rest), is.packed.registers, count_by-le-length is_register (map (role_node (net_of l) (partitions l) (voted l)) made.roles.items), length-map made.roles.items (role_node (net_of l) (partitions l) (voted l)))

-- ---- the copy of a node

pin_net_more : (n : Net) (parts : PlainParts) (voted : ℕ → ℕ → Bool) (y : ℕ) (c : CopyNo) (j x : ℕ) → pin_net n parts voted y First j x + copy_number c ≡ pin_net n parts voted y c j x
pin_net_more n parts voted y c j x = go (voted y j)
  where
    go : (b : Bool) → (if b then voter_net n parts voted x (slice_index parts.of y) First else copy_net n parts voted x First) + copy_number c ≡ (if b then voter_net n parts voted x (slice_index parts.of y) c else copy_net n parts voted x c)
    go true = sym (voter_net_more n parts voted x (slice_index parts.of y) c)
    go false = sym (copy_net_more n parts voted x c)

-- what the first copy of node y reads at its first count pins
abbrev pub pins_to : Net → PlainParts → (ℕ → ℕ → Bool) → ℕ → ℕ → List ℕ
pins_to n parts voted y count = map (λ j. pin_net n parts voted y First j (slice_index (node_pins n y) j)) (range_with_len 0 count)

pub shifted_is : (n : Net) (parts : PlainParts) (voted : ℕ → ℕ → Bool) (x : ℕ) (c : CopyNo) (ps : List ℕ) → length n.inputs ≤ x → ps ≡ pins_to n parts voted (x - length n.inputs) (length (node_pins n (x - length n.inputs))) → shifted_node c ps (node_of n x) ≡ node_copy n parts voted (x - length n.inputs) c (node_of n x)
shifted_is n parts voted x c ps low e = go (node_of n x) refl
  where
    back : length n.inputs + (x - length n.inputs) ≡ x
    back = omega arith

    own : (pins : List ℕ) → pins_at (node_of n x) ≡ pins → node_pins n (x - length n.inputs) ≡ pins
    own pins at = ap (λ z. pins_at (node_of n z)) back ∙ at

    first : (pins : List ℕ) → pins_at (node_of n x) ≡ pins → ps ≡ map (λ j. pin_net n parts voted (x - length n.inputs) First j (slice_index pins j)) (range_with_len 0 (length pins))
    first pins at = e ∙ ap (λ (ks : List ℕ). map (λ j. pin_net n parts voted (x - length n.inputs) First j (slice_index ks j)) (range_with_len 0 (length ks))) (own pins at)

    go : (o : Option Node) → node_of n x ≡ o → shifted_node c ps (node_of n x) ≡ node_copy n parts voted (x - length n.inputs) c (node_of n x)
    go None f = rw f refl
    go (Some (Table name cover pins)) f =
        rw f (ap (Table (copy_text name c) cover) (ap (map (λ p. p + copy_number c)) (first pins (ap pins_at f)) ∙ (map_map (λ p. p + copy_number c) (λ j. pin_net n parts voted (x - length n.inputs) First j (slice_index pins j)) (range_with_len 0 (length pins)) ∙ ap (λ (g : ℕ → ℕ). map g (range_with_len 0 (length pins))) (λ i j. pin_net_more n parts voted (x - length n.inputs) c j (slice_index pins j) i))))
    go (Some (Register name init pin)) f =
        rw f (ap (Register (copy_text name c) init) (ap (λ (ks : List ℕ). slice_index ks 0 + copy_number c) (first (pin ∷ []) (ap pins_at f)) ∙ pin_net_more n parts voted (x - length n.inputs) c 0 pin))

pub copy_named : (n : Net) (parts : PlainParts) (voted : ℕ → ℕ → Bool) (x : ℕ) (c : CopyNo) → length n.inputs ≤ x → x < net_count n → node_name (role_node n parts voted (Copy (record { 0 = x }) c)) ≡ role_name n (Copy (record { 0 = x }) c)
copy_named n parts voted x c low high = go (slot_there (length n.inputs) n.nodes x low high)
  where
    named : (node : Node) → node_name (node_copy n parts voted (x - length n.inputs) c (Some node)) ≡ copy_text (node_name node) c
    named (Table name cover pins) = refl
    named (Register name init pin) = refl

    go : (node : Node) × (node_of n x ≡ Some node) → node_name (role_node n parts voted (Copy (record { 0 = x }) c)) ≡ role_name n (Copy (record { 0 = x }) c)
    go (node, e) = ap (λ (o : Option Node). node_name (node_copy n parts voted (x - length n.inputs) c o)) e ∙ (named node ∙ ap (λ (name : List ℕ). copy_text name c) (sym (name_of_node n x node e)))

-- ---- voters

row_split : (xs : List ℕ) (i : ℕ) → i < length xs → xs ≡ take i xs ++ get_or xs i 0 ∷ drop (suc i) xs
row_split [] i h = absurd (omega arith)
row_split (x ∷ xs) zero h = refl
row_split (x ∷ xs) (suc i) h = ap (λ (ys : List ℕ). x ∷ ys) (row_split xs i (omega arith))

pub next_in_row : (l : Layout) (f : ℕ → List Role) (done now : List Role) (row : List ℕ) (i : ℕ) → IsNext l done (flat_map f row) → i < length row → now ≡ done ++ flat_map f (take i row) → IsNext l now (f (get_or row i 0))
next_in_row l f done now row i next h e =
    let split : flat_map f row ≡ flat_map f (take i row) ++ (f (get_or row i 0) ++ flat_map f (drop (suc i) row)) = ap (flat_map f) (row_split row i h) ∙ flat_map-append f (take i row) (get_or row i 0 ∷ drop (suc i) row) in
    next_first l now (f (get_or row i 0)) (flat_map f (drop (suc i) row)) (next_behind l done now (flat_map f (take i row)) (f (get_or row i 0) ++ flat_map f (drop (suc i) row)) (subst (λ (rs : List Role). IsNext l done rs) split next) e)

pub voter_is : (n : Net) (parts : PlainParts) (voted : ℕ → ℕ → Bool) (x p : ℕ) (c : CopyNo) (k : PlainCover) (v : ℕ) (nets : List ℕ) → k ≡ majority_cover → v ≡ copy_net n parts voted x First → nets ≡ v ∷ (v + 1) ∷ (v + 2) ∷ [] → Table (voter_text (name_of n x) p c) k nets ≡ role_node n parts voted (Voter (record { 0 = x }) (record { 0 = p }) c)
voter_is n parts voted x p c k v nets e f g =
    let b : v + 1 ≡ copy_net n parts voted x Second = omega (arith, f, copy_net_more n parts voted x Second) in
    let d : v + 2 ≡ copy_net n parts voted x Third = omega (arith, f, copy_net_more n parts voted x Third) in
    rw (e, g, b, d, f) refl

-- ---- whole blocks

pub next_block : (l : Layout) (done : List Role) (x : ℕ) → done ≡ flat_map (block (net_of l) (partitions l) (voted l)) (range_with_len 0 x) → x < net_count (net_of l) → IsNext l done (block (net_of l) (partitions l) (voted l) x)
unfolding hardened_roles
next_block l done x e h = record { rest = flat_map (block (net_of l) (partitions l) (voted l)) (range_with_len (x + 1) (net_count (net_of l) - (x + 1))); split = blocks_cut (block (net_of l) (partitions l) (voted l)) x (net_count (net_of l)) h ∙ ap (λ (rs : List Role). rs ++ (block (net_of l) (partitions l) (voted l) x ++ flat_map (block (net_of l) (partitions l) (voted l)) (range_with_len (x + 1) (net_count (net_of l) - (x + 1))))) (sym e) }

pub block_more : (n : Net) (parts : PlainParts) (voted : ℕ → ℕ → Bool) (done new : List Role) (x : ℕ) → done ≡ flat_map (block n parts voted) (range_with_len 0 x) → new ≡ done ++ block n parts voted x → new ≡ flat_map (block n parts voted) (range_with_len 0 (x + 1))
block_more n parts voted done new x e more =
    let f : x + 1 ≡ suc x = omega arith in
    more ∙ (ap (λ (rs : List Role). rs ++ block n parts voted x) e ∙ sym (ap (λ k. flat_map (block n parts voted) (range_with_len 0 k)) f ∙ (ap (flat_map (block n parts voted)) (numbers_more x) ∙ (flat_map-append (block n parts voted) (range_with_len 0 x) (x ∷ []) ∙ ap (λ (rs : List Role). flat_map (block n parts voted) (range_with_len 0 x) ++ rs) (append-nil (block n parts voted x))))))

pub all_blocks : (n : Net) (parts : PlainParts) (voted : ℕ → ℕ → Bool) (done : List Role) (x : ℕ) → done ≡ flat_map (block n parts voted) (range_with_len 0 x) → x ≡ net_count n → done ≡ hardened_roles n parts voted
unfolding hardened_roles
all_blocks n parts voted done x e f = e ∙ ap (λ k. flat_map (block n parts voted) (range_with_len 0 k)) f

-- what the first copies read has numbers that leave room for the other copies
pub pins_few : (n : Net) (parts : PlainParts) (voted : ℕ → ℕ → Bool) (y : ℕ) → IsValid n → y < length n.nodes → slice_index parts.of y < parts.count → 3 * length n.inputs + length (hardened_roles n parts voted) < 4294967295 → All (λ p. p + 3 < 4294967296) (pins_to n parts voted y (length (node_pins n y)))
pins_few n parts voted y valid h own few k d l = rw (get_or-map-range_with_len (λ j. pin_net n parts voted y First j (slice_index (node_pins n y) j)) 0 (length (node_pins n y)) k k d l' (omega arith)) (go (voted y k) refl)
  where
    l' : k < length (node_pins n y)
    l' = omega (arith, l, length-map-range_with_len (λ j. pin_net n parts voted y First j (slice_index (node_pins n y) j)) 0 (length (node_pins n y)))

    net : slice_index (node_pins n y) k < net_count n
    net = pin_in_range n valid y k l'

    go : (b : Bool) → voted y k ≡ b → pin_net n parts voted y First k (slice_index (node_pins n y) k) + 3 < 4294967296
    go true v = omega (arith, few, voter_few n parts voted (slice_index (node_pins n y) k) (slice_index parts.of y) net own (needs_from_pin n parts voted y k (slice_index (node_pins n y) k) h (record { pin = l'; is = refl }) v), ap (λ (b : Bool). if b then voter_net n parts voted (slice_index (node_pins n y) k) (slice_index parts.of y) First else copy_net n parts voted (slice_index (node_pins n y) k) First) v)
    go false v = omega (arith, few, copy_few n parts voted (slice_index (node_pins n y) k) net, ap (λ (b : Bool). if b then voter_net n parts voted (slice_index (node_pins n y) k) (slice_index parts.of y) First else copy_net n parts voted (slice_index (node_pins n y) k) First) v)
