-- The hardened design and its certificate have the hardened form.
use Rattle.std.proofs.Common.{◌≡◌, ℕ, zero, suc, ◌+◌, ◌-◌, ◌*◌, ◌<◌, ◌≤◌, ◌⊎◌, inl, inr, List, [], ◌∷◌, ◌++◌, length, map, filter, Option, Some, None, slice_get, refl, sym, ap, ◌∙◌, subst, arith, Bool, true, false, eqb, ◌&&◌, ◌||◌}
use Rattle.std.specs.Prelude.{slice_index}
use Rattle.std.specs.List.{flat_map, range_with_len, list_any}
use Rattle.std.proofs.lemmas.Bool.{cases_lt}
use Rattle.std.proofs.lemmas.List.{get_or-map, get_or-append_right}
use Rattle.std.proofs.lemmas.List.Folds.{list_any-append}
use Rattle.std.proofs.lemmas.List.FromFn.{get_or-map-range_with_len, length-map-range_with_len}
use Rattle.std.proofs.lemmas.Option.{slice_get_within, get_or_from_slice_get}
use Rattle.node_reads.proofs.Numbers.{numbers_more}
use Rattle.tmr_base.specs.declared.copies.CopyNo.{CopyNo}
use Rattle.tmr_base.specs.declared.copies.CopyNo.TheVariants.{First, Second, Third}
use Rattle.tmr_base.specs.Names.{copy_text}
use Rattle.tmr_base.specs.Parts.{PlainParts}
use Rattle.flat_net.specs.Net.{Net, Node, Table, Register, net_count, node_of, node_name, name_of, pins_at, IsCoverOf}
use Rattle.flat_net.proofs.Slots.{slot_at, slot_within, slot_there}
use Rattle.certificate.specs.declared.role.Role.{Role}
use Rattle.certificate.specs.declared.role.Role.TheVariants.{Copy, Voter}
use Rattle.certificate.specs.Cert.{role_of, copy_of}
use Rattle.feedback_cut.specs.Inner.{node_pins}
use Rattle.triplicate.specs.Labels.{Labeling}
use Rattle.triplicate.specs.Voting.{ReadsNet, votes_for, needs_voter, VotesFor}
use Rattle.triplicate.specs.Blocks.{threefold, copies_of, voters_for, hardened_roles, role_name}
use Rattle.triplicate.specs.Form.{parts_of, is_voter, reads_voter, is_voted, majority_cover, IsTripled, VotesAsNeeded}
use Rattle.triplicate.specs.Numbers.{copy_net}
use Rattle.triplicate.specs.Construction.{pin_net, node_copy, role_node, hardened_net, hardened_cert}
use Rattle.triplicate.specs.Given.{IsGiven}
use Rattle.triplicate.proofs.Numbering.{number_of_role}
use Rattle.triplicate.proofs.Tripled.{node_of_role, role_of_copy, copy_listed}
use Rattle.triplicate.proofs.Certified.{cert_fits}
use Rattle.triplicate.proofs.Reading.{voted_role, unvoted_role, input_role}

-- ---- tests that agree where they are asked

any_same : (p q : ℕ → Bool) (n : ℕ) → ((x : ℕ) → x < n → p x ≡ q x) → list_any p (range_with_len 0 n) ≡ list_any q (range_with_len 0 n)
any_same p q zero h = refl
any_same p q (suc n) h =
    let before = any_same p q n (λ x l. h x (omega (arith, l))) in
    let here = h n (omega arith) in
    ap (list_any p) (numbers_more n) ∙ (list_any-append p (range_with_len 0 n) (n ∷ []) ∙ (ap (λ b. b || (p n || false)) before ∙ (ap (λ b. list_any q (range_with_len 0 n) || (b || false)) here ∙ (sym (list_any-append q (range_with_len 0 n) (n ∷ [])) ∙ ap (list_any q) (sym (numbers_more n))))))

needs_same : (n : Net) (parts : PlainParts) (voted voted' : ℕ → ℕ → Bool) → ((y j : ℕ) → y < length n.nodes → j < length (node_pins n y) → voted y j ≡ voted' y j) → (x p : ℕ) → needs_voter n parts voted x p ≡ needs_voter n parts voted' x p
unfolding needs_voter
needs_same n parts voted voted' same x p =
    any_same (λ y. eqb (slice_index parts.of y) p && list_any (votes_for n voted x y) (range_with_len 0 (length (node_pins n y)))) (λ y. eqb (slice_index parts.of y) p && list_any (votes_for n voted' x y) (range_with_len 0 (length (node_pins n y)))) (length n.nodes)
    (λ y h. ap (λ b. eqb (slice_index parts.of y) p && b) (any_same (votes_for n voted x y) (votes_for n voted' x y) (length (node_pins n y)) (λ j l. ap (λ b. b && eqb (slice_index (node_pins n y) j) x) (same y j h l))))

-- the roles rest on the pins of nodes alone
pub roles_same : (n : Net) (parts : PlainParts) (voted voted' : ℕ → ℕ → Bool) → ((y j : ℕ) → y < length n.nodes → j < length (node_pins n y) → voted y j ≡ voted' y j) → hardened_roles n parts voted ≡ hardened_roles n parts voted'
unfolding hardened_roles
roles_same n parts voted voted' same =
    ap (λ (needs : ℕ → ℕ → Bool). flat_map (λ x. copies_of n x ++ flat_map (voters_for x) (filter (needs x) (range_with_len 0 parts.count))) (range_with_len 0 (net_count n))) (λ i x p. needs_same n parts voted voted' same x p i)

-- ---- lists of images that agree

pub map_agree : {A B : Type 0} (f g : A → B) (xs : List A) → ((i : ℕ) (x : A) → slice_get xs i ≡ Some x → f x ≡ g x) → map f xs ≡ map g xs
map_agree f g [] h = refl
map_agree {A} {B} f g (x ∷ xs) h =
    let here : f x ≡ g x = h 0 x refl in
    let rest : map f xs ≡ map g xs = map_agree f g xs (λ i y e. h (suc i) y e) in
    cc

pub flat_map_agree : {A B : Type 0} (f g : A → List B) (xs : List A) → ((i : ℕ) (x : A) → slice_get xs i ≡ Some x → f x ≡ g x) → flat_map f xs ≡ flat_map g xs
flat_map_agree f g [] h = refl
flat_map_agree f g (x ∷ xs) h =
    let here : f x ≡ g x = h 0 x refl in
    let rest : flat_map f xs ≡ flat_map g xs = flat_map_agree f g xs (λ i y e. h (suc i) y e) in
    rw (here, rest) refl

pub map_map : {A B C : Type 0} (f : B → C) (g : A → B) (xs : List A) → map f (map g xs) ≡ map (λ x. f (g x)) xs
map_map f g [] = refl
map_map f g (x ∷ xs) = ap (λ ys. f (g x) ∷ ys) (map_map f g xs)

-- ---- names

pub name_of_node : (n : Net) (x : ℕ) (node : Node) → node_of n x ≡ Some node → name_of n x ≡ node_name node
name_of_node n x node e =
    let (low, high) = slot_within (length n.inputs) n.nodes x node e in
    let back : x ≡ length n.inputs + (x - length n.inputs) = omega arith in
    let at = get_or_from_slice_get n.nodes (x - length n.inputs) node node (sym (slot_at (length n.inputs) n.nodes x low) ∙ e) in
    get_or-append_right n.inputs (map node_name n.nodes) (length n.inputs) x [] refl low ∙ (get_or-map node_name n.nodes (x - length n.inputs) node [] (omega arith) ∙ ap node_name at)

module _ (n : Net) (parts : PlainParts) (voted : ℕ → ℕ → Bool) (t : Labeling) (is : IsGiven n parts voted t) where
  -- what stands for each role has its name
  pub names_of_roles : (i : ℕ) (r : Role) → slice_get (hardened_roles n parts voted) i ≡ Some r → node_name (role_node n parts voted r) ≡ role_name n r
  names_of_roles i (Voter x p c) at = refl
  names_of_roles i (Copy x c) at = go (slot_there (length n.inputs) n.nodes x.0 place.0 place.1)
    where
      place : (length n.inputs ≤ x.0) × (x.0 < net_count n) × (3 * length n.inputs + i ≡ copy_net n parts voted x.0 c)
      place = number_of_role n parts voted (3 * length n.inputs + i) (Copy x c) (let back : (3 * length n.inputs + i) - 3 * length n.inputs ≡ i = omega arith in slot_at (3 * length n.inputs) (hardened_roles n parts voted) (3 * length n.inputs + i) (omega arith) ∙ (ap (slice_get (hardened_roles n parts voted)) back ∙ at))

      named : (node : Node) → node_name (node_copy n parts voted (x.0 - length n.inputs) c (Some node)) ≡ copy_text (node_name node) c
      named (Table name cover pins) = refl
      named (Register name init pin) = refl

      go : (node : Node) × (node_of n x.0 ≡ Some node) → node_name (role_node n parts voted (Copy x c)) ≡ role_name n (Copy x c)
      go (node, e) = ap (λ (o : Option Node). node_name (node_copy n parts voted (x.0 - length n.inputs) c o)) e ∙ (named node ∙ ap (λ (name : List ℕ). copy_text name c) (sym (name_of_node n x.0 node e)))

  -- ---- what the copies of a node read

  node_there : (y j x : ℕ) → ReadsNet n y j x → y < length n.nodes
  node_there y j x reads = go (cases_lt y (length n.nodes))
    where
      go : (y < length n.nodes) ⊎ (length n.nodes ≤ y) → y < length n.nodes
      go (inl l) = l
      go (inr l) = none (node_of n (length n.inputs + y)) refl
        where
          none : (o : Option Node) → node_of n (length n.inputs + y) ≡ o → y < length n.nodes
          none None e = absurd (let empty : length (node_pins n y) ≡ 0 = ap (λ (m : Option Node). length (pins_at m)) e in omega (arith, empty, reads.pin))
          none (Some node) e = omega (arith, (slot_within (length n.inputs) n.nodes (length n.inputs + y) node e).1)

  -- pin j of copy c of node y
  pub copy_pin : (y j : ℕ) (c : CopyNo) → y < length n.nodes → (length (pins_at (node_of (hardened_net n parts voted) (copy_net n parts voted (length n.inputs + y) c))) ≡ length (node_pins n y)) × (j < length (node_pins n y) → slice_index (pins_at (node_of (hardened_net n parts voted) (copy_net n parts voted (length n.inputs + y) c))) j ≡ pin_net n parts voted y c j (slice_index (node_pins n y) j))
  copy_pin y j c h = go (node_of n (length n.inputs + y)) refl
    where
      back : (length n.inputs + y) - length n.inputs ≡ y
      back = omega arith

      here : node_of (hardened_net n parts voted) (copy_net n parts voted (length n.inputs + y) c) ≡ Some (node_copy n parts voted y c (node_of n (length n.inputs + y)))
      here = node_of_role n parts voted t (copy_net n parts voted (length n.inputs + y) c) (Copy (record { 0 = length n.inputs + y }) c) (role_of_copy n parts voted t (length n.inputs + y) c (omega arith) (omega arith)) ∙ ap (λ k. Some (node_copy n parts voted k c (node_of n (length n.inputs + y)))) back

      go : (o : Option Node) → node_of n (length n.inputs + y) ≡ o → (length (pins_at (node_of (hardened_net n parts voted) (copy_net n parts voted (length n.inputs + y) c))) ≡ length (pins_at (node_of n (length n.inputs + y)))) × (j < length (pins_at (node_of n (length n.inputs + y))) → slice_index (pins_at (node_of (hardened_net n parts voted) (copy_net n parts voted (length n.inputs + y) c))) j ≡ pin_net n parts voted y c j (slice_index (pins_at (node_of n (length n.inputs + y))) j))
      go None e = absurd (let (node, there) = slot_there (length n.inputs) n.nodes (length n.inputs + y) (omega arith) (omega arith) in let none : None ≡ Some node = sym e ∙ there in cc)
      go (Some (Table name cover pins)) e =
          rw (here, e) (length-map-range_with_len (λ i. pin_net n parts voted y c i (slice_index pins i)) 0 (length pins), λ l. get_or-map-range_with_len (λ i. pin_net n parts voted y c i (slice_index pins i)) 0 (length pins) j j 0 l (omega arith))
      go (Some (Register name init pin)) e =
          rw (here, e) (refl, λ l. let first : j ≡ 0 = omega arith in rw first refl)

  pub votes_read : (c : CopyNo) (y j : ℕ) → y < length n.nodes → j < length (node_pins n y) → reads_voter n (hardened_net n parts voted) (hardened_cert n parts voted t) c y j ≡ voted y j
  votes_read c y j h l = ap (λ k. is_voter (role_of (hardened_cert n parts voted t) (slice_index (pins_at (node_of (hardened_net n parts voted) k)) j))) (copy_listed n parts voted t (length n.inputs + y) c (omega arith)) ∙ (ap (λ k. is_voter (role_of (hardened_cert n parts voted t) k)) ((copy_pin y j c h).1 l) ∙ go (voted y j) refl (cases_lt (slice_index (node_pins n y) j) (length n.inputs)))
    where
      reads : ReadsNet n y j (slice_index (node_pins n y) j)
      reads = record { pin = l; is = refl }

      go : (b : Bool) → voted y j ≡ b → (slice_index (node_pins n y) j < length n.inputs) ⊎ (length n.inputs ≤ slice_index (node_pins n y) j) → is_voter (role_of (hardened_cert n parts voted t) (pin_net n parts voted y c j (slice_index (node_pins n y) j))) ≡ voted y j
      go true v any = ap is_voter (voted_role n parts voted t is y j (slice_index (node_pins n y) j) c h reads v) ∙ sym v
      go false v (inl low) = ap is_voter (input_role n parts voted t is y j (slice_index (node_pins n y) j) c low v) ∙ sym v
      go false v (inr low) = ap is_voter (unvoted_role n parts voted t is y j (slice_index (node_pins n y) j) c reads low v) ∙ sym v

  agrees : (y j x : ℕ) → ReadsNet n y j x → is_voted n (hardened_net n parts voted) (hardened_cert n parts voted t) y j ≡ voted y j
  agrees y j x reads = votes_read First y j (node_there y j x reads) reads.pin

  pub same_parts : parts_of (hardened_cert n parts voted t) ≡ parts
  unfolding hardened_cert
  same_parts = λ i. record { count = is.labels.parts_long i; of = parts.of }

  pub is_tripled : IsTripled n (hardened_net n parts voted) (hardened_cert n parts voted t)
  unfolding hardened_net hardened_cert
  is_tripled = record {
    fits = cert_fits n parts voted t is;
    model = refl;
    inputs = refl;
    outputs = flat_map_agree (λ x. threefold (copy_net n parts voted x)) (λ x. threefold (copy_of (hardened_cert n parts voted t) x)) n.outputs (λ i x at. listed x (subst (λ k. k < net_count n) (get_or_from_slice_get n.outputs i x 0 at) (is.valid.unordered.outputs_in_range i 0 (slice_get_within n.outputs i x at))));
    clock = refl;
    roles = roles_same n parts voted (is_voted n (hardened_net n parts voted) (hardened_cert n parts voted t)) (λ y j h l. sym (votes_read First y j h l)) ∙ ap (λ (p : PlainParts). hardened_roles n p (is_voted n (hardened_net n parts voted) (hardened_cert n parts voted t))) (sym same_parts);
    names = map_map node_name (role_node n parts voted) (hardened_roles n parts voted) ∙ map_agree (λ r. node_name (role_node n parts voted r)) (role_name n) (hardened_roles n parts voted) names_of_roles;
    voters = λ g x p c at. subst (λ (o : Option Node). IsCoverOf o majority_cover) (sym (node_of_role n parts voted t g (Voter (record { 0 = x }) (record { 0 = p }) c) at)) refl;
  }
    where
      listed : (x : ℕ) → x < net_count n → threefold (copy_net n parts voted x) ≡ threefold (copy_of (hardened_cert n parts voted t) x)
      listed x high = rw (copy_listed n parts voted t x First high, copy_listed n parts voted t x Second high, copy_listed n parts voted t x Third high) refl

  pub votes_as_needed : VotesAsNeeded is.kind n (hardened_net n parts voted) (hardened_cert n parts voted t) t.inputs is.extra
  votes_as_needed = record {
    cut = is.cut;
    voted = subst (λ (p : PlainParts). VotesFor is.kind n p t.inputs is.cut is.extra (is_voted n (hardened_net n parts voted) (hardened_cert n parts voted t))) (sym same_parts) (record {
      at_inputs = λ y j x reads low. agrees y j x reads ∙ is.votes.at_inputs y j x reads low;
      foreign = λ y j x reads apart. agrees y j (length n.inputs + x) reads ∙ is.votes.foreign y j x reads apart;
      meets = is.votes.meets;
      own = λ y j x inside. agrees y j (length n.inputs + x) (record { pin = inside.pin; is = inside.is }) ∙ is.votes.own y j x inside;
    });
    alike = λ c y j h l. votes_read c y j h l ∙ sym (votes_read First y j h l);
  }

  pub cut_needed : votes_as_needed.cut ≡ is.cut
  unfolding votes_as_needed
  cut_needed = refl
