-- The paths of the hardened design are those of its original, where a voted pin counts one table more.
use Rattle.std.proofs.Common.{◌≡◌, ℕ, ◌+◌, ◌-◌, ◌*◌, ◌<◌, ◌≤◌, ◌⊎◌, inl, inr, Bool, true, false, List, length, get_or, Option, Some, None, refl, sym, ap, ◌∙◌, subst, arith}
use Rattle.std.specs.Prelude.{slice_index, Contains, if◌then◌else◌}
use Rattle.std.specs.List.{flat_map}
use Rattle.std.proofs.lemmas.Bool.{cases_lt}
use Rattle.std.proofs.lemmas.Option.{get_or_from_slice_get, slice_get_within}
use Rattle.tmr_base.specs.declared.copies.CopyNo.{CopyNo}
use Rattle.tmr_base.specs.declared.copies.CopyNo.TheVariants.{First}
use Rattle.tmr_base.specs.Copies.{copy_number}
use Rattle.tmr_base.specs.Parts.{PlainParts}
use Rattle.flat_net.specs.Net.{Net, Node, Table, Register, net_count, node_of, pins_at, table_pins, IsTable, IsRegister}
use Rattle.flat_net.proofs.Slots.{slot_below, slot_there, slot_within, slice_get_there}
use Rattle.certificate.specs.declared.role.Role.{Role}
use Rattle.certificate.specs.declared.role.Role.TheVariants.{Copy, Voter}
use Rattle.certificate.specs.Cert.{role_of}
use Rattle.feedback_cut.specs.Inner.{node_pins}
use Rattle.partitioner.specs.Below.{one_if}
use Rattle.triplicate.specs.Blocks.{threefold}
use Rattle.triplicate.specs.Voting.{ReadsNet}
use Rattle.triplicate.specs.Labels.{Labeling}
use Rattle.triplicate.specs.Numbers.{copy_net, voter_net}
use Rattle.triplicate.specs.Construction.{pin_net, node_copy, hardened_net, hardened_cert}
use Rattle.triplicate.specs.Given.{IsGiven}
use Rattle.triplicate.proofs.Lists.{copy_numbered, threefold_at, length-threes, threes_at, in_threes}
use Rattle.triplicate.proofs.Numbering.{copy_net_input}
use Rattle.triplicate.proofs.Tripled.{length-hardened_inputs, node_of_role, number_of, role_of_copy, role_of_input_copy}
use Rattle.triplicate.proofs.Reading.{read_in_range, voted_role}
use Rattle.triplicate.proofs.Formed.{copy_pin}
use Rattle.triplicate.proofs.Named.{role_there}
use Rattle.triplicate.proofs.Valid.{copy_below}
use Rattle.sweep.specs.Levels.{register_pins, IsStart, Path, begins as path_begins, goes_on as path_goes_on, IsEnd, HasPath, AreLevels}
use Rattle.sweep.specs.Private.Reaching.{VotedPath, begins, goes_on, VotedEnd, at_output, at_register, AreVotedLevels}
use Rattle.sweep.proofs.OwnPaths.{ReadsAt, table_reads, reads_table, KeepsAt, register_reads, reads_register}
use Rattle.sweep.proofs.ReachLaws.{table_within, register_within}

-- a copy is a table or a register as its node is
copy_table : (n : Net) (parts : PlainParts) (voted : ℕ → ℕ → Bool) (y : ℕ) (c : CopyNo) (o : Option Node) → IsTable o → IsTable (Some (node_copy n parts voted y c o))
copy_table n parts voted y c None t = absurd t
copy_table n parts voted y c (Some (Table name cover pins)) t = tt
copy_table n parts voted y c (Some (Register name init pin)) t = absurd t

copy_register : (n : Net) (parts : PlainParts) (voted : ℕ → ℕ → Bool) (y : ℕ) (c : CopyNo) (o : Option Node) → IsRegister o → IsRegister (Some (node_copy n parts voted y c o))
copy_register n parts voted y c None t = absurd t
copy_register n parts voted y c (Some (Table name cover pins)) t = absurd t
copy_register n parts voted y c (Some (Register name init pin)) t = tt

table_copied : (n : Net) (parts : PlainParts) (voted : ℕ → ℕ → Bool) (y : ℕ) (c : CopyNo) (o : Option Node) → IsTable (Some (node_copy n parts voted y c o)) → IsTable o
table_copied n parts voted y c None t = absurd t
table_copied n parts voted y c (Some (Table name cover pins)) t = tt
table_copied n parts voted y c (Some (Register name init pin)) t = absurd t

start_copied : (n : Net) (parts : PlainParts) (voted : ℕ → ℕ → Bool) (y : ℕ) (c : CopyNo) (o : Option Node) → (IsTable (Some (node_copy n parts voted y c o)) → ⊥) → IsTable o → ⊥
start_copied n parts voted y c o start table = start (copy_table n parts voted y c o table)

register_copied : (n : Net) (parts : PlainParts) (voted : ℕ → ℕ → Bool) (y : ℕ) (c : CopyNo) (o : Option Node) (node : Node) → o ≡ Some node → IsRegister (Some (node_copy n parts voted y c o)) → IsRegister o
register_copied n parts voted y c None node e t = absurd (cc)
register_copied n parts voted y c (Some (Table name cover pins)) node e t = absurd t
register_copied n parts voted y c (Some (Register name init pin)) node e t = tt

-- a register has a pin
one_pin : (o : Option Node) → IsRegister o → 0 < length (pins_at o)
one_pin None r = absurd r
one_pin (Some (Table name cover pins)) r = absurd r
one_pin (Some (Register name init pin)) r = omega arith

-- a copy of a register is no table
register_start : (n : Net) (parts : PlainParts) (voted : ℕ → ℕ → Bool) (y : ℕ) (c : CopyNo) (o : Option Node) (node : Node) → o ≡ Some node → (IsTable o → ⊥) → IsTable (Some (node_copy n parts voted y c o)) → ⊥
register_start n parts voted y c o node e start table = start (table_copied n parts voted y c o table)

some_voter : (x y p q : ℕ) (c d : CopyNo) → Some (Voter (record { 0 = x }) (record { 0 = p }) c) ≡ Some (Voter (record { 0 = y }) (record { 0 = q }) d) → x ≡ y
some_voter x y p q c d e = go (Voter (record { 0 = x }) (record { 0 = p }) c) (Voter (record { 0 = y }) (record { 0 = q }) d) e
  where
    net : Role → ℕ
    net (Copy z b) = z.0
    net (Voter z b a) = z.0

    net_of : Option Role → ℕ
    net_of None = 0
    net_of (Some r) = net r

    go : (r s : Role) → Some r ≡ Some s → net r ≡ net s
    go r s f = ap net_of f

some_copy : (x y : ℕ) (c d : CopyNo) → Some (Copy (record { 0 = x }) c) ≡ Some (Copy (record { 0 = y }) d) → x ≡ y
some_copy x y c d e = ap net_of e
  where
    net_of : Option Role → ℕ
    net_of None = 0
    net_of (Some (Copy z b)) = z.0
    net_of (Some (Voter z b a)) = z.0

module _ (n : Net) (parts : PlainParts) (voted : ℕ → ℕ → Bool) (t : Labeling) (is : IsGiven n parts voted t) where
  ports : length (hardened_net n parts voted).inputs ≡ 3 * length n.inputs
  unfolding hardened_net
  ports = length-hardened_inputs n

  outputs_are : (hardened_net n parts voted).outputs ≡ flat_map (λ x. threefold (copy_net n parts voted x)) n.outputs
  unfolding hardened_net
  outputs_are = refl

  -- an input has no node
  low_node : (g : ℕ) → g < 3 * length n.inputs → node_of (hardened_net n parts voted) g ≡ None
  low_node g l = slot_below (length (hardened_net n parts voted).inputs) (hardened_net n parts voted).nodes g (omega (arith, ports, l))

  low_role : (g : ℕ) → g < 3 * length n.inputs → role_of (hardened_cert n parts voted t) g ≡ None
  unfolding hardened_cert
  low_role g l = slot_below (3 * length n.inputs) _ g l

  -- the copy of a node
  copy_node : (y : ℕ) (c : CopyNo) → y < length n.nodes → node_of (hardened_net n parts voted) (copy_net n parts voted (length n.inputs + y) c) ≡ Some (node_copy n parts voted y c (node_of n (length n.inputs + y)))
  copy_node y c l =
      let back : (length n.inputs + y) - length n.inputs ≡ y = omega arith in
      node_of_role n parts voted t (copy_net n parts voted (length n.inputs + y) c) (Copy (record { 0 = length n.inputs + y }) c) (role_of_copy n parts voted t (length n.inputs + y) c (omega arith) (omega arith))
      ∙ ap (λ k. Some (node_copy n parts voted k c (node_of n (length n.inputs + y)))) back

  own_read : (y j : ℕ) → j < length (node_pins n y) → ReadsNet n y j (slice_index (node_pins n y) j)
  own_read y j h = record { pin = h; is = refl }

  -- ---- from the original

  start_copy : (x : ℕ) → IsStart n x → IsStart (hardened_net n parts voted) (copy_net n parts voted x First)
  start_copy x start = (copy_below n parts voted t is x First start.0, go (cases_lt x (length n.inputs)))
    where
      go : (x < length n.inputs) ⊎ (length n.inputs ≤ x) → IsTable (node_of (hardened_net n parts voted) (copy_net n parts voted x First)) → ⊥
      go (inl l) table = subst (λ (o : Option Node). IsTable o) (low_node (copy_net n parts voted x First) (omega (arith, copy_net_input n parts voted x First l, l))) table
      go (inr low) table =
          let (node, at) = slot_there (length n.inputs) n.nodes x low start.0 in
          let here = node_of_role n parts voted t (copy_net n parts voted x First) (Copy (record { 0 = x }) First) (role_of_copy n parts voted t x First low start.0) in
          register_start n parts voted (x - length n.inputs) First (node_of n x) node at start.1 (subst (λ (o : Option Node). IsTable o) here table)

  -- a net that some node reads at a pin, its voter where the pin is voted
  pin_up : (y j tables : ℕ) → y < length n.nodes → j < length (node_pins n y) → Path (hardened_net n parts voted) (copy_net n parts voted (slice_index (node_pins n y) j) First) tables
      → Path (hardened_net n parts voted) (pin_net n parts voted y First j (slice_index (node_pins n y) j)) (tables + one_if (voted y j))
  pin_up y j tables l h path = go (voted y j) refl
    where
      x : ℕ
      x = slice_index (node_pins n y) j

      go : (b : Bool) → voted y j ≡ b → Path (hardened_net n parts voted) (pin_net n parts voted y First j (slice_index (node_pins n y) j)) (tables + one_if (voted y j))
      go true v =
          let here = node_of_role n parts voted t (pin_net n parts voted y First j (slice_index (node_pins n y) j)) (Voter (record { 0 = slice_index (node_pins n y) j }) (record { 0 = slice_index parts.of y }) First)
          (voted_role n parts voted t is y j (slice_index (node_pins n y) j) First l (own_read y j h) v) in
          let pins : table_pins (node_of (hardened_net n parts voted) (pin_net n parts voted y First j (slice_index (node_pins n y) j))) ≡ threefold (copy_net n parts voted (slice_index (node_pins n y) j)) = ap table_pins here in
          let there : Contains (table_pins (node_of (hardened_net n parts voted) (pin_net n parts voted y First j (slice_index (node_pins n y) j)))) (copy_net n parts voted (slice_index (node_pins n y) j) First) =
          subst (λ (ps : List ℕ). Contains ps (copy_net n parts voted (slice_index (node_pins n y) j) First)) (sym pins) (0, omega arith, refl) in
          let count : tables + 1 ≡ tables + one_if (voted y j) = ap (λ (b : Bool). tables + one_if b) (sym v) in
          subst (λ (m : ℕ). Path (hardened_net n parts voted) (pin_net n parts voted y First j (slice_index (node_pins n y) j)) m) count
          (path_goes_on (copy_net n parts voted (slice_index (node_pins n y) j) First) (pin_net n parts voted y First j (slice_index (node_pins n y) j)) tables path there)
      go false v =
          let same : copy_net n parts voted (slice_index (node_pins n y) j) First ≡ pin_net n parts voted y First j (slice_index (node_pins n y) j) =
          ap (λ (b : Bool). if b then voter_net n parts voted (slice_index (node_pins n y) j) (slice_index parts.of y) First else copy_net n parts voted (slice_index (node_pins n y) j) First) (sym v) in
          let count : tables ≡ tables + one_if (voted y j) = omega (arith, ap one_if v) in
          subst (λ (m : ℕ). Path (hardened_net n parts voted) (pin_net n parts voted y First j (slice_index (node_pins n y) j)) m) count
          (subst (λ (g : ℕ). Path (hardened_net n parts voted) g tables) same path)

  up : (x tables : ℕ) → VotedPath n voted x tables → Path (hardened_net n parts voted) (copy_net n parts voted x First) tables
  up _ _ (begins x start) = path_begins (copy_net n parts voted x First) (start_copy x start)
  up _ _ (goes_on y j tables table h path) =
      let l = table_within n y table in
      let before = pin_up y j tables l h (up (slice_index (node_pins n y) j) tables path) in
      let g = copy_net n parts voted (length n.inputs + y) First in
      let pins = copy_pin n parts voted t is y j First l in
      let own : IsTable (node_of (hardened_net n parts voted) (copy_net n parts voted (length n.inputs + y) First)) =
      subst (λ (o : Option Node). IsTable o) (sym (copy_node y First l)) (copy_table n parts voted y First (node_of n (length n.inputs + y)) table) in
      let there = reads_table (hardened_net n parts voted) (copy_net n parts voted (length n.inputs + y) First) j own (omega (arith, h, pins.0)) in
      path_goes_on (pin_net n parts voted y First j (slice_index (node_pins n y) j)) (copy_net n parts voted (length n.inputs + y) First) (tables + one_if (voted y j)) before
      (subst (λ (z : ℕ). Contains (table_pins (node_of (hardened_net n parts voted) (copy_net n parts voted (length n.inputs + y) First))) z) (pins.1 h) there)

  output_copy : (k : ℕ) → k < length n.outputs → Contains (hardened_net n parts voted).outputs (copy_net n parts voted (slice_index n.outputs k) First)
  output_copy k l =
      let (x, at) = slice_get_there n.outputs k l in
      let entry = threes_at (copy_net n parts voted) n.outputs k x First at in
      let same : x ≡ slice_index n.outputs k = sym (get_or_from_slice_get n.outputs k x 0 at) in
      subst (λ (xs : List ℕ). Contains xs (copy_net n parts voted (slice_index n.outputs k) First)) (sym outputs_are) (
        3 * k + copy_number First,
        slice_get_within _ (3 * k + copy_number First) (copy_net n parts voted x First) entry,
        get_or_from_slice_get _ (3 * k + copy_number First) (copy_net n parts voted x First) (copy_net n parts voted (slice_index n.outputs k) First) entry ∙ ap (λ (z : ℕ). copy_net n parts voted z First) same,
      )

  end_up : (tables : ℕ) → VotedEnd n voted tables → HasPath (hardened_net n parts voted) tables
  end_up _ (at_output k tables l path) = record { end = copy_net n parts voted (slice_index n.outputs k) First; path = up (slice_index n.outputs k) tables path; is_end = inl (output_copy k l) }
  end_up _ (at_register y tables register path) =
      let l = register_within n y register in
      let h : 0 < length (node_pins n y) = one_pin (node_of n (length n.inputs + y)) register in
      let pins = copy_pin n parts voted t is y 0 First l in
      let own : IsRegister (node_of (hardened_net n parts voted) (copy_net n parts voted (length n.inputs + y) First)) =
      subst (λ (o : Option Node). IsRegister o) (sym (copy_node y First l)) (copy_register n parts voted y First (node_of n (length n.inputs + y)) register) in
      let there = reads_register (hardened_net n parts voted) (copy_net n parts voted (length n.inputs + y) First) own in
      record {
        end = pin_net n parts voted y First 0 (slice_index (node_pins n y) 0);
        path = pin_up y 0 tables l h (up (slice_index (node_pins n y) 0) tables path);
        is_end = inr (copy_net n parts voted (length n.inputs + y) First, subst (λ (z : ℕ). Contains (register_pins (node_of (hardened_net n parts voted) (copy_net n parts voted (length n.inputs + y) First))) z) (pins.1 h) there);
      }

  -- ---- from the hardened design

  -- what a path to hardened net g is in the original
  data Standing (g tables : ℕ) : Type 0 where
    as_input : g < 3 * length n.inputs → tables ≡ 0 → Standing g tables
    as_copy : (x : ℕ) (c : CopyNo) → role_of (hardened_cert n parts voted t) g ≡ Some (Copy (record { 0 = x }) c) → VotedPath n voted x tables → Standing g tables
    as_voter : (x p before : ℕ) (c : CopyNo) → role_of (hardened_cert n parts voted t) g ≡ Some (Voter (record { 0 = x }) (record { 0 = p }) c) → VotedPath n voted x before → tables ≡ before + 1 → Standing g tables

  input_path : (x : ℕ) → x < length n.inputs → VotedPath n voted x 0
  input_path x l = begins x (omega (arith, l), λ table. subst (λ (o : Option Node). IsTable o) (slot_below (length n.inputs) n.nodes x l) table)

  -- a path to a copy
  copy_down : (g x tables : ℕ) (c : CopyNo) → g ≡ copy_net n parts voted x c → x < net_count n → Standing g tables → VotedPath n voted x tables
  copy_down g x tables c e high s = go (cases_lt x (length n.inputs)) s
    where
      none : x < length n.inputs → role_of (hardened_cert n parts voted t) g ≡ None
      none l = ap (role_of (hardened_cert n parts voted t)) e ∙ role_of_input_copy n parts voted t x c l

      some : length n.inputs ≤ x → role_of (hardened_cert n parts voted t) g ≡ Some (Copy (record { 0 = x }) c)
      some low = ap (role_of (hardened_cert n parts voted t)) e ∙ role_of_copy n parts voted t x c low high

      go : (x < length n.inputs) ⊎ (length n.inputs ≤ x) → Standing g tables → VotedPath n voted x tables
      go (inl l) (as_input low zero) = subst (λ (m : ℕ). VotedPath n voted x m) (sym zero) (input_path x l)
      go (inl l) (as_copy z d role path) = absurd (let no : None ≡ Some (Copy (record { 0 = z }) d) = sym (none l) ∙ role in cc)
      go (inl l) (as_voter z p before d role path sum) = absurd (let no : None ≡ Some (Voter (record { 0 = z }) (record { 0 = p }) d) = sym (none l) ∙ role in cc)
      go (inr low) (as_input small zero) = absurd (let no : None ≡ Some (Copy (record { 0 = x }) c) = sym (low_role g small) ∙ some low in cc)
      go (inr low) (as_copy z d role path) = subst (λ (w : ℕ). VotedPath n voted w tables) (some_copy z x d c (sym role ∙ some low)) path
      go (inr low) (as_voter z p before d role path sum) = absurd (let no : Some (Voter (record { 0 = z }) (record { 0 = p }) d) ≡ Some (Copy (record { 0 = x }) c) = sym role ∙ some low in cc)

  -- a path to what a pin reads
  record PinDown (y j tables : ℕ) : Type 0 where
    before : ℕ
    path : VotedPath n voted (slice_index (node_pins n y) j) before
    sum : tables ≡ before + one_if (voted y j)

  pin_down : (g y j tables : ℕ) (c : CopyNo) → y < length n.nodes → j < length (node_pins n y) → g ≡ pin_net n parts voted y c j (slice_index (node_pins n y) j) → Standing g tables → PinDown y j tables
  pin_down g y j tables c l h e s = go (voted y j) refl s
    where
      high : slice_index (node_pins n y) j < net_count n
      high = read_in_range n parts voted t is y j (slice_index (node_pins n y) j) (own_read y j h)

      voter : voted y j ≡ true → role_of (hardened_cert n parts voted t) g ≡ Some (Voter (record { 0 = slice_index (node_pins n y) j }) (record { 0 = slice_index parts.of y }) c)
      voter v = ap (role_of (hardened_cert n parts voted t)) e ∙ voted_role n parts voted t is y j (slice_index (node_pins n y) j) c l (own_read y j h) v

      go : (b : Bool) → voted y j ≡ b → Standing g tables → PinDown y j tables
      go true v (as_input small zero) = absurd (let no : None ≡ Some (Voter (record { 0 = slice_index (node_pins n y) j }) (record { 0 = slice_index parts.of y }) c) = sym (low_role g small) ∙ voter v in cc)
      go true v (as_copy z d role path) = absurd (let no : Some (Copy (record { 0 = z }) d) ≡ Some (Voter (record { 0 = slice_index (node_pins n y) j }) (record { 0 = slice_index parts.of y }) c) = sym role ∙ voter v in cc)
      go true v (as_voter z p before d role path sum) =
          record {
            before = before;
            path = subst (λ (w : ℕ). VotedPath n voted w before) (some_voter z (slice_index (node_pins n y) j) p (slice_index parts.of y) d c (sym role ∙ voter v)) path;
            sum = omega (arith, sum, ap one_if v);
          }
      go false v s =
          let same : g ≡ copy_net n parts voted (slice_index (node_pins n y) j) c =
          e ∙ ap (λ (b : Bool). if b then voter_net n parts voted (slice_index (node_pins n y) j) (slice_index parts.of y) c else copy_net n parts voted (slice_index (node_pins n y) j) c) v in
          record { before = tables; path = copy_down g (slice_index (node_pins n y) j) tables c same high s; sum = omega (arith, ap one_if v) }

  -- a copy that stands for a node
  record IsCopyOf (g x : ℕ) (c : CopyNo) : Type 0 where
    low : length n.inputs ≤ x
    high : x < net_count n
    number : g ≡ copy_net n parts voted (length n.inputs + (x - length n.inputs)) c
    node : node_of (hardened_net n parts voted) g ≡ Some (node_copy n parts voted (x - length n.inputs) c (node_of n x))

  copy_of_role : (g x : ℕ) (c : CopyNo) → role_of (hardened_cert n parts voted t) g ≡ Some (Copy (record { 0 = x }) c) → IsCopyOf g x c
  copy_of_role g x c role =
      let (low, high, e) = number_of n parts voted t g (Copy (record { 0 = x }) c) role in
      let back : x ≡ length n.inputs + (x - length n.inputs) = omega (arith, low) in
      record { low = low; high = high; number = e ∙ ap (λ (z : ℕ). copy_net n parts voted z c) back; node = node_of_role n parts voted t g (Copy (record { 0 = x }) c) role }

  start_down : (g : ℕ) → IsStart (hardened_net n parts voted) g → Standing g 0
  start_down g start = go (cases_lt g (3 * length n.inputs))
    where
      by : (r : Role) → role_of (hardened_cert n parts voted t) g ≡ Some r → Standing g 0
      by (Copy x c) role =
          let copy = copy_of_role g x.0 c role in
          as_copy x.0 c role (begins x.0 (copy.high, λ table. start.1 (subst (λ (o : Option Node). IsTable o) (sym copy.node) (copy_table n parts voted (x.0 - length n.inputs) c (node_of n x.0) table))))
      by (Voter x p c) role = absurd (start.1 (subst (λ (o : Option Node). IsTable o) (sym (node_of_role n parts voted t g (Voter x p c) role)) tt))

      go : (g < 3 * length n.inputs) ⊎ (3 * length n.inputs ≤ g) → Standing g 0
      go (inl l) = as_input l refl
      go (inr low) = let (r, role) = role_there n parts voted t is g low start.0 in by r role

  -- a table that reads a net to which a path leads
  table_down : (g f tables : ℕ) → Standing g tables → ReadsAt (hardened_net n parts voted) f g → (r : Role) → role_of (hardened_cert n parts voted t) f ≡ Some r → Standing f (tables + 1)
  table_down g f tables s reads (Copy x c) role =
      let copy = copy_of_role f x.0 c role in
      let back : length n.inputs + (x.0 - length n.inputs) ≡ x.0 = omega (arith, copy.low) in
      let l : x.0 - length n.inputs < length n.nodes = omega (arith, copy.low, copy.high) in
      let table : IsTable (node_of n x.0) = table_copied n parts voted (x.0 - length n.inputs) c (node_of n x.0) (subst (λ (o : Option Node). IsTable o) copy.node reads.table) in
      let pins = copy_pin n parts voted t is (x.0 - length n.inputs) reads.pin c l in
      let own : pins_at (node_of (hardened_net n parts voted) f) ≡ pins_at (node_of (hardened_net n parts voted) (copy_net n parts voted (length n.inputs + (x.0 - length n.inputs)) c)) = ap (λ (z : ℕ). pins_at (node_of (hardened_net n parts voted) z)) copy.number in
      let h : reads.pin < length (node_pins n (x.0 - length n.inputs)) = omega (arith, reads.below, ap length own, pins.0) in
      let read : g ≡ pin_net n parts voted (x.0 - length n.inputs) c reads.pin (slice_index (node_pins n (x.0 - length n.inputs)) reads.pin) = sym reads.is ∙ (ap (λ (ps : List ℕ). slice_index ps reads.pin) own ∙ pins.1 h) in
      let down = pin_down g (x.0 - length n.inputs) reads.pin tables c l h read s in
      let path : VotedPath n voted (length n.inputs + (x.0 - length n.inputs)) (down.before + one_if (voted (x.0 - length n.inputs) reads.pin) + 1) =
      goes_on (x.0 - length n.inputs) reads.pin down.before (subst (λ (z : ℕ). IsTable (node_of n z)) (sym back) table) h down.path in
      let count : down.before + one_if (voted (x.0 - length n.inputs) reads.pin) + 1 ≡ tables + 1 = omega (arith, down.sum) in
      as_copy x.0 c role (subst (λ (z : ℕ). VotedPath n voted z (tables + 1)) back (subst (λ (m : ℕ). VotedPath n voted (length n.inputs + (x.0 - length n.inputs)) m) count path))
  table_down g f tables s reads (Voter x p c) role =
      let (high, below, needs, e) = number_of n parts voted t f (Voter x p c) role in
      let pins : pins_at (node_of (hardened_net n parts voted) f) ≡ threefold (copy_net n parts voted x.0) = ap pins_at (node_of_role n parts voted t f (Voter x p c) role) in
      let (d, at) = copy_numbered reads.pin (omega (arith, reads.below, ap length pins)) in
      let entry : slice_index (threefold (copy_net n parts voted x.0)) (copy_number d) ≡ copy_net n parts voted x.0 d = get_or_from_slice_get (threefold (copy_net n parts voted x.0)) (copy_number d) (copy_net n parts voted x.0 d) 0 (threefold_at (copy_net n parts voted x.0) d) in
      let read : g ≡ copy_net n parts voted x.0 d = sym reads.is ∙ (ap (λ (ps : List ℕ). slice_index ps reads.pin) pins ∙ (ap (slice_index (threefold (copy_net n parts voted x.0))) (sym at) ∙ entry)) in
      as_voter x.0 p.0 tables c role (copy_down g x.0 tables d read high s) refl

  down : (g tables : ℕ) → Path (hardened_net n parts voted) g tables → Standing g tables
  down _ _ (path_begins g start) = start_down g start
  down _ _ (path_goes_on g f tables path there) =
      let reads = table_reads (hardened_net n parts voted) f g there in
      let (r, role) = role_there n parts voted t is f (omega (arith, reads.low, ports)) (node_below f reads.table) in
      table_down g f tables (down g tables path) reads r role
    where
      node_below : (f : ℕ) → IsTable (node_of (hardened_net n parts voted) f) → f < net_count (hardened_net n parts voted)
      node_below f table = go (node_of (hardened_net n parts voted) f) refl table
        where
          go : (o : Option Node) → node_of (hardened_net n parts voted) f ≡ o → IsTable o → f < net_count (hardened_net n parts voted)
          go None e t = absurd t
          go (Some node) e t = (slot_within (length (hardened_net n parts voted).inputs) (hardened_net n parts voted).nodes f node e).1

  end_down : (tables : ℕ) → HasPath (hardened_net n parts voted) tables → VotedEnd n voted tables
  end_down tables has = go has.is_end (down has.end tables has.path)
    where
      go : IsEnd (hardened_net n parts voted) has.end → Standing has.end tables → VotedEnd n voted tables
      go (inl (k, l, e)) s =
          let place = in_threes (length n.outputs) k (omega (arith, l, ap length outputs_are, length-threes (copy_net n parts voted) n.outputs)) in
          let (x, at) = slice_get_there n.outputs place.triple place.below in
          let entry = threes_at (copy_net n parts voted) n.outputs place.triple x place.copy at in
          let same : x ≡ slice_index n.outputs place.triple = sym (get_or_from_slice_get n.outputs place.triple x 0 at) in
          let listed : get_or (hardened_net n parts voted).outputs k has.end ≡ copy_net n parts voted x place.copy =
          ap (λ (xs : List ℕ). get_or xs k has.end) outputs_are ∙ (ap (λ (i : ℕ). get_or (flat_map (λ z. threefold (copy_net n parts voted z)) n.outputs) i has.end) place.is ∙ get_or_from_slice_get (flat_map (λ z. threefold (copy_net n parts voted z)) n.outputs) (3 * place.triple + copy_number place.copy) (copy_net n parts voted x place.copy) has.end entry) in
          let read : has.end ≡ copy_net n parts voted x place.copy = sym e ∙ listed in
          let high : x < net_count n = subst (λ (z : ℕ). z < net_count n) (sym same) (is.valid.unordered.outputs_in_range place.triple 0 place.below) in
          at_output place.triple tables place.below (subst (λ (z : ℕ). VotedPath n voted z tables) same (copy_down has.end x tables place.copy read high s))
      go (inr (f, there)) s = by (register_reads (hardened_net n parts voted) f has.end there)
        where
          node_below : (o : Option Node) → node_of (hardened_net n parts voted) f ≡ o → IsRegister o → f < net_count (hardened_net n parts voted)
          node_below None e r = absurd r
          node_below (Some node) e r = (slot_within (length (hardened_net n parts voted).inputs) (hardened_net n parts voted).nodes f node e).1

          by_role : KeepsAt (hardened_net n parts voted) f has.end → (r : Role) → role_of (hardened_cert n parts voted t) f ≡ Some r → VotedEnd n voted tables
          by_role keeps (Voter x p c) role = absurd (subst (λ (o : Option Node). IsRegister o) (node_of_role n parts voted t f (Voter x p c) role) keeps.register)
          by_role keeps (Copy x c) role =
              let copy = copy_of_role f x.0 c role in
              let (node, some) = slot_there (length n.inputs) n.nodes x.0 copy.low copy.high in
              let back : length n.inputs + (x.0 - length n.inputs) ≡ x.0 = omega (arith, copy.low) in
              let l : x.0 - length n.inputs < length n.nodes = omega (arith, copy.low, copy.high) in
              let register : IsRegister (node_of n x.0) = register_copied n parts voted (x.0 - length n.inputs) c (node_of n x.0) node some (subst (λ (o : Option Node). IsRegister o) copy.node keeps.register) in
              let own : IsRegister (node_of n (length n.inputs + (x.0 - length n.inputs))) = subst (λ (z : ℕ). IsRegister (node_of n z)) (sym back) register in
              let h : 0 < length (node_pins n (x.0 - length n.inputs)) = one_pin (node_of n (length n.inputs + (x.0 - length n.inputs))) own in
              let pins = copy_pin n parts voted t is (x.0 - length n.inputs) 0 c l in
              let place : pins_at (node_of (hardened_net n parts voted) f) ≡ pins_at (node_of (hardened_net n parts voted) (copy_net n parts voted (length n.inputs + (x.0 - length n.inputs)) c)) = ap (λ (z : ℕ). pins_at (node_of (hardened_net n parts voted) z)) copy.number in
              let read : has.end ≡ pin_net n parts voted (x.0 - length n.inputs) c 0 (slice_index (node_pins n (x.0 - length n.inputs)) 0) = sym keeps.is ∙ (ap (λ (ps : List ℕ). slice_index ps 0) place ∙ pins.1 h) in
              let down = pin_down has.end (x.0 - length n.inputs) 0 tables c l h read s in
              subst (λ (m : ℕ). VotedEnd n voted m) (sym down.sum) (at_register (x.0 - length n.inputs) down.before own down.path)

          by : KeepsAt (hardened_net n parts voted) f has.end → VotedEnd n voted tables
          by keeps =
              let (r, role) = role_there n parts voted t is f (omega (arith, keeps.low, ports)) (node_below (node_of (hardened_net n parts voted) f) refl keeps.register) in
              by_role keeps r role

  pub hardened_levels : (levels : ℕ) → AreVotedLevels n voted levels → AreLevels (hardened_net n parts voted) levels
  hardened_levels levels a = record { most = λ tables has. a.most tables (end_down tables has); some = go a.some }
    where
      go : (levels ≡ 0) ⊎ VotedEnd n voted levels → (levels ≡ 0) ⊎ HasPath (hardened_net n parts voted) levels
      go (inl none) = inl none
      go (inr end) = inr (end_up levels end)
