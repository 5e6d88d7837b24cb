-- Loops of gates, and loops of tables.
use Rattle.std.proofs.Common.{◌≡◌, ℕ, zero, suc, ◌+◌, ◌-◌, ◌<◌, ◌≤◌, ◌⊎◌, inl, inr, List, [], ◌∷◌, length, get_or, slice_get, Option, Some, None, refl, sym, ap, ◌∙◌, subst, arith}
use Rattle.std.specs.Prelude.{slice_index, Contains}
use Rattle.std.proofs.lemmas.Bool.{cases_lt}
use Rattle.std.proofs.lemmas.List.{get_or_default}
use Rattle.std.proofs.lemmas.Option.{slice_get_within, get_or_from_slice_get, slice_get-get_or}
use Rattle.flat_net.specs.Net.{Net, Node, Table, Register, node_of, name_of, net_count, table_pins, IsTable, IsOrder}
use Rattle.flat_net.specs.Loop.{ReadsTable}
use Rattle.flat_net.specs.Faults.{number_in, node_of_element, draft_names}
use Rattle.flat_net.proofs.Ranges.{table_within}
use Rattle.flat_net.proofs.Sound.{names_of_draft}
use Rattle.flat_net.specs.Private.ByPlace.{IsOrderByPlace}
use Rattle.flat_net.proofs.ByPlace.{by_place}
use Rattle.aag_text.specs.declared.aig.Literal.{Literal}
use Rattle.aag_text.specs.declared.aig.Latch.{Latch}
use Rattle.aag_text.specs.declared.aig.Gate.{Gate}
use Rattle.aag_text.specs.Aig.{PlainAig, positive}
use Rattle.aag_text.specs.Variables.{IsDefinedOnce, IsDefined}
use Rattle.aag_design.specs.Draft.{numbered, net_name}
use Rattle.aag_design.specs.Private.Drafting.{plain_draft}
use Rattle.aag_design.specs.Loop.{ReadsGate, IsLoop}
use Rattle.aag_design.proofs.Places.{some_is, IsPlace, AtZero, AtLatch, AtGate, AtNext, AtOutput, place_of}
use Rattle.aag_design.proofs.Nets.{element, node_at, node_name, input_at, count_is, AreApart, number_is}
use Rattle.aag_design.proofs.Known.{AreVariables, IsKnown, IsNetOf, gate_net, known_net, next_known, output_known, left_known, right_known, defined_gate}
use Rattle.aag_design.proofs.Values.{names, design}

-- ---- the next entry of a loop

-- behind each entry another, which it reads
pub next_read : (R : ℕ → ℕ → Type 0) (xs : List ℕ) → 0 < length xs → ((k : ℕ) → suc k < length xs → R (slice_index xs k) (slice_index xs (suc k))) → R (slice_index xs (length xs - 1)) (slice_index xs 0)
    → (k : ℕ) → k < length xs → (j : ℕ) × (j < length xs) × R (slice_index xs k) (slice_index xs j)
next_read R xs some next closed k h = go (cases_lt (suc k) (length xs))
  where
    go : (suc k < length xs) ⊎ (length xs ≤ suc k) → (j : ℕ) × (j < length xs) × R (slice_index xs k) (slice_index xs j)
    go (inl more) = (suc k, more, next k more)
    go (inr last) =
        let e : length xs - 1 ≡ k = omega arith in
        (0, some, subst (λ (i : ℕ). R (slice_index xs i) (slice_index xs 0)) e closed)

-- before each entry another, which reads it
pub last_read : (R : ℕ → ℕ → Type 0) (xs : List ℕ) → 0 < length xs → ((k : ℕ) → suc k < length xs → R (slice_index xs k) (slice_index xs (suc k))) → R (slice_index xs (length xs - 1)) (slice_index xs 0)
    → (k : ℕ) → k < length xs → (j : ℕ) × R (slice_index xs j) (slice_index xs k)
last_read R xs some next closed zero h = (length xs - 1, closed)
last_read R xs some next closed (suc k) h = (k, next k h)

-- ---- no descent in an order

module _ (order : List ℕ) (P : ℕ → Type 0) (down : (k : ℕ) → k < length order → P (slice_index order k) → (j : ℕ) × (j < k) × P (slice_index order j)) where
  none_below : (bound k : ℕ) → k < bound → k < length order → P (slice_index order k) → ⊥
  none_below zero k below h p = absurd (omega arith)
  none_below (suc bound) k below h p =
      let (j, earlier, q) = down k h p in
      none_below bound j (omega arith) (omega arith) q

  pub none_at_all : (k : ℕ) → k < length order → P (slice_index order k) → ⊥
  none_at_all k h p = none_below (suc k) k (omega arith) h p

reads_some : (o : Option Node) (y : ℕ) → Contains (table_pins o) y → IsTable o
reads_some None y (at, below, is) = absurd (omega arith)
reads_some (Some (Table name cover pins)) y there = tt
reads_some (Some (Register name init pin)) y (at, below, is) = absurd (omega arith)

none_in : (y : ℕ) → Contains [] y → ⊥
none_in y (at, below, is) = omega arith

one_in : (x y : ℕ) → Contains (x ∷ []) y → x ≡ y
one_in x y (zero, below, is) = is
one_in x y (suc at, below, is) = absurd (omega arith)

pub two_in : (u v y : ℕ) → Contains (u ∷ v ∷ []) y → (u ≡ y) ⊎ (v ≡ y)
two_in u v y (zero, below, is) = inl is
two_in u v y (suc zero, below, is) = inr is
two_in u v y (suc (suc at), below, is) = absurd (omega arith)

literal_same : (u v : ℕ) → Some (positive u) ≡ Some (positive v) → u ≡ v
literal_same u v e = ap (λ (l : Literal). l.variable) (some_is (positive u) (positive v) e)

module _ (a : PlainAig) (once : IsDefinedOnce a) (all : IsDefined a) (are : AreVariables a) (apart : AreApart (draft_names (plain_draft a))) where
  -- the number of a variable's net
  abbrev pub number : ℕ → ℕ
  number u = number_in (names a) (net_name a u)

  number_at : (u x : ℕ) → IsNetOf a u x → number u ≡ x
  number_at u x is = number_is (names a) x (net_name a u) apart is.name

  -- net x is that of gate k
  pub record IsGateAt (x k : ℕ) (g : Gate) : Type 0 where
    pub there : slice_get a.gates k ≡ Some g
    pub is : x ≡ length a.inputs + (1 + length a.latches + k)

  gate_some : (k : ℕ) (g : Gate) → slice_get a.gates k ≡ Some g → 0 < g.variable
  gate_some k g at = are (length a.inputs + length a.latches + k) g.variable (defined_gate a (length a.inputs + length a.latches + k) k g refl at)

  own_net : (x k : ℕ) (g : Gate) → IsGateAt x k g → IsNetOf a g.variable x
  own_net x k g at = gate_net a once k x g at.is (gate_some k g at.there) at.there

  pins_are : (x k : ℕ) (g : Gate) → IsGateAt x k g → table_pins (node_of (design a) x) ≡ number g.left.variable ∷ number g.right.variable ∷ []
  pins_are x k g at = ap table_pins (node_at a (1 + length a.latches + k) x (AtGate k g refl at.there) at.is)

  -- ---- from gates to tables

  gate_of_reads : (v u : ℕ) → ReadsGate a v u → (k : ℕ) × (g : Gate) × IsGateAt (number v) k g × Contains (g.left.variable ∷ g.right.variable ∷ []) u
  gate_of_reads v u r =
      let (k, below, is) = r.there in
      let at : slice_get a.gates k ≡ Some r.gate = slice_get-get_or a.gates k r.gate below ∙ ap (λ (g : Gate). Some g) is in
      let net = gate_net a once k (length a.inputs + (1 + length a.latches + k)) r.gate refl (gate_some k r.gate at) at in
      (k, r.gate, record { there = at; is = sym (ap number r.variable) ∙ number_at r.gate.variable (length a.inputs + (1 + length a.latches + k)) net }, r.reads)

  reads_table : (v u : ℕ) → ReadsGate a v u → ReadsTable (design a) (number v) (number u)
  reads_table v u r =
      let (k, g, at, reads) = gate_of_reads v u r in
      subst (λ (ps : List ℕ). Contains ps (number u)) (sym (pins_are (number v) k g at)) (go g (two_in g.left.variable g.right.variable u reads))
    where
      go : (g : Gate) → (g.left.variable ≡ u) ⊎ (g.right.variable ≡ u) → Contains (number g.left.variable ∷ number g.right.variable ∷ []) (number u)
      go g (inl e) = (0, omega arith, ap number e)
      go g (inr e) = (1, omega arith, ap number e)

  -- x is the net of one of these variables
  abbrev IsNetIn : List ℕ → ℕ → Type 0
  IsNetIn variables x = (i : ℕ) × (i < length variables) × (x ≡ number (slice_index variables i))

  -- an order leaves no loop of gates
  pub no_loop : (order variables : List ℕ) → IsOrder (design a) order → IsLoop a variables → ⊥
  no_loop order variables ordered loop = start (places.complete (number (slice_index variables 0)) within.0 within.1)
    where
      places : IsOrderByPlace (design a) order
      places = by_place (design a) order ordered

      reads_at : (i : ℕ) → i < length variables → (j : ℕ) × (j < length variables) × ReadsGate a (slice_index variables i) (slice_index variables j)
      reads_at i h = next_read (ReadsGate a) variables loop.some loop.next loop.closed i h

      table_at : (i : ℕ) → i < length variables → IsTable (node_of (design a) (number (slice_index variables i)))
      table_at i h =
          let (j, l, r) = reads_at i h in
          reads_some (node_of (design a) (number (slice_index variables i))) (number (slice_index variables j)) (reads_table (slice_index variables i) (slice_index variables j) r)

      within : (length (design a).inputs ≤ number (slice_index variables 0)) × (number (slice_index variables 0) < net_count (design a))
      within = table_within (design a) (number (slice_index variables 0)) (table_at 0 loop.some)

      down : (k : ℕ) → k < length order → IsNetIn variables (slice_index order k) → (j : ℕ) × (j < k) × IsNetIn variables (slice_index order j)
      down k h (i, l, e) =
          let (j, m, r) = reads_at i l in
          let (q, below, is) = subst (λ (x : ℕ). Contains (table_pins (node_of (design a) x)) (number (slice_index variables j))) (sym e) (reads_table (slice_index variables i) (slice_index variables j) r) in
          let pin : slice_index (table_pins (node_of (design a) (slice_index order k))) q ≡ number (slice_index variables j) = get_or_default (table_pins (node_of (design a) (slice_index order k))) q 0 (number (slice_index variables j)) below ∙ is in
          let (place, earlier, same) = places.after k q h below (subst (λ (x : ℕ). IsTable (node_of (design a) x)) (sym pin) (table_at j m)) in
          (place, earlier, (j, m, same ∙ pin))

      start : (k : ℕ) × (k < length order) × (slice_index order k ≡ number (slice_index variables 0)) → ⊥
      start (k, h, e) = none_at_all order (IsNetIn variables) down k h (0, loop.some, e)

  -- ---- from tables to gates

  -- what a table reads is the net of a known variable
  pin_known : (y x : ℕ) → Contains (table_pins (node_of (design a) y)) x → (u : ℕ) × IsKnown a u × (x ≡ number u)
  pin_known y x reads = below (cases_lt y (length a.inputs))
    where
      at_place : (i : ℕ) (p : IsPlace a i) → Contains (table_pins (Some (node_of_element (names a) (element a i p)))) x → (u : ℕ) × IsKnown a u × (x ≡ number u)
      at_place i (AtZero z) there = absurd (none_in x there)
      at_place i (AtLatch j l z at) there = absurd (none_in x there)
      at_place i (AtGate k g z at) there = go (two_in (number g.left.variable) (number g.right.variable) x there)
        where
          go : (number g.left.variable ≡ x) ⊎ (number g.right.variable ≡ x) → (u : ℕ) × IsKnown a u × (x ≡ number u)
          go (inl e) = (g.left.variable, left_known a all k g at, sym e)
          go (inr e) = (g.right.variable, right_known a all k g at, sym e)
      at_place i (AtNext j l z at) there = (l.next.variable, next_known a all j l at, sym (one_in (number l.next.variable) x there))
      at_place i (AtOutput k m z at) there = (m.variable, output_known a all k m at, sym (one_in (number m.variable) x there))

      below : (y < length a.inputs) ⊎ (length a.inputs ≤ y) → (u : ℕ) × IsKnown a u × (x ≡ number u)
      below (inl l) = absurd (none_in x (subst (λ (o : Option Node). Contains (table_pins o) x) (input_at a y l) reads))
      below (inr low) =
          let high = (table_within (design a) y (reads_some (node_of (design a) y) x reads)).1 in
          let p : IsPlace a (y - length a.inputs) = place_of a (y - length a.inputs) (omega (arith, low, high, count_is a)) in
          at_place (y - length a.inputs) p (subst (λ (o : Option Node). Contains (table_pins o) x) (node_at a (y - length a.inputs) y p (omega (arith, low))) reads)

  -- a table that is read, and reads, is a gate's
  pub gate_at : (y x z : ℕ) → ReadsTable (design a) y x → ReadsTable (design a) x z → (k : ℕ) × (g : Gate) × IsGateAt x k g
  gate_at y x z read reads = below (cases_lt x (length a.inputs))
    where
      low_net : x < length a.inputs + (1 + length a.latches + length a.gates)
      low_net =
          let (u, known, e) = pin_known y x read in
          let (n, is, low) = known_net a once are u known in
          omega (arith, e, number_at u n is, low)

      at_place : (i : ℕ) (p : IsPlace a i) → x ≡ length a.inputs + i → Contains (table_pins (Some (node_of_element (names a) (element a i p)))) z → (k : ℕ) × (g : Gate) × IsGateAt x k g
      at_place i (AtZero zz) e there = absurd (none_in z there)
      at_place i (AtLatch j l zz at) e there = absurd (none_in z there)
      at_place i (AtGate k g zz at) e there = (k, g, record { there = at; is = omega (arith, e, zz) })
      at_place i (AtNext j l zz at) e there = absurd (omega (arith, e, zz, low_net))
      at_place i (AtOutput k m zz at) e there = absurd (omega (arith, e, zz, low_net))

      below : (x < length a.inputs) ⊎ (length a.inputs ≤ x) → (k : ℕ) × (g : Gate) × IsGateAt x k g
      below (inl l) = absurd (none_in z (subst (λ (o : Option Node). Contains (table_pins o) z) (input_at a x l) reads))
      below (inr low) =
          let p : IsPlace a (x - length a.inputs) = place_of a (x - length a.inputs) (omega (arith, low, low_net)) in
          at_place (x - length a.inputs) p (omega (arith, low)) (subst (λ (o : Option Node). Contains (table_pins o) z) (node_at a (x - length a.inputs) x p (omega (arith, low))) reads)

  variable_same : (u v x : ℕ) → IsKnown a u → IsNetOf a v x → number u ≡ x → u ≡ v
  variable_same u v x known net e =
      let (n, is, low) = known_net a once are u known in
      let same : n ≡ x = sym (number_at u n is) ∙ e in
      literal_same u v (sym is.literal ∙ (ap (slice_get _) same ∙ net.literal))

  -- where a gate's table reads another's, the gate reads that gate
  pub reads_gate : (x y k j : ℕ) (g h : Gate) → IsGateAt x k g → IsGateAt y j h → ReadsTable (design a) x y → ReadsGate a g.variable h.variable
  reads_gate x y k j g h at other reads = record {
    gate = g;
    there = (k, slice_get_within a.gates k g at.there, get_or_from_slice_get a.gates k g g at.there);
    variable = refl;
    reads = go (two_in (number g.left.variable) (number g.right.variable) y (subst (λ (ps : List ℕ). Contains ps y) (pins_are x k g at) reads));
  }
    where
      go : (number g.left.variable ≡ y) ⊎ (number g.right.variable ≡ y) → Contains (g.left.variable ∷ g.right.variable ∷ []) h.variable
      go (inl e) = (0, omega arith, variable_same g.left.variable h.variable y (left_known a all k g at.there) (own_net y j h other) e)
      go (inr e) = (1, omega arith, variable_same g.right.variable h.variable y (right_known a all k g at.there) (own_net y j h other) e)

  -- two nets of one variable are one
  pub gate_same : (x y k j : ℕ) (g h : Gate) → IsGateAt x k g → IsGateAt y j h → g.variable ≡ h.variable → x ≡ y
  gate_same x y k j g h at other e = sym (number_at g.variable x (own_net x k g at)) ∙ (ap number e ∙ number_at h.variable y (own_net y j h other))

  -- the name of a gate's net
  pub gate_name : (x k : ℕ) (g : Gate) → IsGateAt x k g → name_of (design a) x ≡ numbered 110 g.variable
  gate_name x k g at = ap (λ (ns : List (List ℕ)). get_or ns x []) (names_of_draft (plain_draft a)) ∙ get_or_from_slice_get (names a) x (numbered 110 g.variable) [] (node_name a (1 + length a.latches + k) x (AtGate k g refl at.there) at.is)
