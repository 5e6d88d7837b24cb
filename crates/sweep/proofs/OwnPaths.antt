-- Paths where no pin is voted are those of the design itself.
use Rattle.std.proofs.Common.{◌≡◌, ℕ, ◌+◌, ◌-◌, ◌<◌, ◌≤◌, ◌⊎◌, inl, inr, false, List, [], ◌∷◌, length, get_or, Option, Some, None, refl, sym, ap, ◌∙◌, subst, arith}
use Rattle.std.specs.Prelude.{slice_index, Contains}
use Rattle.std.proofs.lemmas.List.{get_or_default}
use Rattle.flat_net.specs.Net.{Net, Node, Table, Register, node_of, pins_at, table_pins, IsTable, IsRegister}
use Rattle.flat_net.proofs.Slots.{slot_within}
use Rattle.feedback_cut.specs.Inner.{node_pins}
use Rattle.partitioner.specs.Below.{one_if}
use Rattle.sweep.specs.Levels.{register_pins, Path, begins as path_begins, goes_on as path_goes_on, IsEnd, HasPath, AreLevels}
use Rattle.sweep.specs.Private.Reaching.{VotedPath, begins, goes_on, VotedEnd, at_output, at_register, AreVotedLevels}

-- a net that a table reads
pub record ReadsAt (n : Net) (y x : ℕ) : Type 0 where
  pub low : length n.inputs ≤ y
  pub table : IsTable (node_of n y)
  pub pin : ℕ
  pub below : pin < length (pins_at (node_of n y))
  pub is : slice_index (pins_at (node_of n y)) pin ≡ x

pub table_reads : (n : Net) (y x : ℕ) → Contains (table_pins (node_of n y)) x → ReadsAt n y x
table_reads n y x there = go (node_of n y) refl there
  where
    go : (o : Option Node) → node_of n y ≡ o → Contains (table_pins o) x → ReadsAt n y x
    go None e (j, l, is) = absurd (omega arith)
    go (Some (Register name init pin)) e (j, l, is) = absurd (omega arith)
    go (Some (Table name cover pins)) e (j, l, is) = record {
      low = (slot_within (length n.inputs) n.nodes y (Table name cover pins) e).0;
      table = subst (λ (o : Option Node). IsTable o) (sym e) tt;
      pin = j;
      below = omega (arith, l, ap (λ (o : Option Node). length (pins_at o)) e);
      is = ap (λ (o : Option Node). slice_index (pins_at o) j) e ∙ (get_or_default pins j 0 x l ∙ is);
    }

-- the same the other way
pub reads_table : (n : Net) (y j : ℕ) → IsTable (node_of n y) → j < length (pins_at (node_of n y)) → Contains (table_pins (node_of n y)) (slice_index (pins_at (node_of n y)) j)
reads_table n y j table h = go (node_of n y) table h
  where
    go : (o : Option Node) → IsTable o → j < length (pins_at o) → Contains (table_pins o) (slice_index (pins_at o) j)
    go None t h = absurd t
    go (Some (Register name init pin)) t h = absurd t
    go (Some (Table name cover pins)) t h = (j, h, get_or_default pins j (slice_index pins j) 0 h)

-- a net that a register reads
pub record KeepsAt (n : Net) (y x : ℕ) : Type 0 where
  pub low : length n.inputs ≤ y
  pub register : IsRegister (node_of n y)
  pub is : slice_index (pins_at (node_of n y)) 0 ≡ x

pub register_reads : (n : Net) (y x : ℕ) → Contains (register_pins (node_of n y)) x → KeepsAt n y x
register_reads n y x there = go (node_of n y) refl there
  where
    go : (o : Option Node) → node_of n y ≡ o → Contains (register_pins o) x → KeepsAt n y x
    go None e (j, l, is) = absurd (omega arith)
    go (Some (Table name cover pins)) e (j, l, is) = absurd (omega arith)
    go (Some (Register name init pin)) e (j, l, is) = record {
      low = (slot_within (length n.inputs) n.nodes y (Register name init pin) e).0;
      register = subst (λ (o : Option Node). IsRegister o) (sym e) tt;
      is = ap (λ (o : Option Node). slice_index (pins_at o) 0) e ∙ (let first : 0 ≡ j = omega (arith, l) in ap (λ (i : ℕ). get_or (pin ∷ []) i x) first ∙ is);
    }

pub reads_register : (n : Net) (y : ℕ) → IsRegister (node_of n y) → Contains (register_pins (node_of n y)) (slice_index (pins_at (node_of n y)) 0)
reads_register n y register = go (node_of n y) register
  where
    go : (o : Option Node) → IsRegister o → Contains (register_pins o) (slice_index (pins_at o) 0)
    go None r = absurd r
    go (Some (Table name cover pins)) r = absurd r
    go (Some (Register name init pin)) r = (0, omega arith, refl)

-- output k
pub output_at : (n : Net) (k : ℕ) → k < length n.outputs → Contains n.outputs (slice_index n.outputs k)
output_at n k l = (k, l, get_or_default n.outputs k (slice_index n.outputs k) 0 l)

module _ (n : Net) where
  one_more : (x y tables : ℕ) → ReadsAt n y x → VotedPath n (λ y j. false) x tables → VotedPath n (λ y j. false) y (tables + 1)
  one_more x y tables r path =
      let back : length n.inputs + (y - length n.inputs) ≡ y = omega (arith, r.low) in
      let count : tables + one_if false + 1 ≡ tables + 1 = omega arith in
      let here : node_pins n (y - length n.inputs) ≡ pins_at (node_of n y) = ap (λ (z : ℕ). pins_at (node_of n z)) back in
      let read : x ≡ slice_index (node_pins n (y - length n.inputs)) r.pin = sym (ap (λ (ps : List ℕ). slice_index ps r.pin) here ∙ r.is) in
      let step : VotedPath n (λ y j. false) (length n.inputs + (y - length n.inputs)) (tables + one_if false + 1) =
      goes_on (y - length n.inputs) r.pin tables (subst (λ (z : ℕ). IsTable (node_of n z)) (sym back) r.table) (omega (arith, r.below, ap length here)) (subst (λ (z : ℕ). VotedPath n (λ y j. false) z tables) read path) in
      subst (λ (z : ℕ). VotedPath n (λ y j. false) z (tables + 1)) back (subst (λ (t : ℕ). VotedPath n (λ y j. false) (length n.inputs + (y - length n.inputs)) t) count step)

  from_path : (x tables : ℕ) → Path n x tables → VotedPath n (λ y j. false) x tables
  from_path _ _ (path_begins x start) = begins x start
  from_path _ _ (path_goes_on x y tables path there) = one_more x y tables (table_reads n y x there) (from_path x tables path)

  to_path : (x tables : ℕ) → VotedPath n (λ y j. false) x tables → Path n x tables
  to_path _ _ (begins x start) = path_begins x start
  to_path _ _ (goes_on y j tables table h path) =
      let count : tables + 1 ≡ tables + one_if false + 1 = omega arith in
      subst (λ (t : ℕ). Path n (length n.inputs + y) t) count
      (path_goes_on (slice_index (node_pins n y) j) (length n.inputs + y) tables (to_path (slice_index (node_pins n y) j) tables path) (reads_table n (length n.inputs + y) j table h))

  from_end : (tables : ℕ) → HasPath n tables → VotedEnd n (λ y j. false) tables
  from_end tables has = go has.is_end (from_path has.end tables has.path)
    where
      go : IsEnd n has.end → VotedPath n (λ y j. false) has.end tables → VotedEnd n (λ y j. false) tables
      go (inl (k, l, e)) path =
          let out : has.end ≡ slice_index n.outputs k = sym (get_or_default n.outputs k 0 has.end l ∙ e) in
          at_output k tables l (subst (λ (x : ℕ). VotedPath n (λ y j. false) x tables) out path)
      go (inr (y, there)) path =
          let r = register_reads n y has.end there in
          let back : length n.inputs + (y - length n.inputs) ≡ y = omega (arith, r.low) in
          let here : node_pins n (y - length n.inputs) ≡ pins_at (node_of n y) = ap (λ (z : ℕ). pins_at (node_of n z)) back in
          let read : has.end ≡ slice_index (node_pins n (y - length n.inputs)) 0 = sym (ap (λ (ps : List ℕ). slice_index ps 0) here ∙ r.is) in
          let count : tables + one_if false ≡ tables = omega arith in
          subst (λ (t : ℕ). VotedEnd n (λ y j. false) t) count
          (at_register (y - length n.inputs) tables (subst (λ (z : ℕ). IsRegister (node_of n z)) (sym back) r.register) (subst (λ (x : ℕ). VotedPath n (λ y j. false) x tables) read path))

  to_end : (tables : ℕ) → VotedEnd n (λ y j. false) tables → HasPath n tables
  to_end _ (at_output k tables l path) = record { end = slice_index n.outputs k; path = to_path (slice_index n.outputs k) tables path; is_end = inl (output_at n k l) }
  to_end _ (at_register y tables register path) =
      let count : tables ≡ tables + one_if false = omega arith in
      subst (λ (t : ℕ). HasPath n t) count (record { end = slice_index (node_pins n y) 0; path = to_path (slice_index (node_pins n y) 0) tables path; is_end = inr (length n.inputs + y, reads_register n (length n.inputs + y) register) })

  pub own_levels : (levels : ℕ) → AreVotedLevels n (λ y j. false) levels → AreLevels n levels
  own_levels levels is = record { most = λ tables has. is.most tables (from_end tables has); some = go is.some }
    where
      go : (levels ≡ 0) ⊎ VotedEnd n (λ y j. false) levels → (levels ≡ 0) ⊎ HasPath n levels
      go (inl none) = inl none
      go (inr end) = inr (to_end levels end)
