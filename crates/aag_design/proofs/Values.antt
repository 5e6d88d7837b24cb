-- The values of a design's nets and those of its graph's literals.
use Rattle.std.proofs.Common.{◌≡◌, ℕ, zero, suc, ◌+◌, ◌-◌, Bool, true, false, List, [], ◌∷◌, ◌++◌, length, map, get_or, slice_get, Option, Some, None, refl, sym, ap, ◌∙◌, arith}
use Rattle.std.specs.Prelude.{not, ◌&&◌, if◌then◌else◌}
use Rattle.std.specs.Option.{unwrap_or}
use Rattle.std.proofs.lemmas.Option.{get_or_from_slice_get}
use Rattle.flat_net.proofs.Slots.{slot_at}
use Rattle.table_cover.specs.Cover.{cover_value}
use Rattle.flat_net.specs.Net.{Net, node_of}
use Rattle.flat_net.specs.Free.{node_bit}
use Rattle.flat_net.specs.Draft.{Element}
use Rattle.flat_net.specs.Faults.{number_in, node_of_element, net_inputs, draft_names, net_of_draft}
use Rattle.net_meaning.specs.Meaning.{bit, start_at}
use Rattle.aag_text.specs.declared.aig.Literal.{Literal}
use Rattle.aag_text.specs.declared.aig.Latch.{Latch}
use Rattle.aag_text.specs.declared.aig.Gate.{Gate}
use Rattle.aag_text.specs.declared.aig.Start.{Start}
use Rattle.aag_text.specs.declared.aig.Start.TheVariants.{Zero, One, Free}
use Rattle.aag_text.specs.Aig.{PlainAig, literal_value}
use Rattle.aag_text.specs.Traces.{start_value}
use Rattle.aag_text.specs.Same.{registers, registers_from, latch_bits}
use Rattle.aag_design.specs.Draft.{map_from, literals_cover, latch_element, gate_element, literal_element, net_name, starts_with_1, starts_free}
use Rattle.aag_design.specs.Private.Drafting.{plain_draft, plain_marks}
use Rattle.aag_design.proofs.Places.{map_get, IsPlace, AtLatch, entry, each_get}
use Rattle.aag_design.proofs.Nets.{input_count, element}
use Rattle.aag_design.proofs.Known.{IsKnown}

-- ---- tables of one row

pub one_value : (l : Literal) (b : Bool) → cover_value (literals_cover (l ∷ [])) (b ∷ []) ≡ (if l.negated then not b else b)
unfolding cover_value
one_value l b = go l.negated b
  where
    go : (n b : Bool) → cover_value (record { width = 1; is_on = true; rows = ((if n then 48 else 49) ∷ []) ∷ [] }) (b ∷ []) ≡ (if n then not b else b)
    go true true = refl
    go true false = refl
    go false true = refl
    go false false = refl

pub two_values : (l m : Literal) (b c : Bool) → cover_value (literals_cover (l ∷ m ∷ [])) (b ∷ c ∷ []) ≡ ((if l.negated then not b else b) && (if m.negated then not c else c))
unfolding cover_value
two_values l m b c = go l.negated m.negated b c
  where
    go : (n k b c : Bool) → cover_value (record { width = 2; is_on = true; rows = ((if n then 48 else 49) ∷ (if k then 48 else 49) ∷ []) ∷ [] }) (b ∷ c ∷ []) ≡ ((if n then not b else b) && (if k then not c else c))
    go true true true true = refl
    go true true true false = refl
    go true true false true = refl
    go true true false false = refl
    go true false true true = refl
    go true false true false = refl
    go true false false true = refl
    go true false false false = refl
    go false true true true = refl
    go false true true false = refl
    go false true false true = refl
    go false true false false = refl
    go false false true true = refl
    go false false true false = refl
    go false false false true = refl
    go false false false false = refl

pub no_value : cover_value (record { width = 0; is_on = true; rows = [] }) [] ≡ false
unfolding cover_value
no_value = refl

-- ---- nodes in one cycle

module _ (a : PlainAig) where
  abbrev pub names : List (List ℕ)
  names = draft_names (plain_draft a)

  -- the bit of the net of a variable
  abbrev pub pin_bit : List Bool → ℕ → Bool
  pin_bit v u = bit v (number_in names (net_name a u))

  -- in this row the net of each variable that is read has its value
  abbrev pub PinsAgree : List Bool → (ℕ → Bool) → Type 0
  PinsAgree v values = (u : ℕ) → IsKnown a u → pin_bit v u ≡ values u

  pub literal_agrees : (v : List Bool) (values : ℕ → Bool) → PinsAgree v values → (l : Literal) → IsKnown a l.variable → cover_value (literals_cover (l ∷ [])) (pin_bit v l.variable ∷ []) ≡ literal_value values l
  literal_agrees v values agree l known = one_value l (pin_bit v l.variable) ∙ ap (λ (b : Bool). if l.negated then not b else b) (agree l.variable known)

  pub gate_agrees : (v : List Bool) (values : ℕ → Bool) → PinsAgree v values → (g : Gate) → IsKnown a g.left.variable → IsKnown a g.right.variable
      → cover_value (literals_cover (g.left ∷ g.right ∷ [])) (pin_bit v g.left.variable ∷ pin_bit v g.right.variable ∷ []) ≡ (literal_value values g.left && literal_value values g.right)
  gate_agrees v values agree g left right =
      two_values g.left g.right (pin_bit v g.left.variable) (pin_bit v g.right.variable)
      ∙ (ap (λ (b : Bool). (if g.left.negated then not b else b) && (if g.right.negated then not (pin_bit v g.right.variable) else pin_bit v g.right.variable)) (agree g.left.variable left)
      ∙ ap (λ (b : Bool). literal_value values g.left && (if g.right.negated then not b else b)) (agree g.right.variable right))

-- ---- latches at the start

pub starts : (s : Start) (b : Bool) → start_value s b ≡ unwrap_or (if starts_free s then Some b else None) (starts_with_1 s)
starts Zero b = refl
starts One b = refl
starts Free b = refl

latch_registers : (keys : List (List ℕ)) (s k : ℕ) (ls : List Latch) (rest : List Element) (j : ℕ) (l : Latch) → slice_get ls j ≡ Some l → slice_get (registers_from s (map (node_of_element keys) (map_from latch_element k ls ++ rest))) j ≡ Some (s + j)
latch_registers keys s k [] rest j l e = absurd (cc)
latch_registers keys s k (x ∷ ls) rest zero l e = ap (λ (m : ℕ). Some m) (let q : s ≡ s + 0 = omega arith in q)
latch_registers keys s k (x ∷ ls) rest (suc j) l e = latch_registers keys (s + 1) (k + 1) ls rest j l e ∙ ap (λ (m : ℕ). Some m) (let q : (s + 1) + j ≡ s + suc j = omega arith in q)

module _ (a : PlainAig) where
  abbrev pub design : Net
  design = net_of_draft (plain_draft a)

  pub register_get : (j x : ℕ) (l : Latch) → x ≡ length a.inputs + (1 + j) → slice_get a.latches j ≡ Some l → slice_get (registers design) j ≡ Some x
  register_get j x l e at =
      latch_registers (names a) (length (net_inputs (plain_draft a)) + 1) 0 a.latches (map (gate_element a) a.gates ++ (map_from (literal_element a 100) 0 (map (λ (m : Latch). m.next) a.latches) ++ map_from (literal_element a 111) 0 a.outputs)) j l at
      ∙ ap (λ (m : ℕ). Some m) (let q : (length (net_inputs (plain_draft a)) + 1) + j ≡ x = omega (arith, e, input_count a) in q)

  -- the graph's start value of a latch is the design's of its register
  pub latch_bit : (w : List Bool) (j x : ℕ) (l : Latch) → x ≡ length a.inputs + (1 + j) → slice_get a.latches j ≡ Some l → bit (latch_bits design w) j ≡ node_bit (length design.inputs) w x
  latch_bit w j x l e at = get_or_from_slice_get (latch_bits design w) j (node_bit (length design.inputs) w x) false (map_get (node_bit (length design.inputs) w) (registers design) j x (register_get j x l e at))

  pub mark_at : (i x : ℕ) (p : IsPlace a i) → x ≡ length a.inputs + i → node_bit (length design.inputs) (plain_marks a) x ≡ entry a false (λ j l. starts_free l.start) (λ g. false) (λ j l. false) (λ k l. false) i p
  mark_at i x p e =
      let place : x - length (net_inputs (plain_draft a)) ≡ i = omega (arith, e, input_count a) in
      ap (λ (o : Option Bool). unwrap_or o false)
      (slot_at (length (net_inputs (plain_draft a))) (plain_marks a) x (omega (arith, e, input_count a))
      ∙ (ap (slice_get (plain_marks a)) place ∙ each_get a false (λ j l. starts_free l.start) (λ g. false) (λ j l. false) (λ k l. false) i p))

  pub start_same : (w : List Bool) (j x : ℕ) (l : Latch) → x ≡ length a.inputs + (1 + j) → slice_get a.latches j ≡ Some l
      → start_value l.start (bit (latch_bits design w) j) ≡ unwrap_or (start_at design (plain_marks a) w x) (starts_with_1 l.start)
  start_same w j x l e at =
      ap (start_value l.start) (latch_bit w j x l e at)
      ∙ (starts l.start (node_bit (length design.inputs) w x)
      ∙ ap (λ (b : Bool). unwrap_or (if b then Some (node_bit (length design.inputs) w x) else None) (starts_with_1 l.start)) (sym (mark_at (1 + j) x (AtLatch j l refl at) e)))
