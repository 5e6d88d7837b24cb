-- A trace of the graph agrees with the design's.
use Rattle.std.proofs.Common.{◌≡◌, ℕ, zero, suc, ◌+◌, ◌-◌, ◌<◌, Bool, true, false, List, [], ◌∷◌, ◌++◌, length, map, slice_get, slice_index, Option, Some, None, refl, sym, ◌∙◌, ap, subst, arith}
use Rattle.std.specs.Prelude.{not, if◌then◌else◌}
use Rattle.std.specs.List.{range_with_len}
use Rattle.std.specs.Option.{unwrap_or, option_map}
use Rattle.std.proofs.lemmas.List.{get_or_append_left}
use Rattle.std.proofs.lemmas.List.FromFn.{length-map-range_with_len, get_or-map-range_with_len}
use Rattle.std.proofs.lemmas.Option.{slice_get-map, slice_get-get_or, get_or_from_slice_get, slice_get_within}
use Rattle.flat_net.specs.Net.{Net, Node, Table, Register, net_count, node_of, IsTable, IsDesign}
use Rattle.flat_net.specs.Free.{FreeDesign, node_bit}
use Rattle.flat_net.proofs.Slots.{slot_at, slot_within, slot_none_below}
use Rattle.flat_net.proofs.ByPlace.{by_place}
use Rattle.flat_net.proofs.Orders.{length-order}
use Rattle.flat_net.proofs.Ranges.{table_within}
use Rattle.net_meaning.specs.Meaning.{bit, row_at, row_before, start_at, net_value, IsFreeTrace}
use Rattle.net_meaning.proofs.Lists.{map_agree}
use Rattle.aag_text.specs.declared.aig.Literal.{Literal}
use Rattle.aag_text.specs.declared.aig.Latch.{Latch}
use Rattle.aag_text.specs.declared.aig.Gate.{Gate}
use Rattle.aag_text.specs.Aig.{PlainAig, literal_value, IsMet, positive}
use Rattle.aag_text.specs.Traces.{start_value, latch_value, IsAigTrace}
use Rattle.aag_text.specs.Same.{registers, registers_from, latch_bits, AgreesAt, register_start}
use Rattle.aag_text.specs.Private.Gates.{AreMet}
use Rattle.aag_text.specs.Private.Nets.{literal_at, first_literals, input_literals, node_literals, is_register_at, IsCycle, IsMade, table_value, pin_of, latch_at, IsMadeGraph}

pub met_from : (values : ℕ → Bool) (gates : List Gate) → ((k : ℕ) (h : Gate) → slice_get gates k ≡ Some h → IsMet values h) → AreMet values gates
unfolding AreMet
met_from values [] m = tt
met_from values (g ∷ gates) m = (m 0 g refl, met_from values gates (λ k h e. m (suc k) h e))

-- a register has a place among the registers
registers_place : (s : ℕ) (nodes : List Node) (i : ℕ) (name : List ℕ) (init : Bool) (pin : ℕ) → slice_get nodes i ≡ Some (Register name init pin) → (j : ℕ) × (slice_get (registers_from s nodes) j ≡ Some (s + i))
registers_place s [] i name init pin e = absurd (cc)
registers_place s (Table n c p ∷ nodes) zero name init pin e = absurd (cc)
registers_place s (Table n c p ∷ nodes) (suc i) name init pin e =
    let (j, h) = registers_place (s + 1) nodes i name init pin e in
    (j, h ∙ ap (λ (m : ℕ). Some m) (let q : (s + 1) + i ≡ s + suc i = omega arith in q))
registers_place s (Register n c p ∷ nodes) zero name init pin e = (0, ap (λ (m : ℕ). Some m) (let q : s ≡ s + 0 = omega arith in q))
registers_place s (Register n c p ∷ nodes) (suc i) name init pin e =
    let (j, h) = registers_place (s + 1) nodes i name init pin e in
    (suc j, h ∙ ap (λ (m : ℕ). Some m) (let q : (s + 1) + i ≡ s + suc i = omega arith in q))

-- the registers are registers
pub record IsRegisterAt (s : ℕ) (nodes : List Node) (x : ℕ) : Type 0 where
  pub place : ℕ
  pub name : List ℕ
  pub init : Bool
  pub pin : ℕ
  pub is : x ≡ s + place
  pub node : slice_get nodes place ≡ Some (Register name init pin)

further : (s : ℕ) (nodes : List Node) (node : Node) (x : ℕ) → IsRegisterAt (s + 1) nodes x → IsRegisterAt s (node ∷ nodes) x
further s nodes node x r = record { place = suc r.place; name = r.name; init = r.init; pin = r.pin; is = omega (arith, r.is); node = r.node }

some_nat : (a b : ℕ) → Some a ≡ Some b → a ≡ b
some_nat a b e = cc

pub registers_are : (s : ℕ) (nodes : List Node) (j x : ℕ) → slice_get (registers_from s nodes) j ≡ Some x → IsRegisterAt s nodes x
registers_are s [] j x e = absurd (cc)
registers_are s (Table n c p ∷ nodes) j x e = further s nodes _ x (registers_are (s + 1) nodes j x e)
registers_are s (Register n c p ∷ nodes) zero x e = record { place = 0; name = n; init = c; pin = p; is = let q : s ≡ x = some_nat s x e in omega (arith, q); node = refl }
registers_are s (Register n c p ∷ nodes) (suc j) x e = further s nodes _ x (registers_are (s + 1) nodes j x e)

pub node_there : (n : Net) (x i : ℕ) (node : Node) → x ≡ length n.inputs + i → slice_get n.nodes i ≡ Some node → node_of n x ≡ Some node
node_there n x i node e at =
    let place : x - length n.inputs ≡ i = omega (arith, e) in
    slot_at (length n.inputs) n.nodes x (omega (arith, e)) ∙ (ap (slice_get n.nodes) place ∙ at)

-- the first literals are not negated
pos_nodes : (next : ℕ) (nodes : List Node) (k : ℕ) → (literal_at (node_literals next nodes) k).negated ≡ false
pos_nodes next [] k = refl
pos_nodes next (node ∷ nodes) zero = refl
pos_nodes next (node ∷ nodes) (suc k) = pos_nodes (if is_register_at (Some node) then next + 1 else next) nodes k

pos_inputs : (xs : List ℕ) (k : ℕ) → (literal_at (map (λ i. positive (i + 1)) xs) k).negated ≡ false
pos_inputs [] k = refl
pos_inputs (x ∷ xs) zero = refl
pos_inputs (x ∷ xs) (suc k) = pos_inputs xs k

pos_append : (xs ys : List Literal) → ((k : ℕ) → (literal_at xs k).negated ≡ false) → ((k : ℕ) → (literal_at ys k).negated ≡ false) → (k : ℕ) → (literal_at (xs ++ ys) k).negated ≡ false
pos_append [] ys p q k = q k
pos_append (x ∷ xs) ys p q zero = p 0
pos_append (x ∷ xs) ys p q (suc k) = pos_append xs ys (λ j. p (suc j)) q k

pub firsts_positive : (n : Net) (x : ℕ) → (literal_at (first_literals n) x).negated ≡ false
firsts_positive n x = pos_append (input_literals (length n.inputs)) (node_literals (length n.inputs + 1) n.nodes) (pos_inputs (range_with_len 0 (length n.inputs))) (pos_nodes (length n.inputs + 1) n.nodes) x

pub as_is : (values : ℕ → Bool) (m : Literal) → m.negated ≡ false → literal_value values m ≡ values m.variable
as_is values m e = ap (λ (b : Bool). if b then not (values m.variable) else values m.variable) e

pub input_first : (n : Net) (x : ℕ) → x < length n.inputs → literal_at (first_literals n) x ≡ positive (x + 1)
input_first n x l =
    let len = length-map-range_with_len (λ i. positive (i + 1)) 0 (length n.inputs) in
    get_or_append_left (input_literals (length n.inputs)) (node_literals (length n.inputs + 1) n.nodes) (positive 0) x (omega (arith, l, len))
    ∙ get_or-map-range_with_len (λ i. positive (i + 1)) 0 (length n.inputs) x x (positive 0) l (omega arith)

start_same : (f b : Bool) (o : Option Node) (name : List ℕ) (init : Bool) (pin : ℕ) → o ≡ Some (Register name init pin) → start_value (register_start f o) b ≡ unwrap_or (if f then Some b else None) init
start_same f b o name init pin e = ap (λ (p : Option Node). start_value (register_start f p) b) e ∙ go f init
  where
    go : (f init : Bool) → start_value (register_start f (Some (Register name init pin))) b ≡ unwrap_or (if f then Some b else None) init
    go true init = refl
    go false true = refl
    go false false = refl

pub map_map : {A B C : Type 0} (f : B → C) (g : A → B) (xs : List A) → map f (map g xs) ≡ map (λ x. f (g x)) xs
map_map f g [] = refl
map_map f g (x ∷ xs) = ap (λ (r : List _). f (g x) ∷ r) (map_map f g xs)

module _ (n : FreeDesign) (is_design : IsDesign n.design) (a : PlainAig) (g : IsMadeGraph n a) (w : List Bool) (ins rows : List (List Bool)) (is : IsFreeTrace n.design.net n.free w ins rows) (tr : ℕ → ℕ → Bool) (it : IsAigTrace a (latch_bits n.design.net w) ins tr) where
  -- what is known of the cycle before
  abbrev Past : ℕ → Type 0
  Past zero = Unit {0}
  Past (suc t) = (x : ℕ) → x < net_count n.design.net → literal_value (tr t) (literal_at g.literals x) ≡ bit (row_at rows t) x

  made : (x : ℕ) → IsMade n.design.net n.design.order (length n.design.net.nodes) x
  made x t =
      let (low, high) = table_within n.design.net x t in
      let (k, l, e) = (by_place n.design.net n.design.order is_design.order).complete x low high in
      (k, omega (arith, l, length-order n.design.net n.design.order is_design.order), e)

  met : (t : ℕ) → t < length ins → AreMet (tr t) g.gates.list
  met t l = subst (λ (gs : List Gate). AreMet (tr t) gs) g.list (met_from (tr t) a.gates (λ k h e. it.gates t k h l e))

  equation : (t x : ℕ) (o : Option Node) → t < length ins → x < net_count n.design.net → node_of n.design.net x ≡ o → bit (row_at rows t) x ≡ net_value o (start_at n.design.net n.free w x) t (row_at ins t) (row_before rows t) (row_at rows t) x
  equation t x o l h e = subst (λ (p : Option Node). bit (row_at rows t) x ≡ net_value p (start_at n.design.net n.free w x) t (row_at ins t) (row_before rows t) (row_at rows t) x) e (is.equations t x l h)

  input_right : (t x : ℕ) → t < length ins → x < net_count n.design.net → node_of n.design.net x ≡ None → literal_value (tr t) (literal_at (first_literals n.design.net) x) ≡ bit (row_at rows t) x
  input_right t x l h e =
      let low : x < length n.design.net.inputs = slot_none_below (length n.design.net.inputs) n.design.net.nodes x e h in
      let long : length a.inputs ≡ length n.design.net.inputs = ap length g.inputs ∙ length-map-range_with_len (λ i. i + 1) 0 (length n.design.net.inputs) in
      let own : slice_index a.inputs x ≡ x + 1 = ap (λ (xs : List ℕ). slice_index xs x) g.inputs ∙ get_or-map-range_with_len (λ i. i + 1) 0 (length n.design.net.inputs) x x 0 low (omega arith) in
      ap (literal_value (tr t)) (input_first n.design.net x low)
      ∙ (ap (tr t) (sym own) ∙ (it.inputs t x l (omega (arith, low, long)) ∙ sym (equation t x None l h e)))

  latch_there : (j x : ℕ) → slice_get (registers n.design.net) j ≡ Some x → slice_get a.latches j ≡ Some (latch_at n.design.net n.free g.literals x)
  latch_there j x e = ap (λ (ls : List Latch). slice_get ls j) g.latches ∙ (slice_get-map (latch_at n.design.net n.free g.literals) (registers n.design.net) j ∙ ap (option_map (latch_at n.design.net n.free g.literals)) e)

  bit_there : (j x : ℕ) → slice_get (registers n.design.net) j ≡ Some x → bit (latch_bits n.design.net w) j ≡ node_bit (length n.design.net.inputs) w x
  bit_there j x e = get_or_from_slice_get (latch_bits n.design.net w) j (node_bit (length n.design.net.inputs) w x) false (slice_get-map (node_bit (length n.design.net.inputs) w) (registers n.design.net) j ∙ ap (option_map (node_bit (length n.design.net.inputs) w)) e)

  no_table : (x : ℕ) (name : List ℕ) (init : Bool) (pin : ℕ) → node_of n.design.net x ≡ Some (Register name init pin) → IsTable (node_of n.design.net x) → ⊥
  no_table x name init pin e t = subst IsTable e t

  -- a latch has what its register has
  latch_right : (t j x : ℕ) (name : List ℕ) (init : Bool) (pin : ℕ) → t < length ins → x < net_count n.design.net → Past t → slice_get (registers n.design.net) j ≡ Some x → node_of n.design.net x ≡ Some (Register name init pin)
      → latch_value (latch_at n.design.net n.free g.literals x) (bit (latch_bits n.design.net w) j) tr t ≡ net_value (Some (Register name init pin)) (start_at n.design.net n.free w x) t (row_at ins t) (row_before rows t) (row_at rows t) x
  latch_right zero j x name init pin l h past at e =
      ap (start_value (register_start (node_bit (length n.design.net.inputs) n.free x) (node_of n.design.net x))) (bit_there j x at)
      ∙ start_same (node_bit (length n.design.net.inputs) n.free x) (node_bit (length n.design.net.inputs) w x) (node_of n.design.net x) name init pin e
  latch_right (suc t) j x name init pin l h past at e =
      ap (λ (o : Option Node). literal_value (tr t) (literal_at g.literals (pin_of o))) e ∙ past pin (is_design.valid.unordered.wired x (Register name init pin) e)

  register_right : (t x : ℕ) (name : List ℕ) (init : Bool) (pin : ℕ) → t < length ins → x < net_count n.design.net → Past t → node_of n.design.net x ≡ Some (Register name init pin) → literal_value (tr t) (literal_at (first_literals n.design.net) x) ≡ bit (row_at rows t) x
  register_right t x name init pin l h past e =
      let (low, high) = slot_within (length n.design.net.inputs) n.design.net.nodes x (Register name init pin) e in
      let at : slice_get n.design.net.nodes (x - length n.design.net.inputs) ≡ Some (Register name init pin) = sym (slot_at (length n.design.net.inputs) n.design.net.nodes x low) ∙ e in
      let (j, place) = registers_place (length n.design.net.inputs) n.design.net.nodes (x - length n.design.net.inputs) name init pin at in
      let here : slice_get (registers n.design.net) j ≡ Some x = place ∙ ap (λ (m : ℕ). Some m) (let q : length n.design.net.inputs + (x - length n.design.net.inputs) ≡ x = omega (arith, low) in q) in
      as_is (tr t) (literal_at (first_literals n.design.net) x) (firsts_positive n.design.net x)
      ∙ (ap (λ (m : Literal). tr t m.variable) (sym (g.has.others x (no_table x name init pin e)))
      ∙ (it.latches t j (latch_at n.design.net n.free g.literals x) l (latch_there j x here)
      ∙ (latch_right t j x name init pin l h past here e
      ∙ sym (equation t x (Some (Register name init pin)) l h e))))

  cycle : (t : ℕ) → t < length ins → Past t → IsCycle n.design.net (first_literals n.design.net) (tr t) (row_at rows t)
  cycle t l past = record {
    zero = it.zero t l;
    others = λ x h not_table. other x h not_table (node_of n.design.net x) refl;
    tables = λ x h is_table. table x h is_table (node_of n.design.net x) refl;
  }
    where
      other : (x : ℕ) → x < net_count n.design.net → (IsTable (node_of n.design.net x) → ⊥) → (o : Option Node) → node_of n.design.net x ≡ o → literal_value (tr t) (literal_at (first_literals n.design.net) x) ≡ bit (row_at rows t) x
      other x h not_table None e = input_right t x l h e
      other x h not_table (Some (Table name cover pins)) e = absurd (not_table (subst IsTable (sym e) tt))
      other x h not_table (Some (Register name init pin)) e = register_right t x name init pin l h past e

      table : (x : ℕ) → x < net_count n.design.net → IsTable (node_of n.design.net x) → (o : Option Node) → node_of n.design.net x ≡ o → bit (row_at rows t) x ≡ table_value (node_of n.design.net x) (bit (row_at rows t))
      table x h is_table None e = absurd (subst IsTable e is_table)
      table x h is_table (Some (Table name cover pins)) e = equation t x (Some (Table name cover pins)) l h e ∙ sym (ap (λ (o : Option Node). table_value o (bit (row_at rows t))) e)
      table x h is_table (Some (Register name init pin)) e = absurd (subst IsTable e is_table)

  right_at : (t : ℕ) → t < length ins → Past t → (x : ℕ) → x < net_count n.design.net → literal_value (tr t) (literal_at g.literals x) ≡ bit (row_at rows t) x
  right_at t l past x h = g.has.right (tr t) (row_at rows t) (cycle t l past) (met t l) x h (made x)

  -- the literal of each net has its value, in each cycle
  pub all_right : (t : ℕ) → t < length ins → (x : ℕ) → x < net_count n.design.net → literal_value (tr t) (literal_at g.literals x) ≡ bit (row_at rows t) x
  all_right zero l = right_at zero l tt
  all_right (suc t) l = right_at (suc t) l (all_right t (omega (arith, l)))

  register_agrees : (t k : ℕ) → t < length ins → k < length (registers n.design.net) → tr t (latch_at n.design.net n.free g.literals (slice_index (registers n.design.net) k)).variable ≡ bit (row_at rows t) (slice_index (registers n.design.net) k)
  register_agrees t k l h =
      let x : ℕ = slice_index (registers n.design.net) k in
      let r = registers_are (length n.design.net.inputs) n.design.net.nodes k x (slice_get-get_or (registers n.design.net) k 0 h) in
      let e : node_of n.design.net x ≡ Some (Register r.name r.init r.pin) = node_there n.design.net x r.place (Register r.name r.init r.pin) r.is r.node in
      let range : x < net_count n.design.net = let within = slice_get_within n.design.net.nodes r.place (Register r.name r.init r.pin) r.node in omega (arith, r.is, within) in
      let same : literal_at g.literals x ≡ literal_at (first_literals n.design.net) x = g.has.others x (no_table x r.name r.init r.pin e) in
      let plain : (literal_at g.literals x).negated ≡ false = ap (λ (m : Literal). m.negated) same ∙ firsts_positive n.design.net x in
      sym (as_is (tr t) (literal_at g.literals x) plain) ∙ all_right t l x range

  pub agrees : (t : ℕ) → t < length ins → AgreesAt n.design.net a (row_at rows t) (tr t)
  agrees t l = record {
    outputs =
        ap (map (literal_value (tr t))) g.outputs
        ∙ (map_map (literal_value (tr t)) (literal_at g.literals) n.design.net.outputs
        ∙ map_agree (λ x. literal_value (tr t) (literal_at g.literals x)) (bit (row_at rows t)) n.design.net.outputs n.design.net.outputs refl (λ k h. all_right t l (slice_index n.design.net.outputs k) (is_design.valid.unordered.outputs_in_range k 0 h)));
    latches =
        ap (map (λ (m : Latch). tr t m.variable)) g.latches
        ∙ (map_map (λ (m : Latch). tr t m.variable) (latch_at n.design.net n.free g.literals) (registers n.design.net)
        ∙ map_agree (λ x. tr t (latch_at n.design.net n.free g.literals x).variable) (bit (row_at rows t)) (registers n.design.net) (registers n.design.net) refl (λ k h. register_agrees t k l h));
  }
