-- The graph of a design has few variables, and its names can be spelled.
use Rattle.std.proofs.Common.{◌≡◌, ℕ, zero, suc, ◌+◌, ◌<◌, ◌≤◌, ◌⊎◌, inl, inr, Bool, true, false, cond, List, [], ◌∷◌, ◌++◌, length, map, get_or, slice_get, Some, refl, sym, ◌∙◌, ap, subst, arith}
use Rattle.std.specs.Prelude.{count_by, ◌&&◌, not, nat_lt, ◌==◌}
use Rattle.std.specs.List.{list_all, join_with_byte}
use Rattle.std.proofs.lemmas.Bool.{ltb-true}
use Rattle.std.proofs.lemmas.List.{length-map}
use Rattle.std.proofs.lemmas.List.Sums.{sum_by-cons}
use Rattle.std.proofs.lemmas.List.FromFn.{length-map-range_with_len, get_or-map-range_with_len}
use Rattle.std.proofs.lemmas.Option.{slice_get-get_or, slice_get_within}
use Rattle.limits.specs.Most.{widest_nets}
use Rattle.tmr_base.specs.Names.{is_name, is_name_byte}
use Rattle.flat_net.specs.Net.{Net, Node, Table, Register, net_count, name_of, is_register, IsValid}
use Rattle.flat_net.specs.Free.{FreeDesign}
use Rattle.blif_writer.proofs.NodeLines.{input_name}
use Rattle.hierarchy.specs.Sizes.{row_total}
use Rattle.aag_text.specs.declared.aig.Literal.{Literal}
use Rattle.aag_text.specs.declared.aig.Latch.{Latch}
use Rattle.aag_text.specs.declared.aig.Gate.{Gate}
use Rattle.aag_text.specs.Aig.{PlainAig, positive}
use Rattle.aag_text.specs.Same.{registers, registers_from}
use Rattle.aag_text.specs.Text.{header, symbol_lines, design_symbols, aag_text}
use Rattle.aag_text.specs.Lines.{AreSymbols, IsFile}
use Rattle.aag_text.specs.Private.Gates.{next_of, AreStacked, AreBelow}
use Rattle.aag_text.specs.Private.Nets.{literal_at, latch_at, IsMadeGraph}
use Rattle.aag_text.proofs.Agree.{registers_are}
use Rattle.aag_text.proofs.Exist.{latch_numbered}
use Rattle.aag_text.proofs.Spelling.{IsWord, AreWords, AreLines, AreVariables, AreLatches, AreLiterals, AreGates, IsWithin, lines_join, map_both, symbols_plain, symbols_are, symbols_both, file_spelled}

-- ---- names

both : (a b : Bool) → (a && b) ≡ true → (a ≡ true) × (b ≡ true)
both true b e = (refl, e)
both false b e = absurd (cc)

name_byte : (b : ℕ) → is_name_byte b ≡ true → 32 < b
name_byte b e = ltb-true 32 b (both (nat_lt 32 b) (not (b == 127)) (both (nat_lt 32 b && not (b == 127)) (not (b == 35)) e).0).0

name_bytes : (w : List ℕ) → list_all is_name_byte w ≡ true → IsWord w
name_bytes [] e k d lt = absurd (omega (arith, lt))
name_bytes (b ∷ bs) e zero d lt = name_byte b (both (is_name_byte b) (list_all is_name_byte bs) e).0
name_bytes (b ∷ bs) e (suc k) d lt = name_bytes bs (both (is_name_byte b) (list_all is_name_byte bs) e).1 k d (omega (arith, lt))

name_word : (w : List ℕ) → is_name w ≡ true → IsWord w
name_word w e = name_bytes w (both _ (list_all is_name_byte w) e).1

words_from : (ws : List (List ℕ)) → ((k : ℕ) → k < length ws → is_name (get_or ws k []) ≡ true) → AreWords ws
words_from [] each = tt
words_from (w ∷ ws) each = (name_word w (each 0 (omega arith)), words_from ws (λ k lt. each (suc k) (omega (arith, lt))))

names_words : (n : Net) → IsValid n → (xs : List ℕ) → ((k : ℕ) → k < length xs → get_or xs k 0 < net_count n) → AreWords (map (name_of n) xs)
names_words n v [] below = tt
names_words n v (x ∷ xs) below = (name_word (name_of n x) (v.unordered.names_are_names x (below 0 (omega arith))), names_words n v xs (λ k lt. below (suc k) (omega (arith, lt))))

inputs_words : (n : Net) → IsValid n → AreWords n.inputs
inputs_words n v = words_from n.inputs (λ k lt. subst (λ (w : List ℕ). is_name w ≡ true) (input_name n k lt) (v.unordered.names_are_names k (omega (arith, lt))))

-- ---- variables

count_registers : (x : ℕ) (nodes : List Node) → length (registers_from x nodes) ≡ count_by is_register nodes
count_registers x [] = refl
count_registers x (Table name cover pins ∷ nodes) =
    let rest = count_registers (x + 1) nodes in
    let c = sum_by-cons (λ node. cond (is_register node) 1 0) (Table name cover pins) nodes in
    omega (arith, rest, c)
count_registers x (Register name init pin ∷ nodes) =
    let rest = count_registers (x + 1) nodes in
    let c = sum_by-cons (λ node. cond (is_register node) 1 0) (Register name init pin) nodes in
    omega (arith, rest, c)

-- registers are nodes
few_from : (x : ℕ) (nodes : List Node) → length (registers_from x nodes) ≤ length nodes
few_from x [] = omega arith
few_from x (Table name cover pins ∷ nodes) = let rest = few_from (x + 1) nodes in omega (arith, rest)
few_from x (Register name init pin ∷ nodes) = let rest = few_from (x + 1) nodes in omega (arith, rest)

below_or_not : (a b : ℕ) → (a < b) ⊎ (b ≤ a)
below_or_not a b = grind arith

past : (xs : List Literal) (k : ℕ) (d : Literal) → length xs ≤ k → get_or xs k d ≡ d
past [] k d l = refl
past (x ∷ xs) zero d l = absurd (omega (arith, l))
past (x ∷ xs) (suc k) d l = past xs k d (omega (arith, l))

-- the literal of each number, a net's or not
each_below : (literals : List Literal) (next x : ℕ) → 0 < next → AreBelow next literals → (literal_at literals x).variable < next
each_below literals next x some below = go (below_or_not x (length literals))
  where
    go : (x < length literals) ⊎ (length literals ≤ x) → (literal_at literals x).variable < next
    go (inl lt) = below x (positive 0) lt
    go (inr ge) = let none = ap (λ (l : Literal). l.variable) (past literals x (positive 0) ge) in omega (arith, none, some)

variables_from : (m : ℕ) (vs : List ℕ) → ((k : ℕ) → k < length vs → (0 < get_or vs k 0) × (get_or vs k 0 ≤ m)) → AreVariables m vs
variables_from m [] each = tt
variables_from m (v ∷ vs) each = let here = each 0 (omega arith) in (here.0, here.1, variables_from m vs (λ k lt. each (suc k) (omega (arith, lt))))

abbrev AreNexts : ℕ → List Latch → Type 0
AreNexts m [] = Unit {0}
AreNexts m (l ∷ ls) = (l.next.variable ≤ m) × AreNexts m ls

latches_from : (m : ℕ) (ls : List Latch) → ((j : ℕ) (l : Latch) → slice_get ls j ≡ Some l → (0 < l.variable) × (l.variable ≤ m)) → AreNexts m ls → AreLatches m ls
latches_from m [] each nexts = tt
latches_from m (l ∷ ls) each nexts = let here = each 0 l refl in (here.0, here.1, nexts.0, latches_from m ls (λ j k at. each (suc j) k at) nexts.1)

gates_from : (m next : ℕ) (gates : List Gate) → 0 < next → next + length gates ≤ m + 1 → AreStacked next gates → AreGates m gates
unfolding AreStacked
gates_from m next [] some within stacked = tt
gates_from m next (g ∷ gates) some within stacked =
    (omega (arith, some, stacked.0), omega (arith, within, stacked.0), omega (arith, within, stacked.1), omega (arith, within, stacked.2), gates_from m (suc next) gates (omega (arith, some)) (omega (arith, within)) stacked.4)

module _ (n : FreeDesign) (a : PlainAig) (v : IsValid n.design.net) (g : IsMadeGraph n a) (few : net_count n.design.net ≤ widest_nets) (small : row_total n.design.net ≤ widest_nets) where
  abbrev m : ℕ
  m = length a.inputs + length a.latches + length a.gates

  pub input_count : length a.inputs ≡ length n.design.net.inputs
  input_count = ap length g.inputs ∙ length-map-range_with_len (λ i. i + 1) 0 (length n.design.net.inputs)

  latch_count : length a.latches ≡ length (registers n.design.net)
  latch_count = ap length g.latches ∙ length-map (registers n.design.net) (latch_at n.design.net n.free g.literals)

  output_count : length a.outputs ≡ length n.design.net.outputs
  output_count = ap length g.outputs ∙ length-map n.design.net.outputs (literal_at g.literals)

  pub top : next_of g.gates ≡ m + 1
  top =
      let gates = ap length g.list in
      let latches = count_registers (length n.design.net.inputs) n.design.net.nodes in
      omega (arith, gates, latches, input_count, latch_count, g.has.first)

  registers_within : (j : ℕ) → j < length (registers n.design.net) → get_or (registers n.design.net) j 0 < net_count n.design.net
  registers_within j lt =
      let r = registers_are (length n.design.net.inputs) n.design.net.nodes j (get_or (registers n.design.net) j 0) (slice_get-get_or (registers n.design.net) j 0 lt) in
      let within = slice_get_within n.design.net.nodes r.place (Register r.name r.init r.pin) r.node in
      omega (arith, r.is, within)

  registers_few : length (registers n.design.net) ≤ length n.design.net.nodes
  registers_few = few_from (length n.design.net.inputs) n.design.net.nodes

  literal_low : (x : ℕ) → (literal_at g.literals x).variable ≤ m
  literal_low x = let low = each_below g.literals (next_of g.gates) x (omega (arith, top)) g.has.below in omega (arith, low, top)

  input_at : (k : ℕ) → k < length a.inputs → (0 < get_or a.inputs k 0) × (get_or a.inputs k 0 ≤ m)
  input_at k lt =
      let own : get_or a.inputs k 0 ≡ k + 1 = ap (λ (xs : List ℕ). get_or xs k 0) g.inputs ∙ get_or-map-range_with_len (λ i. i + 1) 0 (length n.design.net.inputs) k k 0 (omega (arith, lt, input_count)) (omega arith) in
      (omega (arith, own), omega (arith, own, lt))

  latch_variables : (j : ℕ) (l : Latch) → slice_get a.latches j ≡ Some l → (0 < l.variable) × (l.variable ≤ m)
  latch_variables j l at =
      let numbered = latch_numbered n a g [] [] j l at in
      (omega (arith, numbered.variable), omega (arith, numbered.below, top))

  nexts : (xs : List ℕ) → AreNexts m (map (latch_at n.design.net n.free g.literals) xs)
  nexts [] = tt
  nexts (x ∷ xs) = (literal_low _, nexts xs)

  literals : (xs : List ℕ) → AreLiterals m (map (literal_at g.literals) xs)
  literals [] = tt
  literals (x ∷ xs) = (literal_low x, literals xs)

  pub within : IsWithin m a
  within =
      let gates = ap length g.list in
      record {
        fits = omega (arith, input_count, latch_count, registers_few, gates, g.has.few, few, small);
        inputs = variables_from m a.inputs input_at;
        latches = latches_from m a.latches latch_variables (subst (AreNexts m) (sym g.latches) (nexts (registers n.design.net)));
        outputs = subst (AreLiterals m) (sym g.outputs) (literals n.design.net.outputs);
        gates = subst (AreGates m) (sym g.list) (gates_from m g.gates.first g.gates.list (omega (arith, g.has.first)) (omega (arith, top)) g.stacked);
        input_count = omega (arith, input_count, few);
        latch_count = omega (arith, latch_count, registers_few, few);
        output_count = omega (arith, output_count, v.unordered.few_outputs);
        gate_count = omega (arith, gates, g.has.few, small);
      }

  names_in : AreWords n.design.net.inputs
  names_in = inputs_words n.design.net v

  names_of_registers : AreWords (map (name_of n.design.net) (registers n.design.net))
  names_of_registers = names_words n.design.net v (registers n.design.net) registers_within

  names_out : AreWords (map (name_of n.design.net) n.design.net.outputs)
  names_out = names_words n.design.net v n.design.net.outputs (λ k lt. v.unordered.outputs_in_range k 0 lt)

  long_registers : length (map (name_of n.design.net) (registers n.design.net)) ≡ length (registers n.design.net)
  long_registers = length-map (registers n.design.net) (name_of n.design.net)

  long_outputs : length (map (name_of n.design.net) n.design.net.outputs) ≡ length n.design.net.outputs
  long_outputs = length-map n.design.net.outputs (name_of n.design.net)

  symbols_plainly : AreLines (design_symbols n.design.net)
  symbols_plainly =
      lines_join (symbol_lines 105 0 n.design.net.inputs) _ (symbols_plain 105 0 n.design.net.inputs (omega arith) (omega (arith, few)) names_in)
      (lines_join (symbol_lines 108 0 (map (name_of n.design.net) (registers n.design.net))) (symbol_lines 111 0 (map (name_of n.design.net) n.design.net.outputs))
      (symbols_plain 108 0 (map (name_of n.design.net) (registers n.design.net)) (omega arith) (omega (arith, few, registers_few, long_registers)) names_of_registers)
      (symbols_plain 111 0 (map (name_of n.design.net) n.design.net.outputs) (omega arith) (omega (arith, v.unordered.few_outputs, long_outputs)) names_out))

  all_symbols : AreSymbols (header m a) (map (join_with_byte 32) (design_symbols n.design.net))
  all_symbols =
      let i : List (List (List ℕ)) = symbol_lines 105 0 n.design.net.inputs in
      let l : List (List (List ℕ)) = symbol_lines 108 0 (map (name_of n.design.net) (registers n.design.net)) in
      let o : List (List (List ℕ)) = symbol_lines 111 0 (map (name_of n.design.net) n.design.net.outputs) in
      let f : List (List ℕ) → List ℕ = join_with_byte 32 in
      let split : map f (i ++ (l ++ o)) ≡ map f i ++ (map f l ++ map f o) = map_both f i (l ++ o) ∙ ap (λ (r : List (List ℕ)). map f i ++ r) (map_both f l o) in
      subst (AreSymbols (header m a)) (sym split)
      (symbols_both (header m a) (map f i) (map f l ++ map f o) (symbols_are (header m a) 105 0 n.design.net.inputs (omega arith) (omega (arith, input_count)) (omega (arith, few)) names_in)
      (symbols_both (header m a) (map f l) (map f o)
      (symbols_are (header m a) 108 0 (map (name_of n.design.net) (registers n.design.net)) (omega arith) (omega (arith, latch_count, long_registers)) (omega (arith, few, registers_few, long_registers)) names_of_registers)
      (symbols_are (header m a) 111 0 (map (name_of n.design.net) n.design.net.outputs) (omega arith) (omega (arith, output_count, long_outputs)) (omega (arith, v.unordered.few_outputs, long_outputs)) names_out)))

  -- the text of the graph, with the names of the design, is a file of it
  pub file_of : IsFile (aag_text m a n.design.net) a
  file_of = file_spelled m a (design_symbols n.design.net) within symbols_plainly all_symbols
