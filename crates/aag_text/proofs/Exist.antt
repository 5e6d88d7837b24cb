-- The graph of a design has a trace for all inputs and start values.
use Rattle.std.proofs.Common.{◌≡◌, ◌≢◌, ℕ, zero, suc, ◌+◌, ◌-◌, ◌<◌, ◌≤◌, Bool, false, List, [], ◌∷◌, length, map, slice_get, slice_index, Option, Some, None, refl, sym, ◌∙◌, ap, subst, arith}
use Rattle.std.specs.Prelude.{not, ◌&&◌, nat_eq, nat_lt, if◌then◌else◌}
use Rattle.std.specs.Option.{option_map}
use Rattle.std.proofs.lemmas.Bool.Decides.{nat_tests}
use Rattle.std.proofs.lemmas.List.{get_or-append-add}
use Rattle.std.proofs.lemmas.List.FromFn.{length-map-range_with_len, get_or-map-range_with_len}
use Rattle.std.proofs.lemmas.Option.{slice_get-map, slice_get_within, slice_get-get_or}
use Rattle.flat_net.specs.Net.{Node, Table, Register, net_count, node_of, IsTable}
use Rattle.flat_net.specs.Free.{FreeDesign}
use Rattle.net_meaning.specs.Meaning.{bit, value_at}
use Rattle.aag_text.specs.declared.aig.Literal.{Literal}
use Rattle.aag_text.specs.declared.aig.Latch.{Latch}
use Rattle.aag_text.specs.declared.aig.Gate.{Gate}
use Rattle.aag_text.specs.Aig.{PlainAig, literal_value, IsMet, positive}
use Rattle.aag_text.specs.Traces.{start_value, latch_value, IsAigTrace}
use Rattle.aag_text.specs.Same.{registers, registers_from, latch_bits}
use Rattle.aag_text.specs.Private.Gates.{AreMet, AreStacked}
use Rattle.aag_text.specs.Private.Nets.{literal_at, first_literals, input_literals, node_literals, latch_at, IsMadeGraph}
use Rattle.aag_text.proofs.Firsts.{firsts_below}
use Rattle.aag_text.proofs.Agree.{registers_are, node_there}

abbrev put : (ℕ → Bool) → ℕ → Bool → ℕ → Bool
put f v b u = if nat_eq u v then b else f u

-- the values of the gates, one after the other
abbrev extend : (ℕ → Bool) → List Gate → ℕ → Bool
extend f [] = f
extend f (g ∷ gates) = extend (put f g.variable (literal_value f g.left && literal_value f g.right)) gates

put_other : (f : ℕ → Bool) (v u : ℕ) (b : Bool) → u ≢ v → put f v b u ≡ f u
put_other f v u b ne = grind (arith, nat_tests)

put_own : (f : ℕ → Bool) (v u : ℕ) (b : Bool) → u ≡ v → put f v b u ≡ b
put_own f v u b e = grind (arith, nat_tests)

extend_below : (f : ℕ → Bool) (next : ℕ) (gates : List Gate) (u : ℕ) → AreStacked next gates → u < next → extend f gates u ≡ f u
unfolding AreStacked
extend_below f next [] u s l = refl
extend_below f next (g ∷ gates) u s l =
    let own : g.variable ≡ next = s.0 in
    let other : u ≢ g.variable = λ e. absurd (omega (arith, e, l, own)) in
    extend_below (put f g.variable (literal_value f g.left && literal_value f g.right)) (suc next) gates u s.4 (omega (arith, l)) ∙ put_other f g.variable u _ other

same_literal : (f h : ℕ → Bool) (m : Literal) → f m.variable ≡ h m.variable → literal_value f m ≡ literal_value h m
same_literal f h m e = ap (λ (b : Bool). if m.negated then not b else b) e

extend_met : (f : ℕ → Bool) (next : ℕ) (gates : List Gate) → AreStacked next gates → AreMet (extend f gates) gates
unfolding AreStacked AreMet
extend_met f next [] s = tt
extend_met f next (g ∷ gates) s =
    let b : Bool = literal_value f g.left && literal_value f g.right in
    let more : ℕ → Bool = put f g.variable b in
    let all : ℕ → Bool = extend more gates in
    let own : g.variable ≡ next = s.0 in
    let value : all g.variable ≡ b = extend_below more (suc next) gates g.variable s.4 (omega (arith, own)) ∙ put_own f g.variable g.variable b refl in
    let left : all g.left.variable ≡ f g.left.variable = extend_below more (suc next) gates g.left.variable s.4 (omega (arith, s.1)) ∙ put_other f g.variable g.left.variable b (λ e. absurd (omega (arith, e, s.1, own))) in
    let right : all g.right.variable ≡ f g.right.variable = extend_below more (suc next) gates g.right.variable s.4 (omega (arith, s.2)) ∙ put_other f g.variable g.right.variable b (λ e. absurd (omega (arith, e, s.2, own))) in
    (value ∙ (ap (λ (c : Bool). c && literal_value f g.right) (sym (same_literal all f g.left left)) ∙ ap (λ (c : Bool). literal_value all g.left && c) (sym (same_literal all f g.right right))), extend_met more (suc next) gates s.4)

some_gate : (x y : Gate) → Some x ≡ Some y → x ≡ y
some_gate x y e = cc

met_at : (values : ℕ → Bool) (gates : List Gate) (k : ℕ) (g : Gate) → AreMet values gates → slice_get gates k ≡ Some g → IsMet values g
unfolding AreMet
met_at values [] k g m e = absurd (cc)
met_at values (h ∷ gates) zero g m e = subst (λ (x : Gate). IsMet values x) (some_gate h g e) m.0
met_at values (h ∷ gates) (suc k) g m e = met_at values gates k g m.1 e

abbrev latch_own : (ℕ → Latch → Bool) → ℕ → Option Latch → Bool
latch_own own j None = false
latch_own own j (Some l) = own j l

-- variable 0, the inputs and then the latches
abbrev base : ℕ → List Latch → List (List Bool) → ℕ → (ℕ → Latch → Bool) → ℕ → Bool
base inputs latches ins t own v = if nat_lt v 1 then false else if nat_lt v (inputs + 1) then value_at ins t (v - 1) else latch_own own (v - (inputs + 1)) (slice_get latches (v - (inputs + 1)))

chosen_left : (a b : ℕ) (x y : Bool) → a < b → (if nat_lt a b then x else y) ≡ x
chosen_left a b x y l = grind (arith, nat_tests)

chosen_right : (a b : ℕ) (x y : Bool) → b ≤ a → (if nat_lt a b then x else y) ≡ y
chosen_right a b x y l = grind (arith, nat_tests)

base_input : (inputs : ℕ) (latches : List Latch) (ins : List (List Bool)) (t : ℕ) (own : ℕ → Latch → Bool) (i v : ℕ) → i < inputs → v ≡ i + 1 → base inputs latches ins t own v ≡ value_at ins t i
base_input inputs latches ins t own i v l e =
    let place : v - 1 ≡ i = omega (arith, e) in
    chosen_right v 1 _ _ (omega (arith, e)) ∙ (chosen_left v (inputs + 1) _ _ (omega (arith, e, l)) ∙ ap (value_at ins t) place)

base_latch : (inputs : ℕ) (latches : List Latch) (ins : List (List Bool)) (t : ℕ) (own : ℕ → Latch → Bool) (j v : ℕ) (l : Latch) → slice_get latches j ≡ Some l → v ≡ inputs + 1 + j → base inputs latches ins t own v ≡ own j l
base_latch inputs latches ins t own j v l at e =
    let place : v - (inputs + 1) ≡ j = omega (arith, e) in
    chosen_right v 1 _ _ (omega (arith, e)) ∙ (chosen_right v (inputs + 1) _ _ (omega (arith, e)) ∙ (ap (λ (k : ℕ). latch_own own k (slice_get latches k)) place ∙ ap (latch_own own j) at))

some_nat : (a b : ℕ) → Some a ≡ Some b → a ≡ b
some_nat a b e = cc

-- the first literal of register j
number_at : (next s : ℕ) (nodes : List Node) (j x i : ℕ) → slice_get (registers_from s nodes) j ≡ Some x → x ≡ s + i → (literal_at (node_literals next nodes) i).variable ≡ next + j
number_at next s [] j x i at e = absurd (cc)
number_at next s (Table n c p ∷ nodes) j x zero at e =
    let r = registers_are (s + 1) nodes j x at in
    absurd (omega (arith, e, r.is))
number_at next s (Table n c p ∷ nodes) j x (suc i) at e = number_at next (s + 1) nodes j x i at (omega (arith, e))
number_at next s (Register n c p ∷ nodes) zero x zero at e = let q : next ≡ next + 0 = omega arith in q
number_at next s (Register n c p ∷ nodes) zero x (suc i) at e = let q : s ≡ x = some_nat s x at in absurd (omega (arith, e, q))
number_at next s (Register n c p ∷ nodes) (suc j) x zero at e =
    let r = registers_are (s + 1) nodes j x at in
    absurd (omega (arith, e, r.is))
number_at next s (Register n c p ∷ nodes) (suc j) x (suc i) at e =
    let h = number_at (next + 1) (s + 1) nodes j x i at (omega (arith, e)) in
    h ∙ (let q : (next + 1) + j ≡ next + suc j = omega arith in q)

some_latch : (x y : Latch) → Some x ≡ Some y → x ≡ y
some_latch x y e = cc

length_map : {A B : Type 0} (f : A → B) (xs : List A) → length (map f xs) ≡ length xs
length_map f [] = refl
length_map f (x ∷ xs) = ap suc (length_map f xs)

-- a latch has its place's number, and the gates come behind it
pub record Numbered (count first j : ℕ) (l : Latch) : Type 0 where
  pub variable : l.variable ≡ count + 1 + j
  pub below : l.variable < first

module _ (n : FreeDesign) (a : PlainAig) (g : IsMadeGraph n a) (w : List Bool) (ins : List (List Bool)) where
  abbrev pub count : ℕ
  count = length n.design.net.inputs

  -- the values of all variables, cycle by cycle
  abbrev pub values : ℕ → ℕ → Bool
  values zero = extend (base count a.latches ins zero (λ j l. start_value l.start (bit (latch_bits n.design.net w) j))) g.gates.list
  values (suc t) = extend (base count a.latches ins (suc t) (λ j l. literal_value (values t) l.next)) g.gates.list

  abbrev own_at : ℕ → ℕ → Latch → Bool
  own_at zero j l = start_value l.start (bit (latch_bits n.design.net w) j)
  own_at (suc t) j l = literal_value (values t) l.next

  below_first : (t v : ℕ) → v < g.gates.first → values t v ≡ base count a.latches ins t (own_at t) v
  below_first zero v l = extend_below _ g.gates.first g.gates.list v g.stacked l
  below_first (suc t) v l = extend_below _ g.gates.first g.gates.list v g.stacked l

  all_met : (t : ℕ) → AreMet (values t) g.gates.list
  all_met zero = extend_met _ g.gates.first g.gates.list g.stacked
  all_met (suc t) = extend_met _ g.gates.first g.gates.list g.stacked

  pub latch_numbered : (j : ℕ) (l : Latch) → slice_get a.latches j ≡ Some l → Numbered count g.gates.first j l
  latch_numbered j l at =
      let mapped : slice_get (map (latch_at n.design.net n.free g.literals) (registers n.design.net)) j ≡ Some l = ap (λ (ls : List Latch). slice_get ls j) (sym g.latches) ∙ at in
      let within : j < length (map (latch_at n.design.net n.free g.literals) (registers n.design.net)) = slice_get_within (map (latch_at n.design.net n.free g.literals) (registers n.design.net)) j l mapped in
      let long : length (map (latch_at n.design.net n.free g.literals) (registers n.design.net)) ≡ length (registers n.design.net) = length_map (latch_at n.design.net n.free g.literals) (registers n.design.net) in
      let x : ℕ = slice_index (registers n.design.net) j in
      let here : slice_get (registers n.design.net) j ≡ Some x = slice_get-get_or (registers n.design.net) j 0 (omega (arith, within, long)) in
      let is : l ≡ latch_at n.design.net n.free g.literals x = some_latch l (latch_at n.design.net n.free g.literals x) (sym mapped ∙ (slice_get-map (latch_at n.design.net n.free g.literals) (registers n.design.net) j ∙ ap (option_map (latch_at n.design.net n.free g.literals)) here)) in
      let r = registers_are count n.design.net.nodes j x here in
      let node : node_of n.design.net x ≡ Some (Register r.name r.init r.pin) = node_there n.design.net x r.place (Register r.name r.init r.pin) r.is r.node in
      let same : literal_at g.literals x ≡ literal_at (first_literals n.design.net) x = g.has.others x (λ t. subst IsTable node t) in
      let inputs : length (input_literals count) ≡ count = length-map-range_with_len (λ i. positive (i + 1)) 0 count in
      let place : x ≡ length (input_literals count) + r.place = omega (arith, r.is, inputs) in
      let split : literal_at (first_literals n.design.net) x ≡ literal_at (node_literals (count + 1) n.design.net.nodes) r.place = ap (literal_at (first_literals n.design.net)) place ∙ get_or-append-add (input_literals count) (node_literals (count + 1) n.design.net.nodes) r.place (positive 0) in
      let whole : l.variable ≡ (literal_at (first_literals n.design.net) x).variable = ap (λ (m : Latch). m.variable) is ∙ ap (λ (m : Literal). m.variable) same in
      let range : x < net_count n.design.net = let b = slice_get_within n.design.net.nodes r.place (Register r.name r.init r.pin) r.node in omega (arith, r.is, b) in
      let top : (literal_at (first_literals n.design.net) x).variable < g.gates.first = firsts_below n.design.net g.gates.first x (positive 0) g.has.first range in
      record {
        variable = whole ∙ (ap (λ (m : Literal). m.variable) split ∙ number_at (count + 1) count n.design.net.nodes j x r.place here r.is);
        below = omega (arith, whole, top);
      }

  latch_is : (t j : ℕ) (l : Latch) → own_at t j l ≡ latch_value l (bit (latch_bits n.design.net w) j) values t
  latch_is zero j l = refl
  latch_is (suc t) j l = refl

  input_is : (t i : ℕ) → i < length a.inputs → values t (slice_index a.inputs i) ≡ value_at ins t i
  input_is t i h =
      let long : length a.inputs ≡ count = ap length g.inputs ∙ length-map-range_with_len (λ k. k + 1) 0 count in
      let l : i < count = omega (arith, h, long) in
      let own : slice_index a.inputs i ≡ i + 1 = ap (λ (xs : List ℕ). slice_index xs i) g.inputs ∙ get_or-map-range_with_len (λ k. k + 1) 0 count i i 0 l (omega arith) in
      below_first t (slice_index a.inputs i) (omega (arith, own, l, g.has.first)) ∙ base_input count a.latches ins t (own_at t) i (slice_index a.inputs i) l own

  pub values_are_trace : IsAigTrace a (latch_bits n.design.net w) ins values
  values_are_trace = record {
    zero = λ t l. below_first t 0 (omega (arith, g.has.first));
    inputs = λ t i l h. input_is t i h;
    latches = λ t j l lt at. below_first t l.variable (latch_numbered j l at).below ∙ (base_latch count a.latches ins t (own_at t) j l.variable l at (latch_numbered j l at).variable ∙ latch_is t j l);
    gates = λ t k h lt at. met_at (values t) g.gates.list k h (all_met t) (ap (λ (gs : List Gate). slice_get gs k) (sym g.list) ∙ at);
  }
