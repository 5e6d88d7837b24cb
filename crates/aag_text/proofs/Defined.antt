-- The variables that the graph of a design defines, and those that it reads.
use Rattle.std.proofs.Common.{◌≡◌, ◌≢◌, ℕ, zero, suc, ◌+◌, ◌-◌, ◌<◌, ◌≤◌, ◌⊎◌, inl, inr, Bool, true, false, List, [], ◌∷◌, ◌++◌, length, map, slice_get, Some, refl, sym, ◌∙◌, ap, subst, arith, length-append}
use Rattle.std.specs.Prelude.{All, not, ◌||◌, nat_eq}
use Rattle.std.specs.List.{range_with_len, flat_map}
use Rattle.std.proofs.lemmas.Bool.{ne_eqb, eq-eqb}
use Rattle.std.proofs.lemmas.List.{length-map}
use Rattle.std.proofs.lemmas.List.Concat.{flat_map-cons}
use Rattle.limits.specs.Most.{widest_nets}
use Rattle.flat_net.specs.First.{HasNone}
use Rattle.flat_net.specs.Net.{net_count, IsValid}
use Rattle.flat_net.specs.Free.{FreeDesign}
use Rattle.hierarchy.specs.Sizes.{row_total}
use Rattle.aag_text.specs.declared.aig.Literal.{Literal}
use Rattle.aag_text.specs.declared.aig.Latch.{Latch}
use Rattle.aag_text.specs.declared.aig.Gate.{Gate}
use Rattle.aag_text.specs.Aig.{PlainAig, ReadsLesser, IsGreaterFirst}
use Rattle.aag_text.specs.Variables.{defined, is_among, read_variables, is_undefined}
use Rattle.aag_text.specs.Written.{IsWellDefined}
use Rattle.aag_text.specs.Private.Gates.{AreStacked}
use Rattle.aag_text.specs.Private.Nets.{IsMadeGraph}
use Rattle.aag_text.proofs.Exist.{latch_numbered}
use Rattle.aag_text.proofs.Spelling.{AreLatches, AreLiterals, AreGates}
use Rattle.aag_text.proofs.Within.{within, top, input_count}

-- ---- variables in order

-- s, s + 1 and so on
abbrev AreFrom : ℕ → List ℕ → Type 0
AreFrom s [] = Unit {0}
AreFrom s (x ∷ xs) = (x ≡ s) × AreFrom (suc s) xs

from_as : (s r : ℕ) (xs : List ℕ) → s ≡ r → AreFrom s xs → AreFrom r xs
from_as s r xs e are = subst (λ (k : ℕ). AreFrom k xs) e are

from_range : (s : ℕ) (xs : List ℕ) → AreFrom s xs → xs ≡ range_with_len s (length xs)
from_range s [] are = refl
from_range s (x ∷ xs) are =
    let next : suc s ≡ s + 1 = omega arith in
    ap (λ (y : ℕ). y ∷ xs) are.0 ∙ ap (λ (r : List ℕ). s ∷ r) (from_range (suc s) xs are.1 ∙ ap (λ (k : ℕ). range_with_len k (length xs)) next)

from_join : (s : ℕ) (xs ys : List ℕ) → AreFrom s xs → AreFrom (s + length xs) ys → AreFrom s (xs ++ ys)
from_join s [] ys one two = from_as (s + 0) s ys (omega arith) two
from_join s (x ∷ xs) ys one two = (one.0, from_join (suc s) xs ys one.1 (from_as (s + suc (length xs)) (suc s + length xs) ys (omega arith) two))

input_variables : (k n : ℕ) → AreFrom (k + 1) (map (λ i. i + 1) (range_with_len k n))
input_variables k zero = tt
input_variables k (suc n) = (refl, from_as ((k + 1) + 1) (suc (k + 1)) (map (λ i. i + 1) (range_with_len (k + 1) n)) (omega arith) (input_variables (k + 1) n))

latch_variables : (s : ℕ) (ls : List Latch) → ((j : ℕ) (l : Latch) → slice_get ls j ≡ Some l → l.variable ≡ s + j) → AreFrom s (map (λ (l : Latch). l.variable) ls)
latch_variables s [] each = tt
latch_variables s (l ∷ ls) each =
    let here = each 0 l refl in
    (omega (arith, here), latch_variables (suc s) ls (λ j k at. let own = each (suc j) k at in omega (arith, own)))

gate_variables : (next : ℕ) (gates : List Gate) → AreStacked next gates → AreFrom next (map (λ (g : Gate). g.variable) gates)
unfolding AreStacked
gate_variables next [] s = tt
gate_variables next (g ∷ gates) s = (s.0, gate_variables (suc next) gates s.4)

-- ---- each once

or_none : (a b : Bool) → a ≡ false → b ≡ false → (a || b) ≡ false
or_none a b e f = cc

or_left : (a b : Bool) → a ≡ true → (a || b) ≡ true
or_left a b e = cc

or_right : (a b : Bool) → b ≡ true → (a || b) ≡ true
or_right true b e = refl
or_right false b e = e

not_before : (s : ℕ) (before : List ℕ) (x : ℕ) (after : List ℕ) → AreFrom s (before ++ x ∷ after) → (s ≤ x) × (is_among before x ≡ false)
not_before s [] x after are = (omega (arith, are.0), refl)
not_before s (b ∷ before) x after are =
    let (le, none) = not_before (suc s) before x after are.1 in
    let apart : x ≢ b = λ e. absurd (omega (arith, e, le, are.0)) in
    (omega (arith, le), or_none (nat_eq x b) (is_among before x) (ne_eqb x b apart) none)

once_from : (s : ℕ) (xs : List ℕ) → AreFrom s xs → HasNone is_among xs
once_from s xs are = record { none = λ before x after split. (not_before s before x after (subst (AreFrom s) split are)).1 }

-- ---- all known

first_or_later : (s v : ℕ) → s ≤ v → (v ≡ s) ⊎ (suc s ≤ v)
first_or_later s v le = grind arith

is_there : (s : ℕ) (xs : List ℕ) (v : ℕ) → AreFrom s xs → s ≤ v → v < s + length xs → is_among xs v ≡ true
is_there s [] v are le lt = absurd (omega (arith, le, lt))
is_there s (x ∷ xs) v are le lt = go (first_or_later s v le) (λ more. is_there (suc s) xs v are.1 more (omega (arith, lt)))
  where
    go : (v ≡ s) ⊎ (suc s ≤ v) → (suc s ≤ v → is_among xs v ≡ true) → is_among (x ∷ xs) v ≡ true
    go (inl e) later = or_left (nat_eq v x) (is_among xs v) (eq-eqb v x (e ∙ sym are.0))
    go (inr more) later = or_right (nat_eq v x) (is_among xs v) (later more)

abbrev AreLow : ℕ → List ℕ → Type 0
AreLow m [] = Unit {0}
AreLow m (v ∷ vs) = (v ≤ m) × AreLow m vs

low_join : (m : ℕ) (xs ys : List ℕ) → AreLow m xs → AreLow m ys → AreLow m (xs ++ ys)
low_join m [] ys one two = two
low_join m (x ∷ xs) ys one two = (one.0, low_join m xs ys one.1 two)

low_at : (m : ℕ) (before : List ℕ) (x : ℕ) (after : List ℕ) → AreLow m (before ++ x ∷ after) → x ≤ m
low_at m [] x after low = low.0
low_at m (b ∷ before) x after low = low_at m before x after low.1

nexts_low : (m : ℕ) (ls : List Latch) → AreLatches m ls → AreLow m (map (λ (l : Latch). l.next.variable) ls)
nexts_low m [] are = tt
nexts_low m (l ∷ ls) are = (are.2, nexts_low m ls are.3)

literals_low : (m : ℕ) (ls : List Literal) → AreLiterals m ls → AreLow m (map (λ (l : Literal). l.variable) ls)
literals_low m [] are = tt
literals_low m (l ∷ ls) are = (are.0, literals_low m ls are.1)

gates_low : (m : ℕ) (gs : List Gate) → AreGates m gs → AreLow m (flat_map (λ (g : Gate). g.left.variable ∷ g.right.variable ∷ []) gs)
gates_low m [] are = tt
gates_low m (g ∷ gs) are =
    subst (AreLow m) (sym (flat_map-cons (λ (h : Gate). h.left.variable ∷ h.right.variable ∷ []) g gs)) (are.2, (are.3, gates_low m gs are.4))

known_from : (a : PlainAig) (m v : ℕ) (before : List ℕ) → AreFrom 1 (defined a) → length (defined a) ≡ m → v ≤ m → is_undefined a before v ≡ false
known_from a m zero before are long le = refl
known_from a m (suc v) before are long le = ap not (or_right (nat_eq (suc v) 0) (is_among (defined a) (suc v)) (is_there 1 (defined a) (suc v) are (omega arith) (omega (arith, le, long))))

-- ---- lesser variables, and the greater literal first

lesser_all : (next : ℕ) (gates : List Gate) → AreStacked next gates → All ReadsLesser gates
unfolding AreStacked
lesser_all next [] s k d lt = absurd (omega (arith, lt))
lesser_all next (g ∷ gates) s zero d lt = (omega (arith, s.0, s.1), omega (arith, s.0, s.2))
lesser_all next (g ∷ gates) s (suc k) d lt = lesser_all (suc next) gates s.4 k d (omega (arith, lt))

greater_all : (next : ℕ) (gates : List Gate) → AreStacked next gates → All IsGreaterFirst gates
unfolding AreStacked
greater_all next [] s k d lt = absurd (omega (arith, lt))
greater_all next (g ∷ gates) s zero d lt = s.3
greater_all next (g ∷ gates) s (suc k) d lt = greater_all (suc next) gates s.4 k d (omega (arith, lt))

module _ (n : FreeDesign) (a : PlainAig) (v : IsValid n.design.net) (g : IsMadeGraph n a) (few : net_count n.design.net ≤ widest_nets) (small : row_total n.design.net ≤ widest_nets) where
  abbrev m : ℕ
  m = length a.inputs + length a.latches + length a.gates

  stacked : AreStacked g.gates.first a.gates
  stacked = subst (AreStacked g.gates.first) (sym g.list) g.stacked

  inputs_from : AreFrom 1 a.inputs
  inputs_from = subst (AreFrom 1) (sym g.inputs) (input_variables 0 (length n.design.net.inputs))

  latches_from : AreFrom (1 + length a.inputs) (map (λ (l : Latch). l.variable) a.latches)
  latches_from =
      let inputs = input_count n a v g few small in
      latch_variables (1 + length a.inputs) a.latches (λ j l at. let own = (latch_numbered n a g [] [] j l at).variable in omega (arith, own, inputs))

  gates_from : AreFrom ((1 + length a.inputs) + length (map (λ (l : Latch). l.variable) a.latches)) (map (λ (h : Gate). h.variable) a.gates)
  gates_from =
      let first = top n a v g few small in
      let gates = ap length g.list in
      let long = length-map a.latches (λ (l : Latch). l.variable) in
      from_as g.gates.first ((1 + length a.inputs) + length (map (λ (l : Latch). l.variable) a.latches)) (map (λ (h : Gate). h.variable) a.gates) (omega (arith, first, gates, long)) (gate_variables g.gates.first a.gates stacked)

  all_from : AreFrom 1 (defined a)
  all_from =
      from_join 1 a.inputs (map (λ (l : Latch). l.variable) a.latches ++ map (λ (h : Gate). h.variable) a.gates) inputs_from
      (from_join (1 + length a.inputs) (map (λ (l : Latch). l.variable) a.latches) (map (λ (h : Gate). h.variable) a.gates) latches_from gates_from)

  long : length (defined a) ≡ m
  long =
      let latches = length-map a.latches (λ (l : Latch). l.variable) in
      let gates = length-map a.gates (λ (h : Gate). h.variable) in
      omega (arith, latches, gates, length-append a.inputs (map (λ (l : Latch). l.variable) a.latches ++ map (λ (h : Gate). h.variable) a.gates), length-append (map (λ (l : Latch). l.variable) a.latches) (map (λ (h : Gate). h.variable) a.gates))

  reads_low : AreLow m (read_variables a)
  reads_low =
      let is = within n a v g few small in
      low_join m (map (λ (l : Latch). l.next.variable) a.latches) _ (nexts_low m a.latches is.latches)
      (low_join m (map (λ (l : Literal). l.variable) a.outputs) _ (literals_low m a.outputs is.outputs) (gates_low m a.gates is.gates))

  pub well_defined : IsWellDefined a
  well_defined = record {
    numbered = from_range 1 (defined a) all_from ∙ ap (range_with_len 1) long;
    once = once_from 1 (defined a) all_from;
    known = record { none = λ before x after split. known_from a m x before all_from long (low_at m before x after (subst (AreLow m) split reads_low)) };
    lesser = lesser_all g.gates.first a.gates stacked;
  }

  pub greater_first : All IsGreaterFirst a.gates
  greater_first = greater_all g.gates.first a.gates stacked
