-- The net of each variable.
use Rattle.std.proofs.Common.{◌≡◌, ℕ, zero, suc, ◌+◌, ◌-◌, ◌<◌, ◌≤◌, ◌⊎◌, inl, inr, true, false, List, [], ◌∷◌, ◌++◌, length, map, take, drop, get_or, slice_get, Option, Some, None, refl, sym, ap, ◌∙◌, subst, arith, ltb}
use Rattle.std.specs.Prelude.{nat_eq, not, ◌||◌, position, Contains, codes}
use Rattle.std.specs.Option.{unwrap_or}
use Rattle.std.specs.List.{list_any, flat_map, position_or_len}
use Rattle.std.proofs.lemmas.Bool.{cases_lt, cases_order, eqb-true, eq-eqb, ne_eqb, lt-ltb, le-ltb, cond-true, false≢true, not-false}
use Rattle.std.proofs.lemmas.List.{length-map, length-append, get_or-take, length-take-le}
use Rattle.std.proofs.lemmas.List.Folds.{list_any-from_Any, list_any_none}
use Rattle.std.proofs.lemmas.List.Sums.{fails_before_first}
use Rattle.std.proofs.lemmas.List.Quantifiers.{position-Some}
use Rattle.std.proofs.lemmas.List.Elements.{Contains-append_left, Contains-append_right}
use Rattle.std.proofs.lemmas.List.Concat.{flat_map-cons}
use Rattle.std.proofs.lemmas.Option.{slice_get_within, get_or_from_slice_get, slice_get-get_or}
use Rattle.flat_net.specs.First.{HasNone}
use Rattle.flat_net.specs.Faults.{draft_names}
use Rattle.flat_net.proofs.Firsts.{none_at}
use Rattle.flat_net.proofs.Going.{taken_split}
use Rattle.flat_net.proofs.Slots.{slice_get_there}
use Rattle.aag_text.specs.declared.aig.Literal.{Literal}
use Rattle.aag_text.specs.declared.aig.Latch.{Latch}
use Rattle.aag_text.specs.declared.aig.Gate.{Gate}
use Rattle.aag_text.specs.Aig.{PlainAig, positive}
use Rattle.aag_text.specs.Variables.{defined, is_among, read_variables, IsDefinedOnce, IsDefined}
use Rattle.aag_design.specs.Draft.{numbered, placed_name, net_name}
use Rattle.aag_design.specs.Private.Drafting.{plain_draft}
use Rattle.aag_design.specs.Same.{net_literals}
use Rattle.aag_design.proofs.Places.{some_is, get_left, get_right, map_get, AtZero, AtLatch, AtGate}
use Rattle.aag_design.proofs.Nets.{input_name, node_name, input_literal, literal_get}

-- ---- numbers in lists

pub number_there : (xs : List ℕ) (i u : ℕ) → slice_get xs i ≡ Some u → is_among xs u ≡ true
number_there xs i u e = list_any-from_Any (nat_eq u) xs (i, u, slice_get_within xs i u e, get_or_from_slice_get xs i u u e, eq-eqb u u refl)

-- a number of a list has a first place
pub place_among : (xs : List ℕ) (u : ℕ) → is_among xs u ≡ true → (p : ℕ) × (position (nat_eq u) xs ≡ Some p) × (slice_get xs p ≡ Some u)
place_among xs u e = go (cases_lt (position_or_len (nat_eq u) xs) (length xs))
  where
    go : (position_or_len (nat_eq u) xs < length xs) ⊎ (length xs ≤ position_or_len (nat_eq u) xs) → (p : ℕ) × (position (nat_eq u) xs ≡ Some p) × (slice_get xs p ≡ Some u)
    go (inl l) =
        let p : position (nat_eq u) xs ≡ Some (position_or_len (nat_eq u) xs) = cond-true (ltb (position_or_len (nat_eq u) xs) (length xs)) (Some (position_or_len (nat_eq u) xs)) None (lt-ltb _ _ l) in
        let f = position-Some (nat_eq u) xs (position_or_len (nat_eq u) xs) 0 p in
        let same : u ≡ get_or xs (position_or_len (nat_eq u) xs) 0 = eqb-true u (get_or xs (position_or_len (nat_eq u) xs) 0) f.1 in
        (position_or_len (nat_eq u) xs, p, slice_get-get_or xs (position_or_len (nat_eq u) xs) 0 f.0 ∙ ap (λ (m : ℕ). Some m) (sym same))
    go (inr l) = absurd (false≢true (sym (list_any_none (nat_eq u) xs (λ k d h. fails_before_first (nat_eq u) xs k d (omega arith))) ∙ e))

-- no number stands twice
pub no_twice : (xs : List ℕ) (j k u : ℕ) → HasNone is_among xs → j < k → slice_get xs j ≡ Some u → slice_get xs k ≡ Some u → ⊥
no_twice xs j k u none l e f =
    let within = slice_get_within xs k u f in
    let at : get_or xs k u ≡ u = get_or_from_slice_get xs k u u f in
    let fresh = none.none (take k xs) u (drop (k + 1) xs) (taken_split xs k u within (sym at)) in
    let long : length (take k xs) ≡ k = length-take-le k xs (omega (arith, within)) in
    let again : is_among (take k xs) u ≡ true = list_any-from_Any (nat_eq u) (take k xs) (j, u, omega (arith, l, long), get_or-take k xs j u l ∙ get_or_from_slice_get xs j u u e, eq-eqb u u refl) in
    false≢true (sym fresh ∙ again)

pub only_place : (xs : List ℕ) (p u : ℕ) → HasNone is_among xs → slice_get xs p ≡ Some u → position (nat_eq u) xs ≡ Some p
only_place xs p u none e =
    let (q, at, f) = place_among xs u (number_there xs p u e) in
    go q at f (cases_order p q)
  where
    go : (q : ℕ) → position (nat_eq u) xs ≡ Some q → slice_get xs q ≡ Some u → (p ≡ q) ⊎ ((p < q) ⊎ (q < p)) → position (nat_eq u) xs ≡ Some p
    go q at f (inl same) = at ∙ ap (λ (m : ℕ). Some m) (sym same)
    go q at f (inr (inl l)) = absurd (no_twice xs p q u none l e f)
    go q at f (inr (inr l)) = absurd (no_twice xs q p u none l f e)

-- ---- definitions

-- what defines variable u in place p
pub data IsDefinition (a : PlainAig) (p u : ℕ) : Type 0 where
  ByInput : slice_get a.inputs p ≡ Some u → IsDefinition a p u
  ByLatch : (j : ℕ) (l : Latch) → p ≡ length a.inputs + j → slice_get a.latches j ≡ Some l → l.variable ≡ u → IsDefinition a p u
  ByGate : (k : ℕ) (g : Gate) → p ≡ length a.inputs + length a.latches + k → slice_get a.gates k ≡ Some g → g.variable ≡ u → IsDefinition a p u

module _ (a : PlainAig) where
  latches_long : length (map (λ (l : Latch). l.variable) a.latches) ≡ length a.latches
  latches_long = length-map a.latches (λ (l : Latch). l.variable)

  pub defined_input : (p u : ℕ) → slice_get a.inputs p ≡ Some u → slice_get (defined a) p ≡ Some u
  defined_input p u e = get_left a.inputs (map (λ (l : Latch). l.variable) a.latches ++ map (λ (g : Gate). g.variable) a.gates) p u e

  pub defined_latch : (p j : ℕ) (l : Latch) → p ≡ length a.inputs + j → slice_get a.latches j ≡ Some l → slice_get (defined a) p ≡ Some l.variable
  defined_latch p j l e at =
      get_right a.inputs (map (λ (l : Latch). l.variable) a.latches ++ map (λ (g : Gate). g.variable) a.gates) j p e
      ∙ get_left (map (λ (l : Latch). l.variable) a.latches) (map (λ (g : Gate). g.variable) a.gates) j l.variable (map_get (λ (l : Latch). l.variable) a.latches j l at)

  pub defined_gate : (p k : ℕ) (g : Gate) → p ≡ length a.inputs + length a.latches + k → slice_get a.gates k ≡ Some g → slice_get (defined a) p ≡ Some g.variable
  defined_gate p k g e at =
      get_right a.inputs (map (λ (l : Latch). l.variable) a.latches ++ map (λ (g : Gate). g.variable) a.gates) (length a.latches + k) p (omega (arith, e))
      ∙ (get_right (map (λ (l : Latch). l.variable) a.latches) (map (λ (g : Gate). g.variable) a.gates) k (length a.latches + k) (omega (arith, latches_long))
      ∙ map_get (λ (g : Gate). g.variable) a.gates k g at)

  defined_long : length (defined a) ≡ length a.inputs + length a.latches + length a.gates
  defined_long =
      length-append a.inputs (map (λ (l : Latch). l.variable) a.latches ++ map (λ (g : Gate). g.variable) a.gates)
      ∙ omega (arith, length-append (map (λ (l : Latch). l.variable) a.latches) (map (λ (g : Gate). g.variable) a.gates), latches_long, length-map a.gates (λ (g : Gate). g.variable))

  pub definition_of : (p u : ℕ) → slice_get (defined a) p ≡ Some u → IsDefinition a p u
  definition_of p u e = first (cases_lt p (length a.inputs))
    where
      second : length a.inputs ≤ p → (p < length a.inputs + length a.latches) ⊎ (length a.inputs + length a.latches ≤ p) → IsDefinition a p u
      second low (inl h) =
          let (l, at) = slice_get_there a.latches (p - length a.inputs) (omega (arith, low, h)) in
          let place : p ≡ length a.inputs + (p - length a.inputs) = omega (arith, low) in
          ByLatch (p - length a.inputs) l place at (some_is l.variable u (sym (defined_latch p (p - length a.inputs) l place at) ∙ e))
      second low (inr h) =
          let within = slice_get_within (defined a) p u e in
          let (g, at) = slice_get_there a.gates (p - (length a.inputs + length a.latches)) (omega (arith, h, within, defined_long)) in
          let place : p ≡ length a.inputs + length a.latches + (p - (length a.inputs + length a.latches)) = omega (arith, h) in
          ByGate (p - (length a.inputs + length a.latches)) g place at (some_is g.variable u (sym (defined_gate p (p - (length a.inputs + length a.latches)) g place at) ∙ e))

      first : (p < length a.inputs) ⊎ (length a.inputs ≤ p) → IsDefinition a p u
      first (inl l) =
          let (v, at) = slice_get_there a.inputs p l in
          ByInput (at ∙ (sym (defined_input p v at) ∙ e))
      first (inr low) = second low (cases_lt p (length a.inputs + length a.latches))

-- ---- the net of a variable

-- no variable that is defined is 0
abbrev pub AreVariables : PlainAig → Type 0
AreVariables a = (p u : ℕ) → slice_get (defined a) p ≡ Some u → 0 < u

-- the variable is 0 or defined
abbrev pub IsKnown : PlainAig → ℕ → Type 0
IsKnown a u = (nat_eq u 0 || is_among (defined a) u) ≡ true

-- net x has the name of variable u, and its literal
pub record IsNetOf (a : PlainAig) (u x : ℕ) : Type 0 where
  pub name : slice_get (draft_names (plain_draft a)) x ≡ Some (net_name a u)
  pub literal : slice_get (net_literals a) x ≡ Some (positive u)

zero_name : (a : PlainAig) → net_name a 0 ≡ codes "f"
unfolding net_name
zero_name a = refl

module _ (a : PlainAig) (once : IsDefinedOnce a) where
  named : (p u : ℕ) → 0 < u → slice_get (defined a) p ≡ Some u → net_name a u ≡ placed_name a u p
  unfolding net_name
  named p u some e =
      let no : nat_eq u 0 ≡ false = ne_eqb u 0 (λ z. omega (arith, z, some)) in
      rw no (ap (λ (o : Option ℕ). placed_name a u (unwrap_or o 0)) (only_place (defined a) p u once e))

  pub zero_net : IsNetOf a 0 (length a.inputs)
  zero_net = record {
    name = node_name a 0 (length a.inputs) (AtZero refl) (omega arith) ∙ ap (λ (n : List ℕ). Some n) (sym (zero_name a));
    literal = literal_get a 0 (length a.inputs) (AtZero refl) (omega arith);
  }

  pub input_net : (i u : ℕ) → 0 < u → slice_get a.inputs i ≡ Some u → IsNetOf a u i
  input_net i u some e =
      let l = slice_get_within a.inputs i u e in
      let place : placed_name a u i ≡ numbered 105 i = rw (lt-ltb i (length a.inputs) l) refl in
      record {
        name = input_name a i u e ∙ ap (λ (n : List ℕ). Some n) (sym (named i u some (defined_input a i u e) ∙ place));
        literal = input_literal a i u e;
      }

  pub latch_net : (j x : ℕ) (l : Latch) → x ≡ length a.inputs + (1 + j) → 0 < l.variable → slice_get a.latches j ≡ Some l → IsNetOf a l.variable x
  latch_net j x l e some at =
      let within = slice_get_within a.latches j l at in
      let back : (length a.inputs + j) - length a.inputs ≡ j = omega arith in
      let place : placed_name a l.variable (length a.inputs + j) ≡ numbered 108 j = rw (le-ltb (length a.inputs + j) (length a.inputs) (omega arith), lt-ltb (length a.inputs + j) (length a.inputs + length a.latches) (omega (arith, within))) (ap (numbered 108) back) in
      record {
        name = node_name a (1 + j) x (AtLatch j l refl at) e ∙ ap (λ (n : List ℕ). Some n) (sym (named (length a.inputs + j) l.variable some (defined_latch a (length a.inputs + j) j l refl at) ∙ place));
        literal = literal_get a (1 + j) x (AtLatch j l refl at) e;
      }

  pub gate_net : (k x : ℕ) (g : Gate) → x ≡ length a.inputs + (1 + length a.latches + k) → 0 < g.variable → slice_get a.gates k ≡ Some g → IsNetOf a g.variable x
  gate_net k x g e some at =
      let place : placed_name a g.variable (length a.inputs + length a.latches + k) ≡ numbered 110 g.variable = rw (le-ltb (length a.inputs + length a.latches + k) (length a.inputs) (omega arith), le-ltb (length a.inputs + length a.latches + k) (length a.inputs + length a.latches) (omega arith)) refl in
      record {
        name = node_name a (1 + length a.latches + k) x (AtGate k g refl at) e ∙ ap (λ (n : List ℕ). Some n) (sym (named (length a.inputs + length a.latches + k) g.variable some (defined_gate a (length a.inputs + length a.latches + k) k g refl at) ∙ place));
        literal = literal_get a (1 + length a.latches + k) x (AtGate k g refl at) e;
      }

  defined_net : AreVariables a → (p u : ℕ) → slice_get (defined a) p ≡ Some u → (x : ℕ) × IsNetOf a u x × (x < length a.inputs + (1 + length a.latches + length a.gates))
  defined_net are p u e = go (definition_of a p u e)
    where
      go : IsDefinition a p u → (x : ℕ) × IsNetOf a u x × (x < length a.inputs + (1 + length a.latches + length a.gates))
      go (ByInput at) = let h = slice_get_within a.inputs p u at in (p, input_net p u (are p u e) at, omega (arith, h))
      go (ByLatch j l place at v) =
          (length a.inputs + (1 + j), subst (λ (m : ℕ). IsNetOf a m (length a.inputs + (1 + j))) v (latch_net j (length a.inputs + (1 + j)) l refl (subst (λ (m : ℕ). 0 < m) (sym v) (are p u e)) at), let h = slice_get_within a.latches j l at in omega (arith, h))
      go (ByGate k g place at v) =
          (length a.inputs + (1 + length a.latches + k), subst (λ (m : ℕ). IsNetOf a m (length a.inputs + (1 + length a.latches + k))) v (gate_net k (length a.inputs + (1 + length a.latches + k)) g refl (subst (λ (m : ℕ). 0 < m) (sym v) (are p u e)) at), let h = slice_get_within a.gates k g at in omega (arith, h))

  -- each known variable has a net, which is no table of a next literal or of an output
  pub known_net : AreVariables a → (u : ℕ) → IsKnown a u → (x : ℕ) × IsNetOf a u x × (x < length a.inputs + (1 + length a.latches + length a.gates))
  known_net are zero known = (length a.inputs, zero_net, omega arith)
  known_net are (suc u) known =
      let no : nat_eq (suc u) 0 ≡ false = ne_eqb (suc u) 0 (λ z. omega (arith, z)) in
      let (p, first, at) = place_among (defined a) (suc u) (rw no at known) in
      defined_net are p (suc u) at

-- ---- what is read is known

pub get_contains : {A : Type 0} (xs : List A) (i : ℕ) (x : A) → slice_get xs i ≡ Some x → Contains xs x
get_contains xs i x e = (i, slice_get_within xs i x e, get_or_from_slice_get xs i x x e)

contains_flat : {A B : Type 0} (f : A → List B) (xs : List A) (k : ℕ) (x : A) (u : B) → slice_get xs k ≡ Some x → Contains (f x) u → Contains (flat_map f xs) u
contains_flat f [] k x u e there = absurd (cc)
contains_flat {A} {B} f (y ∷ xs) zero x u e there =
    let same : x ≡ y = sym (some_is y x e) in
    subst (λ (ys : List B). Contains ys u) (sym (flat_map-cons f y xs)) (Contains-append_left (f y) (flat_map f xs) u (subst (λ (z : A). Contains (f z) u) same there))
contains_flat {A} {B} f (y ∷ xs) (suc k) x u e there = subst (λ (ys : List B). Contains ys u) (sym (flat_map-cons f y xs)) (Contains-append_right (f y) (flat_map f xs) u (contains_flat f xs k x u e there))

module _ (a : PlainAig) (all : IsDefined a) where
  read_known : (u : ℕ) → Contains (read_variables a) u → IsKnown a u
  read_known u (k, l, e) = not-false (nat_eq u 0 || is_among (defined a) u) (subst (λ (v : ℕ). not (nat_eq v 0 || is_among (defined a) v) ≡ false) e (none_at (λ v. not (nat_eq v 0 || is_among (defined a) v)) (read_variables a) k u all l))

  abbrev nexts : List ℕ
  nexts = map (λ (l : Latch). l.next.variable) a.latches

  abbrev outs : List ℕ
  outs = map (λ (l : Literal). l.variable) a.outputs

  abbrev gate_pins : List ℕ
  gate_pins = flat_map (λ (g : Gate). g.left.variable ∷ g.right.variable ∷ []) a.gates

  pub next_known : (j : ℕ) (l : Latch) → slice_get a.latches j ≡ Some l → IsKnown a l.next.variable
  next_known j l e = read_known l.next.variable (Contains-append_left nexts (outs ++ gate_pins) l.next.variable (get_contains nexts j l.next.variable (map_get (λ (l : Latch). l.next.variable) a.latches j l e)))

  pub output_known : (k : ℕ) (m : Literal) → slice_get a.outputs k ≡ Some m → IsKnown a m.variable
  output_known k m e = read_known m.variable (Contains-append_right nexts (outs ++ gate_pins) m.variable (Contains-append_left outs gate_pins m.variable (get_contains outs k m.variable (map_get (λ (l : Literal). l.variable) a.outputs k m e))))

  gate_known : (k : ℕ) (g : Gate) (u : ℕ) → slice_get a.gates k ≡ Some g → Contains (g.left.variable ∷ g.right.variable ∷ []) u → IsKnown a u
  gate_known k g u e there = read_known u (Contains-append_right nexts (outs ++ gate_pins) u (Contains-append_right outs gate_pins u (contains_flat (λ (h : Gate). h.left.variable ∷ h.right.variable ∷ []) a.gates k g u e there)))

  pub left_known : (k : ℕ) (g : Gate) → slice_get a.gates k ≡ Some g → IsKnown a g.left.variable
  left_known k g e = gate_known k g g.left.variable e (0, omega arith, refl)

  pub right_known : (k : ℕ) (g : Gate) → slice_get a.gates k ≡ Some g → IsKnown a g.right.variable
  right_known k g e = gate_known k g g.right.variable e (1, omega arith, refl)
