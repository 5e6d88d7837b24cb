-- A loop of tables of a graph's design is a loop of its gates.
use Rattle.std.proofs.Common.{◌≡◌, ◌≢◌, ℕ, zero, suc, ◌+◌, ◌-◌, ◌<◌, ◌≤◌, ◌⊎◌, inl, inr, true, false, List, [], ◌∷◌, ◌++◌, length, map, take, drop, get_or, slice_get, Option, Some, refl, sym, ap, ◌∙◌, subst, arith}
use Rattle.std.specs.Prelude.{slice_index}
use Rattle.std.proofs.lemmas.Bool.{cases_lt, cases_order, false≢true}
use Rattle.std.proofs.lemmas.List.{length-map}
use Rattle.std.proofs.lemmas.Option.{slice_get_within, get_or_from_slice_get, slice_get-get_or}
use Rattle.tmr_base.proofs.NumberLaws.{number_again}
use Rattle.flat_net.specs.Net.{name_of}
use Rattle.flat_net.specs.Loop.{ReadsTable, IsLoop as IsTableLoop}
use Rattle.graph.specs.Turned.{IsTurned}
use Rattle.flat_net.specs.Draft.{out_of, AreDistinct}
use Rattle.flat_net.specs.Faults.{IsDrivenOnce, IsCombLoop}
use Rattle.flat_net.proofs.Going.{taken_split}
use Rattle.aag_text.specs.declared.aig.Gate.{Gate}
use Rattle.aag_text.specs.Aig.{PlainAig}
use Rattle.aag_text.specs.Variables.{defined}
use Rattle.aag_design.specs.Draft.{map_from, numbered, aig_elements}
use Rattle.aag_design.specs.Private.Drafting.{plain_draft}
use Rattle.aag_design.specs.Private.Drafting.{number_behind, IsTurnedFrom, IsSound}
use Rattle.aag_design.specs.Loop.{ReadsGate, IsLoop}
use Rattle.aag_design.proofs.Places.{some_is, get_left, get_right, map_get, length-map_from, IsPlace, place_of}
use Rattle.aag_design.proofs.Nets.{element, element_get, node_name, names_are, names_long, AreApart, is_there}
use Rattle.aag_design.proofs.Known.{AreVariables, defined_gate}
use Rattle.aag_design.proofs.Values.{names, design}
use Rattle.aag_design.proofs.GateLoops.{next_read, last_read, IsGateAt, gate_at, reads_gate, gate_same, gate_name}
use Rattle.aag_design.proofs.Turns.{turned_loop}

-- ---- no name stands twice

take_get : {A : Type 0} (xs : List A) (i k : ℕ) (x : A) → k < i → slice_get xs k ≡ Some x → slice_get (take i xs) k ≡ Some x
take_get [] i k x l e = absurd (cc)
take_get (y ∷ xs) zero k x l e = absurd (omega arith)
take_get (y ∷ xs) (suc i) zero x l e = e
take_get (y ∷ xs) (suc i) (suc k) x l e = take_get xs i k x (omega arith) e

module _ (a : PlainAig) (inputs_apart : AreDistinct (map_from (λ i v. numbered 105 i) 0 a.inputs)) (driven : IsDrivenOnce (plain_draft a)) where
  abbrev ins : List (List ℕ)
  ins = map_from (λ i v. numbered 105 i) 0 a.inputs

  ins_long : length (map_from (λ i (v : ℕ). numbered 105 i) 0 a.inputs) ≡ length a.inputs
  ins_long = length-map_from (λ i (v : ℕ). numbered 105 i) 0 a.inputs

  name_left : (x : ℕ) → x < length a.inputs → get_or (names a) x [] ≡ get_or ins x []
  name_left x l = ap (λ (ns : List (List ℕ)). get_or ns x []) (names_are a) ∙ get_or_from_slice_get (ins ++ map out_of (aig_elements a)) x (get_or ins x []) [] (get_left ins (map out_of (aig_elements a)) x (get_or ins x []) (slice_get-get_or ins x [] (omega (arith, l, ins_long))))

  -- the names before that of element i
  before_get : (i x : ℕ) (name : List ℕ) → x < length a.inputs + i → slice_get (names a) x ≡ Some name → slice_get (ins ++ map out_of (take i (aig_elements a))) x ≡ Some name
  before_get i x name l e = go (cases_lt x (length a.inputs))
    where
      there : slice_get (ins ++ map out_of (aig_elements a)) x ≡ Some name
      there = ap (λ (ns : List (List ℕ)). slice_get ns x) (sym (names_are a)) ∙ e

      go : (x < length a.inputs) ⊎ (length a.inputs ≤ x) → slice_get (ins ++ map out_of (take i (aig_elements a))) x ≡ Some name
      go (inl low) =
          let own = slice_get-get_or ins x [] (omega (arith, low, ins_long)) in
          let same : get_or ins x [] ≡ name = some_is (get_or ins x []) name (sym (get_left ins (map out_of (aig_elements a)) x (get_or ins x []) own) ∙ there) in
          get_left ins (map out_of (take i (aig_elements a))) x name (own ∙ ap (λ (n : List ℕ). Some n) same)
      go (inr high) =
          let within = slice_get_within (names a) x name e in
          let place : x ≡ length a.inputs + (x - length a.inputs) = omega (arith, high) in
          let p : IsPlace a (x - length a.inputs) = place_of a (x - length a.inputs) (omega (arith, high, within, names_long a)) in
          let same : out_of (element a (x - length a.inputs) p) ≡ name = some_is (out_of (element a (x - length a.inputs) p)) name (sym (node_name a (x - length a.inputs) x p place) ∙ e) in
          get_right ins (map out_of (take i (aig_elements a))) (x - length a.inputs) x (omega (arith, place, ins_long))
          ∙ (map_get out_of (take i (aig_elements a)) (x - length a.inputs) (element a (x - length a.inputs) p) (take_get (aig_elements a) i (x - length a.inputs) (element a (x - length a.inputs) p) (omega (arith, l, high)) (element_get a (x - length a.inputs) p))
          ∙ ap (λ (n : List ℕ). Some n) same)

  no_pair : (x y : ℕ) → x < y → y < length (names a) → get_or (names a) x [] ≡ get_or (names a) y [] → ⊥
  no_pair x y l h e = go (cases_lt y (length a.inputs))
    where
      go : (y < length a.inputs) ⊎ (length a.inputs ≤ y) → ⊥
      go (inl low) = inputs_apart x y l (omega (arith, low, ins_long)) (sym (name_left x (omega (arith, l, low))) ∙ (e ∙ name_left y low))
      go (inr high) =
          let i : ℕ = y - length a.inputs in
          let place : y ≡ length a.inputs + (y - length a.inputs) = omega (arith, high) in
          let p : IsPlace a (y - length a.inputs) = place_of a (y - length a.inputs) (omega (arith, high, h, names_long a)) in
          let at = element_get a (y - length a.inputs) p in
          let own : get_or (aig_elements a) (y - length a.inputs) (element a (y - length a.inputs) p) ≡ element a (y - length a.inputs) p = get_or_from_slice_get (aig_elements a) (y - length a.inputs) (element a (y - length a.inputs) p) (element a (y - length a.inputs) p) at in
          let fresh = driven.none (take (y - length a.inputs) (aig_elements a)) (element a (y - length a.inputs) p) (drop ((y - length a.inputs) + 1) (aig_elements a)) (taken_split (aig_elements a) (y - length a.inputs) (element a (y - length a.inputs) p) (slice_get_within (aig_elements a) (y - length a.inputs) (element a (y - length a.inputs) p) at) (sym own)) in
          let mine : get_or (names a) y [] ≡ out_of (element a (y - length a.inputs) p) = get_or_from_slice_get (names a) y (out_of (element a (y - length a.inputs) p)) [] (node_name a (y - length a.inputs) y p place) in
          let other : slice_get (names a) x ≡ Some (out_of (element a (y - length a.inputs) p)) = slice_get-get_or (names a) x [] (omega (arith, l, h)) ∙ ap (λ (n : List ℕ). Some n) (e ∙ mine) in
          let again = is_there (ins ++ map out_of (take (y - length a.inputs) (aig_elements a))) x (out_of (element a (y - length a.inputs) p)) (before_get (y - length a.inputs) x (out_of (element a (y - length a.inputs) p)) (omega (arith, l, place)) other) in
          false≢true (sym fresh ∙ again)

  pub names_apart : AreApart (names a)
  names_apart = record { same = λ x y hx hy e. go x y hx hy e (cases_order x y) }
    where
      go : (x y : ℕ) → x < length (names a) → y < length (names a) → get_or (names a) x [] ≡ get_or (names a) y [] → (x ≡ y) ⊎ ((x < y) ⊎ (y < x)) → x ≡ y
      go x y hx hy e (inl s) = s
      go x y hx hy e (inr (inl l)) = absurd (no_pair x y l hy e)
      go x y hx hy e (inr (inr l)) = absurd (no_pair y x l hx (sym e))

-- ---- the loop

module _ (a : PlainAig) (sound : IsSound a) (inputs_apart : AreDistinct (map_from (λ i v. numbered 105 i) 0 a.inputs)) (driven : IsDrivenOnce (plain_draft a)) where
  are : AreVariables a
  are p u e = (sound.variables p u e).0

  apart : AreApart (names a)
  apart = names_apart a inputs_apart driven

  abbrev IsOwn : ℕ → ℕ → Gate → Type 0
  IsOwn x k g = IsGateAt a sound.once sound.known are apart x k g

  module _ (tables : List ℕ) (loop : IsTableLoop (design a) tables) where
    own_gate : (i : ℕ) → i < length tables → (k : ℕ) × (g : Gate) × IsGateAt a sound.once sound.known are apart (slice_index tables i) k g
    own_gate i h =
        let (j, read) = last_read (ReadsTable (design a)) tables loop.some loop.next loop.closed i h in
        let (m, l, reads) = next_read (ReadsTable (design a)) tables loop.some loop.next loop.closed i h in
        gate_at a sound.once sound.known are apart (slice_index tables j) (slice_index tables i) (slice_index tables m) read reads

    module _ (numbers : List ℕ) (named : map Some numbers ≡ map number_behind (map (name_of (design a)) tables)) where
      long : length numbers ≡ length tables
      long = sym (length-map numbers Some) ∙ (ap length named ∙ (length-map (map (name_of (design a)) tables) number_behind ∙ length-map tables (name_of (design a))))

      number_is : (i k : ℕ) (g : Gate) → i < length tables → IsGateAt a sound.once sound.known are apart (slice_index tables i) k g → get_or numbers i 0 ≡ g.variable
      number_is i k g h at =
          let fits = (sound.variables (length a.inputs + length a.latches + k) g.variable (defined_gate a (length a.inputs + length a.latches + k) k g refl at.there)).1 in
          let mine : slice_get (map Some numbers) i ≡ Some (Some (get_or numbers i 0)) = map_get Some numbers i (get_or numbers i 0) (slice_get-get_or numbers i 0 (omega (arith, h, long))) in
          let name : slice_get (map number_behind (map (name_of (design a)) tables)) i ≡ Some (number_behind (name_of (design a) (slice_index tables i))) =
          map_get number_behind (map (name_of (design a)) tables) i (name_of (design a) (slice_index tables i)) (map_get (name_of (design a)) tables i (slice_index tables i) (slice_get-get_or tables i 0 h)) in
          let behind : number_behind (name_of (design a) (slice_index tables i)) ≡ Some g.variable = ap number_behind (gate_name a sound.once sound.known are apart (slice_index tables i) k g at) ∙ number_again 32 g.variable fits (omega (arith, fits)) in
          some_is (get_or numbers i 0) g.variable (some_is (Some (get_or numbers i 0)) (Some g.variable) (sym mine ∙ (ap (λ (os : List (Option ℕ)). slice_get os i) named ∙ (name ∙ ap (λ (o : Option ℕ). Some o) behind))))

      reads : (i j : ℕ) → i < length tables → j < length tables → ReadsTable (design a) (slice_index tables i) (slice_index tables j) → ReadsGate a (get_or numbers i 0) (get_or numbers j 0)
      reads i j h l r =
          let (k, g, at) = own_gate i h in
          let (m, f, other) = own_gate j l in
          let gate = reads_gate a sound.once sound.known are apart (slice_index tables i) (slice_index tables j) k m g f at other r in
          subst (λ (v : ℕ). ReadsGate a v (get_or numbers j 0)) (sym (number_is i k g h at)) (subst (λ (u : ℕ). ReadsGate a g.variable u) (sym (number_is j m f l other)) gate)

      apart_numbers : (j k : ℕ) → j < k → k < length tables → get_or numbers j 0 ≢ get_or numbers k 0
      apart_numbers j k jk h e =
          let (p, g, at) = own_gate j (omega (arith, jk, h)) in
          let (q, f, other) = own_gate k h in
          loop.once j k jk h (gate_same a sound.once sound.known are apart (slice_index tables j) (slice_index tables k) p q g f at other (sym (number_is j p g (omega (arith, jk, h)) at) ∙ (e ∙ number_is k q f h other)))

      pub loop_is : (found : List ℕ) → IsTurned numbers (slice_index numbers 0) found → IsLoop a found
      loop_is found turned =
          let last : length numbers - 1 ≡ length tables - 1 = omega (arith, long) in
          turned_loop a numbers found (omega (arith, long, loop.some))
          (λ k h. reads k (suc k) (omega (arith, h, long)) (omega (arith, h, long)) (loop.next k (omega (arith, h, long))))
          (subst (λ (k : ℕ). ReadsGate a (get_or numbers k 0) (get_or numbers 0 0)) (sym last) (reads (length tables - 1) 0 (omega (arith, loop.some)) loop.some loop.closed))
          (λ j k jk h. apart_numbers j k jk (omega (arith, h, long))) turned

  pub comb_loop : (named : List (List ℕ)) (found : List ℕ) → IsCombLoop (plain_draft a) named → IsTurnedFrom (map number_behind named) found → IsLoop a found
  comb_loop named found (tables, loop, are_names) turned = loop_is tables loop turned.numbers (turned.are ∙ ap (map number_behind) are_names) found turned.turned

  pub some_names : (named : List (List ℕ)) → IsCombLoop (plain_draft a) named → 0 < length named
  some_names named (tables, loop, are_names) = let long : length named ≡ length tables = ap length are_names ∙ length-map tables (name_of (design a)) in omega (arith, long, loop.some)
