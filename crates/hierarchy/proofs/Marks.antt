-- The marks of open initial values fit the design.
use Rattle.std.proofs.Common.{◌≡◌, cond, ℕ, zero, suc, ◌+◌, ◌-◌, ◌≢◌, ◌⊎◌, Bool, true, false, List, [], ◌∷◌, length, map, refl, sym, ap, subst, ◌∙◌, arith, slice_get, Option, Some, None, Result, Ok, Err}
use Rattle.std.specs.Prelude.{count_by, flat_map, MatchResult, IfOk, IfErr, IsErrAnd}
use Rattle.std.specs.Option.{unwrap_or}
use Rattle.std.proofs.lemmas.List.Sums.{sum_by-cons}
use Rattle.blif_text.specs.declared.library.Init.{Init}
use Rattle.blif_text.specs.declared.library.Init.TheVariants.{Zero, One, Free, Unknown}
use Rattle.blif_text.specs.Models.{PlainElement, Table, Register, Instance, PlainModel}
use Rattle.flat_net.specs.Net.{Net, Node, slot, node_of, IsInitOf}
use Rattle.flat_net.specs.Free.{FreeDesign, AreMarks, node_bit}
use Rattle.flat_net.specs.Faults.{net_of_draft, node_of_element, draft_names, IsFaultless}
use Rattle.flat_net.proofs.Slots.{slot_at, slot_within}
use Rattle.hierarchy.specs.Drafted.{draft_of, drafted, starts_with, is_open, is_assumed, assumed, open_mark, open_marks}
use Rattle.hierarchy.specs.declared.flat_fault.FlatFault.{FlatFault}
use Rattle.hierarchy.specs.declared.flat_fault.FlatFault.TheVariants.{Memory}
use Rattle.library_faults.specs.Flat.{flat_model}
use Rattle.hierarchy.specs.Clash.{name_clash}
use Rattle.hierarchy.specs.Flatten.{IsFlatFault, IsSameFault, IsFlat, IsFreeFlat}
use Rattle.library_faults.specs.Sound.{IsSound, Fits}
use Rattle.hierarchy.proofs.OneAnswer.{one_flat, ok_only, fault_only}

one_each : (names : List (List ℕ)) (es : List PlainElement) → length (flat_map open_mark es) ≡ length (map (node_of_element names) (flat_map drafted es))
one_each names [] = refl
one_each names (Table pins out cover ∷ es) = omega (arith, one_each names es)
one_each names (Register pin out control init ∷ es) = omega (arith, one_each names es)
one_each names (Instance model bindings ∷ es) = one_each names es

-- an open initial value is read as 0
open_is_false : (init : Init) → is_open init ≡ true → starts_with init ≡ false
open_is_false Zero e = absurd cc
open_is_false One e = absurd cc
open_is_false Free e = refl
open_is_false Unknown e = refl

some_true : (b : Bool) → Some b ≡ Some true → b ≡ true
some_true b e = cc

marked : (names : List (List ℕ)) (es : List PlainElement) (i : ℕ) → slice_get (flat_map open_mark es) i ≡ Some true → IsInitOf (slice_get (map (node_of_element names) (flat_map drafted es)) i) false
marked names [] i e = absurd cc
marked names (Table pins out cover ∷ es) zero e = absurd cc
marked names (Table pins out cover ∷ es) (suc i) e = marked names es i e
marked names (Register pin out control init ∷ es) zero e = open_is_false init (some_true (is_open init) e)
marked names (Register pin out control init ∷ es) (suc i) e = marked names es i e
marked names (Instance model bindings ∷ es) i e = marked names es i e

true_there : (o : Option Bool) → unwrap_or o false ≡ true → o ≡ Some true
true_there None e = absurd cc
true_there (Some b) e = ap Some e

-- the marks are those of the design
pub marks_fit : (m : PlainModel) → AreMarks (net_of_draft (draft_of m)) (open_marks m)
unfolding draft_of open_marks
marks_fit m = record { one_each = one_each (draft_names (draft_of m)) m.elements; registers = registers }
  where
    n : Net
    n = net_of_draft (draft_of m)

    registers : (x : ℕ) → node_bit (length n.inputs) (flat_map open_mark m.elements) x ≡ true → IsInitOf (node_of n x) false
    registers x e =
        let there : slot (length n.inputs) (flat_map open_mark m.elements) x ≡ Some true = true_there _ e in
        let low = (slot_within (length n.inputs) (flat_map open_mark m.elements) x true there).0 in
        let bit : slice_get (flat_map open_mark m.elements) (x - length n.inputs) ≡ Some true = sym (slot_at (length n.inputs) (flat_map open_mark m.elements) x low) ∙ there in
        subst (λ (o : Option Node). IsInitOf o false) (sym (slot_at (length n.inputs) n.nodes x low)) (marked (draft_names (draft_of m)) m.elements (x - length n.inputs) bit)

-- as many are marked as are counted
all_counted : (es : List PlainElement) → count_by (λ bit. bit) (flat_map open_mark es) ≡ count_by is_assumed es
all_counted [] = refl
all_counted (Table pins out cover ∷ es) = omega (arith, sum_by-cons (λ bit. cond bit 1 0) false (flat_map open_mark es), sum_by-cons (λ e. cond (is_assumed e) 1 0) (Table pins out cover) es, all_counted es)
all_counted (Register pin out control init ∷ es) =
    sum_by-cons (λ bit. cond bit 1 0) (is_open init) (flat_map open_mark es) ∙ (ap (λ n. cond (is_open init) 1 0 + n) (all_counted es) ∙ sym (sum_by-cons (λ e. cond (is_assumed e) 1 0) (Register pin out control init) es))
all_counted (Instance model bindings ∷ es) = omega (arith, sum_by-cons (λ e. cond (is_assumed e) 1 0) (Instance model bindings) es, all_counted es)

pub marks_counted : (m : PlainModel) → count_by (λ bit. bit) (open_marks m) ≡ assumed m
unfolding open_marks assumed
marks_counted m = all_counted m.elements

-- the design of the flat model and its marks
pub free_flat : (library : List PlainModel) (limit : ℕ) (m : PlainModel) (n : Net) (free : List Bool) → m ≡ flat_model library → IsSound library → Fits library limit → name_clash library ≡ None → IsFaultless (draft_of m) → n ≡ net_of_draft (draft_of m) → free ≡ open_marks m → IsFreeFlat library limit n free
free_flat library limit m n free is sound fits clear faultless design marks = record {
  flat = record {
    sound = sound;
    fits = fits;
    clear = clear;
    faultless = subst (λ (model : PlainModel). IsFaultless (draft_of model)) is faultless;
    design_is = design ∙ ap (λ (model : PlainModel). net_of_draft (draft_of model)) is;
    open_are = ap (count_by (λ bit. bit)) marks ∙ (marks_counted m ∙ ap assumed is);
  };
  marks_are = marks ∙ ap open_marks is;
}

-- the marks are those of the flat model
pub flat_marked : (library : List PlainModel) (limit : ℕ) (n : Net) (open_values : ℕ) → IsFlat library limit n open_values → IsFreeFlat library limit n (open_marks (flat_model library))
flat_marked library limit n open_values flat = record {
  flat = subst (IsFlat library limit n) (flat.open_are ∙ sym (marks_counted (flat_model library))) flat;
  marks_are = refl;
}

-- the flat design with its marks is one alone
pub one_free : (library : List PlainModel) (limit : ℕ) (n m : Net) (free also : List Bool) → IsFreeFlat library limit n free → IsFreeFlat library limit m also → (n ≡ m) × (free ≡ also)
one_free library limit n m free also one other = ((one_flat library limit n m _ _ one.flat other.flat).0, one.marks_are ∙ sym other.marks_are)

pub free_only : (library : List PlainModel) (limit : ℕ) (r : Result FreeDesign FlatFault) → IfOk r (λ flat. IsFreeFlat library limit flat.design.net flat.free) → IfErr r (λ fault. IsFlatFault library limit fault) → (n : Net) (free : List Bool) → IsFreeFlat library limit n free → MatchResult r (λ flat. (flat.design.net ≡ n) × (flat.free ≡ free)) (λ fault. fault ≡ Memory)
free_only library limit (Ok flat) ok err n free is = ((ok_only library limit (λ (flat : FreeDesign). flat.design.net) (λ (flat : FreeDesign). count_by (λ bit. bit) flat.free) (Ok flat) ok.flat err n (count_by (λ bit. bit) free) is.flat).0, ok.marks_are ∙ sym is.marks_are)
free_only library limit (Err fault) ok err n free is = ok_only library limit (λ (flat : FreeDesign). flat.design.net) (λ (flat : FreeDesign). count_by (λ bit. bit) flat.free) (Err fault) tt err n (count_by (λ bit. bit) free) is.flat

pub free_fault_only : (library : List PlainModel) (limit : ℕ) (r : Result FreeDesign FlatFault) → IfOk r (λ flat. IsFreeFlat library limit flat.design.net flat.free) → IfErr r (λ fault. IsFlatFault library limit fault) → (fault : FlatFault) → fault ≢ Memory → IsFlatFault library limit fault → IsErrAnd r (λ answered. (answered ≡ Memory) ⊎ IsSameFault answered fault)
free_fault_only library limit (Ok flat) ok err fault caused is = fault_only library limit (λ (flat : FreeDesign). flat.design.net) (λ (flat : FreeDesign). count_by (λ bit. bit) flat.free) (Ok flat) ok.flat err fault caused is
free_fault_only library limit (Err answered) ok err fault caused is = fault_only library limit (λ (flat : FreeDesign). flat.design.net) (λ (flat : FreeDesign). count_by (λ bit. bit) flat.free) (Err answered) tt err fault caused is
