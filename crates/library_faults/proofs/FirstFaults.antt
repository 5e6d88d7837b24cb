-- The first fault among models that are taken in order.
use Rattle.std.proofs.Common.{◌≡◌, ℕ, ◌+◌, ◌<◌, ◌≤◌, ◌⊎◌, List, length, get_or, map, sym, ap, ◌∙◌, subst, inl, inr, arith, Option, Some, None}
use Rattle.std.specs.Prelude.{slice_get, option_map}
use Rattle.std.proofs.lemmas.Bool.{cases_eq}
use Rattle.std.proofs.lemmas.List.{length-map}
use Rattle.std.proofs.lemmas.Option.{slice_get-map, slice_get-get_or}
use Rattle.blif_text.specs.Models.{PlainModel}
use Rattle.blif_text.specs.declared.library.BlifModel.{BlifModel}
use Rattle.blif_text.specs.Views.{plain_model, plain_element}
use Rattle.library_faults.specs.declared.fault.PlacingFault.{PlacingFault}
use Rattle.library_faults.specs.Ports.{PlainPorts, ports_of}
use Rattle.library_faults.specs.Graph.{graph, names_of, Reached}
use Rattle.library_faults.specs.Faults.{model_fault, elements_fault}
use Rattle.library_faults.specs.Library.{AreFaultless, IsFirstFault, IsPlaceable}

at_item : (models : List BlifModel) (x : ℕ) (item : BlifModel) → x < length models → item ≡ get_or models x item → slice_get (map plain_model models) x ≡ Some (plain_model item)
at_item models x item below is = slice_get-map plain_model models x ∙ ap (option_map plain_model) (slice_get-get_or models x item below ∙ ap Some (sym is))

pub faultless_none : (library : List PlainModel) → AreFaultless library 0
faultless_none library k m below = absurd (omega arith)

pub faultless_more : (models : List BlifModel) (x : ℕ) (item : BlifModel) → x < length models → item ≡ get_or models x item → AreFaultless (map plain_model models) x → (Reached (graph (map plain_model models)) x → model_fault (map plain_model models) (plain_model item) ≡ None) → AreFaultless (map plain_model models) (x + 1)
faultless_more models x item below is so_far here k m l at reached = go (cases_eq k x)
  where
    go : (k ≡ x) ⊎ (k ≡ x → ⊥) → model_fault (map plain_model models) m ≡ None
    go (inl e) =
        let there : slice_get (map plain_model models) x ≡ Some m = subst (λ j. slice_get (map plain_model models) j ≡ Some m) e at in
        let same : plain_model item ≡ m = cc (at_item models x item below is) in
        subst (λ n. model_fault (map plain_model models) n ≡ None) same (here (subst (Reached (graph (map plain_model models))) e reached))
    go (inr ne) = so_far k m (omega arith) at reached

pub faultless_all : (models : List BlifModel) (x : ℕ) → length models ≤ x → AreFaultless (map plain_model models) x → IsPlaceable (map plain_model models)
faultless_all models x all so_far k m below = so_far k m (omega (arith, length-map models plain_model))

pub first_here : (models : List BlifModel) (x : ℕ) (item : BlifModel) (fault : PlacingFault) → x < length models → item ≡ get_or models x item → AreFaultless (map plain_model models) x → Reached (graph (map plain_model models)) x → model_fault (map plain_model models) (plain_model item) ≡ Some fault → IsFirstFault (map plain_model models) fault
first_here models x item fault below is so_far reached has = record {
  place = x;
  model = plain_model item;
  is = at_item models x item below is;
  reached = reached;
  has = has;
  earlier = so_far;
}

-- what a call with the names and the ports of the library answers
pub answered : (models : List BlifModel) (names : List (List ℕ)) (ports : List PlainPorts) (item : BlifModel) (fault : Option PlacingFault) → names ≡ names_of (map plain_model models) → ports ≡ map ports_of (map plain_model models) → fault ≡ elements_fault names ports (map plain_element item.elements.items) → model_fault (map plain_model models) (plain_model item) ≡ fault
answered models names ports item fault n p e = sym (rw (n, p) at e)
