-- The one model of a design flattens to itself.
use Rattle.std.proofs.Common.{◌≡◌, ℕ, zero, suc, ◌<◌, Bool, true, List, [], ◌∷◌, length, map, get_or, Option, Some, None, refl, sym, ap, subst, ◌∙◌, arith}
use Rattle.std.specs.Prelude.{Contains}
use Rattle.tmr_base.specs.declared.ids.Edge.{Edge}
use Rattle.flat_net.specs.Net.{Net, Node, Table, Register, name_of}
use Rattle.blif_text.specs.Models.{PlainElement, PlainModel}
use Rattle.library_faults.specs.Flat.{PlacedNet, net_text, Level, main_level, resolve, actual_of, NetElement, NetTable, NetRegister, resolved_control, elements_with, elements_to, flat_elements, named, named_control, flat_model}
use Rattle.hierarchy.specs.Clash.{main_net, name_clash}
use Rattle.hierarchy.specs.Private.Alone.{places_nothing}
use Rattle.hierarchy.proofs.Alone.{alone_clear}
use Rattle.library_faults.specs.Graph.{names_of, placed_in, graph, row, Reached, main, placed}
use Rattle.library_faults.specs.Ports.{PlainPorts, ports_of}
use Rattle.library_faults.specs.Faults.{elements_fault, model_fault}
use Rattle.library_faults.specs.Found.{IsOrder}
use Rattle.library_faults.specs.Library.{IsPlaceable}
use Rattle.library_faults.specs.Sound.{IsSound}
use Rattle.blif_writer.specs.Text.{start_of, with_marks, net_words}
use Rattle.blif_writer.specs.Model.{element_of, free_model}

-- ---- its flat elements

abbrev net_control : Option (Edge × List ℕ) → Option (Edge × PlacedNet)
net_control None = None
net_control (Some (edge, clock)) = Some (edge, main_net clock)

abbrev net_element : Net → Node × Bool → NetElement
net_element n (Table name cover pins, free) = NetTable (map main_net (net_words n pins)) (main_net name) cover
net_element n (Register name init pin, free) = NetRegister (main_net (name_of n pin)) (main_net name) (net_control n.clock) (start_of free init)

main_resolved : (name : List ℕ) → resolve (main_level ∷ []) name ≡ main_net name
unfolding resolve actual_of
main_resolved name = refl

all_resolved : (names : List (List ℕ)) → map (resolve (main_level ∷ [])) names ≡ map main_net names
all_resolved [] = refl
all_resolved (name ∷ names) = ap (λ (x : PlacedNet). x ∷ map (resolve (main_level ∷ [])) names) (main_resolved name) ∙ ap (λ (xs : List PlacedNet). main_net name ∷ xs) (all_resolved names)

control_resolved : (c : Option (Edge × List ℕ)) → resolved_control (main_level ∷ []) c ≡ net_control c
control_resolved None = refl
control_resolved (Some (edge, clock)) = ap (λ (x : PlacedNet). let o : Option (Edge × PlacedNet) = Some (edge, x) in o) (main_resolved clock)

elements_are : (n : Net) (nodes : List (Node × Bool)) (inner : List Level → List ℕ → List NetElement) (number : ℕ) → elements_with inner (main_level ∷ []) number (map (element_of n) nodes) ≡ map (net_element n) nodes
unfolding elements_with
elements_are n [] inner number = refl
elements_are n ((Table name cover pins, free) ∷ nodes) inner number = rw (all_resolved (net_words n pins), main_resolved name, elements_are n nodes inner number) refl
elements_are n ((Register name init pin, free) ∷ nodes) inner number = rw (main_resolved (name_of n pin), main_resolved name, control_resolved n.clock, elements_are n nodes inner number) refl

flat_are : (n : Net) (free : List Bool) → flat_elements (free_model n free ∷ []) ≡ map (net_element n) (with_marks free n.nodes)
unfolding flat_elements free_model
flat_are n free = elements_are n (with_marks free n.nodes) (elements_to (free_model n free ∷ []) 1) 0

texts_same : (names : List (List ℕ)) → map net_text (map main_net names) ≡ names
texts_same [] = refl
texts_same (name ∷ names) = ap (λ (ns : List (List ℕ)). name ∷ ns) (texts_same names)

control_same : (c : Option (Edge × List ℕ)) → named_control (net_control c) ≡ c
control_same None = refl
control_same (Some (edge, clock)) = refl

named_same : (n : Net) (nodes : List (Node × Bool)) → map named (map (net_element n) nodes) ≡ map (element_of n) nodes
named_same n [] = refl
named_same n ((Table name cover pins, free) ∷ nodes) = rw (texts_same (net_words n pins), named_same n nodes) refl
named_same n ((Register name init pin, free) ∷ nodes) = rw (control_same n.clock, named_same n nodes) refl

pub flat_model_is : (n : Net) (free : List Bool) → flat_model (free_model n free ∷ []) ≡ free_model n free
unfolding flat_model free_model
flat_model_is n free = ap (λ (es : List PlainElement). let m : PlainModel = record { name = (free_model n free).name; inputs = (free_model n free).inputs; outputs = (free_model n free).outputs; elements = es } in m) (ap (map named) (flat_are n free) ∙ (named_same n (with_marks free n.nodes) ∙ sym (elements_of n free)))
  where
    elements_of : (n : Net) (free : List Bool) → (free_model n free).elements ≡ map (element_of n) (with_marks free n.nodes)
    elements_of n free = refl

-- ---- no two of its nets share a text

none_placing : (n : Net) (nodes : List (Node × Bool)) → places_nothing (map (element_of n) nodes) ≡ true
unfolding places_nothing
none_placing n [] = refl
none_placing n ((Table name cover pins, free) ∷ nodes) = none_placing n nodes
none_placing n ((Register name init pin, free) ∷ nodes) = none_placing n nodes

pub no_clash : (n : Net) (free : List Bool) → name_clash (free_model n free ∷ []) ≡ None
unfolding free_model
no_clash n free = alone_clear (free_model n free ∷ []) (none_placing n (with_marks free n.nodes))

-- ---- it places no models

no_fault : (names : List (List ℕ)) (ports : List PlainPorts) (n : Net) (nodes : List (Node × Bool)) → elements_fault names ports (map (element_of n) nodes) ≡ None
unfolding elements_fault
no_fault names ports n [] = refl
no_fault names ports n ((Table name cover pins, free) ∷ nodes) = no_fault names ports n nodes
no_fault names ports n ((Register name init pin, free) ∷ nodes) = no_fault names ports n nodes

model_faultless : (library : List PlainModel) (n : Net) (free : List Bool) → model_fault library (free_model n free) ≡ None
unfolding free_model
model_faultless library n free = no_fault (names_of library) (map ports_of library) n (with_marks free n.nodes)

placeable : (n : Net) (free : List Bool) → IsPlaceable (free_model n free ∷ [])
placeable n free zero m lt e r = ap (model_fault (free_model n free ∷ [])) (some_is m (free_model n free) (sym e)) ∙ model_faultless (free_model n free ∷ []) n free
  where
    some_is : (u v : PlainModel) → Some u ≡ Some v → u ≡ v
    some_is u v e = cc
placeable n free (suc k) m lt e r = absurd (omega arith)

none_placed : (names : List (List ℕ)) (n : Net) (nodes : List (Node × Bool)) → placed_in names (map (element_of n) nodes) ≡ []
unfolding placed_in
none_placed names n [] = refl
none_placed names n ((Table name cover pins, free) ∷ nodes) = none_placed names n nodes
none_placed names n ((Register name init pin, free) ∷ nodes) = none_placed names n nodes

graph_is : (n : Net) (free : List Bool) → graph (free_model n free ∷ []) ≡ [] ∷ []
unfolding free_model
graph_is n free = ap (λ (r : List ℕ). r ∷ []) (none_placed (names_of (free_model n free ∷ [])) n (with_marks free n.nodes))

abbrev lone : List (List ℕ)
lone = [] ∷ []

no_row : (x : ℕ) → row lone x ≡ []
no_row zero = refl
no_row (suc x) = refl

lone_reached : (x : ℕ) → Reached lone x → Contains (0 ∷ []) x
lone_reached _ main = (0, lit, refl)
  where
    lit : 0 < 1
    lit = omega arith
lone_reached _ (placed x y r p) =
    let long : length (row lone x) ≡ 0 = ap length (no_row x) in
    absurd (omega (arith, p.1))

lone_order : IsOrder lone (0 ∷ [])
lone_order = record {
  within = within;
  reached = reached;
  complete = lone_reached;
  once = λ j k less lt. absurd (omega arith);
  after = after;
}
  where
    within : (k : ℕ) → k < 1 → get_or (0 ∷ []) k 0 < 1
    within zero lt = omega arith
    within (suc k) lt = absurd (omega arith)

    reached : (k : ℕ) → k < 1 → Reached lone (get_or (0 ∷ []) k 0)
    reached zero lt = main
    reached (suc k) lt = absurd (omega arith)

    after : (k i : ℕ) → k < 1 → i < length (row lone (get_or (0 ∷ []) k 0)) → (j : ℕ) × (j < k) × (get_or (0 ∷ []) j 0 ≡ get_or (row lone (get_or (0 ∷ []) k 0)) i 0)
    after k i lt less = let long : length (row lone (get_or (0 ∷ []) k 0)) ≡ 0 = ap length (no_row (get_or (0 ∷ []) k 0)) in absurd (omega arith)

pub sound : (n : Net) (free : List Bool) → IsSound (free_model n free ∷ [])
sound n free = record { placeable = placeable n free; order = 0 ∷ []; ordered = subst (λ (rows : List (List ℕ)). IsOrder rows (0 ∷ [])) (sym (graph_is n free)) lone_order }
