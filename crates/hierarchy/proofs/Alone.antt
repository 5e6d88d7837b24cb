-- A main model that places no models is its own flat model, and no two of its nets share a text.
use Rattle.std.proofs.Common.{◌≡◌, ℕ, Bool, true, false, List, [], ◌∷◌, ◌++◌, length, map, refl, sym, ap, subst, ◌∙◌, ◌&&◌, not, Option, Some, None}
use Rattle.std.specs.Prelude.{flat_map}
use Rattle.std.specs.Str.{bytes_eq}
use Rattle.std.proofs.lemmas.Slice.Eq.{bytes_eq-Decides}
use Rattle.tmr_base.specs.declared.ids.Edge.{Edge}
use Rattle.blif_text.specs.Models.{PlainElement, Table, Register, Instance, PlainModel}
use Rattle.library_faults.specs.Flat.{Level, PlacedNet, NetElement, named, named_control, resolved_control, path_text, net_text, resolve, main_level, main_of, elements_with, elements_to, flat_elements, flat_model}
use Rattle.hierarchy.specs.Clash.{nets_of, main_net, walked, clash_after, is_taken, clashes, same_net, name_clash, control_nets}
use Rattle.hierarchy.specs.Private.Alone.{places_nothing}
use Rattle.hierarchy.proofs.WholeModel.{main_resolved, main_nets}

abbrev IsMain : PlacedNet → Type 0
IsMain net = net.path ≡ []

abbrev AreMain : List PlacedNet → Type 0
AreMain [] = Unit {0}
AreMain (net ∷ nets) = IsMain net × AreMain nets

join : (before nets : List PlacedNet) → AreMain before → AreMain nets → AreMain (before ++ nets)
join [] nets a b = b
join (net ∷ before) nets a b = (a.0, join before nets a.1 b)

control_named : (control : Option (Edge × List ℕ)) → named_control (resolved_control (main_level ∷ []) control) ≡ control
control_named None = refl
control_named (Some (edge, name)) = rw (main_resolved name) refl

texts_same : (names : List (List ℕ)) → map net_text (map main_net names) ≡ names
texts_same [] = refl
texts_same (name ∷ names) = ap (λ ns. name ∷ ns) (texts_same names)

main_texts : (names : List (List ℕ)) → map net_text (map (resolve (main_level ∷ [])) names) ≡ names
main_texts names = ap (map net_text) (main_nets (main_level ∷ []) names refl) ∙ texts_same names

module _ (inner : List Level → List ℕ → List NetElement) where
  own_elements : (number : ℕ) (elements : List PlainElement) → places_nothing elements ≡ true → map named (elements_with inner (main_level ∷ []) number elements) ≡ elements
  unfolding places_nothing elements_with
  own_elements number [] e = refl
  own_elements number (Table pins out cover ∷ elements) e = rw (main_texts pins, main_resolved out, own_elements number elements e) refl
  own_elements number (Register pin out control init ∷ elements) e = rw (main_resolved pin, main_resolved out, control_named control, own_elements number elements e) refl
  own_elements number (Instance model bindings ∷ elements) e = absurd cc

  main_names : (names : List (List ℕ)) → AreMain (map main_net names)
  main_names [] = tt
  main_names (name ∷ names) = (refl, main_names names)

  own_control : (control : Option (Edge × List ℕ)) → AreMain (control_nets (resolved_control (main_level ∷ []) control))
  own_control None = tt
  own_control (Some (edge, name)) = (ap (λ n. n.path) (main_resolved name), tt)

  own_names : (names : List (List ℕ)) → AreMain (map (resolve (main_level ∷ [])) names)
  own_names names = subst AreMain (sym (main_nets (main_level ∷ []) names refl)) (main_names names)

  own_nets : (number : ℕ) (elements : List PlainElement) → places_nothing elements ≡ true → AreMain (flat_map nets_of (elements_with inner (main_level ∷ []) number elements))
  unfolding places_nothing elements_with
  own_nets number [] e = tt
  own_nets number (Table pins out cover ∷ elements) e = join _ _ (join _ _ (own_names pins) (ap (λ n. n.path) (main_resolved out), tt)) (own_nets number elements e)
  own_nets number (Register pin out control init ∷ elements) e = (ap (λ n. n.path) (main_resolved pin), (ap (λ n. n.path) (main_resolved out), join _ _ (own_control control) (own_nets number elements e)))
  own_nets number (Instance model bindings ∷ elements) e = absurd cc

-- a net of the main model that has the text of another is the other
apart : (net other : PlacedNet) → IsMain net → IsMain other → clashes net other ≡ false
apart net other own main = go (bytes_eq (net_text other) (net_text net)) refl
  where
    go : (v : Bool) → bytes_eq (net_text other) (net_text net) ≡ v → (v && not (same_net other net)) ≡ false
    go false e = refl
    go true e =
        let texts : path_text other.path ++ other.name ≡ path_text net.path ++ net.name = (bytes_eq-Decides (net_text other) (net_text net)).0 e in
        let names : other.name ≡ net.name = ap (λ p. path_text p ++ other.name) (sym main) ∙ (texts ∙ ap (λ p. path_text p ++ net.name) own) in
        rw ((bytes_eq-Decides other.path net.path).1 (main ∙ sym own), (bytes_eq-Decides other.name net.name).1 names) refl

untaken : (before : List PlacedNet) (net : PlacedNet) → AreMain before → IsMain net → is_taken before net ≡ false
untaken [] net all own = refl
untaken (other ∷ before) net all own = rw (apart net other own all.0, untaken before net all.1 own) refl

no_clash : (before nets : List PlacedNet) → AreMain before → AreMain nets → clash_after before nets ≡ None
unfolding clash_after
no_clash before [] all own = refl
no_clash before (net ∷ nets) all own = rw (untaken before net all own.0) (no_clash (before ++ net ∷ []) nets (join before (net ∷ []) all (own.0, tt)) own.1)

-- the main model is its own flat model
pub alone_flat : (library : List PlainModel) → places_nothing (main_of library).elements ≡ true → flat_model library ≡ main_of library
unfolding flat_model flat_elements
alone_flat library e = ap (λ elements. record { name = (main_of library).name; inputs = (main_of library).inputs; outputs = (main_of library).outputs; elements = elements }) (own_elements (elements_to library (length library)) 0 (main_of library).elements e)

-- no two nets share a text
pub alone_clear : (library : List PlainModel) → places_nothing (main_of library).elements ≡ true → name_clash library ≡ None
unfolding walked flat_elements
alone_clear library e = no_clash [] (walked library) tt (join _ _ (join _ _ (main_names inner (main_of library).inputs) (own_nets inner 0 (main_of library).elements e)) (main_names inner (main_of library).outputs))
  where
    inner : List Level → List ℕ → List NetElement
    inner = elements_to library (length library)
