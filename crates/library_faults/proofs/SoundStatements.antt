-- What statements without a fault keep.
use Rattle.std.proofs.Common.{◌≡◌, ℕ, zero, suc, Bool, true, false, cond, ◌||◌, not, List, [], ◌∷◌, ◌++◌, map, refl, sym, ap, subst, ◌∙◌, Option, Some, None}
use Rattle.std.specs.Prelude.{All, slice_get, option_and_then}
use Rattle.std.specs.Str.{bytes_eq}
use Rattle.std.proofs.lemmas.List.Elements.{All-cons, All-nil}
use Rattle.std.proofs.lemmas.List.Folds.{list_any-append}
use Rattle.std.proofs.lemmas.Slice.Eq.{bytes_eq-Decides}
use Rattle.blif_text.specs.Kind.{is_among}
use Rattle.blif_text.specs.Models.{PlainElement, Instance, PlainModel}
use Rattle.library_faults.specs.declared.fault.PlacingFault.{PlacingFault}
use Rattle.library_faults.specs.declared.fault.PlacingFault.TheVariants.{UnknownFormal, DuplicateFormal}
use Rattle.library_faults.specs.Graph.{names_of, number_named}
use Rattle.library_faults.specs.Ports.{PlainPorts, ports_of}
use Rattle.library_faults.specs.Faults.{◌or_else◌, both_ways, formal_fault, formals_fault, known_fault, placing_fault, element_fault, elements_fault, unbound_input, formal_of}
use Rattle.library_faults.specs.Flat.{actual_of}
use Rattle.library_faults.specs.Private.Counts.{AreApart}
use Rattle.library_faults.proofs.Additions.{eq_other}

both_none : (a b : Option PlacingFault) → (a or_else b) ≡ None → (a ≡ None) × (b ≡ None)
both_none None b e = (refl, e)
both_none (Some fault) b e = absurd cc

pub each_faultless : (names : List (List ℕ)) (ports : List PlainPorts) (elements : List PlainElement) → elements_fault names ports elements ≡ None → All (λ e. element_fault names ports e ≡ None) elements
unfolding elements_fault
each_faultless names ports [] none = All-nil (λ e. element_fault names ports e ≡ None)
each_faultless names ports (e ∷ elements) none = let both = both_none (element_fault names ports e) (elements_fault names ports elements) none in All-cons (λ e. element_fault names ports e ≡ None) e elements both.0 (each_faultless names ports elements both.1)

-- a formal without a fault
formal_known : (p : PlainPorts) (bound : List (List ℕ)) (formal : List ℕ) → formal_fault p bound formal ≡ None → ((is_among p.inputs formal || is_among p.outputs formal) ≡ true) × (is_among bound formal ≡ false)
unfolding formal_fault
formal_known p bound formal none = go (is_among p.inputs formal || is_among p.outputs formal) (is_among bound formal) none
  where
    go : (known taken : Bool) → cond (not known) (Some (UnknownFormal formal)) (cond taken (Some (DuplicateFormal formal)) None) ≡ None → (known ≡ true) × (taken ≡ false)
    go true false e = (refl, refl)
    go true true e = absurd cc
    go false taken e = absurd cc

-- formals that are bound stand nowhere behind
bound_absent : (p : PlainPorts) (bound formals : List (List ℕ)) (name : List ℕ) → formals_fault p bound formals ≡ None → is_among bound name ≡ true → is_among formals name ≡ false
unfolding formals_fault
bound_absent p bound [] name none there = refl
bound_absent p bound (formal ∷ formals) name none there =
    let both = both_none (formal_fault p bound formal) (formals_fault p (bound ++ formal ∷ []) formals) none in
    let known = formal_known p bound formal both.0 in
    let other : bytes_eq name formal ≡ false = eq_other name formal (λ same. (let taken : is_among bound formal ≡ true = subst (λ n. is_among bound n ≡ true) same there in let free : is_among bound formal ≡ false = known.1 in cc)) in
    let longer : is_among (bound ++ formal ∷ []) name ≡ true = list_any-append (bytes_eq name) bound (formal ∷ []) ∙ ap (λ t. t || (bytes_eq name formal || false)) there in
    ap (λ t. t || is_among formals name) other ∙ bound_absent p (bound ++ formal ∷ []) formals name both.1 longer

last_there : (bound : List (List ℕ)) (formal : List ℕ) → is_among (bound ++ formal ∷ []) formal ≡ true
last_there bound formal = list_any-append (bytes_eq formal) bound (formal ∷ []) ∙ (ap (λ t. is_among bound formal || (t || false)) ((bytes_eq-Decides formal formal).1 refl) ∙ always (is_among bound formal))
  where
    always : (t : Bool) → (t || true) ≡ true
    always true = refl
    always false = refl

pub are_apart : (p : PlainPorts) (bound : List (List ℕ)) (bindings : List (List ℕ × List ℕ)) → formals_fault p bound (map formal_of bindings) ≡ None → AreApart bindings
unfolding formals_fault
are_apart p bound [] none = tt
are_apart p bound (b ∷ bindings) none =
    let both = both_none (formal_fault p bound b.0) (formals_fault p (bound ++ b.0 ∷ []) (map formal_of bindings)) none in
    (bound_absent p (bound ++ b.0 ∷ []) (map formal_of bindings) b.0 both.1 (last_there bound b.0), are_apart p (bound ++ b.0 ∷ []) bindings both.1)

-- what is no port is not bound
pub ports_alone : (p : PlainPorts) (bound : List (List ℕ)) (bindings : List (List ℕ × List ℕ)) (name : List ℕ) → formals_fault p bound (map formal_of bindings) ≡ None → (is_among p.inputs name || is_among p.outputs name) ≡ false → actual_of bindings name ≡ None
unfolding formals_fault actual_of
ports_alone p bound [] name none no_port = refl
ports_alone p bound (b ∷ bindings) name none no_port =
    let both = both_none (formal_fault p bound b.0) (formals_fault p (bound ++ b.0 ∷ []) (map formal_of bindings)) none in
    let known = formal_known p bound b.0 both.0 in
    let other : bytes_eq name b.0 ≡ false = eq_other name b.0 (λ same. (let port : (is_among p.inputs name || is_among p.outputs name) ≡ true = subst (λ n. (is_among p.inputs n || is_among p.outputs n) ≡ true) (sym same) known.0 in cc)) in
    ap (λ t. cond t (Some b.1) (actual_of bindings name)) other ∙ ports_alone p (bound ++ b.0 ∷ []) bindings name both.1 no_port

formals_clear : (p : PlainPorts) (formals : List (List ℕ)) → known_fault p formals ≡ None → formals_fault p [] formals ≡ None
unfolding known_fault
formals_clear p formals none = (both_none (formals_fault p [] formals) (unbound_input p formals) (both_none (both_ways p) (formals_fault p [] formals or_else unbound_input p formals) none).1).0

-- a statement without a fault places a model that is there, and binds its ports, none twice
pub record IsSoundPlacing (library : List PlainModel) (model : List ℕ) (bindings : List (List ℕ × List ℕ)) : Type 0 where
  pub number : ℕ
  pub placed : PlainModel
  pub named : number_named (names_of library) model ≡ Some number
  pub there : slice_get library number ≡ Some placed
  pub apart : AreApart bindings
  pub alone : (name : List ℕ) → (is_among placed.inputs name || is_among placed.outputs name) ≡ false → actual_of bindings name ≡ None

ports_at : (library : List PlainModel) (y : ℕ) (p : PlainPorts) → slice_get (map ports_of library) y ≡ Some p → (m : PlainModel) × (slice_get library y ≡ Some m) × (p ≡ ports_of m)
ports_at [] y p e = absurd cc
ports_at (m ∷ models) zero p e = (m, refl, (let same : p ≡ ports_of m = cc in same))
ports_at (m ∷ models) (suc y) p e = ports_at models y p e

pub placing_sound : (library : List PlainModel) (model : List ℕ) (bindings : List (List ℕ × List ℕ)) → element_fault (names_of library) (map ports_of library) (Instance model bindings) ≡ None → IsSoundPlacing library model bindings
placing_sound library model bindings none = by_number (number_named (names_of library) model) refl none
  where
    known : (y : ℕ) (p : PlainPorts) → number_named (names_of library) model ≡ Some y → slice_get (map ports_of library) y ≡ Some p → known_fault p (map formal_of bindings) ≡ None → IsSoundPlacing library model bindings
    known y p e f clear = go (ports_at library y p f)
      where
        go : (m : PlainModel) × (slice_get library y ≡ Some m) × (p ≡ ports_of m) → IsSoundPlacing library model bindings
        go (m, at, is) =
            let formals : formals_fault (ports_of m) [] (map formal_of bindings) ≡ None = subst (λ q. formals_fault q [] (map formal_of bindings) ≡ None) is (formals_clear p (map formal_of bindings) clear) in
            record { number = y; placed = m; named = e; there = at; apart = are_apart (ports_of m) [] bindings formals; alone = λ name no_port. ports_alone (ports_of m) [] bindings name formals no_port }

    by_ports : (y : ℕ) (o : Option PlainPorts) → number_named (names_of library) model ≡ Some y → slice_get (map ports_of library) y ≡ o → placing_fault model o (map formal_of bindings) ≡ None → IsSoundPlacing library model bindings
    by_ports y None e f clear = absurd cc
    by_ports y (Some p) e f clear = known y p e f clear

    by_number : (o : Option ℕ) → number_named (names_of library) model ≡ o → placing_fault model (option_and_then (slice_get (map ports_of library)) o) (map formal_of bindings) ≡ None → IsSoundPlacing library model bindings
    by_number None e clear = absurd cc
    by_number (Some y) e clear = by_ports y (slice_get (map ports_of library) y) e refl clear
