-- The flat model put together.
use Rattle.std.proofs.Common.{◌≡◌, ℕ, List, [], ◌∷◌, ◌++◌, map, refl, sym, ap, ◌∙◌, subst, append_assoc, append-nil, Option, None}
use Rattle.std.specs.Prelude.{flat_map}
use Rattle.std.specs.Str.{bytes_eq}
use Rattle.std.specs.Map.{lookup}
use Rattle.blif_text.specs.Models.{PlainElement, PlainModel}
use Rattle.hierarchy.specs.declared.walking.naming.NamingFault.{NamingFault}
use Rattle.hierarchy.specs.declared.walking.naming.NamingFault.TheVariants.{Clash, Memory}
use Rattle.hierarchy.specs.declared.walking.walk.Walk.{Walk}
use Rattle.library_faults.specs.Flat.{Level, resolve, actual_of, main_level, main_of, named, net_text, flat_elements, flat_model}
use Rattle.hierarchy.specs.Clash.{nets_of, main_net, walked, clash_after, name_clash}
use Rattle.hierarchy.specs.Private.Naming.{AreNamed, IsNamingFault, IsNamed, IsClash}
use Rattle.hierarchy.specs.Private.Walk.{levels_of, level_of, innermost_first}
use Rattle.hierarchy.proofs.NetNames.{named_join, clash_join}

-- names of the main model are nets of their own
pub main_resolved : (name : List ℕ) → resolve (main_level ∷ []) name ≡ main_net name
unfolding resolve actual_of
main_resolved name = refl

map_same : {X Y : Type 0} (f g : X → Y) → ((x : X) → f x ≡ g x) → (xs : List X) → map f xs ≡ map g xs
map_same f g e [] = refl
map_same f g e (x ∷ xs) = let h : f x ≡ g x = e x in let t : map f xs ≡ map g xs = map_same f g e xs in cc

pub main_levels : (library : List PlainModel) (w : Walk) → innermost_first w ≡ record { model = 0; next = 0; number = 0; placing = None; path_end = 0 } ∷ [] → levels_of library w ≡ main_level ∷ []
main_levels library w e = ap (map (level_of library w.path.items)) e

pub main_nets : (levels : List Level) (names : List (List ℕ)) → levels ≡ main_level ∷ [] → map (resolve levels) names ≡ map main_net names
main_nets levels names e = ap (λ ls. map (resolve ls) names) e ∙ map_same (resolve (main_level ∷ [])) main_net main_resolved names

texts_same : (names : List (List ℕ)) → map net_text (map main_net names) ≡ names
texts_same [] = refl
texts_same (name ∷ names) = ap (λ ns. name ∷ ns) (texts_same names)

pub main_texts : (levels : List Level) (names : List (List ℕ)) → levels ≡ main_level ∷ [] → map net_text (map (resolve levels) names) ≡ names
main_texts levels names e = ap (map net_text) (main_nets levels names e) ∙ texts_same names

-- all nets are named
pub all_named : (library : List PlainModel) (a b c d : List ℕ → Option ℕ) → IsNamed a [] → AreNamed a b (map main_net (main_of library).inputs) → AreNamed b c (flat_map nets_of (flat_elements library)) → AreNamed c d (map main_net (main_of library).outputs) → name_clash library ≡ None
unfolding walked clash_after
all_named library a b c d none f g h =
    let all : AreNamed a d ((map main_net (main_of library).inputs ++ flat_map nets_of (flat_elements library)) ++ map main_net (main_of library).outputs) = named_join a c d (map main_net (main_of library).inputs ++ flat_map nets_of (flat_elements library)) (map main_net (main_of library).outputs) (named_join a b c (map main_net (main_of library).inputs) (flat_map nets_of (flat_elements library)) f g) h in
    ap (clash_after []) (sym (append-nil ((map main_net (main_of library).inputs ++ flat_map nets_of (flat_elements library)) ++ map main_net (main_of library).outputs))) ∙ all.clear [] [] none

module _ (library : List PlainModel) (a b c : List ℕ → Option ℕ) (none : IsNamed a []) where
  pub input_fault : (fault : NamingFault) → IsNamingFault a (map main_net (main_of library).inputs) fault → IsClash library fault
  unfolding walked
  input_fault Memory f = tt
  input_fault (Clash text) f = ap (clash_after []) (append_assoc (map main_net (main_of library).inputs) _ _) ∙ f.clash [] (flat_map nets_of (flat_elements library) ++ map main_net (main_of library).outputs) none

  pub element_fault : (fault : NamingFault) → AreNamed a b (map main_net (main_of library).inputs) → IsNamingFault b (flat_map nets_of (flat_elements library)) fault → IsClash library fault
  unfolding walked
  element_fault Memory f g = tt
  element_fault (Clash text) f g = (clash_join a b (map main_net (main_of library).inputs) (flat_map nets_of (flat_elements library)) text f g).clash [] (map main_net (main_of library).outputs) none

  pub output_fault : (fault : NamingFault) → AreNamed a b (map main_net (main_of library).inputs) → AreNamed b c (flat_map nets_of (flat_elements library)) → IsNamingFault c (map main_net (main_of library).outputs) fault → IsClash library fault
  unfolding walked
  output_fault Memory f g h = tt
  output_fault (Clash text) f g h = ap (clash_after []) (sym (append-nil ((map main_net (main_of library).inputs ++ flat_map nets_of (flat_elements library)) ++ map main_net (main_of library).outputs))) ∙ (clash_join a c (map main_net (main_of library).inputs ++ flat_map nets_of (flat_elements library)) (map main_net (main_of library).outputs) text (named_join a b c (map main_net (main_of library).inputs) (flat_map nets_of (flat_elements library)) f g) h).clash [] [] none

pub whole_model : (library : List PlainModel) (name : List ℕ) (inputs outputs : List (List ℕ)) (elements : List PlainElement) → name ≡ (main_of library).name → inputs ≡ (main_of library).inputs → outputs ≡ (main_of library).outputs → elements ≡ map named (flat_elements library) → record { name = name; inputs = inputs; outputs = outputs; elements = elements } ≡ flat_model library
unfolding flat_model
whole_model library name inputs outputs elements a b c d = rw (a, b, c, d) refl

-- ports, in the words of the walk's contract
pub ports_named : (library : List PlainModel) (w : Walk) (a b : List ℕ → Option ℕ) (names : List (List ℕ)) → innermost_first w ≡ record { model = 0; next = 0; number = 0; placing = None; path_end = 0 } ∷ [] → AreNamed a b (map (resolve (levels_of library w)) names) → AreNamed a b (map main_net names)
ports_named library w a b names e n = subst (AreNamed a b) (main_nets (levels_of library w) names (main_levels library w e)) n

pub ports_fault : (library : List PlainModel) (w : Walk) (a : List ℕ → Option ℕ) (names : List (List ℕ)) (fault : NamingFault) → innermost_first w ≡ record { model = 0; next = 0; number = 0; placing = None; path_end = 0 } ∷ [] → IsNamingFault a (map (resolve (levels_of library w)) names) fault → IsNamingFault a (map main_net names) fault
ports_fault library w a names fault e n = subst (λ nets. IsNamingFault a nets fault) (main_nets (levels_of library w) names (main_levels library w e)) n

pub ports_texts : (library : List PlainModel) (w : Walk) (names : List (List ℕ)) (found : List (List ℕ)) → innermost_first w ≡ record { model = 0; next = 0; number = 0; placing = None; path_end = 0 } ∷ [] → found ≡ map net_text (map (resolve (levels_of library w)) names) → found ≡ names
ports_texts library w names found e n = n ∙ main_texts (levels_of library w) names (main_levels library w e)

pub ruleset port_laws = (ports_named, ports_fault, ports_texts)

pub none_at_first : (entries : List (List ℕ × ℕ)) → entries ≡ [] → IsNamed (λ text. lookup (bytes_eq text) entries) []
none_at_first entries e = record { small = λ net a. absurd a; apart = λ a b x y s. absurd x; first = λ text. ap (λ es. lookup (bytes_eq text) es) e }
