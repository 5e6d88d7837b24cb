-- Elements that are passed one by one.
use Rattle.std.proofs.Common.{◌≡◌, ℕ, List, [], ◌∷◌, ◌++◌, map, sym, ap, ◌∙◌, subst, append_assoc, Option}
use Rattle.std.specs.Prelude.{flat_map}
use Rattle.std.proofs.lemmas.List.{map-append}
use Rattle.std.proofs.lemmas.Grind.{flat_map-append}
use Rattle.blif_text.specs.declared.library.Element.{Element}
use Rattle.blif_text.specs.Views.{plain_element}
use Rattle.hierarchy.specs.declared.walking.naming.NamingFault.{NamingFault}
use Rattle.hierarchy.specs.declared.walking.naming.NamingFault.TheVariants.{Clash, Memory}
use Rattle.library_faults.specs.Flat.{NetElement, named}
use Rattle.hierarchy.specs.Clash.{nets_of}
use Rattle.hierarchy.specs.Private.Naming.{AreNamed, Clashes, IsNamingFault}
use Rattle.hierarchy.proofs.NetNames.{named_join, clash_join, clash_more}

pub split_more : (passed placed rest before whole : List NetElement) → before ≡ placed ++ rest → passed ++ before ≡ whole → (passed ++ placed) ++ rest ≡ whole
split_more passed placed rest before whole e so_far = append_assoc passed placed rest ∙ (ap (λ r. passed ++ r) (sym e) ∙ so_far)

pub found_more : (items : List Element) (element : Element) (passed placed : List NetElement) → map plain_element items ≡ map named passed → plain_element element ∷ [] ≡ map named placed → map plain_element (items ++ element ∷ []) ≡ map named (passed ++ placed)
found_more items element passed placed e f = map-append plain_element items (element ∷ []) ∙ (ap (λ r. r ++ plain_element element ∷ []) e ∙ (ap (λ r. map named passed ++ r) f ∙ sym (map-append named passed placed)))

pub named_passed : (a b c : List ℕ → Option ℕ) (passed placed : List NetElement) → AreNamed a b (flat_map nets_of passed) → AreNamed b c (flat_map nets_of placed) → AreNamed a c (flat_map nets_of (passed ++ placed))
named_passed a b c passed placed f g = subst (AreNamed a c) (sym (flat_map-append nets_of passed placed)) (named_join a b c (flat_map nets_of passed) (flat_map nets_of placed) f g)

pub fault_passed : (a b : List ℕ → Option ℕ) (passed placed rest before whole : List NetElement) (fault : NamingFault) → before ≡ placed ++ rest → passed ++ before ≡ whole → AreNamed a b (flat_map nets_of passed) → IsNamingFault b (flat_map nets_of placed) fault → IsNamingFault a (flat_map nets_of whole) fault
fault_passed a b passed placed rest before whole Memory e so_far f g = tt
fault_passed a b passed placed rest before whole (Clash text) e so_far f g =
    subst (λ nets. Clashes a nets text) nets (clash_join a b (flat_map nets_of passed) (flat_map nets_of placed ++ flat_map nets_of rest) text f (clash_more b (flat_map nets_of placed) (flat_map nets_of rest) text g))
  where
    nets : flat_map nets_of passed ++ (flat_map nets_of placed ++ flat_map nets_of rest) ≡ flat_map nets_of whole
    nets = ap (λ r. flat_map nets_of passed ++ r) (sym (flat_map-append nets_of placed rest) ∙ ap (flat_map nets_of) (sym e)) ∙ (sym (flat_map-append nets_of passed before) ∙ ap (flat_map nets_of) so_far)
