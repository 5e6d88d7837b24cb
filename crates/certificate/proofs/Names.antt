-- Bytes that are no name are the name of no net, and a node's name is that of no other.
use Rattle.std.proofs.Common.{◌≡◌, ℕ, true, false, List, [], length, get_or, Option, Some, None, Ok, refl, ap, ◌∙◌, arith}
use Rattle.std.specs.Str.{bytes_eq}
use Rattle.std.proofs.lemmas.List.Quantifiers.{position-Some}
use Rattle.std.proofs.lemmas.Slice.Eq.{bytes_eq-Decides}
use Rattle.std.proofs.lemmas.List.{length-append, length-map}
use Rattle.tmr_base.specs.Names.{is_name}
use Rattle.flat_net.specs.Net.{Net, IsValid, net_names, net_named, net_count, name_of}
use Rattle.certificate.specs.Plain.{IsNode}
use Rattle.certificate.specs.Folding.{known, voted}
use Rattle.certificate.proofs.Again.{known_again, voted_again}

names_long : (n : Net) → length (net_names n) ≡ net_count n
names_long n = simp (length-append, length-map)

no_name : (n : Net) (name : List ℕ) (o : Option ℕ) → IsValid n → net_named n name ≡ o → is_name name ≡ false → o ≡ None
unfolding net_named
no_name n name None valid e bad = refl
no_name n name (Some x) valid e bad =
    let p = position-Some (bytes_eq name) (net_names n) x [] e in
    let same : name ≡ get_or (net_names n) x [] = (bytes_eq-Decides name (get_or (net_names n) x [])).0 p.1 in
    let good : is_name (get_or (net_names n) x []) ≡ true = valid.unordered.names_are_names x (omega (arith, names_long n, p.0)) in
    absurd (cc (ap is_name same, good, bad))

pub not_named : (n : Net) (name : List ℕ) → IsValid n → is_name name ≡ false → net_named n name ≡ None
not_named n name valid bad = no_name n name (net_named n name) valid refl bad

pub ruleset names = (not_named)

-- a node that has the name is the one that is found

pub known_by_name : (n : Net) (name : List ℕ) (x line : ℕ) → IsValid n → IsNode n x → name ≡ name_of n x → known n name line ≡ Ok x
known_by_name n name x line valid node e = ap (λ w. known n w line) e ∙ known_again n x line valid node

pub voted_by_name : (version : ℕ) (n : Net) (name : List ℕ) (x line : ℕ) → IsValid n → IsNode n x → name ≡ name_of n x → voted version n name line ≡ Ok x
voted_by_name version n name x line valid node e = ap (λ w. voted version n w line) e ∙ voted_again version n x line valid (λ _. node.0, node.1)
