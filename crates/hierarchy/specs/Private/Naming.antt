-- Texts that are given to nets.
use Rattle.std.specs.Prelude.{◌≡◌, ◌⊎◌, ◌<◌, ◌^◌, ℕ, Bool, List, [], ◌∷◌, ◌++◌, length, find, All, Option, Some, option_map}
use Rattle.std.specs.Str.{bytes_eq}
use Rattle.library_faults.specs.Flat.{PlacedNet, net_text}
use Rattle.hierarchy.specs.Clash.{clash_after, name_clash}
use Rattle.blif_text.specs.Models.{PlainModel}
use Rattle.hierarchy.specs.declared.walking.naming.NamingFault.{NamingFault}
use Rattle.hierarchy.specs.declared.walking.naming.NamingFault.TheVariants.{Clash, Memory}

-- these may be numbers of statements, of which no model holds 2^64
abbrev pub AreSmall : List ℕ → Type 0
AreSmall path = All (λ number. number < 2 ^ 64) path

abbrev pub path_length : PlacedNet → ℕ
path_length net = length net.path

abbrev pub has_text : List ℕ → PlacedNet → Bool
has_text text net = bytes_eq (net_text net) text

-- the net is one of these
abbrev pub Among : PlacedNet → List PlacedNet → Type 0
Among net [] = ⊥
Among net (other ∷ nets) = (other ≡ net) ⊎ Among net nets

-- each text has the length of the path of the net that has it, and no two nets share one
pub record IsNamed (look : List ℕ → Option ℕ) (seen : List PlacedNet) : Type 0 where
  pub small : (net : PlacedNet) → Among net seen → AreSmall net.path
  pub apart : (a b : PlacedNet) → Among a seen → Among b seen → net_text a ≡ net_text b → a ≡ b
  pub first : (text : List ℕ) → look text ≡ option_map path_length (find (has_text text) seen)

-- the nets are named behind those before them, and none of them clashes
pub record AreNamed (old new : List ℕ → Option ℕ) (nets : List PlacedNet) : Type 0 where
  pub named : (seen : List PlacedNet) → IsNamed old seen → IsNamed new (seen ++ nets)
  pub clear : (seen rest : List PlacedNet) → IsNamed old seen → clash_after seen (nets ++ rest) ≡ clash_after (seen ++ nets) rest

-- one of the nets clashes, behind those before them, and this is its text
pub record Clashes (old : List ℕ → Option ℕ) (nets : List PlacedNet) (text : List ℕ) : Type 0 where
  pub clash : (seen rest : List PlacedNet) → IsNamed old seen → clash_after seen (nets ++ rest) ≡ Some text

abbrev pub IsNamingFault : (List ℕ → Option ℕ) → List PlacedNet → NamingFault → Type 0
IsNamingFault old nets (Clash text) = Clashes old nets text
IsNamingFault old nets Memory = Unit {0}

-- the first text that an earlier different net has
abbrev pub IsClash : List PlainModel → NamingFault → Type 0
IsClash library (Clash text) = name_clash library ≡ Some text
IsClash library Memory = Unit {0}
