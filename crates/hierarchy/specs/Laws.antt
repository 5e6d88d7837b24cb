-- Laws of the definitions of flat elements. Each is the only clause of a public call that does nothing.
use Rattle.std.specs.Prelude.{◌≡◌, ◌≤◌, ◌<◌, ◌^◌, ℕ, List, [], ◌∷◌, length, All}
use Rattle.blif_text.specs.Models.{PlainModel}
use Rattle.library_faults.specs.Flat.{path_text, main_level, main_of, elements_with, elements_to, flat_elements}
use Rattle.library_faults.specs.Sound.{IsSound}

-- paths of the same text are the same. Each number is that of a statement of a model, of which none holds 2^64.
abbrev pub PathsDiffer : Type 0
PathsDiffer = (a b : List ℕ) → All (λ number. number < 2 ^ 64) a → All (λ number. number < 2 ^ 64) b → path_text a ≡ path_text b → a ≡ b

-- a sound library has no more models below one another than it has models: a greater depth gives the same flat elements
abbrev pub DepthSuffices : Type 0
DepthSuffices = (library : List PlainModel) (depth : ℕ) → IsSound library → length library ≤ depth
    → elements_with (elements_to library depth) (main_level ∷ []) 0 (main_of library).elements ≡ flat_elements library
