-- Where longest chains end, and how they are read backwards.
use Rattle.std.specs.Prelude.{◌≡◌, ◌≢◌, ℕ, zero, suc, ◌<◌, Bool, List, [], ◌∷◌, ◌++◌, length, map, Option, Some, None, slice_get, slice_index}
use Rattle.std.specs.List.{range_with_len}
use Rattle.tmr_base.specs.Parts.{PlainParts}
use Rattle.flat_net.specs.Net.{Net}
use Rattle.flat_net.specs.Nodes.{number_of}
use Rattle.certificate.specs.declared.role.Role.{Role}
use Rattle.certificate.specs.declared.role.Role.TheVariants.{Copy, Voter}
use Rattle.certificate.specs.Cert.{PlainCert, part_of}
use Rattle.recovery_depth.specs.declared.depth_and_chain.Deep.{Deep}
use Rattle.recovery_depth.specs.Hardened.{role_at}
use Rattle.recovery_depth.specs.Private.LastRegisters.{number_at, last_of}

abbrev pub part_or_zero : Option ℕ → ℕ
part_or_zero None = 0
part_or_zero (Some p) = p

-- the partition of a copy's original, or for which a voter votes
abbrev pub place_of : PlainCert → Option Role → ℕ
place_of k None = 0
place_of k (Some (Copy x c)) = part_or_zero (part_of k x.0)
place_of k (Some (Voter x p c)) = p.0

abbrev pub place_at : Net → PlainCert → ℕ → ℕ
place_at h k g = place_of k (role_at h k g)

abbrev pub places_of : Net → PlainCert → List ℕ
places_of h k = map (place_at h k) (range_with_len 0 (length h.nodes))

-- the original of a copy
abbrev pub original_in : Option Role → ℕ
original_in None = 0
original_in (Some (Copy x c)) = x.0
original_in (Some (Voter x p c)) = 0

abbrev pub original_at : Net → PlainCert → ℕ → ℕ
original_at h k g = original_in (role_at h k g)

abbrev pub originals_of : Net → PlainCert → List ℕ
originals_of h k = map (original_at h k) (range_with_len 0 (length h.nodes))

-- the last register of one of the first k vertices of partition p whose reach is the partition's depth; there is none only where none has one
pub record AreChainEnds (parts : PlainParts) (reaches depths : List ℕ) (bits : List Bool) (before : List ℕ) (none k : ℕ) (ends : List ℕ) : Type 0 where
  pub long : length ends ≡ parts.count
  pub some : (p : ℕ) → p < parts.count → number_at ends p ≢ none
      → (g : ℕ) × (g < k) × (slice_index parts.of g ≡ p) × (number_at reaches g ≡ number_at depths p) × (last_of bits before g ≡ number_at ends p)
  pub all : (g : ℕ) → g < k → number_at reaches g ≡ number_at depths (slice_index parts.of g) → last_of bits before g ≢ none
      → number_at ends (slice_index parts.of g) ≢ none

-- so many registers that end in x, each the one before the next
unfoldable pub walked : List ℕ → ℕ → ℕ → List ℕ
walked before zero x = []
walked before (suc d) x = walked before d (number_at before x) ++ x ∷ []

-- the chain of partition p is read backwards from its top
pub record IsRead (before originals ends depths : List ℕ) (p : ℕ) (d : Deep) : Type 0 where
  pub depth : d.depth ≡ number_at depths p
  pub chain : map number_of d.chain.items ≡ map (number_at originals) (walked before (number_at depths p) (number_at ends p))

abbrev pub AreRead : List ℕ → List ℕ → List ℕ → List ℕ → List Deep → Type 0
AreRead before originals ends depths deeps = (p : ℕ) (d : Deep) → slice_get deeps p ≡ Some d → IsRead before originals ends depths p d
