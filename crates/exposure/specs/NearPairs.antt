-- Pairs of strikes that are too near, and how many there are. A strike is a net and a cycle. k is the certificate of a hardened design.
use Rattle.std.specs.Prelude.{◌≡◌, ℕ, ◌<◌, ◌≤◌, ◌⊎◌, ◌↔◌, false, List, [], ◌∷◌, length, Contains}
use Rattle.tmr_base.specs.declared.ids.Upset.{Upset}
use Rattle.tmr_base.specs.Copies.{copy_number}
use Rattle.certificate.specs.Cert.{PlainCert}
use Rattle.exposure.specs.TooNear.{AreTooNear}

-- nothing stands twice in the list: its first is none of the others, and of these none stands twice
abbrev pub HasNoneTwice : {A : Type 0} → List A → Type 0
HasNoneTwice [] = Unit {0}
HasNoneTwice (x ∷ xs) = (Contains xs x → ⊥) × HasNoneTwice xs

-- so many things are P: a list has each of them, none twice, and nothing else
pub record AreSoMany {A : Type 0} (P : A → Type 0) (count : ℕ) : Type 0 where
  pub items : List A
  pub once : HasNoneTwice items
  pub exact : (x : A) → Contains items x ↔ P x
  pub long : length items ≡ count

-- two strikes: the nets that are struck, and the cycles
pub record Strikes : Type 0 where
  pub one : ℕ
  pub other : ℕ
  pub one_cycle : ℕ
  pub other_cycle : ℕ

-- an upset of this net in this cycle. Its value plays no part
abbrev pub strike : ℕ → ℕ → Upset
strike h t = record { cycle = t; net = record { 0 = h }; value = false }

-- in version 1 no input is struck
abbrev pub MayBeStruck : PlainCert → ℕ → Type 0
MayBeStruck k h = k.version ≡ 1 → k.hardened_inputs ≤ h

-- Two strikes are too near. Each such pair is told once: the strike of the lower copy stands first, and the earlier strike is in cycle 0,
-- so that of the cycles the distance alone counts.
pub record AreNear (k : PlainCert) (s : Strikes) : Type 0 where
  pub near : AreTooNear k (strike s.one s.one_cycle) (strike s.other s.other_cycle)
  pub in_order : copy_number near.one < copy_number near.other
  pub one_may : MayBeStruck k s.one
  pub other_may : MayBeStruck k s.other
  pub begins : (s.one_cycle ≡ 0) ⊎ (s.other_cycle ≡ 0)
