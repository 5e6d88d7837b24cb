-- Pins that are voted beside those of a cut, so that no label is above a bound. Nodes and pins are counted from 0.
use Rattle.std.specs.Prelude.{◌≡◌, ◌↔◌, ℕ, ◌<◌, ◌≤◌, ◌==◌, ◌&&◌, ◌||◌, Bool, true, false, List, length, slice_index}
use Rattle.tmr_base.specs.Parts.{PlainParts}
use Rattle.flat_net.specs.Net.{Net}
use Rattle.feedback_cut.specs.Inner.{ReadsInside}
use Rattle.feedback_cut.specs.Cut.{is_cut}
use Rattle.recovery_depth.specs.Walks.{is_marked}
use Rattle.recovery_depth.specs.Depths.{PlainDepths, AreDepths, is_register_at}

-- for each node whether it is a register whose pin is extra; and the labels and depths
pub record PlainExtra : Type 0 where
  pub marks : List Bool
  pub table : PlainDepths

-- pin j of node y is extra: the one pin of a marked register
abbrev pub is_extra : List Bool → ℕ → ℕ → Bool
is_extra marks y j = j == 0 && is_marked marks y

-- pin j of node y is cut or extra: of the pins that read inside their partition, these are voted
abbrev pub is_cut_or_extra : List (List Bool) → List Bool → ℕ → ℕ → Bool
is_cut_or_extra cut marks y j = is_cut cut y j || is_extra marks y j

-- node y is a register, and its pin j is uncut and reads a node of y's partition whose label is `most`
pub record ReadsMost (n : Net) (parts : PlainParts) (cut : List (List Bool)) (labels : List ℕ) (most y j : ℕ) : Type 0 where
  pub read : ℕ
  pub register : is_register_at n y ≡ true
  pub reads : ReadsInside n parts y j read
  pub uncut : is_cut cut y j ≡ false
  pub label : slice_index labels read ≡ most

-- labels and depths are those of walks through pins that are neither cut nor extra; a pin is extra exactly where it is an
-- uncut one of a register that reads a node of its own partition whose label is `most`; and no label is above `most`
pub record AreExtra (n : Net) (parts : PlainParts) (cut : List (List Bool)) (most : ℕ) (e : PlainExtra) : Type 0 where
  pub depths : AreDepths n parts (is_cut_or_extra cut e.marks) e.table
  pub exact : (y j : ℕ) → (is_extra e.marks y j ≡ true) ↔ ReadsMost n parts cut e.table.labels most y j
  pub bounded : (x : ℕ) → x < length n.nodes → slice_index e.table.labels x ≤ most
