-- Steps of reading.
use Rattle.std.specs.Prelude.{◌≡◌, ℕ, ◌+◌, ◌<◌, ◌≤◌, Bool, List, [], ◌∷◌, ◌++◌, Some, Ok, Result, All, Contains, length}
use Rattle.std.specs.BTreeMap as tree
use Rattle.std.specs.BTreeMap.{BTreeMap}
use Rattle.tmr_base.specs.declared.ids.Upset.{Upset}
use Rattle.flat_net.specs.Net.{Net, net_count}
use Rattle.net_meaning.specs.Meaning.{upset_at}
use Rattle.toml.specs.Data.{Data}
use Rattle.schedules.specs.declared.fault.ScheduleFault.{ScheduleFault}
use Rattle.schedules.specs.Document.{row_of, row_or_fault, entry_of, upset_of, listed_upsets, and_then}
use Rattle.schedules.specs.Private.Entries.{Holds, place_cmp}
use Rattle.schedules.specs.Schedule.{PlainSchedule}

-- the earlier upsets and those that the entries are, counted from j
abbrev pub upsets_from : ℕ → Net → ℕ → ℕ → List Upset → List Data → Result (List Upset) ScheduleFault
upsets_from version h cycles j earlier [] = Ok earlier
upsets_from version h cycles j earlier (d ∷ ds) =
    and_then (upset_of version h cycles j earlier (entry_of d)) (λ u. upsets_from version h cycles (j + 1) (earlier ++ u ∷ []) ds)

-- the earlier rows and those that the entries are, counted from t
abbrev pub rows_from : ℕ → ℕ → List (List Bool) → List Data → Result (List (List Bool)) ScheduleFault
rows_from width t earlier [] = Ok earlier
rows_from width t earlier (d ∷ ds) = and_then (row_or_fault t (row_of width d)) (λ row. rows_from width (t + 1) (earlier ++ row ∷ []) ds)

-- the row that the value is stands behind the others
pub record PushesRow (width : ℕ) (d : Data) (old new : PlainSchedule) : Type 0 where
  pub row : List Bool
  pub is_row : row_of width d ≡ Some row
  pub pushed : new ≡ record old { rows = old.rows ++ row ∷ [] }

-- a net of the design, and in version 1 a node
abbrev pub CanBeStruck : ℕ → Net → ℕ → Type 0
CanBeStruck version h x = (version ≡ 1 → length h.inputs ≤ x) × (x < net_count h)

-- no two upsets strike one net in one cycle
abbrev pub AreDistinct : List Upset → Type 0
AreDistinct us = (u : Upset) → Contains us u → upset_at us u.cycle u.net.0 ≡ Some u.value

-- the upsets that the entries write, and nothing else; each is of a net of h and of some cycle
pub record ListsUpsets (version : ℕ) (h : Net) (cycles : ℕ) (ds : List Data) (m : BTreeMap (ℕ × ℕ) Bool) : Type 0 where
  pub upsets : List Upset
  pub listed : listed_upsets version h cycles ds ≡ Ok upsets
  pub holds : Holds m upsets
  pub count : length m.entries ≡ length upsets
  pub long : length m.entries ≡ length ds
  pub ordered : tree.IsOrdered place_cmp m
  pub range : All (λ k. k.0 < cycles) (tree.keys m)
  pub nets : All (λ k. CanBeStruck version h k.1) (tree.keys m)
  pub distinct : AreDistinct upsets

-- the upsets of the first entries, so that reading goes on with the rest
pub record HasListed (version : ℕ) (h : Net) (cycles : ℕ) (ds rest : List Data) (j : ℕ) (m : BTreeMap (ℕ × ℕ) Bool) : Type 0 where
  pub upsets : List Upset
  pub listed : upsets_from version h cycles j upsets rest ≡ listed_upsets version h cycles ds
  pub holds : Holds m upsets
  pub count : length m.entries ≡ length upsets
  pub long : length m.entries ≡ j
  pub ordered : tree.IsOrdered place_cmp m
  pub range : All (λ k. k.0 < cycles) (tree.keys m)
  pub nets : All (λ k. CanBeStruck version h k.1) (tree.keys m)
  pub distinct : AreDistinct upsets
