-- The schedule that a number gives for a hardened design. k is its certificate.
use Rattle.std.specs.Prelude.{◌≡◌, ℕ, zero, suc, ◌+◌, ◌==◌, ◌⊎◌, Bool, List, [], ◌∷◌, ◌++◌, map, length, Option, Some, None, if◌then◌else◌}
use Rattle.std.specs.List.{range_with_len}
use Rattle.tmr_base.specs.declared.ids.Upset.{Upset}
use Rattle.flat_net.specs.Net.{Net}
use Rattle.certificate.specs.Cert.{PlainCert}
use Rattle.certificate.specs.Schedules.{Allowed}
use Rattle.schedules.specs.Schedule.{PlainSchedule}
use Rattle.tmr_trial.specs.Numbers.{state_after, draw}

-- a cycle draws a bit for each input of the original, and where there are hardened nodes a node and its value
abbrev pub cycle_draws : Net → Net → ℕ
cycle_draws n h = if length h.nodes == 0 then length n.inputs else suc (suc (length n.inputs))

-- the state before cycle t, where `number` is that before the first
unfoldable pub state_before : Net → Net → ℕ → ℕ → ℕ
state_before n h number zero = number
state_before n h number (suc t) = state_after (cycle_draws n h) (state_before n h number t)

-- the inputs of a cycle, drawn behind state s
abbrev pub row_drawn : ℕ → ℕ → List Bool
row_drawn inputs s = map (λ i. draw s i 2 == 1) (range_with_len 0 inputs)

-- the upset of cycle t, drawn behind the inputs; there is none where there are no hardened nodes
abbrev pub upset_drawn : Net → Net → ℕ → ℕ → Option Upset
upset_drawn n h t s =
    if length h.nodes == 0 then None
    else Some (record {
      cycle = t;
      net = record { 0 = length h.inputs + draw s (length n.inputs) (length h.nodes) };
      value = draw s (suc (length n.inputs)) 2 == 1;
    })

-- an upset is added where the schedule stays allowed with it, and nowhere else
abbrev pub IsAdded : PlainCert → List Upset → Option Upset → List Upset → Type 0
IsAdded k before None after = after ≡ before
IsAdded k before (Some u) after =
    (Allowed (before ++ u ∷ []) k × (after ≡ before ++ u ∷ [])) ⊎ ((Allowed (before ++ u ∷ []) k → ⊥) × (after ≡ before))

-- the upsets of the first t cycles
abbrev pub AreAdded : Net → Net → PlainCert → ℕ → ℕ → List Upset → Type 0
AreAdded n h k number zero us = us ≡ []
AreAdded n h k number (suc t) us =
    (before : List Upset) × AreAdded n h k number t before × IsAdded k before (upset_drawn n h t (state_before n h number t)) us

-- the schedule of so many cycles that is drawn from this number
pub record IsDrawnSchedule (number : ℕ) (n h : Net) (k : PlainCert) (cycles : ℕ) (s : PlainSchedule) : Type 0 where
  pub inputs : s.inputs ≡ length n.inputs
  pub starts : s.starts ≡ []
  pub rows : s.rows ≡ map (λ t. row_drawn (length n.inputs) (state_before n h number t)) (range_with_len 0 cycles)
  pub upsets : AreAdded n h k number cycles s.upsets
