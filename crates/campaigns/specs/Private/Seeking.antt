-- The first wrong output among those that were looked at.
use Rattle.std.specs.Prelude.{◌≡◌, ◌<◌, ◌⊎◌, ℕ, Bool, ◌&&◌, ◌||◌, nat_lt, nat_eq, List, Option, Some, None, if◌then◌else◌}
use Rattle.schedule_replay.specs.declared.outcome.Difference.{Difference}
use Rattle.schedule_replay.specs.declared.outcome.Outcome.{Outcome}
use Rattle.schedule_replay.specs.Outcome.{is_wrong}
use Rattle.campaigns.specs.declared.first_wrong.WrongOutput.{WrongOutput}
use Rattle.campaigns.specs.NearCampaign.{IsKeptWrong}

-- the runs before run j were looked at, and of run j the first i differences
pub record IsSeenWrong (outcomes : List Outcome) (j i : ℕ) (w : WrongOutput) : Type 0 where
  pub kept : IsKeptWrong outcomes w
  pub seen : (w.run < j) ⊎ ((w.run ≡ j) × (kept.place < i))

abbrev pub is_earlier : WrongOutput → WrongOutput → Bool
is_earlier w v = nat_lt w.cycle v.cycle || (nat_eq w.cycle v.cycle && nat_lt w.output v.output)

abbrev pub earlier_one : Option WrongOutput → WrongOutput → WrongOutput
earlier_one None w = w
earlier_one (Some v) w = if is_earlier w v then w else v

-- one difference more, of a later run, or of the same one
abbrev pub with_difference : Option WrongOutput → ℕ → Difference → Option WrongOutput
with_difference first run d = if is_wrong d then Some (earlier_one first (record { cycle = d.cycle; output = d.output; run = run })) else first
