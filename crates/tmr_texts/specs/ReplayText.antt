-- What is told of a replay.
use Rattle.std.specs.Prelude.{ℕ, Bool, List, [], ◌∷◌, ◌++◌, length, map, codes, slice_index, if◌then◌else◌}
use Rattle.std.specs.List.{flat_map}
use Rattle.flat_net.specs.Net.{Net, name_of}
use Rattle.schedule_replay.specs.declared.outcome.Difference.{Difference}
use Rattle.schedule_replay.specs.Outcome.{PlainOutcome}
use Rattle.schedules.specs.Schedule.{PlainSchedule}
use Rattle.tmr_texts.specs.Texts.{joined, counted_text}
use Rattle.tmr_texts.specs.FormText.{yes_or_no}

-- a value with a blank before it
abbrev pub bit_text : Bool → List ℕ
bit_text b = if b then codes " 1" else codes " 0"

-- the name of output k
abbrev pub output_name : Net → ℕ → List ℕ
output_name n k = name_of n (slice_index n.outputs k)

-- `differ T NAME O A B C`: the cycle, the output, its value in the original, and those of its three copies
unfoldable pub difference_line : Net → Difference → List ℕ
difference_line n d =
    joined (counted_text (codes "differ ") d.cycle ∷ codes " " ∷ output_name n d.output ∷ bit_text d.original
    ∷ (map bit_text d.copies ++ codes "\n" ∷ []))

abbrev pub difference_lines : Net → List Difference → List ℕ
difference_lines n [] = []
difference_lines n (d ∷ ds) = difference_line n d ++ difference_lines n ds

-- six lines: cycles, upsets, whether the certificate allows the schedule, differences, and how many are wrong and late
unfoldable pub outcome_lines : ℕ → ℕ → PlainOutcome → List ℕ
outcome_lines cycles upsets o =
    joined (counted_text (codes "cycles ") cycles ∷ counted_text (codes "\nupsets ") upsets ∷ codes "\nallowed " ∷ yes_or_no o.allowed
    ∷ counted_text (codes "\ndifferences ") o.differences ∷ counted_text (codes "\nwrong ") o.wrong
    ∷ counted_text (codes "\nlate ") o.late ∷ codes "\n" ∷ [])

-- a line for each of the first differences, and these
abbrev pub replay_lines : Net → PlainSchedule → PlainOutcome → List ℕ
replay_lines n s o = difference_lines n o.first ++ outcome_lines (length s.rows) (length s.upsets) o

-- the names of an output's waves: the original's and those of its three copies
abbrev pub waves_of : List ℕ → List (List ℕ)
waves_of name = (name ++ codes "~o") ∷ (name ++ codes "~0") ∷ (name ++ codes "~1") ∷ (name ++ codes "~2") ∷ []

-- those of these nets, in order
abbrev pub waves_at : Net → List ℕ → List (List ℕ)
waves_at n nets = flat_map (λ x. waves_of (name_of n x)) nets

-- those of all outputs, in order
abbrev pub output_waves : Net → List (List ℕ)
output_waves n = waves_at n n.outputs
