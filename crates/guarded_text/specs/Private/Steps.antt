-- Only private functions cite this: the text, as it is made step by step.
use Rattle.std.specs.Prelude.{ℕ, ◌+◌, ◌-◌, List, [], ◌∷◌, ◌++◌, length, codes, nat_eq, nat_lt, slice_get, slice_index, if◌then◌else◌}
use Rattle.std.specs.List.{flat_map}
use Rattle.text_pieces.specs.Steps.{from_step}
use Rattle.flat_net.specs.Net.{Net, name_of}
use Rattle.blif_writer.specs.Left.{spaced, spaced_line}
use Rattle.blif_writer.specs.Text.{clock_words}
use Rattle.guarded_text.specs.Private.Spelled.{tailed, two_spelled, comparator_text, alarm_end}
use Rattle.guarded_text.specs.Private.Lines.{guarded_clock, copy_text}

-- the lines in front of the nodes'
abbrev pub ports_text : Net → List ℕ
ports_text n =
    spaced_line (codes ".model") (n.model ∷ [])
    ++ ((codes ".inputs" ++ (flat_map two_spelled n.inputs ++ (spaced (clock_words (guarded_clock n.clock)) ++ 10 ∷ [])))
    ++ (codes ".outputs" ++ (flat_map (λ y. two_spelled (name_of n y)) n.outputs ++ codes " alarm~z\n")))

-- the lines of both copies of node i
abbrev pub twins_at : Net → ℕ → List ℕ
twins_at n i = copy_text n 48 (slice_get n.nodes i) ++ copy_text n 49 (slice_get n.nodes i)

-- a blank and the name of the comparator of output k
abbrev pub comparator_name : Net → ℕ → List ℕ
comparator_name n k = 32 ∷ tailed (name_of n (slice_index n.outputs k)) 101

-- the alarm: its first word, the names of the comparators, and the end of the text
unfoldable pub alarm_step : Net → ℕ → List ℕ
alarm_step n k =
    if nat_eq k 0 then codes ".names"
    else (if nat_lt (k - 1) (length n.outputs) then comparator_name n (k - 1) else alarm_end n)

-- what comes behind the nodes: the comparator of each output, and the alarm
unfoldable pub compared_step : Net → ℕ → List ℕ
compared_step n k =
    if nat_lt k (length n.outputs) then comparator_text (name_of n (slice_index n.outputs k))
    else alarm_step n (k - length n.outputs)

-- the text: the ports, both copies of each node, and what comes behind these
unfoldable pub guarded_step : Net → ℕ → List ℕ
guarded_step n k =
    if nat_eq k 0 then ports_text n
    else (if nat_lt (k - 1) (length n.nodes) then twins_at n (k - 1) else compared_step n (k - 1 - length n.nodes))

abbrev pub guarded_steps : Net → ℕ
guarded_steps n = length n.nodes + length n.outputs + length n.outputs + 3

abbrev pub guarded_rest : Net → ℕ → List ℕ
guarded_rest n k = from_step (guarded_step n) (guarded_steps n) k
