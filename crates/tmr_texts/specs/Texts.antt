-- The printed lines, as lists of bytes.
use Rattle.std.specs.Prelude.{ℕ, ◌+◌, nat_eq, max, List, [], ◌∷◌, ◌++◌, length, codes, if◌then◌else◌}
use Rattle.std.specs.Fmt.{decimal}
use Rattle.flat_net.specs.Net.{Net, name_of, register_count}
use Rattle.certificate.specs.Cert.{PlainCert}
use Rattle.tmr_words.specs.declared.topic.Topic.{Topic}
use Rattle.tmr_words.specs.Topics.{commands, call_of}
use Rattle.aag_design.specs.declared.counts.Counts.{Counts}

-- pieces, one behind the other
abbrev pub joined : List (List ℕ) → List ℕ
joined [] = []
joined (piece ∷ pieces) = piece ++ joined pieces

-- the greatest of the numbers, or 0 where there is none
abbrev pub greatest : List ℕ → ℕ
greatest [] = 0
greatest (d ∷ ds) = max d (greatest ds)

-- in version 1 initial values that are left open are taken as 0, and in version 2 they are free
abbrev pub open_word : ℕ → List ℕ
open_word version = if nat_eq version 1 then codes "assumed " else codes "free "

-- how many partitions there are, the greatest certified depth, and how many initial values are left open in both designs
unfoldable pub accepted_line : PlainCert → ℕ → ℕ → List ℕ
accepted_line k count hardened_count =
    joined (codes "accepted partitions " ∷ decimal (length k.depth) ∷ codes " depth " ∷ decimal (greatest k.depth)
    ∷ codes " " ∷ open_word k.version ∷ decimal count ∷ codes " " ∷ decimal hardened_count ∷ codes "\n" ∷ [])

abbrev pub counted_text : List ℕ → ℕ → List ℕ
counted_text what count = what ++ decimal count

-- how many inputs, outputs, nodes and registers a design has, and how many initial values were taken as 0
unfoldable pub flattened_line : Net → ℕ → List ℕ
flattened_line n assumed =
    joined (counted_text (codes "flat inputs ") (length n.inputs) ∷ counted_text (codes " outputs ") (length n.outputs)
    ∷ counted_text (codes " nodes ") (length n.nodes) ∷ counted_text (codes " registers ") (register_count n)
    ∷ counted_text (codes " assumed ") assumed ∷ codes "\n" ∷ [])

-- how many nodes a design and its guarded design have, how many outputs it has, and how many initial values were taken as 0
unfoldable pub guard_line : Net → Net → ℕ → List ℕ
guard_line n g assumed =
    joined (counted_text (codes "guard nodes ") (length n.nodes) ∷ counted_text (codes " to ") (length g.nodes)
    ∷ counted_text (codes " outputs ") (length n.outputs) ∷ counted_text (codes " assumed ") assumed ∷ codes "\n" ∷ [])

-- how many inputs, outputs, latches, gates and free latches an AIGER file has
unfoldable pub aag_line : Counts → List ℕ
aag_line c =
    joined (counted_text (codes "aag inputs ") c.inputs ∷ counted_text (codes " outputs ") c.outputs
    ∷ counted_text (codes " latches ") c.latches ∷ counted_text (codes " ands ") c.gates
    ∷ counted_text (codes " free ") c.free ∷ codes "\n" ∷ [])

-- the same of a file of a design, which has a latch for each register
abbrev pub graph_line : Net → ℕ → ℕ → List ℕ
graph_line n gates count =
    aag_line (record { inputs = length n.inputs; outputs = length n.outputs; latches = register_count n; gates = gates; free = count })

unfoldable pub guarded_line : List ℕ
guarded_line = codes "guarded\n"

unfoldable pub not_guarded_line : ℕ → ℕ → List ℕ
not_guarded_line rule place = joined (counted_text (codes "not guarded: rule ") rule ∷ counted_text (codes " at ") place ∷ codes "\n" ∷ [])

-- where a rule fails: at the inputs, at the clock, at a hardened node, or at an output position
unfoldable pub place_text : Net → ℕ → ℕ → List ℕ
place_text h rule place =
    if nat_eq rule 1 then codes "inputs"
    else if nat_eq rule 2 then codes "clock"
    else if nat_eq rule 8 then joined (codes "output " ∷ decimal place ∷ [])
    else name_of h (length h.inputs + place)

unfoldable pub not_accepted_line : Net → ℕ → ℕ → List ℕ
not_accepted_line h rule place = joined (codes "not accepted: rule " ∷ decimal rule ∷ codes " at " ∷ place_text h rule place ∷ codes "\n" ∷ [])

unfoldable pub refused_line : List ℕ → List ℕ → List ℕ
refused_line file reason = joined (codes "refused " ∷ file ∷ codes ": " ∷ reason ∷ codes "\n" ∷ [])

unfoldable pub load_fault_line : List ℕ → List ℕ
load_fault_line file = joined (codes "fault: load " ∷ file ∷ codes "\n" ∷ [])

-- a place in a file by its line, and what is wrong there
unfoldable pub line_reason : ℕ → List ℕ → List ℕ
line_reason line kind = joined (codes "line " ∷ decimal line ∷ codes ": " ∷ kind ∷ [])

unfoldable pub save_fault_line : List ℕ → List ℕ
save_fault_line file = joined (codes "fault: save " ∷ file ∷ codes "\n" ∷ [])

-- a certificate is found, and its text is longer than a certificate may be
unfoldable pub certificate_too_long : List ℕ
certificate_too_long = codes "no certificate: too long\n"

-- a line for each command as it is called, the first with this head
abbrev pub usage_lines : List ℕ → List Topic → List ℕ
usage_lines head [] = []
usage_lines head (command ∷ commands) = head ++ (call_of command ++ (codes "\n" ++ usage_lines (codes "       tmr ") commands))

-- how each command of the table is called
abbrev pub calls : List ℕ
calls = usage_lines (codes "usage: tmr ") commands

-- the option that each command has which reads a design
abbrev pub large_line : List ℕ
large_line = codes "       --large, with each command that reads ORIG or AAG: files may be 16 times as large\n"

-- how the program is called: each command, and the option that most of them have
unfoldable pub usage_text : List ℕ
usage_text = calls ++ large_line

unfoldable pub memory_text : List ℕ
memory_text = codes "want of memory\n"
