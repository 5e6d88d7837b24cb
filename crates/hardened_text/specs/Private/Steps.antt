-- Only private functions cite this: both texts, as they are made step by step.
use Rattle.std.specs.Prelude.{ℕ, ◌+◌, ◌-◌, List, [], ◌∷◌, ◌++◌, length, codes, nat_eq, nat_lt, slice_index, if◌then◌else◌}
use Rattle.std.specs.List.{flat_map}
use Rattle.std.specs.Fmt.{decimal}
use Rattle.text_pieces.specs.Steps.{from_step}
use Rattle.flat_net.specs.Net.{Net, net_count, name_of}
use Rattle.flat_net.specs.Free.{FreeDesign, node_bit}
use Rattle.blif_writer.specs.Left.{spaced, spaced_line}
use Rattle.blif_writer.specs.Text.{clock_words}
use Rattle.certificate.specs.Text.{line_text, part_line}
use Rattle.triplicate.specs.Blocks.{hardened_clock}
use Rattle.triplicate.specs.Form.{version_of}
use Rattle.triplicate.specs.declared.planning.Plan.{Plan}
use Rattle.triplicate.specs.Planned.{plan_votes}
use Rattle.hardened_text.specs.declared.form.HardenedForm.{HardenedForm}
use Rattle.hardened_text.specs.Private.Spelled.{three_spelled}
use Rattle.hardened_text.specs.Private.Lines.{block_text, marks_of, node_text, voters_text}

-- the lines in front of the nodes'
abbrev pub ports_text : Net → List ℕ
ports_text n =
    spaced_line (codes ".model") (n.model ∷ [])
    ++ ((codes ".inputs" ++ (flat_map three_spelled n.inputs ++ (spaced (clock_words (hardened_clock n.clock)) ++ 10 ∷ [])))
    ++ (codes ".outputs" ++ (flat_map (λ x. three_spelled (name_of n x)) n.outputs ++ 10 ∷ [])))

-- what stands for net x
abbrev pub net_block : FreeDesign → Plan → ℕ → List ℕ
net_block n p x =
    block_text n.design.net p.parts (plan_votes n.design.net p) (node_bit (length n.design.net.inputs) (marks_of p.inputs n.free) x) x

-- the flat text: the ports, what stands for each net, and the end
unfoldable pub design_step : FreeDesign → Plan → ℕ → List ℕ
design_step n p k =
    if nat_eq k 0 then ports_text n.design.net
    else (if nat_lt (k - 1) (net_count n.design.net) then net_block n p (k - 1) else codes ".end\n")

abbrev pub design_steps : FreeDesign → ℕ
design_steps n = net_count n.design.net + 2

abbrev pub design_rest : FreeDesign → HardenedForm → ℕ → List ℕ
design_rest n t k = from_step (design_step n t.plan) (design_steps n) k

-- the first lines of the certificate
abbrev pub front_text : Plan → List ℕ
front_text p = line_text (codes "tmr-cert" ∷ decimal (version_of p.inputs) ∷ []) ++ line_text (codes "parts" ∷ decimal p.parts.count ∷ [])

-- the line of partition k
abbrev pub part_text : Plan → ℕ → List ℕ
part_text p k = line_text (part_line k (slice_index p.extra.table.depths k))

-- what comes behind the partitions: the line of each node, the lines of each net's voters, and the end
unfoldable pub step_behind : Net → Plan → ℕ → List ℕ
step_behind n p k =
    if nat_lt k (length n.nodes) then node_text n p.parts p.extra.table.labels k
    else (if nat_lt (k - length n.nodes) (net_count n) then voters_text n p.parts (plan_votes n p) (k - length n.nodes) else codes "end\n")

-- the certificate: the first lines, the line of each partition, and what comes behind these
unfoldable pub certificate_step : Net → Plan → ℕ → List ℕ
certificate_step n p k =
    if nat_eq k 0 then front_text p
    else (if nat_lt (k - 1) p.parts.count then part_text p (k - 1) else step_behind n p (k - 1 - p.parts.count))

abbrev pub certificate_steps : FreeDesign → HardenedForm → ℕ
certificate_steps n t = t.plan.parts.count + length n.design.net.nodes + net_count n.design.net + 2

abbrev pub certificate_rest : FreeDesign → HardenedForm → ℕ → List ℕ
certificate_rest n t k = from_step (certificate_step n.design.net t.plan) (certificate_steps n t) k
