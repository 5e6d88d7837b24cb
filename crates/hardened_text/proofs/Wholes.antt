-- All steps make the whole texts.
use Rattle.std.proofs.Common.{◌≡◌, ℕ, zero, suc, ◌+◌, ◌-◌, List, [], ◌∷◌, ◌++◌, length, refl, sym, ap, ◌∙◌, append_assoc, arith}
use Rattle.std.specs.Prelude.{codes, slice_index}
use Rattle.std.specs.List.{flat_map, range_with_len}
use Rattle.std.specs.Fmt.{decimal}
use Rattle.std.proofs.lemmas.List.{drop_all, drop_more}
use Rattle.flat_net.specs.Net.{Net, net_count, name_of}
use Rattle.flat_net.specs.Free.{FreeDesign}
use Rattle.blif_writer.specs.Left.{spaced, spaced_line}
use Rattle.blif_writer.specs.Text.{clock_words}
use Rattle.certificate.specs.Text.{line_text, part_line, part_lines}
use Rattle.triplicate.specs.Blocks.{hardened_clock}
use Rattle.triplicate.specs.Form.{version_of}
use Rattle.triplicate.specs.Labels.{labeling}
use Rattle.triplicate.specs.declared.planning.Plan.{Plan}
use Rattle.triplicate.specs.Planned.{plan_votes}
use Rattle.hardened_text.specs.declared.form.HardenedForm.{HardenedForm}
use Rattle.hardened_text.specs.Texts.{IsFormed, design_text, certificate_text}
use Rattle.hardened_text.specs.Private.Spelled.{three_spelled}
use Rattle.hardened_text.specs.Private.Lines.{blocks_text, marks_of, node_text, nodes_text, voters_text, all_voters_text, parts_text}
use Rattle.hardened_text.specs.Private.Steps.{net_block, design_step, design_rest, part_text, certificate_step, certificate_rest}
use Rattle.hardened_text.proofs.CertText.{cert_is}
use Rattle.hardened_text.proofs.FlatText.{design_is}
use Rattle.hardened_text.proofs.Stepping.{steps_moved, steps_between, steps_of_three}
use Rattle.hardened_text.proofs.Steps.{design_ports, design_net, design_end, certificate_front, certificate_part, certificate_behind, behind_node, behind_voters, behind_end}

-- the steps of nets are what stands for all of them
net_steps : (n : FreeDesign) (p : Plan) → flat_map (design_step n p) (range_with_len 1 (net_count n.design.net)) ≡ blocks_text n.design.net p.parts (plan_votes n.design.net p) (marks_of p.inputs n.free) (net_count n.design.net)
net_steps n p = steps_moved (design_step n p) (net_block n p) (net_count n.design.net) 1 0
    (λ x y e low high. sym (design_net n p x y (omega (arith, e, low)) (omega (arith, low)) (omega (arith, e, high))))

pub design_whole : (n : FreeDesign) (t : HardenedForm) → IsFormed n t → design_rest n t 0 ≡ design_text n t
design_whole n t formed =
    steps_between (design_step n p) (net_count net)
    ∙ (same _ _ _ _ _ _ (sym (design_ports n p 0 refl)) (net_steps n p) (sym (design_end n p (net_count net + 1) (omega arith) (omega arith)))
    ∙ (regroup model inputs outputs blocks (codes ".end\n")
    ∙ design_is net p.parts (plan_votes net p) (labeling p.inputs p.extra.table) formed.planned.given n.free [] ((([] ++ model) ++ inputs) ++ outputs)
    (((([] ++ model) ++ inputs) ++ outputs) ++ blocks) ((((([] ++ model) ++ inputs) ++ outputs) ++ blocks) ++ codes ".end\n") refl refl refl refl))
  where
    net : Net
    net = n.design.net

    p : Plan
    p = t.plan

    model : List ℕ
    model = spaced_line (codes ".model") (net.model ∷ [])

    inputs : List ℕ
    inputs = codes ".inputs" ++ (flat_map three_spelled net.inputs ++ (spaced (clock_words (hardened_clock net.clock)) ++ 10 ∷ []))

    outputs : List ℕ
    outputs = codes ".outputs" ++ (flat_map (λ x. three_spelled (name_of net x)) net.outputs ++ 10 ∷ [])

    blocks : List ℕ
    blocks = blocks_text net p.parts (plan_votes net p) (marks_of p.inputs n.free) (net_count net)

    same : (a b c u v w : List ℕ) → a ≡ u → b ≡ v → c ≡ w → a ++ (b ++ c) ≡ u ++ (v ++ w)
    same a b c u v w e f g = cc

    regroup : (m i o b e : List ℕ) → (m ++ (i ++ o)) ++ (b ++ e) ≡ (((([] ++ m) ++ i) ++ o) ++ b) ++ e
    regroup m i o b e = simp append_assoc

-- the lines of the partitions from p on
parts_ranged : (depths : List ℕ) (d p : ℕ) → p + d ≡ length depths → flat_map (λ i. line_text (part_line i (slice_index depths i))) (range_with_len p d) ≡ parts_text depths p
parts_ranged depths zero p e = sym (ap (λ (ds : List ℕ). flat_map line_text (part_lines p ds)) (drop_all p depths (omega (arith, e))))
parts_ranged depths (suc d) p e =
    ap (λ (t : List ℕ). line_text (part_line p (slice_index depths p)) ++ t) (parts_ranged depths d (p + 1) (omega (arith, e)))
    ∙ sym (ap (λ (ds : List ℕ). flat_map line_text (part_lines p ds)) (drop_more depths p 0 (omega (arith, e))))

module _ (n : Net) (p : Plan) where
  part_steps : length p.extra.table.depths ≡ p.parts.count → flat_map (certificate_step n p) (range_with_len 1 p.parts.count) ≡ parts_text p.extra.table.depths 0
  part_steps long =
      steps_moved (certificate_step n p) (part_text p) p.parts.count 1 0 (λ x y e low high. sym (certificate_part n p x y (omega (arith, e, low)) (omega (arith, low)) (omega (arith, e, high))))
      ∙ parts_ranged p.extra.table.depths p.parts.count 0 (omega (arith, long))

  node_steps : flat_map (certificate_step n p) (range_with_len (1 + p.parts.count) (length n.nodes)) ≡ nodes_text n p.parts p.extra.table.labels (length n.nodes)
  node_steps = steps_moved (certificate_step n p) (node_text n p.parts p.extra.table.labels) (length n.nodes) (1 + p.parts.count) 0
      (λ x y e low high. sym (behind_node n p y (omega (arith, e, high)) ∙ certificate_behind n p x y (omega (arith, e, low)) (omega (arith, low)) (omega (arith, low))))

  voter_steps : flat_map (certificate_step n p) (range_with_len (1 + p.parts.count + length n.nodes) (net_count n)) ≡ all_voters_text n p.parts (plan_votes n p) (net_count n)
  voter_steps = steps_moved (certificate_step n p) (voters_text n p.parts (plan_votes n p)) (net_count n) (1 + p.parts.count + length n.nodes) 0
      (λ x y e low high. sym (behind_voters n p (x - 1 - p.parts.count) y (omega (arith, e, low)) (omega (arith, low)) (omega (arith, e, high))
      ∙ certificate_behind n p x (x - 1 - p.parts.count) refl (omega (arith, low)) (omega (arith, low))))

  end_step : codes "end\n" ≡ certificate_step n p (p.parts.count + length n.nodes + net_count n + 1)
  end_step =
      behind_end n p (length n.nodes + net_count n) (omega arith) (omega arith)
      ∙ certificate_behind n p (p.parts.count + length n.nodes + net_count n + 1) (length n.nodes + net_count n) (omega arith) (omega arith) (omega arith)

pub certificate_whole : (n : FreeDesign) (t : HardenedForm) → IsFormed n t → certificate_rest n t 0 ≡ certificate_text n t
certificate_whole n t formed =
    steps_of_three (certificate_step net p) p.parts.count (length net.nodes) (net_count net)
    ∙ (same _ _ _ _ _ _ _ _ _ _ (sym (certificate_front net p 0 refl)) (part_steps net p formed.planned.bound.depths.parts_long) (node_steps net p) (voter_steps net p) (sym (end_step net p))
    ∙ (regroup first second parts nodes voters (codes "end\n")
    ∙ cert_is net p.parts (plan_votes net p) (labeling p.inputs p.extra.table) formed.planned.given [] (([] ++ first) ++ second) ((([] ++ first) ++ second) ++ parts) (((([] ++ first) ++ second) ++ parts) ++ nodes)
    ((((([] ++ first) ++ second) ++ parts) ++ nodes) ++ voters) (((((([] ++ first) ++ second) ++ parts) ++ nodes) ++ voters) ++ codes "end\n") refl refl refl refl refl refl))
  where
    net : Net
    net = n.design.net

    p : Plan
    p = t.plan

    first : List ℕ
    first = line_text (codes "tmr-cert" ∷ decimal (version_of p.inputs) ∷ [])

    second : List ℕ
    second = line_text (codes "parts" ∷ decimal p.parts.count ∷ [])

    parts : List ℕ
    parts = parts_text p.extra.table.depths 0

    nodes : List ℕ
    nodes = nodes_text net p.parts p.extra.table.labels (length net.nodes)

    voters : List ℕ
    voters = all_voters_text net p.parts (plan_votes net p) (net_count net)

    same : (a b c d e u v w x y : List ℕ) → a ≡ u → b ≡ v → c ≡ w → d ≡ x → e ≡ y → a ++ (b ++ (c ++ (d ++ e))) ≡ u ++ (v ++ (w ++ (x ++ y)))
    same a b c d e u v w x y f g h i j = cc

    regroup : (f s p n v e : List ℕ) → (f ++ s) ++ (p ++ (n ++ (v ++ e))) ≡ ((((([] ++ f) ++ s) ++ p) ++ n) ++ v) ++ e
    regroup f s p n v e = simp append_assoc
