use Rattle.std.proofs.Common.{◌≡◌, ◌+◌, refl, sym, ap, ◌∙◌, arith}
use Rattle.std.proofs.lemmas.List.{get_or_default}
use Rattle.partition_graph.specs.Private.Leading.{lead_at}
use Rattle.partition_graph.proofs.PlaceLaws.{part_here}
use Rattle.partition_graph.proofs.GroupLaws.{none_are_leading, few_lead, next_are}
use Rattle.partition_graph.proofs.groups.leads.Goals as goal

pub loop-x-init : goal.loop-x-init
loop-x-init c =
    none_are_leading c.args.n.now.net c.args.c.now c.in_ok-leads.leads.items (c.in_ok-leads.ensures.long ∙ c.parts.ensures.count) (λ p h. c.in_ok-leads.ensures.each p (omega (arith, h, c.parts.ensures.count)))

pub next_lead-requires-clause-few : goal.next_lead-requires-clause-few
next_lead-requires-clause-few c =
    let was : c.index.result.now ≡ lead_at c.loop-x.leads.items c.part-p.result.0 = c.index.ensures ∙ get_or_default c.loop-x.leads.items c.part-p.result.0 c.index.result.now (record { node = 0; by = 0 }) (omega (arith, c.part-p.ensures.range, c.loop-x.invariant.long)) in
    omega (arith, ap (λ l. l.by) was, few_lead c.args.n.now.net c.args.c.now c.loop-x.x c.part-p.result.0 c.loop-x.leads.items c.loop-x.invariant c.part-p.ensures.range, c.loop-x-test.true, c.nodes_of-x-end.ensures.count, c.nodes_of-x-end.ensures.few)

pub loop-x-preserved : goal.loop-x-preserved
loop-x-preserved c =
    let was : c.index.result.now ≡ lead_at c.loop-x.leads.items c.part-p.result.0 = c.index.ensures ∙ get_or_default c.loop-x.leads.items c.part-p.result.0 c.index.result.now (record { node = 0; by = 0 }) (omega (arith, c.part-p.ensures.range, c.loop-x.invariant.long)) in
    let inputs = c.input_count-inputs.ensures.count ∙ sym c.requires.inputs in
    let own = part_here c.args.c.now c.loop-x.x (c.input_count-inputs.result + c.loop-x.x) c.part-p.result.0 (omega (arith, inputs)) c.part-p.ensures.part in
    next_are c.args.n.now.net c.args.c.now c.input_count-inputs.result c.loop-x.x c.part-p.result.0 c.index.result.now c.next_lead.result c.loop-x.leads.items _ inputs (omega (arith, c.loop-x-test.true, c.nodes_of-x-end.ensures.count, c.requires.nodes)) own c.part-p.ensures.range was c.next_lead.ensures refl c.loop-x.invariant
