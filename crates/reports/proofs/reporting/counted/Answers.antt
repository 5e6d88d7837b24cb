use Rattle.std.proofs.Common.{Bool, List, length, ap, sym, ◌∙◌, subst, arith}
use Rattle.std.proofs.lemmas.List.FromFn.{length-map-range_with_len}
use Rattle.tmr_base.specs.Parts.{PlainParts}
use Rattle.recovery_depth.specs.Depths.{is_register_at}
use Rattle.recovery_depth.specs.Walks.{is_marked}
use Rattle.feedback_cut.specs.Components.{AreComponents}
use Rattle.reports.specs.Counts.{any_node, partitions}
use Rattle.reports.specs.Private.Left.{heads_loop}
use Rattle.reports.proofs.LoopCounts.{loops_of}
use Rattle.reports.proofs.CountLaws.{counts_are, all_told, each_told}
use Rattle.reports.proofs.reporting.counted.Goals as goal

pub counts-requires-2 : goal.counts-requires-2
counts-requires-2 c =
    ap length (c.deref-2.ensures.value ∙ c.in_ok-is_register.ensures) ∙ (length-map-range_with_len (is_register_at c.args.n.now.net) 0 (length c.args.n.now.net.nodes) ∙ (sym c.requires.nodes ∙ ap (λ (ps : PlainParts). length ps.of) (sym c.requires.parts)))

pub counts-requires-3 : goal.counts-requires-3
counts-requires-3 c =
    ap length (c.deref-3.ensures.value ∙ c.in_ok-heads.ensures) ∙ (length-map-range_with_len (heads_loop c.in_ok-groups.groups) 0 c.nodes_of-count.result ∙ (c.nodes_of-count.ensures.count ∙ (sym c.requires.nodes ∙ ap (λ (ps : PlainParts). length ps.of) (sym c.requires.parts))))

pub returns-clause-counted : goal.returns-clause-counted
returns-clause-counted c = let components : AreComponents c.args.n.now.net (partitions c.args.c.now) c.in_ok-groups.groups = subst (λ (ps : PlainParts). AreComponents c.args.n.now.net ps c.in_ok-groups.groups) c.requires.parts c.in_ok-groups.ensures in record {
  nodes = counts_are c.args.c.now c.args.parts.now c.deref.result.now any_node c.in_ok-nodes.nodes.items c.requires.parts (λ x h. ap (λ (bs : List Bool). is_marked bs x) c.deref.ensures.value ∙ all_told c.nodes_of-count.result c.in_ok-all.all.items c.in_ok-all.ensures.items x (omega (arith, h, c.nodes_of-count.ensures.count, c.requires.nodes))) c.in_ok-nodes.ensures.long c.in_ok-nodes.ensures.counts;
  registers = counts_are c.args.c.now c.args.parts.now c.deref-2.result.now (is_register_at c.args.n.now.net) c.in_ok-registers.registers.items c.requires.parts (λ x h. ap (λ (bs : List Bool). is_marked bs x) c.deref-2.ensures.value ∙ each_told (is_register_at c.args.n.now.net) (length c.args.n.now.net.nodes) c.in_ok-is_register.is_register.items c.in_ok-is_register.ensures x (omega (arith, h, c.requires.nodes))) c.in_ok-registers.ensures.long c.in_ok-registers.ensures.counts;
  loops = loops_of c.args.n.now.net c.args.c.now c.in_ok-groups.groups c.in_ok-loops.loops.items components c.requires.nodes (counts_are c.args.c.now c.args.parts.now c.deref-3.result.now (heads_loop c.in_ok-groups.groups) c.in_ok-loops.loops.items c.requires.parts (λ x h. ap (λ (bs : List Bool). is_marked bs x) c.deref-3.ensures.value ∙ each_told (heads_loop c.in_ok-groups.groups) c.nodes_of-count.result c.in_ok-heads.heads.items c.in_ok-heads.ensures x (omega (arith, h, c.nodes_of-count.ensures.count, c.requires.nodes))) c.in_ok-loops.ensures.long c.in_ok-loops.ensures.counts);
}
