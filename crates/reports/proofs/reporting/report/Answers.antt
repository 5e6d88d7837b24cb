use Rattle.std.proofs.Common.{◌++◌, ℕ, List, ap, sym, ◌∙◌, subst}
use Rattle.recovery_depth.specs.declared.depth_and_chain.Deep.{Deep}
use Rattle.std.specs.List.{flat_map}
use Rattle.certificate.specs.Text.{line_text}
use Rattle.reports.specs.Report.{head_lines}
use Rattle.reports.specs.Private.Left.{AreNets, parts_left}
use Rattle.reports.proofs.ChainLaws.{chains_are_nets}
use Rattle.reports.proofs.LineLaws.{text_put}
use Rattle.reports.proofs.reporting.report.Goals as goal

pub put_parts-requires-clause-chains : goal.put_parts-requires-clause-chains
put_parts-requires-clause-chains c =
    subst (AreNets c.args.n.now.net) (sym c.deref.ensures.value) (chains_are_nets c.args.n.now.net c.args.h.now.net c.args.c.now c.parts.ensures.cert c.requires.fits c.in_ok-deeps.deeps.items c.in_ok-deeps.ensures.deep)

pub returns : goal.returns
returns c = record {
  deeps = c.in_ok-deeps.deeps.items;
  groups = c.in_ok-counts.counts.groups;
  long = c.in_ok-deeps.ensures.long;
  deep = c.in_ok-deeps.ensures.deep;
  lowest = c.in_ok-deeps.ensures.lowest;
  admitted = c.in_ok-deeps.ensures.admitted;
  components = c.in_ok-counts.ensures.components;
  text_is = text_put c.args.n.now.net c.args.c.now c.in_ok-counts.counts.groups c.in_ok-deeps.deeps.items c.put_head.new.out.items c.put_parts.new.out.items
      (c.in_ok-put_head.ensures ∙ ap (λ (o : List ℕ). o ++ flat_map line_text (head_lines c.args.n.now.net c.args.c.now)) c.new-out.ensures.items)
      (c.in_ok-put_parts.ensures ∙ ap (λ (ds : List Deep). c.put_head.new.out.items ++ parts_left c.args.n.now.net c.args.c.now c.in_ok-counts.counts.groups ds 0) c.deref.ensures.value);
}
