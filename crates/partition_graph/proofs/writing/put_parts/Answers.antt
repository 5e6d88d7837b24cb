use Rattle.std.proofs.Common.{◌++◌, ℕ, List, ap, ◌∙◌}
use Rattle.partition_graph.specs.Picture.{part_line, part_line_in}
use Rattle.partition_graph.specs.Private.Counting.{texts}
use Rattle.partition_graph.proofs.LineLaws.{line_more}
use Rattle.partition_graph.proofs.writing.put_parts.Goals as goal

pub loop-p-preserved : goal.loop-p-preserved
loop-p-preserved c =
    line_more (part_line c.args.n.now.net c.args.c.now (texts c.args.groups.now)) c.loop-p.p c.args.out.now.items c.loop-p.out.items c.put_part.new.out.items c.loop-p.invariant
    (c.in_ok-put_part.ensures ∙ ap (λ (path : List ℕ). c.loop-p.out.items ++ part_line_in c.args.n.now.net c.args.c.now path c.loop-p.p) c.path_of-path.ensures)
