use Rattle.std.proofs.Common.{◌*◌, ◌++◌, [], ◌∷◌, ℕ, length, ap, ◌∙◌}
use Rattle.std.specs.Prelude.{codes}
use Rattle.std.specs.Fmt.{decimal}
use Rattle.flat_net.specs.Net.{register_count}
use Rattle.certificate.specs.Text.{line_text}
use Rattle.partitioner.specs.Cost.{cost}
use Rattle.reports.specs.Counts.{partitions}
use Rattle.reports.specs.Report.{voters_line}
use Rattle.reports.proofs.LineLaws.{five_put}
use Rattle.reports.proofs.writing.put_head.Goals as goal

pub returns : goal.returns
returns c =
    let nodes = c.from-nodes.ensures ∙ c.nodes_of.ensures.count in
    five_put c.args.out.now.items c.put_count.new.out.items c.put_count-2.new.out.items c.put_count-3.new.out.items c.put_voters.new.out.items c.put_cost.new.out.items
    (codes "nodes" ∷ decimal (length c.args.n.now.net.nodes) ∷ []) (codes "registers" ∷ decimal (register_count c.args.n.now.net) ∷ []) (codes "copies" ∷ decimal (3 * length c.args.n.now.net.nodes) ∷ []) (voters_line c.args.c.now) (codes "partitions" ∷ decimal (length c.args.c.now.depth) ∷ codes "cost" ∷ decimal (cost c.args.n.now.net (partitions c.args.c.now)) ∷ [])
    (c.in_ok-put_count.ensures ∙ ap (λ (m : ℕ). c.args.out.now.items ++ line_text (codes "nodes" ∷ decimal m ∷ [])) nodes)
    (c.in_ok-put_count-2.ensures ∙ ap (λ (m : ℕ). c.put_count.new.out.items ++ line_text (codes "registers" ∷ decimal m ∷ [])) (c.from.ensures ∙ c.register_count.ensures))
    (c.in_ok-put_count-3.ensures ∙ ap (λ (m : ℕ). c.put_count-2.new.out.items ++ line_text (codes "copies" ∷ decimal (3 * m) ∷ [])) nodes)
    c.in_ok-put_voters.ensures
    (c.in_ok-put_cost.ensures ∙ (ap (λ (m : ℕ). c.put_voters.new.out.items ++ line_text (codes "partitions" ∷ decimal m ∷ codes "cost" ∷ decimal c.args.cost ∷ [])) c.parts.ensures.count ∙ ap (λ (m : ℕ). c.put_voters.new.out.items ++ line_text (codes "partitions" ∷ decimal (length c.args.c.now.depth) ∷ codes "cost" ∷ decimal m ∷ [])) c.requires.cost))
