use Rattle.std.proofs.Common.{ℕ, List, length, sym, subst}
use Rattle.node_reads.specs.Sources.{is_source}
use Rattle.node_reads.specs.Noting.{Lists}
use Rattle.node_reads.proofs.reading.sources_of.Goals as goal

pub returns : goal.returns
returns c = subst (λ (rows : List (List ℕ)). Lists (is_source c.args.n.now.net) (length c.args.n.now.net.nodes) (length c.args.n.now.net.nodes) rows) (sym c.in_ok-packed.ensures) c.in_ok-rows.ensures
