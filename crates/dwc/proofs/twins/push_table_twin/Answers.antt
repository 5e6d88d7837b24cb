use Rattle.std.proofs.Common.{◌++◌, [], ◌∷◌, map, sym, subst, ap, ◌∙◌}
use Rattle.table_cover.specs.Cover.{PlainCover}
use Rattle.flat_net.specs.Net.{Node, node_of, node_name, IsCoverOf}
use Rattle.flat_net.specs.Nodes.{number_of}
use Rattle.flat_net.specs.Packs.{Packs}
use Rattle.dwc.specs.Guard.{node_twin}
use Rattle.dwc.proofs.Making.{table_twin}
use Rattle.dwc.proofs.twins.push_table_twin.Goals as goal

pub returns : goal.returns
returns c = λ node at names done k.
    let o = node_of c.args.n.now.net c.args.x.0 in
    let cover : IsCoverOf o c.in_ok-cover.cover = subst (λ (p : PlainCover). IsCoverOf o p) (sym c.in_ok-cover.ensures) c.cover.ensures.cover in
    let same = table_twin o node c.args.c _ c.in_ok-cover.cover at c.requires.table cover (ap (map number_of) c.deref.ensures.value ∙ c.in_ok-pins.ensures) in
    subst (λ (m : Node). Packs (names ++ node_name (node_twin node c.args.c) ∷ []) c.push_table.new.nodes (done ++ m ∷ [])) same
    (c.in_ok-push_table.ensures.table names (node_name (node_twin node c.args.c)) done k)
