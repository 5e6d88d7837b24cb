use Rattle.std.proofs.Common.{◌++◌, [], ◌∷◌, map, sym, subst, ap, ◌∙◌}
use Rattle.table_cover.specs.Cover.{PlainCover}
use Rattle.flat_net.specs.Net.{Node, node_of, node_name, IsCoverOf}
use Rattle.flat_net.specs.Nodes.{number_of}
use Rattle.flat_net.specs.Packs.{Packs}
use Rattle.hardened_pair.specs.Private.Made.{shifted_node}
use Rattle.hardened_pair.proofs.RoleSteps.{table_copied}
use Rattle.hardened_pair.proofs.tripling.push_table_copy.Goals as goal

pub returns : goal.returns
returns c = λ names done k.
    let cover : IsCoverOf (node_of c.args.n.now.net c.args.x.0) c.in_ok-cover.cover = subst (λ (p : PlainCover). IsCoverOf (node_of c.args.n.now.net c.args.x.0) p) (sym c.in_ok-cover.ensures) c.cover.ensures.cover in
    let same = table_copied (node_of c.args.n.now.net c.args.x.0) c.args.c c.args.pins.now _ c.in_ok-cover.cover c.requires.table cover (ap (map number_of) c.as_slice.ensures.value ∙ c.in_ok-shift.ensures) in
    subst (λ (m : Node). Packs (names ++ node_name (shifted_node c.args.c c.args.pins.now (node_of c.args.n.now.net c.args.x.0)) ∷ []) c.push_table.new.nodes (done ++ m ∷ [])) same
    (c.in_ok-push_table.ensures.table names (node_name (shifted_node c.args.c c.args.pins.now (node_of c.args.n.now.net c.args.x.0))) done k)
