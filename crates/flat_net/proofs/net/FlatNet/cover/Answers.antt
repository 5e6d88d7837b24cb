use Rattle.std.proofs.Common.{◌≡◌, subst, length}
use Rattle.flat_net.specs.Net.{Design, node_of, pins_at}
use Rattle.flat_net.proofs.Ranges.{cover_width}
use Rattle.flat_net.proofs.net.FlatNet.cover.Goals as goal

pub returns-clause-width : goal.returns-clause-width
returns-clause-width c =
    subst (λ (d : Design). length (pins_at (node_of d.net c.args.x.0)) ≡ c.cover.result.now.width) c.self.view_is (cover_width c.self.inside.wiring c.args.x.0 _ c.self.invariant.valid c.cover.ensures)
