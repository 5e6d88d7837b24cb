use Rattle.std.proofs.Common.{ap, sym, ◌∙◌, arith}
use Rattle.flat_net.specs.Net.{node_of}
use Rattle.certifying.proofs.LabelLaws.{table_reaches, register_reaches}
use Rattle.certifying.proofs.labels.wanted.Goals as goal

pub returns-in-Table : goal.returns-in-Table
returns-in-Table c = λ l e below reach.
    c.most_counted.ensures l e below (table_reaches l (node_of c.args.h.now.net c.args.g.0) e (sym c.kind.ensures ∙ c.in-Table.is) reach)

pub returns-in-Register : goal.returns-in-Register
returns-in-Register c = λ l e below reach.
    omega (arith, c.saturating_add.ensures, c.counted.ensures l below, ap l c.pin.ensures.value, register_reaches l (node_of c.args.h.now.net c.args.g.0) e (sym c.kind.ensures ∙ c.in-Register.is) reach)
