use Rattle.std.proofs.Common.{◌++◌, [], ◌∷◌, subst}
use Rattle.flat_net.specs.Net.{Node}
use Rattle.flat_net.specs.Packs.{Packs}
use Rattle.tmr_trial.proofs.NodeLaws.{drawn_register, drawn_table}
use Rattle.tmr_trial.proofs.nodes.push_drawn.Goals as goal

pub returns-then-draw-eq0-clause-node : goal.returns-then-draw-eq0-clause-node
returns-then-draw-eq0-clause-node c = λ names name done named k.
    subst (λ (node : Node). Packs (names ++ name ∷ []) c.push_drawn_register.new.nodes (done ++ node ∷ []))
    (drawn_register c.args.count c.args.i c.args.numbers.now.state c.draw.new.numbers.state c.draw.result name c.draw.ensures.value c.if-draw-eq0.true c.draw.ensures.state named)
    (c.in_ok-push_drawn_register.ensures.register names name done k)

pub returns-clause-node : goal.returns-clause-node
returns-clause-node c = λ names name done named k.
    subst (λ (node : Node). Packs (names ++ name ∷ []) c.push_drawn_table.new.nodes (done ++ node ∷ []))
    (drawn_table c.args.count c.args.i c.args.numbers.now.state c.draw.new.numbers.state c.draw.result name c.draw.ensures.value c.if-draw-eq0.false c.draw.ensures.state named)
    (c.in_ok-push_drawn_table.ensures.table names name done k)
