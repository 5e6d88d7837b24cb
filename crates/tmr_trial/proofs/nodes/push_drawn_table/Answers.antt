use Rattle.std.proofs.Common.{◌++◌, [], ◌∷◌, ◌+◌, subst}
use Rattle.flat_net.specs.Net.{Node}
use Rattle.flat_net.specs.Packs.{Packs}
use Rattle.tmr_trial.proofs.NodeLaws.{table_same}
use Rattle.tmr_trial.proofs.nodes.push_drawn_table.Goals as goal

pub returns-clause-table : goal.returns-clause-table
returns-clause-table c = λ names name done k.
    subst (λ (node : Node). Packs (names ++ name ∷ []) c.push_table.new.nodes (done ++ node ∷ []))
    (table_same name c.in_ok-cover.cover c.args.numbers.now.state c.draw-first.new.numbers.state c.draw-second.new.numbers.state c.draw-first.result c.draw-second.result c.draw.result (8 + c.args.i) c.draw-first.ensures.value c.draw-first.ensures.state c.draw-second.ensures.value c.draw-second.ensures.state c.draw.ensures.value c.in_ok-cover.ensures)
    (c.in_ok-push_table.ensures.table names name done k)
