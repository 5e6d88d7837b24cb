use Rattle.std.proofs.Common.{◌++◌, [], ◌∷◌, ◌+◌, subst}
use Rattle.flat_net.specs.Net.{Node}
use Rattle.flat_net.specs.Packs.{Packs}
use Rattle.tmr_trial.proofs.NodeLaws.{register_same}
use Rattle.tmr_trial.proofs.nodes.push_drawn_register.Goals as goal

pub returns-clause-register : goal.returns-clause-register
returns-clause-register c = λ names name done k.
    subst (λ (node : Node). Packs (names ++ name ∷ []) c.push_register.new.nodes (done ++ node ∷ []))
    (register_same name c.args.numbers.now.state c.draw-init.new.numbers.state c.draw-init.result c.draw-pin.result (8 + c.args.count) c.draw-init.ensures.value c.draw-init.ensures.state c.draw-pin.ensures.value)
    (c.in_ok-push_register.ensures.register names name done k)
