use Rattle.std.proofs.Common.{◌++◌, ◌∷◌, [], ℕ, List, map, ap, ◌∙◌, arith}
use Rattle.std.specs.List.{flat_map}
use Rattle.std.proofs.lemmas.List.{take_all}
use Rattle.flat_net.specs.Nodes.{number_of}
use Rattle.dwc.specs.Guard.{twin, twofold, alarm_net, guard_net}
use Rattle.dwc.proofs.Lists.{pushed, pair_more}
use Rattle.dwc.proofs.ports.guarded_outputs.Goals as goal

pub loop-k-preserved : goal.loop-k-preserved
loop-k-preserved c =
    let y = c.output-y.result.0 in
    pair_more (λ y c. twin c y) c.args.n.now.net.outputs c.loop-k.k y (map number_of c.loop-k.outputs.items) (map number_of c.push.new.self.items) (map number_of c.push-in-loop-k.new.self.items) c.output-y.ensures.output
    (pushed c.loop-k.outputs.items c.push.new.self.items c.twin.result (twin 0 y) c.in_ok-push.ensures.items c.twin.ensures)
    (pushed c.push.new.self.items c.push-in-loop-k.new.self.items c.twin-in-loop-k.result (twin 1 y) c.in_ok-push-2.ensures.items c.twin-in-loop-k.ensures)
    c.loop-k.invariant

pub returns : goal.returns
unfolding guard_net
returns c =
    let n = c.args.n.now.net in
    pushed c.loop-k.outputs.items c.push-2.new.self.items _ (alarm_net n) c.in_ok-push-3.ensures.items (omega (arith, c.input_count.ensures.count, c.node_count.ensures, c.output_count.ensures))
    ∙ ap (λ (xs : List ℕ). xs ++ alarm_net n ∷ []) (c.loop-k.invariant ∙ ap (flat_map (λ z. twofold (λ c. twin c z))) (take_all c.loop-k.k n.outputs (omega arith)))
