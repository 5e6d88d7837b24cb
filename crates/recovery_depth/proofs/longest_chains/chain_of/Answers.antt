use Rattle.std.proofs.Common.{◌≡◌, ℕ, suc, ◌+◌, ◌-◌, ◌++◌, ◌∷◌, [], map, reverse, sym, ◌∙◌, ap, arith}
use Rattle.flat_net.specs.Nodes.{number_of}
use Rattle.recovery_depth.specs.Private.LastRegisters.{number_at}
use Rattle.recovery_depth.specs.Private.ChainEnds.{walked}
use Rattle.recovery_depth.proofs.WalkedLaws.{walked_more, walked_none, reversed_push}
use Rattle.recovery_depth.proofs.longest_chains.chain_of.Goals as goal

pub loop-step-preserved : goal.loop-step-preserved
loop-step-preserved c =
    let less : c.args.depth - c.loop-step.step ≡ suc (c.args.depth - (c.loop-step.step + 1)) = omega (arith, c.loop-step-test.true) in
    let more = walked_more c.args.before.now c.args.originals.now (c.args.depth - c.loop-step.step) (c.args.depth - (c.loop-step.step + 1)) c.loop-step.register (map (number_at c.args.originals.now) (walked c.args.before.now c.args.depth c.args.top)) (map number_of (reverse c.loop-step.chain.items)) less c.loop-step.invariant in
    let pushed : map number_of (reverse c.push.new.self.items) ≡ c.reach_at.result ∷ map number_of (reverse c.loop-step.chain.items) = ap (λ xs. map number_of (reverse xs)) c.in_ok-push.ensures.items ∙ reversed_push c.loop-step.chain.items _ in
    more ∙ (ap (λ (v : ℕ). map (number_at c.args.originals.now) (walked c.args.before.now (c.args.depth - (c.loop-step.step + 1)) v) ++ (number_at c.args.originals.now c.loop-step.register ∷ map number_of (reverse c.loop-step.chain.items))) (sym c.reach_at-register.ensures)
    ∙ (ap (λ (v : ℕ). map (number_at c.args.originals.now) (walked c.args.before.now (c.args.depth - (c.loop-step.step + 1)) c.reach_at-register.result) ++ (v ∷ map number_of (reverse c.loop-step.chain.items))) (sym c.reach_at.ensures)
    ∙ ap (λ ys. map (number_at c.args.originals.now) (walked c.args.before.now (c.args.depth - (c.loop-step.step + 1)) c.reach_at-register.result) ++ ys) (sym pushed)))

pub returns : goal.returns
returns c =
    let none : walked c.args.before.now (c.args.depth - c.loop-step.step) c.loop-step.register ≡ [] = walked_none c.args.before.now (c.args.depth - c.loop-step.step) c.loop-step.register (omega (arith, c.loop-step-test.false)) in
    ap (map number_of) c.reverse.ensures.items ∙ sym (c.loop-step.invariant ∙ ap (λ ys. map (number_at c.args.originals.now) ys ++ map number_of (reverse c.loop-step.chain.items)) none)
