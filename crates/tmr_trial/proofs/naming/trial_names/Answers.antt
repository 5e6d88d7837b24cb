use Rattle.std.proofs.Common.{◌≡◌, ◌+◌, ap, ◌∙◌, arith, take}
use Rattle.std.proofs.lemmas.List.{take_all}
use Rattle.tmr_trial.specs.Designs.{input_text, node_text}
use Rattle.tmr_trial.proofs.Texts.{texts, length-texts, input_at, node_at, input_is_name, node_is_name}
use Rattle.tmr_trial.proofs.Making.{names_next}
use Rattle.tmr_trial.proofs.naming.trial_names.Goals as goal

pub push_name-requires : goal.push_name-requires
push_name-requires c = input_is_name c.loop-x.x (omega arith)

pub loop-x-preserved : goal.loop-x-preserved
loop-x-preserved c = names_next c.args.count c.loop-x.x (input_text c.loop-x.x) _ _ c.requires (omega arith) (input_at c.args.count c.loop-x.x (omega arith)) c.loop-x.invariant c.in_ok-push_name.ensures

pub loop-i-init : goal.loop-i-init
loop-i-init c = let e : c.loop-x.x ≡ 8 + 0 = omega arith in c.loop-x.invariant ∙ ap (λ k. take k (texts c.args.count)) e

pub push_name-requires-in-loop-i : goal.push_name-requires-in-loop-i
push_name-requires-in-loop-i c = node_is_name c.loop-i.i (omega arith)

pub loop-i-preserved : goal.loop-i-preserved
loop-i-preserved c = let e : 8 + c.loop-i.i + 1 ≡ 8 + (c.loop-i.i + 1) = omega arith in names_next c.args.count (8 + c.loop-i.i) (node_text c.loop-i.i) _ _ c.requires (omega arith) (node_at c.args.count c.loop-i.i (omega arith)) c.loop-i.invariant c.in_ok-push_name-2.ensures ∙ ap (λ k. take k (texts c.args.count)) e

pub returns : goal.returns
returns c = c.loop-i.invariant ∙ take_all _ (texts c.args.count) (omega (arith, length-texts c.args.count))
