use Rattle.std.proofs.Common.{◌∙◌, ℕ, List, ap, sym, get_or}
use Rattle.aag_text.specs.Variables.{is_among}
use Rattle.aag_reader.proofs.VariableLaws.{keys_go, none_goes}
use Rattle.aag_reader.proofs.variables.defined_once.Goals as goal

pub loop-variable-preserved : goal.loop-variable-preserved
loop-variable-preserved c = record {
  keys = keys_go c.args.all.now c.loop-variable.variables.keys c.define.new.variables.keys c.loop-variable.variable-index c.loop-variable-test.true c.loop-variable.invariant.keys c.in_ok-define.ensures.ok;
  once = none_goes is_among c.args.all.now c.loop-variable.variable-index c.loop-variable-test.true c.loop-variable.invariant.once (ap (λ (ks : List ℕ). is_among ks (get_or c.args.all.now c.loop-variable.variable-index 0)) (sym c.loop-variable.invariant.keys) ∙ c.in_ok-define.ensures.new);
}
