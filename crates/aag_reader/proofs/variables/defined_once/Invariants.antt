use Rattle.std.proofs.Common.{◌≡◌, take}
use Rattle.flat_net.specs.First.{HasNone}
use Rattle.aag_text.specs.Variables.{is_among}
use Rattle.aag_reader.proofs.variables.defined_once.Given as goal

abbrev pub invariant-loop-variable : goal.invariant-loop-variable
invariant-loop-variable l = record {
  keys : l.variables.keys ≡ take l.variable-index l.all;
  once : HasNone is_among (take l.variable-index l.all);
}
