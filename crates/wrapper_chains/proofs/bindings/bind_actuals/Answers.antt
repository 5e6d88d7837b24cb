use Rattle.std.proofs.Common.{ap}
use Rattle.std.specs.Str.{bytes_eq}
use Rattle.std.specs.Map.{lookup}
use Rattle.library_faults.specs.Flat.{actual_of}
use Rattle.wrapper_chains.proofs.Binding.{bind_more}
use Rattle.wrapper_chains.proofs.bindings.bind_actuals.Goals as goal

pub loop-formal-init : goal.loop-formal-init
unfolding actual_of
loop-formal-init c = λ name. ap (λ es. lookup (bytes_eq name) es) c.in_ok-actuals.ensures.empty

pub loop-formal-preserved : goal.loop-formal-preserved
loop-formal-preserved c = λ q. bind_more c.args.bindings.now c.loop-formal.formal-index c.loop-formal-item.result _ _ q c.loop-formal-test.true c.loop-formal-item.is (c.loop-formal.invariant q) (c.in_ok-bind_one.ensures q)
