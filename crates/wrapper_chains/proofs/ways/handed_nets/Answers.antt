use Rattle.std.proofs.Common.{sym}
use Rattle.std.specs.Str.{bytes_eq}
use Rattle.indexmap.specs.IndexMap.{get}
use Rattle.wrapper_chains.proofs.Handing.{handed_more, none_handed}
use Rattle.wrapper_chains.proofs.ways.handed_nets.Goals as goal

pub loop-name-init : goal.loop-name-init
loop-name-init c = none_handed (get bytes_eq c.args.actuals.now) c.in_ok-handed.handed.items c.in_ok-handed.ensures.items

pub loop-name-preserved : goal.loop-name-preserved
loop-name-preserved c = handed_more (get bytes_eq c.args.actuals.now) c.args.nets.now c.loop-name.name-index c.loop-name-item.result c.in-Some.actual.now c.in_ok-name.name c.in_ok-actual.actual c.loop-name.handed.items c.push.new.self.items c.loop-name-test.true c.loop-name-item.is (sym c.in-Some.ensures.value) c.in_ok-name.ensures c.in_ok-actual.ensures c.in_ok-push.ensures.items c.loop-name.invariant
