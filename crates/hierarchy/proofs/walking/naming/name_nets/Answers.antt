use Rattle.std.proofs.Common.{◌∙◌, map, rules}
use Rattle.std.specs.Str.{bytes_eq}
use Rattle.indexmap.specs.IndexMap.{get}
use Rattle.hierarchy.specs.Private.Naming.{IsNamingFault}
use Rattle.hierarchy.proofs.NetNames.{named_more, texts_more, fault_more}
use Rattle.hierarchy.specs.Private.Walk.{net_at}
use Rattle.hierarchy.proofs.walking.naming.name_nets.Goals as goal

pub returns-in_err-text-clause-fault : goal.returns-in_err-text-clause-fault
returns-in_err-text-clause-fault c =
    let told : IsNamingFault (get bytes_eq c.args.texts.now) (map (net_at c.args.place.now) c.args.names.now) c.in_err-text.field-0.0 = fault_more (get bytes_eq c.args.texts.now) (get bytes_eq c.loop-name.texts) (net_at c.args.place.now) c.args.names.now c.loop-name.name-index c.name-item.result c.in_err-text.field-0.0 c.loop-name-test.true c.name-item.is c.loop-name.invariant.named c.in_err-text.ensures.fault in
    search rules

pub loop-name-preserved : goal.loop-name-preserved
loop-name-preserved c = record {
  found = c.in_ok-push.ensures.items ∙ texts_more (net_at c.args.place.now) c.args.names.now c.loop-name.name-index c.name-item.result c.loop-name.found.items c.in_ok-text.text c.loop-name-test.true c.name-item.is c.loop-name.invariant.found c.in_ok-text.ensures.text;
  named = named_more (get bytes_eq c.args.texts.now) (get bytes_eq c.loop-name.texts) (get bytes_eq c.name_net.new.texts) (net_at c.args.place.now) c.args.names.now c.loop-name.name-index c.name-item.result c.loop-name-test.true c.name-item.is c.loop-name.invariant.named c.in_ok-text.ensures.named;
}
