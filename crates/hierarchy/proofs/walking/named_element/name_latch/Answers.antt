use Rattle.std.specs.Str.{bytes_eq}
use Rattle.indexmap.specs.IndexMap.{get}
use Rattle.library_faults.specs.Flat.{resolved_control}
use Rattle.hierarchy.proofs.NetNames.{latch_named}
use Rattle.hierarchy.specs.Private.Walk.{net_at, levels_at}
use Rattle.hierarchy.proofs.walking.named_element.name_latch.Goals as goal

pub returns-clause-named : goal.returns-clause-named
returns-clause-named c = latch_named (get bytes_eq c.args.texts.now) (get bytes_eq c.name_net.new.texts) (get bytes_eq c.name_net-2.new.texts) (get bytes_eq c.name_control.new.texts) (net_at c.args.place.now c.args.pin.now) (net_at c.args.place.now c.args.out.now) (resolved_control (levels_at c.args.place.now) c.args.control.now) c.args.init c.in_ok-pin.ensures.named c.in_ok-out.ensures.named c.in_ok-control.ensures.named
