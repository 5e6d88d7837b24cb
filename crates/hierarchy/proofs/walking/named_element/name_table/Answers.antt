use Rattle.std.proofs.Common.{rules, map}
use Rattle.std.specs.Str.{bytes_eq}
use Rattle.indexmap.specs.IndexMap.{get}
use Rattle.std.specs.Prelude.{flat_map}
use Rattle.blif_text.specs.Models.{Table}
use Rattle.hierarchy.specs.Clash.{nets_of}
use Rattle.hierarchy.specs.Private.Naming.{IsNamingFault}
use Rattle.wrapper_chains.specs.Private.Placed.{placed_element}
use Rattle.hierarchy.proofs.NetNames.{table_named, table_pins_fault, table_out_fault}
use Rattle.hierarchy.specs.Private.Walk.{net_at, levels_at}
use Rattle.hierarchy.proofs.walking.named_element.name_table.Goals as goal

pub returns-clause-named : goal.returns-clause-named
returns-clause-named c = table_named (get bytes_eq c.args.texts.now) (get bytes_eq c.name_nets.new.texts) (get bytes_eq c.name_net.new.texts) (map (net_at c.args.place.now) c.args.pins.now) (net_at c.args.place.now c.args.out.now) c.args.cover.now c.in_ok-pins.ensures.named c.in_ok-out.ensures.named

pub returns-in_err-pins-clause-fault : goal.returns-in_err-pins-clause-fault
returns-in_err-pins-clause-fault c =
    let told : IsNamingFault (get bytes_eq c.args.texts.now) (flat_map nets_of (placed_element (levels_at c.args.place.now) (Table c.args.pins.now c.args.out.now c.args.cover.now))) c.in_err-pins.field-0.0 =
    table_pins_fault (get bytes_eq c.args.texts.now) (map (net_at c.args.place.now) c.args.pins.now) (net_at c.args.place.now c.args.out.now) c.args.cover.now c.in_err-pins.field-0.0 c.in_err-pins.ensures.fault in
    search rules

pub returns-in_err-out-clause-fault : goal.returns-in_err-out-clause-fault
returns-in_err-out-clause-fault c =
    let told : IsNamingFault (get bytes_eq c.args.texts.now) (flat_map nets_of (placed_element (levels_at c.args.place.now) (Table c.args.pins.now c.args.out.now c.args.cover.now))) c.in_err-out.field-0.0 =
    table_out_fault (get bytes_eq c.args.texts.now) (get bytes_eq c.name_nets.new.texts) (map (net_at c.args.place.now) c.args.pins.now) (net_at c.args.place.now c.args.out.now) c.args.cover.now c.in_err-out.field-0.0 c.in_ok-pins.ensures.named c.in_err-out.ensures.fault in
    search rules
