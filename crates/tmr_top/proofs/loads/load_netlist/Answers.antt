use Rattle.tmr_top.specs.Private.Opened.{netlist_file}
use Rattle.tmr_top.proofs.LoadLaws.{opens_netlist}
use Rattle.tmr_top.proofs.loads.load_netlist.Goals as goal

pub returns : goal.returns
returns g c =
    let took = c.take_netlist.ensures in
    opens_netlist (netlist_file c.args.name.now c.args.limit) _ _ _ _ c.take_netlist.result took.stays took.changes took.steady took.text took.quiet took.stop took.steady_stop
