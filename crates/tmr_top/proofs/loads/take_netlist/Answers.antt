use Rattle.std.proofs.Common.{refl}
use Rattle.tmr_top.specs.Loads.{Netlist}
use Rattle.tmr_top.specs.Private.Opened.{netlist_file}
use Rattle.tmr_top.proofs.LoadLaws.{held_text}
use Rattle.tmr_top.proofs.loads.take_netlist.Goals as goal

pub returns-in-Ok-take_pieces-clause-text : goal.returns-in-Ok-take_pieces-clause-text
returns-in-Ok-take_pieces-clause-text g c =
    held_text ((g.F.Files.seen c.args.files.now).contents) (netlist_file c.args.name.now c.args.limit) c.in-Ok.taker.reader c.take_pieces.new.taker.reader _ c.finish.result c.in-Ok.ensures.stands c.in-Ok-take_pieces.ensures.taken refl c.finish.ensures

pub returns-clause-stop : goal.returns-clause-stop
returns-clause-stop g c = c.in-Err-take_pieces.ensures.stop Netlist

pub returns-clause-steady_stop : goal.returns-clause-steady_stop
returns-clause-steady_stop g c = λ s. c.in-Err-take_pieces.ensures.steady_stop s Netlist
