use Rattle.tmr_top.specs.Private.Opened.{bytes_file}
use Rattle.tmr_top.proofs.LoadLaws.{opens_taken}
use Rattle.tmr_top.proofs.loads.load_bytes.Goals as goal

pub returns-clause-opens : goal.returns-clause-opens
returns-clause-opens g c =
    let took = c.take_bytes.ensures in
    opens_taken (bytes_file c.args.name.now c.args.limit) _ _ _ _ c.take_bytes.result took.stays took.changes took.steady took.bytes took.quiet took.stop took.steady_stop
