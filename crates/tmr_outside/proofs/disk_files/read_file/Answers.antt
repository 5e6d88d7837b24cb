use Rattle.tmr_outside.proofs.PieceLemmas.{TakesFile-none}
use Rattle.tmr_outside.proofs.disk_files.read_file.Goals as goal

pub returns-in-Err : goal.returns-in-Err
returns-in-Err g c = TakesFile-none c.args.limit c.args.name.now
