use Rattle.std.proofs.Common.{◌≡◌, ◌++◌, [], length, ap, arith}
use Rattle.tmr_outside.proofs.disk_files.gather_file.Goals as goal

pub returns-then-gathered : goal.returns-then-gathered
returns-then-gathered g c =
    let gathered : c.read_file.new.to.bytes.items ≡ [] ++ c.read_file.ensures.taken = c.read_file.ensures.takes.appended [] (λ _. c.new-gathered.ensures.bytes) c.if-gathered.true in
    omega (arith, ap length gathered, c.read_file.ensures.within)
