use Rattle.std.proofs.Common.{refl}
use Rattle.tmr_top.specs.Loads.{Bytes}
use Rattle.tmr_top.specs.Private.Opened.{bytes_file}
use Rattle.tmr_top.proofs.LoadLaws.{held_certificate}
use Rattle.tmr_top.proofs.loads.take_certificate.Goals as goal

pub returns-in-Ok-clause-read : goal.returns-in-Ok-clause-read
returns-in-Ok-clause-read g c =
    held_certificate ((g.F.Files.seen c.args.files.now).contents) (bytes_file c.args.words.now.certificate.now c.args.limit) g.P.OfDesigns.original g.P.OfDesigns.hardened c.new-taker.result.reader c.take_pieces.new.taker.reader _ c.finish.result c.new-taker.ensures.stands c.in-Ok.ensures.taken refl c.finish.ensures.exact

pub returns-clause-stop : goal.returns-clause-stop
returns-clause-stop g c = c.in-Err.ensures.stop Bytes

pub returns-clause-steady_stop : goal.returns-clause-steady_stop
returns-clause-steady_stop g c = λ s. c.in-Err.ensures.steady_stop s Bytes
