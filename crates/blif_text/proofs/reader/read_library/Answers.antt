use Rattle.std.proofs.Common.{[]}
use Rattle.blif_text.proofs.Taken.{stands_new}
use Rattle.blif_text.proofs.reader.read_library.Goals as goal

pub returns : goal.returns
returns c = c.finish.ensures.reads c.args.bytes.now (c.take_piece-fault.ensures.read [] (stands_new c.new-lines.result c.new-progress.result c.new-lines.ensures c.new-progress.ensures))
