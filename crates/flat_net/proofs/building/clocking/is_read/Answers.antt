use Rattle.std.proofs.Common.{◌∙◌}
use Rattle.std.specs.Str.{bytes_eq}
use Rattle.flat_net.specs.DraftView.{plain_element}
use Rattle.flat_net.proofs.Clocks.{any_read}
use Rattle.flat_net.proofs.building.clocking.is_read.Goals as goal

pub returns : goal.returns
returns c = c.some_reads.ensures ∙ any_read (bytes_eq c.args.name.now) plain_element c.args.elements.now
