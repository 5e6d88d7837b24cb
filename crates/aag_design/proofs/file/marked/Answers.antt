use Rattle.aag_text.specs.Aig.{plain_aig}
use Rattle.aag_design.proofs.FileFacts.{marks_fit}
use Rattle.aag_design.proofs.file.marked.Goals as goal

pub make-requires : goal.make-requires
make-requires c = marks_fit (plain_aig c.args.g.now.aig) c.args.net.net c.in_ok-marks.marks.items c.requires.sound c.requires.net c.in_ok-marks.ensures
