use Rattle.std.proofs.Common.{◌∙◌, sym}
use Rattle.aag_text.specs.Aig.{plain_aig}
use Rattle.aag_design.proofs.FileFacts.{small_text, large_text}
use Rattle.aag_design.proofs.file.read_counted.Goals as goal

pub returns-in-Err-clause-fault : goal.returns-in-Err-clause-fault
returns-in-Err-clause-fault c = c.in-Err.ensures.fault c.args.limit

pub returns-in-Ok-true-clause-design : goal.returns-in-Ok-true-clause-design
returns-in-Ok-true-clause-design c =
    small_text c.args.bytes.now c.args.limit (plain_aig c.in-Ok.g.aig) (record { net = c.in_ok-net.net; counts = c.counts_of.result }) c.in-Ok.ensures.of c.in-Ok-design_of.ensures.no_loop c.in_ok-net.ensures (sym c.in-Ok-true.ensures ∙ c.in-Ok-true.field-0-test) c.counts_of.ensures

pub returns-in-Ok-false-clause-fault : goal.returns-in-Ok-false-clause-fault
returns-in-Ok-false-clause-fault c =
    large_text c.args.bytes.now c.args.limit (plain_aig c.in-Ok.g.aig) c.in_ok-net.net c.in-Ok.ensures.of c.in-Ok-design_of.ensures.no_loop c.in_ok-net.ensures (sym c.in-Ok-false.ensures ∙ c.in-Ok-false.field-0-test)
