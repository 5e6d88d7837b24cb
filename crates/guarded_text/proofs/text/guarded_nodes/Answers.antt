use Rattle.std.proofs.Common.{arith}
use Rattle.dwc.proofs.Few.{outputs_few}
use Rattle.dwc.proofs.Nodes.{length-nodes}
use Rattle.guarded_text.proofs.text.guarded_nodes.Goals as goal

pub overflow_add-result : goal.overflow_add-result
overflow_add-result c = omega (arith, c.requires, c.node_count.ensures, c.output_count.ensures, outputs_few c.args.n.now.net c.input_count-inputs.ensures.design.valid)

pub overflow_add-result-2 : goal.overflow_add-result-2
overflow_add-result-2 c = omega (arith, c.requires, c.node_count.ensures, c.output_count.ensures, outputs_few c.args.n.now.net c.input_count-inputs.ensures.design.valid)

pub returns : goal.returns
returns c = omega (arith, c.node_count.ensures, c.output_count.ensures, length-nodes c.args.n.now.net)
