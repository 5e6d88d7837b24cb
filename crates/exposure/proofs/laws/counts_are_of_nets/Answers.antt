use Rattle.exposure.proofs.NetLaws.{nodes_counted, inputs_counted}
use Rattle.exposure.proofs.laws.counts_are_of_nets.Goals as goal

pub returns-clause-nodes : goal.returns-clause-nodes
returns-clause-nodes c = λ k p d. nodes_counted k p d

pub returns-clause-inputs : goal.returns-clause-inputs
returns-clause-inputs c = λ k d is three. inputs_counted k d is three
