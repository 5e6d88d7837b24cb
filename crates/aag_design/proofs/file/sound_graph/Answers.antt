use Rattle.aag_design.proofs.file.sound_graph.Goals as goal

pub returns-in-Err-Line-clause-fault : goal.returns-in-Err-Line-clause-fault
returns-in-Err-Line-clause-fault c = λ limit. rw c.in-Err-Line.field-0-is at c.in-Err-Line.ensures.fault
