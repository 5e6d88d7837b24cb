use Rattle.std.proofs.Common.{◌≡◌, drop, map}
use Rattle.blif_text.specs.Views.{plain_element}
use Rattle.library_faults.specs.Faults.{elements_fault}
use Rattle.library_faults.proofs.statements.placing.statement_fault.Given as goal

abbrev pub invariant-loop-element : goal.invariant-loop-element
invariant-loop-element l = elements_fault l.names.keys l.ports (map plain_element (drop l.element-index l.elements)) ≡ elements_fault l.names.keys l.ports (map plain_element l.elements)
