-- The faults of a graph, one behind the other.
use Rattle.std.proofs.Common.{ℕ, List}
use Rattle.aag_reader.specs.declared.fault.GraphFault.{GraphFault}
use Rattle.aag_reader.specs.declared.fault.GraphFault.TheVariants.{Line, Doubled, Undefined, Memory}
use Rattle.aag_text.specs.Aig.{PlainAig}
use Rattle.aag_text.specs.Lines.{IsFile}
use Rattle.aag_reader.specs.Faults.{IsGraphFault}
use Rattle.aag_text.specs.Variables.{defined, read_variables, IsDefinedOnce}
use Rattle.aag_reader.specs.Private.Sections.{IsLineFault}
use Rattle.aag_reader.specs.Private.Found.{IsDoubledIn, IsUndefinedIn}

pub line_fault : (bytes : List ℕ) (fault : GraphFault) → IsLineFault bytes fault → IsGraphFault bytes fault
line_fault bytes (Line number) is = is
line_fault bytes (Doubled v) is = absurd is
line_fault bytes (Undefined v) is = absurd is
line_fault bytes Memory is = is

pub doubled_fault : (bytes : List ℕ) (a : PlainAig) (fault : GraphFault) → IsFile bytes a → IsDoubledIn (defined a) fault → IsGraphFault bytes fault
doubled_fault bytes a (Line number) file is = absurd is
doubled_fault bytes a (Doubled v) file is = (a, file, is)
doubled_fault bytes a (Undefined v) file is = absurd is
doubled_fault bytes a Memory file is = is

pub undefined_fault : (bytes : List ℕ) (a : PlainAig) (fault : GraphFault) → IsFile bytes a → IsDefinedOnce a → IsUndefinedIn (defined a) (read_variables a) fault → IsGraphFault bytes fault
undefined_fault bytes a (Line number) file once is = absurd is
undefined_fault bytes a (Doubled v) file once is = absurd is
undefined_fault bytes a (Undefined v) file once is = (a, file, once, is)
undefined_fault bytes a Memory file once is = is

pub ruleset graph_faults = (line_fault, doubled_fault, undefined_fault)
