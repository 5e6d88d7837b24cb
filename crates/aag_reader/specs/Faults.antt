-- Why a file gives no graph.
use Rattle.std.specs.Prelude.{ℕ, List}
use Rattle.flat_net.specs.First.{IsFirst}
use Rattle.aag_text.specs.Aig.{PlainAig}
use Rattle.aag_text.specs.Variables.{defined, is_among, read_variables, is_undefined, IsDefinedOnce}
use Rattle.aag_text.specs.Lines.{IsFile}
use Rattle.aag_reader.specs.declared.fault.GraphFault.{GraphFault}
use Rattle.aag_reader.specs.declared.fault.GraphFault.TheVariants.{Line, Doubled, Undefined, Memory}
use Rattle.aag_reader.specs.BadLine.{IsFirstBadLine}

-- a fault of lines or variables, and none before it
abbrev pub IsGraphFault : List ℕ → GraphFault → Type 0
IsGraphFault bytes (Line number) = IsFirstBadLine bytes number
IsGraphFault bytes (Doubled v) = (a : PlainAig) × IsFile bytes a × IsFirst is_among (defined a) v
IsGraphFault bytes (Undefined v) = (a : PlainAig) × IsFile bytes a × IsDefinedOnce a × IsFirst (is_undefined a) (read_variables a) v
IsGraphFault bytes Memory = Unit {0}
