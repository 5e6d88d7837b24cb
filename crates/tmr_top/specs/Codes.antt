-- The number of a status.
use Rattle.std.specs.Prelude.{ℕ}
use Rattle.tmr_top.specs.declared.status.Status.{Status}
use Rattle.tmr_top.specs.declared.status.Status.TheVariants.{Done, NotAccepted, Usage, Fault, Refused, Memory}

abbrev pub code_of : Status → ℕ
code_of Done = 0
code_of NotAccepted = 1
code_of Usage = 2
code_of Fault = 3
code_of Refused = 4
code_of Memory = 5
