-- What the tokens of a `.latch` behind D and Q decide, where they are given.
use Rattle.std.specs.Prelude.{ℕ, List, Option, Some, None}
use Rattle.std.specs.Borrow.{Bor}
use Rattle.tmr_base.specs.declared.ids.Edge.{Edge}
use Rattle.blif_text.specs.declared.fault.TextKind.{TextKind}
use Rattle.blif_text.specs.declared.library.Init.{Init}
use Rattle.blif_text.specs.declared.library.Init.TheVariants.{Unknown as Unset}
use Rattle.blif_text.specs.Kind.{control_kind, init_kind}
use Rattle.blif_text.specs.Models.{control, init}

-- of TYPE and CONTROL
abbrev pub clock_kind : Option (Bor (List ℕ) × Bor (List ℕ)) → Option TextKind
clock_kind None = None
clock_kind (Some clock) = control_kind clock.0.now clock.1.now

abbrev pub clock_of : Option (Bor (List ℕ) × Bor (List ℕ)) → Option (Edge × List ℕ)
clock_of None = None
clock_of (Some clock) = control clock.0.now clock.1.now

-- of INIT
abbrev pub start_kind : Option (Bor (List ℕ)) → Option TextKind
start_kind None = None
start_kind (Some token) = init_kind token.now

abbrev pub start_of : Option (Bor (List ℕ)) → Init
start_of None = Unset
start_of (Some token) = init token.now
