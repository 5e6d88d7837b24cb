use Rattle.std.proofs.Common.{◌≡◌, ◌<◌, ℕ, [], true, get_or}
use Rattle.tmr_base.specs.Names.{is_name}
use Rattle.vcd_text.proofs.text.know_names.Given as goal

abbrev pub invariant-loop-k : goal.invariant-loop-k
invariant-loop-k l = (j : ℕ) → j < l.k → is_name (get_or l.names j []) ≡ true
