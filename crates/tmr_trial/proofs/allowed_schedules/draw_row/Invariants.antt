use Rattle.std.proofs.Common.{◌≡◌}
use Rattle.tmr_trial.specs.Numbers.{state_after}
use Rattle.tmr_trial.specs.Schedules.{row_drawn}
use Rattle.tmr_trial.proofs.allowed_schedules.draw_row.Given as goal

abbrev pub invariant-loop-i : goal.invariant-loop-i
invariant-loop-i l = record {
  row : l.row.items ≡ row_drawn l.i l.fn.numbers.state;
  state : l.numbers.state ≡ state_after l.i l.fn.numbers.state;
}
