use Rattle.std.proofs.Common.{◌≡◌, ◌+◌, take}
use Rattle.tmr_trial.proofs.Texts.{texts}
use Rattle.tmr_trial.proofs.naming.trial_names.Given as goal

abbrev pub invariant-loop-x : goal.invariant-loop-x
invariant-loop-x l = l.names.keys ≡ take l.x (texts l.count)

abbrev pub invariant-loop-i : goal.invariant-loop-i
invariant-loop-i l = l.names.keys ≡ take (8 + l.i) (texts l.count)
