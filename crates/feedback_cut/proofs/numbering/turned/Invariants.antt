use Rattle.std.proofs.Common.{◌≡◌, ◌-◌, map, take}
use Rattle.feedback_cut.proofs.numbering.turned.Given as goal

abbrev pub invariant-loop-number : goal.invariant-loop-number
invariant-loop-number l = l.turned.items ≡ map (λ k. l.groups - 1 - k) (take l.number-index l.numbers)
