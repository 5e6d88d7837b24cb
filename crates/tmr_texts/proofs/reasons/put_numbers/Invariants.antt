use Rattle.std.proofs.Common.{◌≡◌, ◌++◌, map, drop}
use Rattle.std.specs.Fmt.{decimal}
use Rattle.tmr_texts.specs.Reasons.{spaced}
use Rattle.tmr_texts.proofs.reasons.put_numbers.Given as goal

abbrev pub invariant-loop-number : goal.invariant-loop-number
invariant-loop-number l = l.text.items ++ spaced (map decimal (drop l.number-index l.numbers)) ≡ l.fn.text.items ++ spaced (map decimal l.numbers)
