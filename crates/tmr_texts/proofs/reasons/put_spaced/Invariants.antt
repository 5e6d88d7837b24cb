use Rattle.std.proofs.Common.{◌≡◌, ◌++◌, drop}
use Rattle.tmr_texts.specs.Reasons.{spaced}
use Rattle.tmr_texts.proofs.reasons.put_spaced.Given as goal

abbrev pub invariant-loop-name : goal.invariant-loop-name
invariant-loop-name l = l.text.items ++ spaced (drop l.name-index l.names) ≡ l.fn.text.items ++ spaced l.names
