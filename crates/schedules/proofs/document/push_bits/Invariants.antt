use Rattle.std.proofs.Common.{◌≡◌, ◌++◌, map, take}
use Rattle.std.specs.Prelude.{nat_eq}
use Rattle.schedules.proofs.document.push_bits.Given as goal

abbrev pub invariant-loop-b : goal.invariant-loop-b
invariant-loop-b l = l.bits.items ≡ l.fn.bits.items ++ map (λ b. nat_eq b 49) (take l.b-index l.text)
