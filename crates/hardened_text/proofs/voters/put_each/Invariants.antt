use Rattle.std.proofs.Common.{◌≡◌, ◌++◌, take}
use Rattle.std.specs.List.{flat_map}
use Rattle.hardened_text.specs.Private.Spelled.{voters_at}
use Rattle.hardened_text.proofs.voters.put_each.Given as goal

abbrev pub invariant-loop-p : goal.invariant-loop-p
invariant-loop-p l = l.out.items ≡ l.fn.out.items ++ flat_map (voters_at l.head) (take l.p-index l.row)
