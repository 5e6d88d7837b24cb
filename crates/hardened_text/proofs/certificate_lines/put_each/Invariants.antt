use Rattle.std.proofs.Common.{◌≡◌, ◌++◌, take}
use Rattle.std.specs.List.{flat_map}
use Rattle.hardened_text.specs.Private.Spelled.{lines_at}
use Rattle.hardened_text.proofs.certificate_lines.put_each.Given as goal

abbrev pub invariant-loop-p : goal.invariant-loop-p
invariant-loop-p l = l.out.items ≡ l.fn.out.items ++ flat_map (lines_at l.head l.name) (take l.p-index l.row)
