use Rattle.std.proofs.Common.{◌≡◌, ◌++◌, take}
use Rattle.std.specs.List.{flat_map}
use Rattle.certifying.specs.Lines.{loop_name}
use Rattle.certifying.proofs.line.put_loop.Given as goal

abbrev pub invariant-loop-g : goal.invariant-loop-g
invariant-loop-g l = l.out.items ≡ l.fn.out.items ++ flat_map (loop_name l.h.net) (take l.g-index l.nodes)
