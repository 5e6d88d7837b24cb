use Rattle.std.proofs.Common.{◌≡◌, ◌++◌, map, drop, Some}
use Rattle.aag_design.specs.Private.Drafting.{number_behind}
use Rattle.aag_design.proofs.loops.numbers_of.Given as goal

abbrev pub invariant-loop-name : goal.invariant-loop-name
invariant-loop-name l = map Some l.numbers.items ++ map number_behind (drop l.name-index l.names) ≡ map number_behind l.names
