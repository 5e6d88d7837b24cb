use Rattle.std.proofs.Common.{◌≡◌, map}
use Rattle.std.specs.List.{range_with_len}
use Rattle.triplicate.specs.Planned.{plan_votes}
use Rattle.hardened_text.proofs.copies.note_votes.Given as goal

abbrev pub invariant-loop-j : goal.invariant-loop-j
invariant-loop-j l = l.votes.items ≡ map (plan_votes l.n.net l.plan l.y) (range_with_len 0 l.j)
