use Rattle.std.proofs.Common.{◌≡◌, ◌++◌, length}
use Rattle.text_lines.specs.Joined.{tokens}
use Rattle.text_lines.specs.Tokens.{plain}
use Rattle.text_lines.proofs.joined.tokens.Given as goal

abbrev pub invariant-loop-rest : goal.invariant-loop-rest
invariant-loop-rest l = plain l.found.items ++ tokens l.rest ≡ tokens l.text

abbrev pub decreases-loop-rest : goal.decreases-loop-rest
decreases-loop-rest l = length l.rest
