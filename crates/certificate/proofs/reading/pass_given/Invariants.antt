use Rattle.std.proofs.Common.{◌≡◌, ◌-◌, ℕ, length}
use Rattle.flat_net.specs.Net.{Net}
use Rattle.certificate.specs.Lines.{Rest}
use Rattle.certificate.specs.Tables.{roles_read}
use Rattle.certificate.specs.Folding.{voter_step, repeat}
use Rattle.certificate.proofs.reading.pass_given.Given as goal

abbrev pub invariant-loop-roles : goal.invariant-loop-roles
invariant-loop-roles l = (version : ℕ) (n h : Net) (parts : ℕ) (r : Rest) → repeat (length l.given - length l.fn.roles.items) (voter_step version n h parts l.given) (roles_read l.fn.roles.items r) ≡ repeat (length l.given - length l.roles.items) (voter_step version n h parts l.given) (roles_read l.roles.items r)

abbrev pub decreases-loop-roles : goal.decreases-loop-roles
decreases-loop-roles l = length l.given - length l.roles.items
