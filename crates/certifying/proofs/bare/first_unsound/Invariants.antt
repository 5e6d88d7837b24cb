use Rattle.std.proofs.Common.{◌≡◌, ℕ, ◌+◌, ◌<◌, Some, slice_get}
use Rattle.certificate.specs.declared.role.Role.{Role}
use Rattle.certifying.specs.Private.Bare.{IsSound}
use Rattle.certifying.proofs.bare.first_unsound.Given as goal

abbrev pub invariant-loop-i : goal.invariant-loop-i
invariant-loop-i l = (j : ℕ) → j < l.i → (role : Role) → slice_get l.roles j ≡ Some role → IsSound l.version l.first l.copies (l.inputs + j) role
