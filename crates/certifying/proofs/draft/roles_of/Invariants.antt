use Rattle.std.proofs.Common.{◌≡◌, ℕ, ◌+◌, length, Some, slice_get}
use Rattle.certificate.specs.declared.role.Role.{Role}
use Rattle.certificate.specs.Cert.{role_of}
use Rattle.certifying.specs.Private.Renumbered.{IsRenumbered}
use Rattle.certifying.proofs.draft.roles_of.Given as goal

abbrev pub invariant-loop-i : goal.invariant-loop-i
invariant-loop-i l = record {
  long : length l.roles.items ≡ l.i;
  each : (j : ℕ) (before after : Role) → role_of l.k (length l.h.net.inputs + j) ≡ Some before → slice_get l.roles.items j ≡ Some after → IsRenumbered l.numbers l.readers j before after;
}
