use Rattle.std.proofs.Common.{◌≡◌, ℕ, ◌+◌, ◌<◌, Some}
use Rattle.tmr_base.specs.declared.copies.CopyNo.{CopyNo}
use Rattle.flat_net.specs.Net.{slot}
use Rattle.certificate.specs.declared.role.Role.TheVariants.{Copy}
use Rattle.certifying.specs.Private.Bare.{copy_in}
use Rattle.certifying.proofs.bare.first_roleless.Given as goal

abbrev pub invariant-loop-i : goal.invariant-loop-i
invariant-loop-i l = (j : ℕ) → j < l.i → (c : CopyNo) → slot l.inputs l.roles (copy_in l.copies j c) ≡ Some (Copy (record { 0 = l.first + j }) c)
