-- The numbers of the limits are within the widest, and a hardened design has room for 128 times an original.
use Rattle.std.proofs.Common.{◌≡◌, ◌≤◌, ◌*◌, refl, arith}
use Rattle.limits.specs.declared.Limits.{Limits}
use Rattle.limits.specs.declared.Limits.TheVariants.{Usual, Large}
use Rattle.limits.specs.Most.{most_original, most_hardened, widest_original, widest_text}

pub original_within : (l : Limits) → most_original l ≤ widest_original
original_within Usual = omega arith
original_within Large = omega arith

pub hardened_within : (l : Limits) → most_hardened l ≤ widest_text
hardened_within Usual = omega arith
hardened_within Large = omega arith

pub hardened_is : (l : Limits) → most_hardened l ≡ 128 * most_original l
hardened_is Usual = refl
hardened_is Large = refl

pub ruleset most_laws = (original_within, hardened_within, hardened_is)
