-- The line that tells why no certificate is found.
use Rattle.std.specs.Prelude.{ℕ, ◌+◌, nat_eq, List, [], ◌∷◌, ◌++◌, length, codes, if◌then◌else◌}
use Rattle.std.specs.Fmt.{decimal}
use Rattle.std.specs.List.{flat_map}
use Rattle.tmr_base.specs.Copies.{copy_number}
use Rattle.flat_net.specs.Net.{Net, name_of}
use Rattle.certifying.specs.declared.cause.NoCertificate.{NoCertificate}
use Rattle.certifying.specs.declared.cause.NoCertificate.TheVariants.{Inputs, Clock, Output, Pin, TwoRoles, NoRole, NoCopy, Loop, Rule, Memory}

-- a blank and the name of hardened node g, counted from 0
abbrev pub loop_name : Net → ℕ → List ℕ
loop_name h g = 32 ∷ name_of h (length h.inputs + g)

-- where a rule fails: at the inputs, at the clock, at a hardened node, or at an output position
abbrev pub rule_place : Net → ℕ → ℕ → List ℕ
rule_place h rule at =
    if nat_eq rule 1 then codes "inputs"
    else if nat_eq rule 2 then codes "clock"
    else if nat_eq rule 8 then codes "output " ++ decimal at
    else name_of h (length h.inputs + at)

-- what is told of a cause
abbrev pub cause_text : Net → Net → NoCertificate → List ℕ
cause_text n h Inputs = codes "inputs"
cause_text n h Clock = codes "clock"
cause_text n h (Output k) = codes "output " ++ decimal k
cause_text n h (Pin g j) = codes "pin " ++ (decimal j ++ (codes " of " ++ name_of h g.0))
cause_text n h (TwoRoles g) = codes "two roles " ++ name_of h g.0
cause_text n h (NoRole g) = codes "no role " ++ name_of h g.0
cause_text n h (NoCopy x c) = codes "no copy " ++ (name_of n x.0 ++ (codes " " ++ decimal (copy_number c)))
cause_text n h (Loop gs) = codes "loop" ++ flat_map (loop_name h) gs.items
cause_text n h (Rule refusal) = codes "rule " ++ (decimal refusal.rule ++ (codes " at " ++ rule_place h refusal.rule refusal.at))
cause_text n h Memory = codes "memory"

-- the whole line
abbrev pub no_certificate_text : Net → Net → NoCertificate → List ℕ
no_certificate_text n h why = codes "no certificate: " ++ (cause_text n h why ++ 10 ∷ [])
