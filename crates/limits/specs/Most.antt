-- The numbers of both sets of limits, in bytes.
use Rattle.std.specs.Prelude.{ℕ}
use Rattle.limits.specs.declared.Limits.{Limits}
use Rattle.limits.specs.declared.Limits.TheVariants.{Usual, Large}

-- an original design, an AIGER file, and the flat text of either
abbrev pub most_original : Limits → ℕ
most_original Usual = 8388608
most_original Large = 134217728

-- a hardened design, a guarded one, the flat text of either, and a certificate: 128 times as many
abbrev pub most_hardened : Limits → ℕ
most_hardened Usual = 1073741824
most_hardened Large = 17179869184

-- what is within either set of limits: an original, any text, and the nets and pins of an original together
abbrev pub widest_original : ℕ
widest_original = 134217728

abbrev pub widest_text : ℕ
widest_text = 17179869184

abbrev pub widest_nets : ℕ
widest_nets = 268435456
