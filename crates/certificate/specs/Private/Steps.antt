-- Only private functions cite this: a certificate's text, as it is made step by step.
use Rattle.std.specs.Prelude.{ℕ, zero, suc, ◌+◌, ◌-◌, List, [], ◌∷◌, ◌++◌, length, codes}
use Rattle.std.specs.Fmt.{decimal}
use Rattle.flat_net.specs.Net.{Net}
use Rattle.certificate.specs.Cert.{PlainCert}
use Rattle.certificate.specs.Left.{parts_left, nodes_left, voters_left}
use Rattle.certificate.specs.Text.{line_text}

-- the first two lines, until they are put at step 0
abbrev pub front_left : PlainCert → ℕ → List ℕ
front_left k zero = line_text (codes "tmr-cert" ∷ decimal k.version ∷ []) ++ line_text (codes "parts" ∷ decimal (length k.depth) ∷ [])
front_left k (suc step) = []

-- the last line, until it is put at step 0
abbrev pub end_left : ℕ → List ℕ
end_left zero = line_text (codes "end" ∷ [])
end_left (suc step) = []

-- what is left so many steps behind the partitions. Each step puts the line of one original node, then that of one hardened node, which
-- has one where it is a voter, and then the last line
unfoldable pub behind_left : Net → Net → PlainCert → ℕ → List ℕ
behind_left n h k step =
    nodes_left n h k step
    ++ (voters_left n h k (step - length k.part)
    ++ end_left (step - length k.part - length k.roles))

-- what is left of the text at this step. The first one puts the first two lines, and each further one the line of one partition
unfoldable pub cert_left : Net → Net → PlainCert → ℕ → List ℕ
cert_left n h k step =
    front_left k step
    ++ (parts_left k (step - 1) ++ behind_left n h k (step - 1 - length k.depth))

abbrev pub cert_steps : PlainCert → ℕ
cert_steps k = length k.depth + length k.part + length k.roles + 2
