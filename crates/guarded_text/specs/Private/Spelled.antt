-- Only private functions cite this: names and rows as bytes, piece by piece.
use Rattle.std.specs.Prelude.{ℕ, zero, suc, List, [], ◌∷◌, ◌++◌, length, codes, replicate}
use Rattle.std.specs.List.{flat_map}
use Rattle.flat_net.specs.Net.{Net, name_of}
use Rattle.dwc.specs.Guard.{twin_text}

-- a tilde and one byte behind a name
abbrev pub tailed : List ℕ → ℕ → List ℕ
tailed name byte = name ++ 126 ∷ byte ∷ []

-- the names of both copies, a blank before each
abbrev pub two_spelled : List ℕ → List ℕ
two_spelled name = 32 ∷ (twin_text name 0 ++ 32 ∷ twin_text name 1)

-- the lines of the comparator of the output with this name
abbrev pub comparator_text : List ℕ → List ℕ
comparator_text name = codes ".names" ++ (two_spelled name ++ 32 ∷ (tailed name 101 ++ codes "\n10 1\n01 1\n"))

-- the row of the alarm, of which there is none without outputs
abbrev pub any_rows : ℕ → List ℕ
any_rows zero = []
any_rows (suc count) = replicate (suc count) 48 ++ codes " 0\n"

-- the lines of the alarm
abbrev pub alarm_text : Net → List ℕ
alarm_text n = codes ".names" ++ (flat_map (λ y. 32 ∷ tailed (name_of n y) 101) n.outputs ++ (codes " alarm~z\n" ++ any_rows (length n.outputs)))

-- what stands behind the names that the alarm reads, and the end of the text
abbrev pub alarm_end : Net → List ℕ
alarm_end n = codes " alarm~z\n" ++ (any_rows (length n.outputs) ++ codes ".end\n")
