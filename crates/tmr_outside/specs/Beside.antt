-- Names of files that are made beside others.
use Rattle.std.specs.Prelude.{ℕ, List, ◌∷◌, ◌++◌}
use Rattle.std.specs.Fmt.{decimal}

-- `.FILE.tmr-NUMBER`, the number in decimal
unfoldable pub file_beside : List ℕ → ℕ → List ℕ
file_beside file number = 46 ∷ (file ++ (46 ∷ 116 ∷ 109 ∷ 114 ∷ 45 ∷ decimal number))
