-- How much longer the lines of a hardened design are than those of its original.
use Rattle.std.proofs.Common.{◌≡◌, ℕ, ◌+◌, ◌*◌, ◌<◌, ◌≤◌, List, [], ◌∷◌, length, Option, Some, None, ◌∙◌, ap, arith, ◌++◌}
use Rattle.std.specs.Fmt.{decimal}
use Rattle.std.proofs.lemmas.Fmt.{length-decimal-le}
use Rattle.std.proofs.lemmas.List.{length-append}
use Rattle.std.proofs.lemmas.List.Sums.{sum_by-cons}
use Rattle.tmr_base.specs.declared.copies.CopyNo.{CopyNo}
use Rattle.tmr_base.specs.declared.ids.Edge.{Edge}
use Rattle.tmr_base.specs.Copies.{copy_number}
use Rattle.tmr_base.specs.Names.{copy_text, voter_text, clock_text}
use Rattle.table_cover.specs.Cover.{PlainCover}
use Rattle.flat_net.specs.Net.{Net, Node, Table, Register, name_of}
use Rattle.library_faults.specs.FlatText.{spaced, row_length, rows_length, control_length}
use Rattle.blif_writer.specs.Length.{nets_length, node_length}

pub few_digits : (p : ℕ) → p < 4294967296 → length (decimal p) ≤ 10
few_digits p l = length-decimal-le 10 p (omega arith) (omega (arith, l)) (omega (arith, l))

-- what hardening makes of a name is at most thirteen bytes longer, and no name is empty
pub record IsGrown (name grown : List ℕ) : Type 0 where
  pub some : 0 < length name
  pub few : length grown ≤ length name + 13

pub copy_grown : (name : List ℕ) (c : CopyNo) → 0 < length name → IsGrown name (copy_text name c)
copy_grown name c some = record { some = some; few = omega (arith, length-append name (126 ∷ (48 + copy_number c) ∷ [])) }

pub voter_grown : (name : List ℕ) (p : ℕ) (c : CopyNo) → 0 < length name → p < 4294967296 → IsGrown name (voter_text name p c)
voter_grown name p c some l = record { some = some; few = omega (arith, length-append name (126 ∷ (decimal p ++ 126 ∷ (97 + copy_number c) ∷ [])), length-append (decimal p) (126 ∷ (97 + copy_number c) ∷ []), few_digits p l) }

pub clock_grown : (name : List ℕ) → 0 < length name → IsGrown name (clock_text name)
clock_grown name some = record { some = some; few = omega (arith, length-append name (126 ∷ 107 ∷ [])) }

-- a blank and the name are at most eight times as long
pub spaced_grown : (name grown : List ℕ) → IsGrown name grown → spaced grown ≤ 8 * spaced name
spaced_grown name grown g = omega (arith, g.some, g.few)

-- the nets that pins read, one for one
abbrev pub PinsGrown : Net → Net → List ℕ → List ℕ → Type 0
PinsGrown n h [] [] = Unit {0}
PinsGrown n h [] (g ∷ gs) = ⊥
PinsGrown n h (x ∷ xs) [] = ⊥
PinsGrown n h (x ∷ xs) (g ∷ gs) = IsGrown (name_of n x) (name_of h g) × PinsGrown n h xs gs

pub nets_grown : (n h : Net) (xs gs : List ℕ) → PinsGrown n h xs gs → nets_length h gs ≤ 8 * nets_length n xs
nets_grown n h [] [] e = omega arith
nets_grown n h [] (g ∷ gs) e = absurd e
nets_grown n h (x ∷ xs) [] e = absurd e
nets_grown n h (x ∷ xs) (g ∷ gs) e =
    omega (arith, sum_by-cons (λ y. spaced (name_of h y)) g gs, sum_by-cons (λ y. spaced (name_of n y)) x xs, spaced_grown (name_of n x) (name_of h g) e.0, nets_grown n h xs gs e.1)

-- the clock's name, where there is a clock
abbrev pub ClockGrown : Option (Edge × List ℕ) → Option (Edge × List ℕ) → Type 0
ClockGrown None None = Unit {0}
ClockGrown None (Some h) = ⊥
ClockGrown (Some n) None = ⊥
ClockGrown (Some (edge, name)) (Some (grown_edge, grown)) = IsGrown name grown

control_grown : (c d : Option (Edge × List ℕ)) → ClockGrown c d → control_length d ≤ 8 * control_length c
control_grown None None e = omega arith
control_grown None (Some h) e = absurd e
control_grown (Some n) None e = absurd e
control_grown (Some (edge, name)) (Some (grown_edge, grown)) e = omega (arith, e.some, e.few)

-- a copy of a node: its name and the nets that it reads have grown names
abbrev pub NodeGrown : Net → Net → Node → Node → Type 0
NodeGrown n h (Table name cover pins) (Table grown hcover hpins) = IsGrown name grown × (hcover ≡ cover) × PinsGrown n h pins hpins
NodeGrown n h (Table name cover pins) (Register grown init pin) = ⊥
NodeGrown n h (Register name init pin) (Table grown cover pins) = ⊥
NodeGrown n h (Register name init pin) (Register grown hinit hpin) = IsGrown name grown × IsGrown (name_of n pin) (name_of h hpin)

-- the lines of a copy are at most eight times as long as those of its original
pub copy_lines : (n h : Net) (x g : Node) → ClockGrown n.clock h.clock → NodeGrown n h x g → node_length h g ≤ 8 * node_length n x
copy_lines n h (Table name cover pins) (Table grown hcover hpins) clock e =
    let rows : rows_length hcover ≡ rows_length cover = ap rows_length e.1 in
    omega (arith, spaced_grown name grown e.0, nets_grown n h pins hpins e.2, rows)
copy_lines n h (Table name cover pins) (Register grown init pin) clock e = absurd e
copy_lines n h (Register name init pin) (Table grown cover pins) clock e = absurd e
copy_lines n h (Register name init pin) (Register grown hinit hpin) clock e =
    omega (arith, spaced_grown name grown e.0, spaced_grown (name_of n pin) (name_of h hpin) e.1, control_grown n.clock h.clock clock)

-- the lines of a voter are at most twenty-six times as long as the blank and the name of its net
pub voter_lines : (h : Net) (name grown : List ℕ) (cover : PlainCover) (a b c : ℕ) → IsGrown name grown → cover.width ≡ 3 → length cover.rows ≡ 3
    → length (name_of h a) ≡ length name + 2 → length (name_of h b) ≡ length name + 2 → length (name_of h c) ≡ length name + 2 → node_length h (Table grown cover (a ∷ b ∷ c ∷ [])) ≤ 26 * spaced name
voter_lines h name grown cover a b c g width three ea eb ec =
    let rows : rows_length cover ≡ 18 = ap (λ w. length cover.rows * row_length w) width ∙ ap (λ (k : ℕ). k * 6) three in
    let pins : nets_length h (a ∷ b ∷ c ∷ []) ≡ 3 * (spaced name + 2) = omega (arith, sum_by-cons (λ y. spaced (name_of h y)) a (b ∷ c ∷ []), sum_by-cons (λ y. spaced (name_of h y)) b (c ∷ []), sum_by-cons (λ y. spaced (name_of h y)) c [], ea, eb, ec) in
    omega (arith, rows, pins, g.some, g.few)
