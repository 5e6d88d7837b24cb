-- Only private functions cite this: names, rows and lines as bytes, piece by piece.
use Rattle.std.specs.Prelude.{ℕ, ◌+◌, Bool, List, [], ◌∷◌, ◌++◌, map, length, codes, false, slice_index, slice_index_or, if◌then◌else◌}
use Rattle.std.specs.List.{range_with_len}
use Rattle.std.specs.Fmt.{decimal}
use Rattle.tmr_base.specs.declared.copies.CopyNo.{CopyNo}
use Rattle.tmr_base.specs.declared.copies.CopyNo.TheVariants.{First, Second, Third}
use Rattle.tmr_base.specs.Copies.{copy_number}
use Rattle.tmr_base.specs.Names.{copy_text}
use Rattle.flat_net.specs.Net.{Net, name_of, node_of, pins_at}

-- the name of a voter, where its partition has these digits
abbrev pub voter_spelled : List ℕ → List ℕ → CopyNo → List ℕ
voter_spelled name digits c = name ++ 126 ∷ (digits ++ 126 ∷ (97 + copy_number c) ∷ [])

-- what copy c of net x reads at pin j, where its partition has these digits, and these of its pins are voted
abbrev pub pin_spelled : Net → List ℕ → List Bool → ℕ → CopyNo → ℕ → List ℕ
pin_spelled n digits votes x c j =
    if slice_index_or votes j false then voter_spelled (name_of n (slice_index (pins_at (node_of n x)) j)) digits c
    else copy_text (name_of n (slice_index (pins_at (node_of n x)) j)) c

abbrev pub pins_spelled : Net → List ℕ → List Bool → ℕ → CopyNo → List (List ℕ)
pins_spelled n digits votes x c = map (pin_spelled n digits votes x c) (range_with_len 0 (length (pins_at (node_of n x))))

-- the names of the three copies, a blank before each
abbrev pub three_spelled : List ℕ → List ℕ
three_spelled name = 32 ∷ (copy_text name First ++ 32 ∷ (copy_text name Second ++ 32 ∷ copy_text name Third))

-- what the line of each voter of a net begins with
abbrev pub voter_head : List ℕ → List ℕ
voter_head name = codes ".names" ++ (three_spelled name ++ 32 ∷ (name ++ 126 ∷ []))

-- how the line of a voter ends behind the digits of its partition, and the rows of the majority
abbrev pub voter_rows : CopyNo → List ℕ
voter_rows c = 126 ∷ (97 + copy_number c) ∷ codes "\n11- 1\n1-1 1\n-11 1\n"

abbrev pub voter_text_at : List ℕ → List ℕ → CopyNo → List ℕ
voter_text_at head digits c = head ++ (digits ++ voter_rows c)

-- the three voters for partition p
abbrev pub voters_at : List ℕ → ℕ → List ℕ
voters_at head p = voter_text_at head (decimal p) First ++ (voter_text_at head (decimal p) Second ++ voter_text_at head (decimal p) Third)

-- what the certificate's line of each voter of a net begins with
abbrev pub line_head : List ℕ → List ℕ
line_head name = codes "voter" ++ 32 ∷ (name ++ 126 ∷ [])

-- how it ends: with the number of its copy
abbrev pub line_end : CopyNo → List ℕ
line_end c = 32 ∷ (48 + copy_number c) ∷ 10 ∷ []

-- the certificate's line of a voter of the net with this name
abbrev pub line_at : List ℕ → List ℕ → List ℕ → CopyNo → List ℕ
line_at head name digits c = head ++ (digits ++ 126 ∷ (97 + copy_number c) ∷ 32 ∷ (name ++ 32 ∷ (digits ++ line_end c)))

-- those of the three voters for partition p
abbrev pub lines_at : List ℕ → List ℕ → ℕ → List ℕ
lines_at head name p = line_at head name (decimal p) First ++ (line_at head name (decimal p) Second ++ line_at head name (decimal p) Third)
