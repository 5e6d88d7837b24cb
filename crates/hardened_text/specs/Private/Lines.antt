-- Only private functions cite this: the lines of a hardened design and of its certificate, told net by net of the original.
use Rattle.std.specs.Prelude.{ℕ, ◌+◌, ◌-◌, Bool, List, [], ◌∷◌, ◌++◌, map, drop, length, codes, slice_index, Option, Some, None, if◌then◌else◌}
use Rattle.std.specs.List.{flat_map, range_with_len}
use Rattle.std.specs.Fmt.{decimal}
use Rattle.tmr_base.specs.declared.copies.CopyNo.{CopyNo}
use Rattle.tmr_base.specs.declared.copies.CopyNo.TheVariants.{First, Second, Third}
use Rattle.tmr_base.specs.declared.ids.Edge.{Edge}
use Rattle.tmr_base.specs.Copies.{copy_number}
use Rattle.tmr_base.specs.Names.{copy_text, voter_text}
use Rattle.tmr_base.specs.Parts.{PlainParts}
use Rattle.flat_net.specs.declared.kind.Kind.{Kind}
use Rattle.flat_net.specs.declared.kind.Kind.TheVariants as kind
use Rattle.flat_net.specs.Net.{Net, Node, Table, Register, node_of, name_of}
use Rattle.flat_net.specs.Free.{node_bit}
use Rattle.feedback_cut.specs.Inner.{node_pins}
use Rattle.blif_writer.specs.Left.{spaced}
use Rattle.blif_writer.specs.Text.{control_words, init_word, start_of, row_lines, line_text, lines_text}
use Rattle.certificate.specs.Text.{part_lines}
use Rattle.certificate.specs.declared.role.Role.{Role}
use Rattle.certificate.specs.declared.role.Role.TheVariants.{Copy, Voter}
use Rattle.triplicate.specs.Blocks.{block, hardened_clock}
use Rattle.triplicate.specs.Form.{majority_cover}
use Rattle.triplicate.specs.Voting.{voting_parts}

-- the name of what copy c of node y reads at pin j
abbrev pub pin_name : Net → PlainParts → (ℕ → ℕ → Bool) → ℕ → CopyNo → ℕ → List ℕ
pin_name n parts voted y c j =
    if voted y j then voter_text (name_of n (slice_index (node_pins n y) j)) (slice_index parts.of y) c
    else copy_text (name_of n (slice_index (node_pins n y) j)) c

abbrev pub pin_names : Net → PlainParts → (ℕ → ℕ → Bool) → ℕ → CopyNo → List (List ℕ)
pin_names n parts voted y c = map (pin_name n parts voted y c) (range_with_len 0 (length (node_pins n y)))

-- the lines of copy c of a node, which reads nets of these names
abbrev pub copy_lines : Option (Edge × List ℕ) → List (List ℕ) → CopyNo → Bool → Option Node → List (List (List ℕ))
copy_lines clock pins c free None = []
copy_lines clock pins c free (Some (Table name cover nets)) = (codes ".names" ∷ (pins ++ copy_text name c ∷ [])) ∷ row_lines cover
copy_lines clock pins c free (Some (Register name init net)) =
    (codes ".latch" ∷ (pins ++ copy_text name c ∷ (control_words clock ++ init_word (start_of free init) ∷ []))) ∷ []

-- the first word of the lines of each copy
abbrev pub first_word : Kind → List ℕ
first_word kind.Input = []
first_word kind.Table = codes ".names"
first_word kind.Register = codes ".latch"

-- what stands behind the name of each copy of a node
abbrev pub ending_of : Option (Edge × List ℕ) → Bool → Option Node → List ℕ
ending_of clock free None = []
ending_of clock free (Some (Table name cover nets)) = 10 ∷ lines_text (row_lines cover)
ending_of clock free (Some (Register name init net)) = (spaced (control_words clock) ++ 32 ∷ init_word (start_of free init)) ++ 10 ∷ []

-- the lines of the voter for partition p that gives copy c of the net with this name
abbrev pub voter_lines : List ℕ → ℕ → CopyNo → List (List (List ℕ))
voter_lines name p c =
    (codes ".names" ∷ copy_text name First ∷ copy_text name Second ∷ copy_text name Third ∷ voter_text name p c ∷ []) ∷ row_lines majority_cover

-- the lines of what a role stands for; `free` says whether its net is a register whose value in cycle 0 is free
abbrev pub role_lines : Net → PlainParts → (ℕ → ℕ → Bool) → Bool → Role → List (List (List ℕ))
role_lines n parts voted free (Copy x c) =
    copy_lines (hardened_clock n.clock) (pin_names n parts voted (x.0 - length n.inputs) c) c free (node_of n x.0)
role_lines n parts voted free (Voter x p c) = voter_lines (name_of n x.0) p.0 c

-- the lines of what stands for net x
abbrev pub block_text : Net → PlainParts → (ℕ → ℕ → Bool) → Bool → ℕ → List ℕ
block_text n parts voted free x = lines_text (flat_map (role_lines n parts voted free) (block n parts voted x))

-- the marks that count: with `inputs`, which is so in version 2 alone, all do, and else none
abbrev pub marks_of : Bool → List Bool → List Bool
marks_of inputs free = if inputs then free else []

-- the lines of what stands for the first count nets
abbrev pub blocks_text : Net → PlainParts → (ℕ → ℕ → Bool) → List Bool → ℕ → List ℕ
blocks_text n parts voted marks count = flat_map (λ x. block_text n parts voted (node_bit (length n.inputs) marks x) x) (range_with_len 0 count)

-- a certificate's line of a node
abbrev pub node_words : List ℕ → ℕ → ℕ → List (List ℕ)
node_words name p label =
    codes "node" ∷ name ∷ decimal p ∷ copy_text name First ∷ copy_text name Second ∷ copy_text name Third
    ∷ decimal label ∷ decimal label ∷ decimal label ∷ []

-- a certificate's line of a voter
abbrev pub voter_words : List ℕ → ℕ → CopyNo → List (List ℕ)
voter_words name p c = codes "voter" ∷ voter_text name p c ∷ name ∷ decimal p ∷ decimal (copy_number c) ∷ []

-- a certificate's lines of the voters of net x
abbrev pub voters_text : Net → PlainParts → (ℕ → ℕ → Bool) → ℕ → List ℕ
voters_text n parts voted x =
    flat_map (λ p. line_text (voter_words (name_of n x) p First)
    ++ (line_text (voter_words (name_of n x) p Second) ++ line_text (voter_words (name_of n x) p Third)))
    (voting_parts n parts voted x)

-- a certificate's line of node y, of these labels
abbrev pub node_text : Net → PlainParts → List ℕ → ℕ → List ℕ
node_text n parts labels y = line_text (node_words (name_of n (length n.inputs + y)) (slice_index parts.of y) (slice_index labels y))

-- a certificate's lines of the first count nodes
abbrev pub nodes_text : Net → PlainParts → List ℕ → ℕ → List ℕ
nodes_text n parts labels count = flat_map (node_text n parts labels) (range_with_len 0 count)

-- a certificate's lines of the voters of the first count nets
abbrev pub all_voters_text : Net → PlainParts → (ℕ → ℕ → Bool) → ℕ → List ℕ
all_voters_text n parts voted count = flat_map (voters_text n parts voted) (range_with_len 0 count)

-- a certificate's lines of the partitions from p on
abbrev pub parts_text : List ℕ → ℕ → List ℕ
parts_text depths p = flat_map line_text (part_lines p (drop p depths))
