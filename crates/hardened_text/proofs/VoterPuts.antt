-- The lines of voters, piece by piece.
use Rattle.std.proofs.Common.{◌≡◌, ℕ, ◌+◌, Bool, List, [], ◌∷◌, ◌++◌, refl, ap, ◌∙◌, append_assoc}
use Rattle.std.specs.Prelude.{codes}
use Rattle.std.specs.List.{flat_map}
use Rattle.std.specs.Fmt.{decimal}
use Rattle.std.proofs.lemmas.List.{append-nil}
use Rattle.std.proofs.lemmas.List.Concat.{flat_map-append}
use Rattle.tmr_base.specs.declared.copies.CopyNo.{CopyNo}
use Rattle.tmr_base.specs.declared.copies.CopyNo.TheVariants.{First, Second, Third}
use Rattle.tmr_base.specs.Copies.{copy_number}
use Rattle.tmr_base.specs.Names.{copy_text, voter_text}
use Rattle.tmr_base.specs.Parts.{PlainParts}
use Rattle.flat_net.specs.Net.{Net, name_of}
use Rattle.blif_writer.specs.Text.{row_lines, line_text, lines_text}
use Rattle.blif_writer.specs.Left.{spaced}
use Rattle.blif_writer.proofs.Putting.{joined}
use Rattle.triplicate.specs.Blocks.{voters_for}
use Rattle.triplicate.specs.Form.{majority_cover}
use Rattle.hardened_text.specs.Private.Spelled.{voter_head, voter_text_at, voters_at, three_spelled}
use Rattle.hardened_text.specs.Private.Lines.{voter_lines, role_lines}

regroup : (name digits rows : List ℕ) (letter : ℕ) →
    ((codes ".names" ++ spaced (copy_text name First ∷ copy_text name Second ∷ copy_text name Third ∷ (name ++ 126 ∷ (digits ++ 126 ∷ letter ∷ [])) ∷ [])) ++ 10 ∷ []) ++ rows
    ≡ (codes ".names" ++ (three_spelled name ++ 32 ∷ (name ++ 126 ∷ []))) ++ (digits ++ 126 ∷ letter ∷ 10 ∷ rows)
regroup name digits rows letter = simp (append_assoc, append-nil)

-- the lines of a voter
pub voter_same : (name : List ℕ) (p : ℕ) (c : CopyNo) → lines_text (voter_lines name p c) ≡ voter_text_at (voter_head name) (decimal p) c
voter_same name p c =
    ap (λ (t : List ℕ). (t ++ 10 ∷ []) ++ lines_text (row_lines majority_cover)) (joined (codes ".names") (copy_text name First ∷ copy_text name Second ∷ copy_text name Third ∷ voter_text name p c ∷ []))
    ∙ regroup name (decimal p) (lines_text (row_lines majority_cover)) (97 + copy_number c)

-- the lines of the three voters for a partition
three_same : (n : Net) (parts : PlainParts) (voted : ℕ → ℕ → Bool) (free : Bool) (x p : ℕ) → lines_text (flat_map (role_lines n parts voted free) (voters_for x p)) ≡ voters_at (voter_head (name_of n x)) p
three_same n parts voted free x p =
    let name = name_of n x in
    flat_map-append line_text (voter_lines name p First) (voter_lines name p Second ++ (voter_lines name p Third ++ []))
    ∙ (ap (λ (t : List ℕ). lines_text (voter_lines name p First) ++ t) (flat_map-append line_text (voter_lines name p Second) (voter_lines name p Third ++ []))
    ∙ (ap (λ (ls : List (List (List ℕ))). lines_text (voter_lines name p First) ++ (lines_text (voter_lines name p Second) ++ lines_text ls)) (append-nil (voter_lines name p Third))
    ∙ all (lines_text (voter_lines name p First)) (lines_text (voter_lines name p Second)) (lines_text (voter_lines name p Third)) _ _ _ (voter_same name p First) (voter_same name p Second) (voter_same name p Third)))
  where
    all : (a b c x y z : List ℕ) → a ≡ x → b ≡ y → c ≡ z → a ++ (b ++ c) ≡ x ++ (y ++ z)
    all a b c x y z ea eb ec = cc

-- those of the voters for each partition of a row
pub voters_same : (n : Net) (parts : PlainParts) (voted : ℕ → ℕ → Bool) (free : Bool) (x : ℕ) (row : List ℕ) → lines_text (flat_map (role_lines n parts voted free) (flat_map (voters_for x) row)) ≡ flat_map (voters_at (voter_head (name_of n x))) row
voters_same n parts voted free x [] = refl
voters_same n parts voted free x (p ∷ row) =
    ap lines_text (flat_map-append (role_lines n parts voted free) (voters_for x p) (flat_map (voters_for x) row))
    ∙ (flat_map-append line_text (flat_map (role_lines n parts voted free) (voters_for x p)) (flat_map (role_lines n parts voted free) (flat_map (voters_for x) row))
    ∙ both (three_same n parts voted free x p) (voters_same n parts voted free x row))
  where
    both : {a b c d : List ℕ} → a ≡ b → c ≡ d → a ++ c ≡ b ++ d
    both e f = cc
