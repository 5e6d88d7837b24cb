-- Lines of the certificate, piece by piece.
use Rattle.std.proofs.Common.{◌≡◌, ℕ, ◌+◌, List, [], ◌∷◌, ◌++◌, refl, sym, ap, ◌∙◌, append_assoc, arith}
use Rattle.std.specs.Prelude.{codes}
use Rattle.std.specs.List.{flat_map}
use Rattle.std.specs.Fmt.{decimal}
use Rattle.std.proofs.lemmas.Fmt.{decimal_digit}
use Rattle.std.proofs.lemmas.List.{append-nil}
use Rattle.tmr_base.specs.declared.copies.CopyNo.{CopyNo}
use Rattle.tmr_base.specs.declared.copies.CopyNo.TheVariants.{First, Second, Third}
use Rattle.tmr_base.specs.Copies.{copy_number}
use Rattle.tmr_base.specs.Names.{voter_text}
use Rattle.certificate.specs.Text.{line_text}
use Rattle.blif_writer.specs.Left.{spaced}
use Rattle.blif_writer.proofs.Putting.{joined}
use Rattle.hardened_text.specs.Private.Spelled.{line_head, line_end, line_at, lines_at}
use Rattle.hardened_text.specs.Private.Lines.{node_words, voter_words}

pub same_node : (out a b : List ℕ) (p q l m : ℕ) → a ≡ b → p ≡ q → l ≡ m → out ++ line_text (node_words a p l) ≡ out ++ line_text (node_words b q m)
same_node out a b p q l m e f g = cc

words_in_a_row : (first a b c d tail : List ℕ) → (first ++ 32 ∷ (a ++ 32 ∷ (b ++ 32 ∷ (c ++ 32 ∷ (d ++ []))))) ++ tail ≡ first ++ 32 ∷ (a ++ 32 ∷ (b ++ 32 ∷ (c ++ 32 ∷ (d ++ tail))))
words_in_a_row first a b c d tail = simp (append_assoc, append-nil)

name_behind : (name digits rest : List ℕ) (letter : ℕ) → (name ++ 126 ∷ (digits ++ 126 ∷ letter ∷ [])) ++ rest ≡ name ++ 126 ∷ (digits ++ 126 ∷ letter ∷ rest)
name_behind name digits rest letter = simp append_assoc

head_behind : (first name rest : List ℕ) → (first ++ 32 ∷ (name ++ 126 ∷ [])) ++ rest ≡ first ++ 32 ∷ (name ++ 126 ∷ rest)
head_behind first name rest = simp append_assoc

regroup : (name digits copy : List ℕ) (letter : ℕ) →
    (codes "voter" ++ spaced ((name ++ 126 ∷ (digits ++ 126 ∷ letter ∷ [])) ∷ name ∷ digits ∷ copy ∷ [])) ++ 10 ∷ []
    ≡ line_head name ++ (digits ++ 126 ∷ letter ∷ 32 ∷ (name ++ 32 ∷ (digits ++ 32 ∷ (copy ++ 10 ∷ []))))
regroup name digits copy letter =
    let rest : List ℕ = 32 ∷ (name ++ 32 ∷ (digits ++ 32 ∷ (copy ++ 10 ∷ []))) in
    words_in_a_row (codes "voter") (name ++ 126 ∷ (digits ++ 126 ∷ letter ∷ [])) name digits copy (10 ∷ [])
    ∙ (ap (λ (t : List ℕ). codes "voter" ++ 32 ∷ t) (name_behind name digits rest letter)
    ∙ sym (head_behind (codes "voter") name (digits ++ 126 ∷ letter ∷ rest)))

ends : (c : CopyNo) → 32 ∷ (decimal (copy_number c) ++ 10 ∷ []) ≡ line_end c
ends First = ap (λ (t : List ℕ). 32 ∷ (t ++ 10 ∷ [])) (decimal_digit 0 (omega arith))
ends Second = ap (λ (t : List ℕ). 32 ∷ (t ++ 10 ∷ [])) (decimal_digit 1 (omega arith))
ends Third = ap (λ (t : List ℕ). 32 ∷ (t ++ 10 ∷ [])) (decimal_digit 2 (omega arith))

-- the line of a voter
line_same : (name : List ℕ) (p : ℕ) (c : CopyNo) → line_text (voter_words name p c) ≡ line_at (line_head name) name (decimal p) c
line_same name p c =
    ap (λ (t : List ℕ). t ++ 10 ∷ []) (joined (codes "voter") (voter_text name p c ∷ name ∷ decimal p ∷ decimal (copy_number c) ∷ []))
    ∙ (regroup name (decimal p) (decimal (copy_number c)) (97 + copy_number c)
    ∙ ap (λ (t : List ℕ). line_head name ++ (decimal p ++ 126 ∷ (97 + copy_number c) ∷ 32 ∷ (name ++ 32 ∷ (decimal p ++ t)))) (ends c))

-- those of the voters for each partition of a row
pub row_same : (name : List ℕ) (row : List ℕ) → flat_map (lines_at (line_head name) name) row ≡
    flat_map (λ p. line_text (voter_words name p First) ++ (line_text (voter_words name p Second) ++ line_text (voter_words name p Third))) row
row_same name [] = refl
row_same name (p ∷ row) = both (line_same name p First) (line_same name p Second) (line_same name p Third) (row_same name row)
  where
    both : {a b c x y z r s : List ℕ} → a ≡ x → b ≡ y → c ≡ z → r ≡ s → (x ++ (y ++ z)) ++ r ≡ (a ++ (b ++ c)) ++ s
    both e f g h = cc
